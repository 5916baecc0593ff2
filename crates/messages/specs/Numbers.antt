-- The numbers that a round lists and a schedule packet carries: ids of streams, and messages. Annex, chapters 7 and 10.
use mathlib.Core.List.{List, filter}
use Rattle.std.specs.Prelude.{ℕ}
use Rattle.std.proofs.Math.Decide.{dec_le, dec_lt}
use Rattle.basics.specs.Limits.{largest_id}

-- Annex 10.3, 12.7: of a list of numbers those that are ids: none is above 32,767 ..
abbrev pub stream_ids : List ℕ → List ℕ
stream_ids ns = filter (λ (n : ℕ). dec_le n largest_id) ns

-- Annex 10.3: .. and the others, which are messages.
abbrev pub message_numbers : List ℕ → List ℕ
message_numbers ns = filter (λ (n : ℕ). dec_lt largest_id n) ns
