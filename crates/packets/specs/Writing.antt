-- What writing a packet answers and leaves: Annex, chapter 10.
use Rattle.std.specs.Prelude.{◌≡◌, List, [], ◌∷◌, ◌++◌, ℕ, ◌<◌, length, drop}
use Rattle.std.proofs.Math.Logic.Dec.{not as Dec-not}
use Rattle.std.proofs.Math.Decide.{dec_lt}
use Rattle.basics.specs.Refusals.{Refusal, answer_of}
use Rattle.packet_bytes.specs.Layout.{Values, bytes_of}
use Rattle.packets.specs.Good.{IsGood}
use Rattle.packets.specs.Facts.Good.{decide_good}

-- Annex 10.4: 27, a value is not good.
abbrev pub bad_values : Values → Refusal
bad_values v = record { number = 27; Applies = IsGood v → ⊥; decided = Dec-not (decide_good v) }

-- Annex 10.4: 28, the buffer is shorter than the packet.
abbrev pub short_buffer : Values → List ℕ → Refusal
short_buffer v buffer = record { number = 28; Applies = length buffer < length (bytes_of v); decided = dec_lt (length buffer) (length (bytes_of v)) }

-- Annex 10.4: a write is refused, in this order: 27 for a value that is not good, 28 for a buffer shorter than the packet.
abbrev pub write_refusals : Values → List ℕ → List Refusal
write_refusals v buffer = bad_values v ∷ short_buffer v buffer ∷ []

-- Annex 10.5: a write puts the packet's bytes in front and leaves the bytes past its end; refused, it leaves all bytes. It answers 0, or the number
-- of the first refusal that applies.
pub record IsWritten (v : Values) (before after : List ℕ) (answer : ℕ) : Type 0 where
  pub answers : answer ≡ answer_of (write_refusals v before)
  pub written : answer_of (write_refusals v before) ≡ 0 → after ≡ bytes_of v ++ drop (length (bytes_of v)) before
  pub refused : (answer_of (write_refusals v before) ≡ 0 → ⊥) → after ≡ before
