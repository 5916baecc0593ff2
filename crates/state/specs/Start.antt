-- The start of the next round.
use Rattle.std.specs.Prelude.{ℕ, ◌<◌}
use Rattle.basics.specs.Limits.{last_start}
use Rattle.rules.specs.Demand.{IsLazyStart}
use Rattle.state.specs.Content.{slots_of, streams_in, Content, content, cap_of}
use Rattle.state.specs.Sound.{Sound}
use Rattle.state.specs.declared.Planner.{Planner}

-- Annex 4.6, 7.28: s is the start that the lazy rule gives what a planner holds, with its B, the cap L + 1 + G and its streams.
abbrev pub IsStart : Content → ℕ → Type 0
IsStart h s = IsLazyStart (slots_of h) (cap_of h) (streams_in h) s

-- Annex 7.27: the lazy start is after 1,000,000,000, the last start. It is asked of a sound planner, which has one; one not sound is refused before.
abbrev pub StartsLate : Planner → Type 0
StartsLate p = Sound p → (s : ℕ) → IsStart (content p) s → last_start < s
