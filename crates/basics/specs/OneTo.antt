-- A number from 1 to a limit.
use Rattle.std.proofs.Math.Logic.Dec.{and as Dec-and, not as Dec-not}
use Rattle.std.specs.Prelude.{ℕ, ◌≤◌}
use Rattle.std.proofs.Math.Decide.{dec_le}
use Rattle.basics.specs.Refusals.{Refusal}

-- Annex 7.6: n is 1 to `most`.
abbrev pub OneTo : ℕ → ℕ → Type 0
OneTo most n = (1 ≤ n) × (n ≤ most)

-- Annex 7.6: whether a number is 1 to a limit can be decided.
abbrev pub decide_one_to : (most n : ℕ) → Dec (OneTo most n)
decide_one_to most n = Dec-and (dec_le 1 n) (dec_le n most)

-- Annex 7.6: the refusal with this number, which applies unless n is 1 to a limit.
abbrev pub not_in : ℕ → ℕ → ℕ → Refusal
not_in number most n = record { number = number; Applies = OneTo most n → ⊥; decided = Dec-not (decide_one_to most n) }
