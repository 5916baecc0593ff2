-- Entries and their order.
use Rattle.std.specs.Prelude.{ℕ, ◌<◌}
use Rattle.std.proofs.Math.Decide.{dec_lt}
use Rattle.basics.specs.Lexicographic.{Then, decide_then}

-- Annex 8.1: an entry, which is an id filed under a key, with a release.
pub record Entry : Type 0 where
  pub key : ℕ
  pub release : ℕ
  pub id : ℕ

-- Annex 8.1: a key, a release and an id as an entry, filed or not.
abbrev pub triple : (key release id : ℕ) → Entry
triple key release id = record { key = key; release = release; id = id }

-- Annex 8.2: a comes before b: by smaller key; with equal keys by earlier release; with both equal by smaller id.
abbrev pub Before : Entry → Entry → Type 0
Before a b = Then a.key b.key (Then a.release b.release (a.id < b.id))

-- Annex 8.2: it can be decided which of two entries comes first.
pub before : (a b : Entry) → Dec (Before a b)
before a b = decide_then a.key b.key (decide_then a.release b.release (dec_lt a.id b.id))
