-- Where some number has a property that can be decided, there is a least one that has it.
use Rattle.std.specs.Prelude.{◌≡◌, ◌⊎◌, ℕ, zero, suc, ◌≤◌, ◌<◌}
use Rattle.std.proofs.Common.{subst, inl, inr, arith}
use Rattle.std.proofs.Math.Decide.{dec_lt}
use Rattle.superframe.specs.Least.{IsLeast}

module _ (P : ℕ → Type 0) (decide : (n : ℕ) → Dec (P n)) where
  abbrev NoneBelow : ℕ → Type 0
  NoneBelow b = (n : ℕ) → n < b → P n → ⊥

  none_below_one_more : (b : ℕ) → NoneBelow b → (P b → ⊥) → NoneBelow (suc b)
  none_below_one_more b none here n below p = go (dec_lt n b)
    where
      go : Dec (n < b) → ⊥
      go (yes l) = none n l p
      go (no l) = let e : n ≡ b = omega arith in here (subst (λ (k : ℕ). P k) e p)

  least_where_none_below : (b : ℕ) → NoneBelow b → P b → IsLeast P b
  least_where_none_below b none here = record { holds = here; least = λ n p. go n p (dec_lt n b) }
    where
      go : (n : ℕ) → P n → Dec (n < b) → b ≤ n
      go n p (yes below) = absurd (none n below p)
      go n p (no above) = omega arith

  -- a least number with the property is found below b, or none below b has it
  search_below : (b : ℕ) → ((m : ℕ) × IsLeast P m) ⊎ NoneBelow b
  search_below zero = inr (λ n l p. omega arith)
  search_below (suc b) = go (search_below b) (decide b)
    where
      go : ((m : ℕ) × IsLeast P m) ⊎ NoneBelow b → Dec (P b) → ((m : ℕ) × IsLeast P m) ⊎ NoneBelow (suc b)
      go (inl found) here = inl found
      go (inr none) (yes p) = inl (b, least_where_none_below b none p)
      go (inr none) (no np) = inr (none_below_one_more b none np)

  -- where some n has the property, a least number that has it can be found
  pub least_exists : (n : ℕ) → P n → (m : ℕ) × IsLeast P m
  least_exists n p = go (search_below (suc n))
    where
      go : ((m : ℕ) × IsLeast P m) ⊎ NoneBelow (suc n) → (m : ℕ) × IsLeast P m
      go (inl found) = found
      go (inr none) = absurd (none n (omega arith) p)
