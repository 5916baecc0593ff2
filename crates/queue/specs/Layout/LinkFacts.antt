-- Laws of the links.
use Rattle.std.specs.Prelude.{◌≡◌, refl, ℕ, ◌≤◌, ◌<◌}
use Rattle.std.proofs.Common.{sym, ap, subst, ◌∙◌, inl, inr, lt_irrefl, arith}
use mathlib.Core.WellFounded.{recursion}
use Rattle.std.proofs.Math.Decide.{dec_lt}
use lib.WfN.{lt-wf_rel}
use Rattle.basics.specs.Limits.{places}
use Rattle.queue.specs.Layout.{IsNode, bucket_of}
use Rattle.queue.specs.Layout.Ranks.{low, high, RankLinked, AllRankLinked, low_place, low_head, high_place, bucket_head}

-- a node with a low end above 0 is an entry
positive_low : (ranks : ℕ → ℕ) (x : ℕ) → IsNode ranks x → 0 < low ranks x → (x < places) × (1 ≤ ranks x)
positive_low ranks x (inl place) some = place
positive_low ranks x (inr head) some = absurd (lt_irrefl 0 (omega (arith, low_head ranks x head.0, some)))

module _ (ranks keys next prev : ℕ → ℕ) (once : (i j : ℕ) → i < places → j < places → 1 ≤ ranks i → ranks i ≡ ranks j → i ≡ j)
    (linked : AllRankLinked ranks keys next prev) where
  -- nodes of one bucket with the same low end are one
  same_low : (x y : ℕ) → IsNode ranks x → IsNode ranks y → bucket_of keys x ≡ bucket_of keys y → low ranks x ≡ low ranks y → x ≡ y
  same_low x y (inl a) (inl b) bucket same = once x y a.0 b.0 a.1 (sym (low_place ranks x a.0) ∙ (same ∙ low_place ranks y b.0))
  same_low x y (inl a) (inr b) bucket same = absurd (lt_irrefl 0 (omega (arith, low_place ranks x a.0, low_head ranks y b.0, same)))
  same_low x y (inr a) (inl b) bucket same = absurd (lt_irrefl 0 (omega (arith, low_head ranks x a.0, low_place ranks y b.0, same)))
  same_low x y (inr a) (inr b) bucket same = omega (arith, bucket_head keys x a.0, bucket_head keys y b.0, bucket)

  -- no entry of a bucket lies between a node and the next
  pub none_between : (y : ℕ) → y < places → 1 ≤ ranks y → (x : ℕ) → IsNode ranks x
      → bucket_of keys x ≡ bucket_of keys y → low ranks x < ranks y → ranks y < high ranks (next x) → ⊥
  none_between y inside holds = recursion lt-wf_rel.wf {C = Clear} (ranks y) step y inside holds refl
    where
      Clear : ℕ → Type 0
      Clear n = (y : ℕ) → y < places → 1 ≤ ranks y → ranks y ≡ n → (x : ℕ) → IsNode ranks x
          → bucket_of keys x ≡ bucket_of keys y → low ranks x < ranks y → ranks y < high ranks (next x) → ⊥

      step : (n : ℕ) → ((m : ℕ) → m < n → Clear m) → Clear n
      step n smaller y inside holds is_n x node bucket above below = go (dec_lt (low ranks p) (low ranks x)) (dec_lt (low ranks x) (low ranks p))
        where
          p : ℕ
          p = prev y

          here : RankLinked ranks keys next prev y
          here = linked y (inl (inside, holds))

          there : RankLinked ranks keys next prev p
          there = linked p here.prev_is_node

          up : high ranks (next p) ≡ ranks y
          up = ap (high ranks) here.prev_returns ∙ high_place ranks y inside

          together : bucket_of keys p ≡ bucket_of keys y
          together = sym there.next_in_bucket ∙ ap (bucket_of keys) here.prev_returns

          go : Dec (low ranks p < low ranks x) → Dec (low ranks x < low ranks p) → ⊥
          go (yes p_first) other =
              let place = positive_low ranks x node (omega arith) in
              let low_x = low_place ranks x place.0 in
              smaller (ranks x) (omega arith) x place.0 place.1 refl p here.prev_is_node (together ∙ sym bucket) (omega arith) (omega (arith, up))
          go (no not_p) (yes x_first) =
              let place = positive_low ranks p here.prev_is_node (omega arith) in
              let low_p = low_place ranks p place.0 in
              let order = there.in_order in
              smaller (ranks p) (omega (arith, up)) p place.0 place.1 refl x node (bucket ∙ sym together) (omega arith) (omega (arith, up))
          go (no not_p) (no not_x) =
              let same : x ≡ p = same_low x p node here.prev_is_node (bucket ∙ sym together) (omega arith) in
              lt_irrefl (ranks y) (subst (λ (z : ℕ). ranks y < z) (ap (λ (z : ℕ). high ranks (next z)) same ∙ up) below)
