-- What superframe-of is in each case, said of any least common multiple.
use Rattle.std.specs.Prelude.{◌≡◌, List, ℕ, ◌≤◌, ◌<◌}
use Rattle.std.proofs.Math.Path.{refl}
use Rattle.std.proofs.Common.{lt_irrefl, lt_of_lt_of_le, arith}
use Rattle.std.proofs.Math.Decide.{dec_le}
use Rattle.basics.specs.Limits.{longest_frame}
use Rattle.superframe.specs.Periods.{AllInRange, IsCommonMultiple, IsLcm}
use Rattle.superframe.specs.Facts.Periods.{lcm_unique}
use Rattle.superframe.specs.Decide.{decide_in_range, lcm_exists}
use Rattle.superframe.specs.Superframe.{refused, within_limit, by_range, superframe_of}

module _ (periods : List ℕ) where
  -- unless every period is 1 to 240, the answer is 18 with value 0
  pub refuses_18 : (AllInRange periods → ⊥) → superframe_of periods ≡ refused 18
  unfolding superframe_of by_range
  refuses_18 bad = go (decide_in_range periods)
    where
      go : (d : Dec (AllInRange periods)) → by_range periods d ≡ refused 18
      go (yes good) = absurd (bad good)
      go (no _) = refl

  -- for periods in range with a least common multiple m of at most 5,040, the answer is 0 with value m
  pub gives_lcm : AllInRange periods → (m : ℕ) → IsLcm periods m → m ≤ longest_frame → superframe_of periods ≡ record { answer = 0; value = m }
  unfolding superframe_of by_range within_limit
  gives_lcm good m lcm low = go (decide_in_range periods)
    where
      at : (n : ℕ) → n ≡ m → (d : Dec (n ≤ longest_frame)) → within_limit n d ≡ record { answer = 0; value = m }
      at n e (yes _) = λ i. record { answer = 0; value = e i }
      at n e (no high) = absurd (high (omega arith))

      go : (d : Dec (AllInRange periods)) → by_range periods d ≡ record { answer = 0; value = m }
      go (yes g) = at (lcm_exists periods g).0 (lcm_unique periods _ m (lcm_exists periods g).1 lcm) (dec_le _ longest_frame)
      go (no bad) = absurd (bad good)

  -- for periods in range with no common multiple up to 5,040, the answer is 19 with value 0
  pub refuses_19 : AllInRange periods → ((n : ℕ) → IsCommonMultiple periods n → longest_frame < n) → superframe_of periods ≡ refused 19
  unfolding superframe_of by_range within_limit
  refuses_19 good high = go (decide_in_range periods)
    where
      at : (n : ℕ) → IsLcm periods n → (d : Dec (n ≤ longest_frame)) → within_limit n d ≡ refused 19
      at n lcm (yes low) = absurd (lt_irrefl longest_frame (lt_of_lt_of_le (high n lcm.holds) low))
      at n lcm (no _) = refl

      go : (d : Dec (AllInRange periods)) → by_range periods d ≡ refused 19
      go (yes g) = at (lcm_exists periods g).0 (lcm_exists periods g).1 (dec_le _ longest_frame)
      go (no bad) = absurd (bad good)
