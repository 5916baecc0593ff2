-- The fold of the least common multiple over the periods before a place.
use mathlib.Core.List.{List, [], ◌∷◌, ◌++◌, Mem, mem-append_left, not-mem-nil}
use Prim.Native.Nat.{ℕ, ◌+◌, ◌≤◌, ◌<◌, ◌∣◌}
use native.Mathlib.Nat.{∣_prop, dvd_trans, one-dvd, le_of_dvd}
use native.Mathlib.Omega.{arith}
use lib.ListN.{length, take, get_or}
use Rattle.superframe.specs.Periods.{IsCommonMultiple, IsLcm}
use Rattle.superframe.specs.Multiples.{IsLcmOfTwo}
use Rattle.superframe.proofs.Prefix.{take_next, all_snoc, mem_last, mem_take}

-- m is a multiple of every number of the list, and divides every such multiple
pub record Folded (xs : List ℕ) (m : ℕ) : Type 0 where
  pub positive : 1 ≤ m
  pub common : (p : ℕ) → Mem p xs → p ∣ m
  pub divides : (n : ℕ) → ((p : ℕ) → Mem p xs → p ∣ n) → m ∣ n

-- with no period taken yet the common multiple is 1
pub folded_none : Folded [] 1
folded_none = record { positive = omega arith; common = λ p m. absurd (not-mem-nil m); divides = λ n all. one-dvd n }

folded_snoc : (xs : List ℕ) (m p r : ℕ) → Folded xs m → IsLcmOfTwo m p r → Folded (xs ++ (p ∷ [])) r
folded_snoc xs m p r f lcm =
    record {
      positive = lcm.positive;
      common = all_snoc (λ q. q ∣ r) (λ q. ∣_prop q r) xs p (λ q mem. dvd_trans q (f.common q mem) lcm.left) lcm.right;
      divides = λ n all. lcm.least n (f.divides n (λ q mem. all q (mem-append_left (p ∷ []) mem))) (all p (mem_last xs p));
    }

-- one period further
pub folded_next : (xs : List ℕ) (i m r : ℕ) → i < length xs → Folded (take i xs) m → IsLcmOfTwo m (get_or xs i 0) r → Folded (take (i + 1) xs) r
folded_next xs i m r inside f lcm = rw (take_next xs i inside) (folded_snoc (take i xs) m (get_or xs i 0) r f lcm)

-- what is folded so far is at most every common multiple of the whole list ..
pub folded_least : (xs : List ℕ) (i m : ℕ) → Folded (take i xs) m → (n : ℕ) → IsCommonMultiple xs n → m ≤ n
folded_least xs i m f n common = le_of_dvd common.0 (f.divides n (λ p mem. common.1 p (mem_take xs i p mem)))

-- .. and at the end it is the least one
pub folded_done : (xs : List ℕ) (m : ℕ) → Folded xs m → IsLcm xs m
folded_done xs m f = record { holds = (f.positive, f.common); least = λ n common. le_of_dvd common.0 (f.divides n common.1) }
