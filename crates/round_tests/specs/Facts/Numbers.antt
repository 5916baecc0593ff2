-- Stream ids counted.
use Rattle.std.specs.Prelude.{◌≡◌, List, ◌∷◌, ℕ, ◌+◌, ◌≤◌, length, take, leb, cond}
use Rattle.std.specs.List.{count_by}
use Rattle.std.proofs.Common.{refl, sym, arith, take_all}
use Rattle.std.proofs.Math.Logic.{if_pos, if_neg}
use Rattle.std.proofs.Math.Decide.{dec_le}
use Rattle.std.proofs.lemmas.Bool.{le-leb, lt-leb}
use Rattle.std.proofs.lemmas.List.Recursion.{is_count_by}
use Rattle.basics.specs.Limits.{largest_id}
use Rattle.messages.specs.Numbers.{stream_ids}

-- there are as many stream ids as numbers that are at most the largest id
ids_counted : (ns : List ℕ) → length (stream_ids ns) ≡ count_by (λ n. leb n largest_id) ns
ids_counted = is_count_by (λ ns. length (stream_ids ns)) (λ n. leb n largest_id) refl step
  where
    step : (n : ℕ) (ns : List ℕ) → length (stream_ids (n ∷ ns)) ≡ cond (leb n largest_id) (1 + length (stream_ids ns)) (length (stream_ids ns))
    step n ns = go (dec_le n largest_id)
      where
        go : Dec (n ≤ largest_id) → length (stream_ids (n ∷ ns)) ≡ cond (leb n largest_id) (1 + length (stream_ids ns)) (length (stream_ids ns))
        go (yes low) = rw (if_pos (dec_le n largest_id) low, le-leb n largest_id low) (omega arith)
        go (no high) = rw (if_neg (dec_le n largest_id) high, lt-leb n largest_id (omega arith)) refl

-- with all numbers looked at, all stream ids are counted
pub all_counted : (ns : List ℕ) (i : ℕ) → length ns ≤ i → count_by (λ n. leb n largest_id) (take i ns) ≡ length (stream_ids ns)
all_counted ns i all = rw (take_all i ns all) (sym (ids_counted ns))
