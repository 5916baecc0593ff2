-- Places in order by one number. In a sound queue a bucket has one key, so its entries stand by release, then id: by their ranks. The laws of the
-- links need no more of an entry than that.
use Rattle.std.specs.Prelude.{◌≡◌, ℕ, ◌+◌, ◌-◌, ◌*◌, ◌≤◌, ◌<◌}
use Rattle.std.proofs.Math.Logic.{ite, if_pos, if_neg}
use Rattle.std.proofs.Common.{inl, inr, lt_irrefl, arith}
use Rattle.std.proofs.Math.Decide.{dec_le, dec_lt}
use Rattle.basics.specs.Lexicographic.{Then}
use Rattle.basics.specs.Limits.{largest_id, places}
use Rattle.queue.specs.Layout.{id_at, release_at, IsNode, bucket_of_key, bucket_of}
use Rattle.queue.specs.declared.Queue.{Queue}

-- The rank of a release and an id, which is below 32,768; a free place has 0.
pub rank : ℕ → ℕ → ℕ
rank release id = ite (dec_le 1 id) (release * 32768 + id) 0

abbrev pub rank_at : Queue → ℕ → ℕ
rank_at q i = rank (release_at q i) (id_at q i)

-- Ranks rise along a list from its head, which counts as 0 where the list leaves it and as more than any rank where the list comes back to it.
unfoldable pub low : (ranks : ℕ → ℕ) → ℕ → ℕ
low ranks x = ite (dec_lt x places) (ranks x) 0

unfoldable pub high : (ranks : ℕ → ℕ) → ℕ → ℕ
high ranks x = ite (dec_lt x places) (ranks x) 65_536_000_032_768

-- A node that is linked, its order told by ranks.
pub record RankLinked (ranks keys next prev : ℕ → ℕ) (x : ℕ) : Type 0 where
  pub next_is_node : IsNode ranks (next x)
  pub next_in_bucket : bucket_of keys (next x) ≡ bucket_of keys x
  pub next_returns : prev (next x) ≡ x
  pub in_order : low ranks x < high ranks (next x)
  pub prev_is_node : IsNode ranks (prev x)
  pub prev_returns : next (prev x) ≡ x

abbrev pub AllRankLinked : (ranks keys next prev : ℕ → ℕ) → Type 0
AllRankLinked ranks keys next prev = (x : ℕ) → IsNode ranks x → RankLinked ranks keys next prev x

-- a place that holds an id has a rank
pub rank_some : (release id : ℕ) → 1 ≤ id → rank release id ≡ release * 32768 + id
unfolding rank
rank_some release id some = if_pos (dec_le 1 id) some (release * 32768 + id) 0

-- with id 0, as at a free place, the rank is 0
pub rank_none : (release id : ℕ) → id ≡ 0 → rank release id ≡ 0
unfolding rank
rank_none release id none = if_neg (dec_le 1 id) (λ l. omega arith) (release * 32768 + id) 0

-- with an id of 1 or more the rank is 1 or more ..
pub rank_holds : (release id : ℕ) → 1 ≤ id → 1 ≤ rank release id
rank_holds release id some = omega (arith, rank_some release id some)

-- .. and a rank of 1 or more is that of such an id
pub holds_rank : (release id : ℕ) → 1 ≤ rank release id → 1 ≤ id
holds_rank release id some = go (dec_le 1 id)
  where
    go : Dec (1 ≤ id) → 1 ≤ id
    go (yes holds) = holds
    go (no free) = absurd (lt_irrefl 0 (omega (arith, rank_none release id (omega arith))))

-- ranks of ids below 32,768 are in order by release, then id, and tell the ids apart
pub rank_id : (r s i j : ℕ) → 1 ≤ i → i ≤ largest_id → 1 ≤ j → j ≤ largest_id → rank r i ≡ rank s j → i ≡ j
rank_id r s i j some_i small_i some_j small_j same = omega (arith, rank_some r i some_i, rank_some s j some_j)

-- what comes first by release, then id, has the smaller rank ..
pub rank_less : (r s i j : ℕ) → 1 ≤ i → i ≤ largest_id → 1 ≤ j → Then r s (i < j) → rank r i < rank s j
rank_less r s i j some_i small_i some_j (inl less) = omega (arith, rank_some r i some_i, rank_some s j some_j)
rank_less r s i j some_i small_i some_j (inr w) = omega (arith, rank_some r i some_i, rank_some s j some_j, w.0, w.1)

-- .. and what has the smaller rank comes first by release, then id
pub less_rank : (r s i j : ℕ) → 1 ≤ i → 1 ≤ j → j ≤ largest_id → rank r i < rank s j → Then r s (i < j)
less_rank r s i j some_i some_j small_j less = go (dec_lt r s)
  where
    go : Dec (r < s) → Then r s (i < j)
    go (yes first) = inl first
    go (no not_less) = let e : r ≡ s = omega (arith, rank_some r i some_i, rank_some s j some_j, less) in
        inr (e, omega (arith, rank_some r i some_i, rank_some s j some_j, less, e))

-- low and high of an entry are its rank; a head is below and above every rank
pub low_place : (ranks : ℕ → ℕ) (x : ℕ) → x < places → low ranks x ≡ ranks x
unfolding low
low_place ranks x inside = if_pos (dec_lt x places) inside (ranks x) 0

-- a head counts as 0 where its list leaves it
pub low_head : (ranks : ℕ → ℕ) (x : ℕ) → places ≤ x → low ranks x ≡ 0
unfolding low
low_head ranks x head = if_neg (dec_lt x places) (λ l. omega arith) (ranks x) 0

-- an entry counts as its rank where the list comes to it ..
pub high_place : (ranks : ℕ → ℕ) (x : ℕ) → x < places → high ranks x ≡ ranks x
unfolding high
high_place ranks x inside = if_pos (dec_lt x places) inside (ranks x) 65_536_000_032_768

-- .. and a head as 65,536,000,032,768 where its list comes back to it
pub high_head : (ranks : ℕ → ℕ) (x : ℕ) → places ≤ x → high ranks x ≡ 65_536_000_032_768
unfolding high
high_head ranks x head = if_neg (dec_lt x places) (λ l. omega arith) (ranks x) 65_536_000_032_768

-- a place is in the bucket of its key ..
pub bucket_place : (keys : ℕ → ℕ) (x : ℕ) → x < places → bucket_of keys x ≡ bucket_of_key (keys x)
unfolding bucket_of
bucket_place keys x inside = if_pos (dec_lt x places) inside (bucket_of_key (keys x)) (x - places)

-- .. and a head in the bucket that is numbered 64 below it
pub bucket_head : (keys : ℕ → ℕ) (x : ℕ) → places ≤ x → bucket_of keys x ≡ x - places
unfolding bucket_of
bucket_head keys x head = if_neg (dec_lt x places) (λ l. omega arith) (bucket_of_key (keys x)) (x - places)
