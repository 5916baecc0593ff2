-- A queue with nothing filed: its heads are their own neighbours. The loop that links them ends at the empty queue.
use Rattle.std.specs.Prelude.{◌≡◌, refl, List, [], ℕ, zero, suc, ◌+◌, ◌-◌, ◌≤◌, ◌<◌, length, get_or, replicate}
use Rattle.std.proofs.Common.{sym, ap, ◌∙◌, inl, inr, lt_irrefl, arith, get_or-append-add, ext_get_or}
use Rattle.std.proofs.Math.Path.{subst⁻¹}
use Rattle.std.proofs.Math.Decide.{dec_lt}
use Rattle.std.proofs.lemmas.List.{get_or-replicate}
use Rattle.std.proofs.Math.ListN.{get_or-append}
use Rattle.basics.specs.Limits.{buckets, places}
use Rattle.places.specs.Facts.Collected.{none_collected}
use Rattle.queue.specs.Layout.{queue_of, numbers_from, lone_heads, empty_queue}
use Rattle.queue.specs.Layout.{id_at, key_at, entry_at, next_at, prev_at, Holds, entries, IsNode, bucket_of, Linked}
use Rattle.queue.specs.Calls.{HasEntries}
use Rattle.queue.specs.declared.Queue.{Queue}

numbers_from_size : (x n : ℕ) → length (numbers_from x n) ≡ n
unfolding numbers_from
numbers_from_size x zero = refl
numbers_from_size x (suc n) = ap suc (numbers_from_size (suc x) n)

numbers_from_at : (x n i : ℕ) → i < n → get_or (numbers_from x n) i 0 ≡ x + i
unfolding numbers_from
numbers_from_at x zero i below = absurd (lt_irrefl 0 (omega arith))
numbers_from_at x (suc n) zero below = omega arith
numbers_from_at x (suc n) (suc i) below = numbers_from_at (suc x) n i (omega arith) ∙ omega arith

-- what the links of the empty queue are, place by place and head by head
lone_heads_size : length lone_heads ≡ 544
unfolding lone_heads
lone_heads_size = simp numbers_from_size

lone_heads_free : (i : ℕ) → i < places → get_or lone_heads i 0 ≡ 0
unfolding lone_heads
lone_heads_free i below = get_or-append (replicate places 0) (numbers_from places buckets) 0 i below ∙ get_or-replicate places i 0 0 below

-- in the empty queue each head, 64 to 543, links to itself
pub lone_heads_alone : (j : ℕ) → places ≤ j → j < 544 → get_or lone_heads j 0 ≡ j
unfolding lone_heads
lone_heads_alone j from below =
    let zeros : List ℕ = replicate places 0 in
    let e : j ≡ places + (j - places) = omega arith in
    ap (λ (k : ℕ). get_or lone_heads k 0) e
    ∙ (get_or-append-add zeros (numbers_from places buckets) (j - places) 0 ∙ (numbers_from_at places buckets (j - places) (omega arith) ∙ sym e))

-- The heads from 64 on and below x link to themselves, and the places to 0.
pub record HeadsAlone (links : List ℕ) (x : ℕ) : Type 0 where
  pub size : length links ≡ 544
  pub free : (i : ℕ) → i < places → get_or links i 0 ≡ 0
  pub alone : (j : ℕ) → places ≤ j → j < x → get_or links j 0 ≡ j

-- with all heads linked, the queue is the empty one
pub all_alone : (links : List ℕ) (x : ℕ) → 544 ≤ x → HeadsAlone links x
    → queue_of (replicate places 0) (replicate places 0) (replicate places 0) links links ≡ empty_queue
unfolding empty_queue
all_alone links x all heads =
    ap (λ (ls : List ℕ). queue_of (replicate places 0) (replicate places 0) (replicate places 0) ls ls)
    (ext_get_or 0 links lone_heads (heads.size ∙ sym lone_heads_size) each)
  where
    each : (j : ℕ) → j < length links → get_or links j 0 ≡ get_or lone_heads j 0
    each j below = go (dec_lt j places)
      where
        go : Dec (j < places) → get_or links j 0 ≡ get_or lone_heads j 0
        go (yes place) = heads.free j place ∙ sym (lone_heads_free j place)
        go (no head) = heads.alone j (omega arith) (omega (arith, heads.size)) ∙ sym (lone_heads_alone j (omega arith) (omega (arith, heads.size)))

-- with every place free and every head its own neighbour, a queue is sound and has no entry
module _ (q : Queue) (free : (i : ℕ) → i < places → id_at q i ≡ 0)
    (next_alone : (j : ℕ) → places ≤ j → j < 544 → next_at q j ≡ j) (prev_alone : (j : ℕ) → places ≤ j → j < 544 → prev_at q j ≡ j) where
  empty_place : {i : ℕ} → Holds q i → ⊥
  empty_place {i} holds = lt_irrefl 0 (omega (arith, holds.1, free i holds.0))

  head_alone : (x : ℕ) → IsNode (id_at q) x → Linked (entry_at q) (next_at q) (prev_at q) x
  head_alone x (inl place) = absurd (empty_place place)
  head_alone x (inr head) =
      let on = next_alone x head.0 head.1 in
      let back = prev_alone x head.0 head.1 in
      record {
        next_is_node = subst⁻¹ (IsNode (id_at q)) on (inr head);
        next_in_bucket = ap (bucket_of (key_at q)) on;
        next_returns = ap (prev_at q) on ∙ back;
        in_order = λ inside. absurd (lt_irrefl places (omega (arith, inside, head.0)));
        prev_is_node = subst⁻¹ (IsNode (id_at q)) back (inr head);
        prev_returns = ap (next_at q) back ∙ on;
      }

  -- such a queue is sound and files nothing
  pub alone_empty : HasEntries q []
  unfolding entries
  alone_empty =
      record {
        sound =
            record {
              ids_in_range = λ i holds. absurd (empty_place holds);
              once = λ i j holds. absurd (empty_place holds);
              keys_in_range = λ i holds. absurd (empty_place holds);
              released = λ i holds. absurd (empty_place holds);
              span = λ i j holds. absurd (empty_place holds);
              links = head_alone;
            };
        content = none_collected (entry_at q) places free;
      }
