-- The changes of a sound queue, from the places and the position that the code finds.
use Rattle.std.specs.Prelude.{◌≡◌, refl, ℕ, ◌+◌, ◌≤◌, length, set}
use Rattle.std.proofs.Common.{sym, ap, ◌∙◌, inl, lt_irrefl, length-set, get_or-set_same, set-set}
use Rattle.std.proofs.Math.Path.{subst, subst⁻¹}
use Rattle.std.proofs.Math.Logic.Or
use Rattle.std.proofs.Math.Logic.{ite, ∥∥₁_elim}
use Rattle.std.proofs.Math.Logic.Dec.{not as Dec-not}
use mathlib.Core.HLevel.{⊥_prop, ×_prop, hedberg}
use mathlib.Core.List.{List, [], ◌∷◌, Mem, mem-filter, not-mem-nil, mem-cons_self, mem-cons_of_mem, eq-or-mem_of_mem-cons}
use Rattle.std.proofs.Math.Bridge.{le_prop}
use Rattle.std.proofs.Math.Decide.{ℕ_discrete}
use native.Mathlib.Omega.{arith}
use Rattle.std.proofs.lemmas.List.{set-get_or}
use Rattle.basics.specs.Limits.{largest_key, places}
use Rattle.places.specs.Order.{Entry}
use Rattle.places.specs.Entries.{put, without, filed_as, moved_on, Filed, InBounds}
use Rattle.places.specs.Facts.Collected.{of_collected, in_collected, collected_full}
use Rattle.places.specs.Facts.Entries.{put_new, entry_set}
use Rattle.places.specs.Changes.{IsPlaceOf, IsNowhere}
use Rattle.queue.specs.Layout.{id_at, key_at, release_at, entry_at, next_at, prev_at, Holds, entries, Sound}
use Rattle.queue.specs.Layout.Ranks.{rank, rank_at, rank_holds}
use Rattle.queue.specs.Calls.{moved, HasEntries}
use Rattle.queue.specs.Layout.SoundRanks.{rank_links, rank_small, new_rank, node_below, sound_once}
use Rattle.queue.specs.Layout.SoundChange.{put_entries, put_sound, taken_entries, taken_sound}
use Rattle.queue.specs.Linking.{HasShape, IsPosition, IsNew, IsNewRank, CanPut, put_before, CanTake, taken_out, CanInsert, CanMove, CanMoveAt, IsMovedAt}
use Rattle.queue.specs.declared.Queue.{Queue}

-- an id at a place is filed
pub place_filed : (q : Queue) (i : ℕ) → Holds q i → Filed (id_at q i) (entries q)
unfolding entries
place_filed q i holds = ∣ (entry_at q i, in_collected (entry_at q) places i holds.0 holds.1, refl) ∣₁

-- a filed id is 1 or more, and where it stands it is held
pub filed_place : (q : Queue) (id x : ℕ) → Filed id (entries q) → IsPlaceOf q.ids id x → Holds q x × (id_at q x ≡ id)
unfolding entries
filed_place q id x filed place =
    ∥∥₁_elim filed (×_prop (×_prop le_prop le_prop) (hedberg ℕ_discrete (id_at q x) id))
    (λ w. ∥∥₁_elim (of_collected (entry_at q) places w.0 w.1) (×_prop (×_prop le_prop le_prop) (hedberg ℕ_discrete (id_at q x) id))
    (λ v. let some : 1 ≤ id = rw (sym w.2 ∙ ap (λ (e : Entry). e.id) v.3) v.2 in ((place.within, rw place.found some), place.found)))

-- a filed id stands somewhere
pub filed_somewhere : (q : Queue) (id : ℕ) → Filed id (entries q) → IsNowhere q.ids id → ⊥
unfolding entries
filed_somewhere q id filed none =
    ∥∥₁_elim filed ⊥_prop
    (λ w. ∥∥₁_elim (of_collected (entry_at q) places w.0 w.1) ⊥_prop
    (λ v. none v.0 v.1 (sym (ap (λ (e : Entry). e.id) v.3) ∙ w.2)))

-- an entry within the bounds whose id is new has a new rank
new_id_rank : (q : Queue) → Sound q → (e : Entry) → IsNew q e.id → e.release ≤ e.key → e.key ≤ largest_key → IsNewRank q (rank e.release e.id)
new_id_rank q sound e new before within =
    record {
      some = rank_holds e.release e.id new.some;
      small = rank_small e.release e.key e.id before within new.small;
      unused = new_rank q sound e.release e.id new.some new.small new.unused;
    }

module _ (q : Queue) (e : Entry) (can : CanInsert q e) where
  insert_new : IsNew q e.id
  insert_new =
      record {
        some = can.some;
        small = can.small;
        unused = λ i below same. can.new (subst (λ (n : ℕ). Filed n (entries q)) same (place_filed q i (below, rw same can.some)));
      }

  -- with fewer than 64 entries some place is free
  pub insert_somewhere : IsNowhere q.ids 0 → ⊥
  unfolding entries
  insert_somewhere none =
      lt_irrefl places (omega (arith, collected_full (entry_at q) places (λ i below. positive (id_at q i) (none i below)), can.room))
    where
      positive : (n : ℕ) → (n ≡ 0 → ⊥) → 1 ≤ n
      positive n other = omega arith

  -- its rank is new too
  pub insert_rank : IsNewRank q (rank e.release e.id)
  insert_rank = new_id_rank q can.sound e insert_new (can.bounds.released e (put_new e (entries q))) (can.bounds.keys e (put_new e (entries q)))

  module _ (x n : ℕ) (place : IsPlaceOf q.ids 0 x) (position : IsPosition q e.key (rank e.release e.id) n) where
    -- the free place found, the position and the node before it are in range, so the entry can be put there
    pub insert_can_put : CanPut q x n
    insert_can_put =
        let l = rank_links q can.sound n position.node in
        (place.within, node_below (rank_at q) n position.node, node_below (rank_at q) (prev_at q n) l.prev_is_node)

    -- put there, before the position of its rank, the entry leaves the queue sound and is put where it belongs among the others
    pub insert_entries : HasShape q → HasEntries (put_before q x e n) (put e (entries q))
    insert_entries shape =
        let inside = place.within in
        let free = place.found in
        let new = insert_new in
        record {
          sound = put_sound q can.sound shape x e n inside free can.some can.small new.unused position can.bounds;
          content = put_entries q can.sound shape x e n inside free can.some can.small new.unused position;
        }

module _ (q : Queue) (x : ℕ) (sound : Sound q) (holds : Holds q x) where
  -- a place that holds an entry has neighbours in range, so the entry can be taken out
  pub delete_can_take : CanTake q x
  delete_can_take =
      let l = rank_links q sound x (inl (holds.0, rank_holds (release_at q x) (id_at q x) holds.1)) in
      (holds.0, node_below (rank_at q) (next_at q x) l.next_is_node, node_below (rank_at q) (prev_at q x) l.prev_is_node)

  -- taken out, it leaves the queue sound, with the entries of the other ids as they stood
  pub delete_entries : HasShape q → HasEntries (taken_out q x) (without (id_at q x) (entries q))
  delete_entries shape = record { sound = taken_sound q sound shape x holds; content = taken_entries q sound shape x holds }

-- an id is filed as the one entry that has it
pub filed_as_only : (id : ℕ) (es : List Entry) (e : Entry) → Mem e es → e.id ≡ id
    → ((d : Entry) → Mem d es → d.id ≡ id → d ≡ e) → filed_as id es ≡ e
unfolding filed_as
filed_as_only id [] e m same only = absurd (not-mem-nil m)
filed_as_only id (x ∷ xs) e m same only = go (ℕ_discrete x.id id) (λ m'. filed_as_only id xs e m' same (λ d md. only d (mem-cons_of_mem x md)))
  where
    go : (d : Dec (x.id ≡ id)) → (Mem e xs → filed_as id xs ≡ e) → ite d x (filed_as id xs) ≡ e
    go (yes here) below = only x mem-cons_self here
    go (no other) below =
        Or.elim (entry_set (filed_as id xs) e) (eq-or-mem_of_mem-cons m) (λ first. absurd (other (sym (ap (λ (d : Entry). d.id) first) ∙ same))) below

-- the entry found at an id's place is what the id is filed as
pub filed_as_place : (q : Queue) → Sound q → (id x : ℕ) → Holds q x → id_at q x ≡ id → filed_as id (entries q) ≡ entry_at q x
unfolding entries
filed_as_place q sound id x there has =
    filed_as_only id (entries q) (entry_at q x) (in_collected (entry_at q) places x there.0 there.1) has
    (λ d m same. ∥∥₁_elim (of_collected (entry_at q) places d m) (entry_set d (entry_at q x))
    (λ w. w.3 ∙ ap (entry_at q) (sound_once q sound w.0 x w.1 there.0 w.2 (sym (ap (λ (e : Entry). e.id) w.3) ∙ (same ∙ sym has)))))

-- what has been found of an id at its place is asked there of a move
pub move_at : (q : Queue) (id amount x : ℕ) → CanMove q id amount → IsPlaceOf q.ids id x → CanMoveAt q x amount
move_at q id amount x can place =
    let here = filed_place q id x can.filed place in
    record { holds = here.0; can = rw here.1 can }

module _ (q : Queue) (amount x : ℕ) (can_at : CanMoveAt q x amount) where
  abbrev id : ℕ
  id = id_at q x

  abbrev later : Entry
  later = moved_on amount (entry_at q x)

  abbrev left : Queue
  left = taken_out q x

  sound : Sound q
  sound = can_at.can.sound

  move_as : filed_as id (entries q) ≡ entry_at q x
  move_as = filed_as_place q sound id x can_at.holds refl

  its_bounds : InBounds (put later (without id (entries q)))
  its_bounds = subst (λ (e : Entry). InBounds (put (moved_on amount e) (without id (entries q)))) move_as can_at.can.bounds

  -- after the move the key is at most 2,000,000,000 and the release at most the key
  pub move_fits : (key_at q x + amount ≤ largest_key) × (release_at q x + amount ≤ key_at q x + amount)
  move_fits = (its_bounds.keys later (put_new later (without id (entries q))), its_bounds.released later (put_new later (without id (entries q))))

  module _ (shape : HasShape q) where
    rest : HasEntries left (without id (entries q))
    rest = delete_entries q x sound can_at.holds shape

    move_new : IsNew left id
    unfolding entries without
    move_new =
        record {
          some = can_at.holds.1;
          small = sound.ids_in_range x can_at.holds;
          unused = λ i below same. ∥∥₁_elim (place_filed left i (below, rw same can_at.holds.1)) ⊥_prop
              (λ w. let among_rest = subst (λ (l : List Entry). Mem w.0 l) rest.content w.1 in
              ((mem-filter (λ (e : Entry). Dec-not (ℕ_discrete e.id id)) {l = entries q}).0 among_rest).1 (w.2 ∙ same));
        }

    -- with the id taken out of its place the queue is sound, and the rank that it has after the move is new
    pub move_rank : Sound left × IsNewRank left (rank later.release id)
    move_rank = (rest.sound, new_id_rank left rest.sound later move_new move_fits.1 move_fits.0)

    module _ (n : ℕ) (position : IsPosition left later.key (rank later.release id) n) where
      -- its own place, the position of the moved key and the node before that are in range, so it can be put there
      pub move_can_put : CanPut left x n
      move_can_put =
          let l = rank_links left rest.sound n position.node in
          (can_at.holds.0, node_below (rank_at left) n position.node, node_below (rank_at left) (prev_at left n) l.prev_is_node)

      -- taken out and put in again at its own place, before the position of its new rank, the id is moved
      pub moved_at : IsMovedAt q x amount (put_before left x later n)
      moved_at =
          let inside = can_at.holds.0 in
          let new = move_new in
          let free = get_or-set_same q.ids x 0 0 (omega (arith, shape.ids, inside)) in
          let same : put later (entries left) ≡ moved id amount (entries q) =
          ap (put later) rest.content ∙ ap (λ (e : Entry). put (moved_on amount e) (without id (entries q))) (sym move_as) in
          let bounds = subst⁻¹ InBounds same can_at.can.bounds in
          record {
            has_entries = record {
              sound = put_sound left rest.sound left_shape x later n inside free new.some new.small new.unused position bounds;
              content = put_entries left rest.sound left_shape x later n inside free new.some new.small new.unused position ∙ same;
            };
            places = set-set q.ids x 0 id ∙ set-get_or q.ids x 0;
          }
        where
          long : (l : List ℕ) (i a b : ℕ) → length (set (set l i a) x b) ≡ length l
          long l i a b = length-set (set l i a) x b ∙ length-set l i a

          left_shape : HasShape left
          left_shape =
              record {
                ids = length-set q.ids x 0 ∙ shape.ids;
                keys = length-set q.keys x 0 ∙ shape.keys;
                releases = length-set q.releases x 0 ∙ shape.releases;
                next = long q.next (prev_at q x) (next_at q x) 0 ∙ shape.next;
                prev = long q.prev (next_at q x) (prev_at q x) 0 ∙ shape.prev;
              }
