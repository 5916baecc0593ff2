-- A run of moves: what holds after k of them.
use Rattle.std.specs.Prelude.{◌≡◌, List, ℕ, suc, ◌+◌, ◌<◌, get_or}
use Rattle.std.proofs.Math.Path.{refl, ap, subst⁻¹}
use Rattle.std.proofs.Common.{sym, ◌∙◌, add-one}
use Rattle.places.specs.Entries.{InBounds}
use Rattle.queue.specs.Layout.{id_at, Holds, entries}
use Rattle.queue.specs.Calls.{moved, HasEntries}
use Rattle.queue.specs.Linking.{CanMoveAt, IsMovedAt, moved_all, CanMoveAll}
use Rattle.queue.specs.Layout.Change.{place_filed}
use Rattle.queue.specs.declared.Queue.{Queue}
use Rattle.queue.specs.declared.Placed.{Placed}

-- after k moves: their entries, and every id still at its place
pub record Moving (q : Queue) (placed : Placed) (amounts : List ℕ) (k : ℕ) (r : Queue) : Type 0 where
  pub has_entries : HasEntries r (moved_all placed.ids amounts k (entries q))
  pub ids : r.ids ≡ q.ids

module _ (q : Queue) (placed : Placed) (amounts : List ℕ) (n : ℕ) (can : CanMoveAll q placed amounts n) where
  -- the queue itself is what a run has left after none of its moves
  pub none_moved : Moving q placed amounts 0 q
  unfolding moved_all
  none_moved = record { has_entries = record { sound = can.sound; content = refl }; ids = refl }

  module _ (k : ℕ) (more : k < n) (r : Queue) (moving : Moving q placed amounts k r) where
    abbrev id : ℕ
    id = get_or placed.ids k 0

    abbrev place : ℕ
    place = get_or placed.places k 0

    abbrev amount : ℕ
    amount = get_or amounts k 0

    has_id : id_at r place ≡ id
    has_id = ap (λ (ids : List ℕ). get_or ids place 0) moving.ids ∙ (can.placed_there k more).has_id

    holds : Holds r place
    holds = let there = can.placed_there k more in (there.holds.0, rw (has_id ∙ sym there.has_id) there.holds.1)

    -- the entries with this move done too
    next_entries : moved (id_at r place) amount (entries r) ≡ moved_all placed.ids amounts (suc k) (entries q)
    unfolding moved_all
    next_entries = ap (λ (i : ℕ). moved i amount (entries r)) has_id ∙ ap (moved id amount) moving.has_entries.content

    -- after k of the moves the next id is still at its place, and can be moved by its amount
    pub can_move_next : CanMoveAt r place amount
    can_move_next =
        record {
          holds = holds;
          can = record { sound = moving.has_entries.sound; filed = place_filed r place holds; bounds = subst⁻¹ InBounds next_entries (can.bounds k more) };
        }

    -- and with that move done, k + 1 of them are
    pub one_more_moved : (after : Queue) → IsMovedAt r place amount after → Moving q placed amounts (k + 1) after
    one_more_moved after is =
        subst⁻¹ (λ (j : ℕ). Moving q placed amounts j after) (add-one k)
        (record {
          has_entries = record { sound = is.has_entries.sound; content = is.has_entries.content ∙ next_entries };
          ids = is.places ∙ moving.ids;
        })
