-- What each call of the queue answers and leaves: Annex, chapter 8.
use Rattle.std.specs.Prelude.{◌≡◌, List, [], ◌∷◌, ℕ, ◌≤◌, length}
use Rattle.std.proofs.Math.Logic.Dec.{not as Dec-not}
use Rattle.std.proofs.Math.Decide.{dec_le}
use Rattle.basics.specs.Limits.{places, largest_id}
use Rattle.basics.specs.Refusals.{Refusal, answer_of}
use Rattle.basics.specs.OneTo.{not_in}
use Rattle.places.specs.Order.{Entry, triple}
use Rattle.places.specs.Entries.{put, without, after, filed_as, moved_on, Filed, InBounds}
use Rattle.places.specs.Decide.{decide_filed, decide_in_bounds}
use Rattle.queue.specs.Layout.{entries, Sound}
use Rattle.queue.specs.Layout.Decide.{decide_sound}
use Rattle.queue.specs.declared.Queue.{Queue}
use Rattle.queue.specs.declared.Changed.{Changed}
use Rattle.queue.specs.declared.Found.{Found}

-- Annex 8.10 to 8.14: 5 if the queue is not sound.
abbrev pub unsound : Queue → Refusal
unsound q = record { number = 5; Applies = Sound q → ⊥; decided = Dec-not (decide_sound q) }

-- Annex 8.10: 6 unless the id is 1 to 32,767.
abbrev pub bad_id : ℕ → Refusal
bad_id id = not_in 6 largest_id id

-- Annex 8.10: 21 if 64 entries are filed, or more, for which a queue has no place.
abbrev pub full : List Entry → Refusal
full es = record { number = 21; Applies = places ≤ length es; decided = dec_le places (length es) }

-- Annex 8.10: 22 if some entry has the id.
abbrev pub filed : ℕ → List Entry → Refusal
filed id es = record { number = 22; Applies = Filed id es; decided = decide_filed id es }

-- Annex 8.10, 8.12: 23 if these entries, which the change would leave, are out of bounds (Annex 8.5).
abbrev pub out_of_bounds : List Entry → Refusal
out_of_bounds es = record { number = 23; Applies = InBounds es → ⊥; decided = Dec-not (decide_in_bounds es) }

-- Annex 8.11, 8.12: 24 if no entry has the id.
abbrev pub not_filed : ℕ → List Entry → Refusal
not_filed id es = record { number = 24; Applies = Filed id es → ⊥; decided = Dec-not (decide_filed id es) }

-- Annex 8.12: the entries after a move: the one of the id is taken out, and put in again with the amount on its key and its release.
abbrev pub moved : ℕ → ℕ → List Entry → List Entry
moved id amount es = put (moved_on amount (filed_as id es)) (without id es)

-- Annex 8.10: insert refuses 5, 6, 21, 22 and 23 in this order, 23 by the entries with the new one put in.
abbrev pub insert_refusals : Queue → ℕ → ℕ → ℕ → List Refusal
insert_refusals q id key release =
    unsound q ∷ bad_id id ∷ full (entries q) ∷ filed id (entries q) ∷ out_of_bounds (put (triple key release id) (entries q)) ∷ []

-- Annex 8.11: delete refuses 5, then 24.
abbrev pub delete_refusals : Queue → ℕ → List Refusal
delete_refusals q id = unsound q ∷ not_filed id (entries q) ∷ []

-- Annex 8.12: move refuses 5, 24 and 23 in this order, 23 by the entries after it, whose sums have no largest number.
abbrev pub move_refusals : Queue → ℕ → ℕ → List Refusal
move_refusals q id amount = unsound q ∷ not_filed id (entries q) ∷ out_of_bounds (moved id amount (entries q)) ∷ []

-- Annex 8.9: a sound queue with these entries. How its links and free places lie is left free.
pub record HasEntries (q : Queue) (es : List Entry) : Type 0 where
  pub sound : Sound q
  pub content : entries q ≡ es

-- Annex 8.9: a change answers the first of its refusals that applies; refused, it hands the queue back as it was; else the queue handed back is
-- sound and files the entries es. How its links and free places lie is left free.
pub record IsChange (refusals : List Refusal) (q : Queue) (es : List Entry) (r : Changed) : Type 0 where
  pub answer : r.answer ≡ answer_of refusals
  pub refused : (answer_of refusals ≡ 0 → ⊥) → r.queue ≡ q
  pub sound : answer_of refusals ≡ 0 → Sound r.queue
  pub content : answer_of refusals ≡ 0 → entries r.queue ≡ es

-- Annex 8.15: a refused least or next: its number, with key 0, release 0 and id 0.
abbrev pub refused_find : ℕ → Found
refused_find number = record { answer = number; key = 0; release = 0; id = 0 }

-- Annex 8.13, 8.14: key, release and id of the first of these entries, with answer 0; 5 for a queue not sound, then 25 if there is none.
unfoldable pub first_of : {q : Queue} → Dec (Sound q) → List Entry → Found
first_of (no _) es = refused_find 5
first_of (yes _) [] = refused_find 25
first_of (yes _) (e ∷ es) = record { answer = 0; key = e.key; release = e.release; id = e.id }

-- Annex 8.13: least gives the first of all entries.
abbrev pub least_of : Queue → Found
least_of q = first_of (decide_sound q) (entries q)

-- Annex 8.14: next gives the first entry after a key, a release and an id, whatever numbers these are, filed or not.
abbrev pub next_of : Queue → ℕ → ℕ → ℕ → Found
next_of q key release id = first_of (decide_sound q) (after (triple key release id) (entries q))
