-- Demand 1 for the calls beside open, add, remove and round: those of the queue, superframe, those of packets, the filled part, and a script
-- run from memory. Annex, chapter 12.
use Rattle.std.specs.Prelude.{◌≡◌, List, [], ◌∷◌, ◌++◌, ℕ, ◌<◌, take}
use Rattle.std.proofs.Math.Logic.Dec.{not as Dec-not}
use Rattle.basics.specs.Refusals.{Refusal, FirstOf}
use Rattle.basics.specs.Limits.{longest_frame}
use Rattle.places.specs.Order.{Entry, triple}
use Rattle.places.specs.Entries.{put, without, after}
use Rattle.queue.specs.Layout.{entries}
use Rattle.queue.specs.Calls.{unsound, insert_refusals, delete_refusals, move_refusals, moved, IsChange, refused_find, least_of, next_of}
use Rattle.queue.specs.declared.Queue.{Queue}
use Rattle.queue.specs.declared.Changed.{Changed}
use Rattle.queue.specs.declared.Found.{Found}
use Rattle.superframe.specs.Periods.{AllInRange, IsLcm}
use Rattle.superframe.specs.Decide.{decide_in_range}
use Rattle.superframe.specs.Superframe.{superframe_of}
use Rattle.packet_bytes.specs.Layout.{Values}
use Rattle.packets.specs.Reading.{read_refusals, refused_read, IsRead, ids_part}
use Rattle.packets.specs.Writing.{write_refusals, IsWritten}
use Rattle.packets.specs.declared.Header.{Header}
use Rattle.command.specs.Script.{IsScript, StaysInside}
use Rattle.demands.specs.Decide.{decide_none, decide_above}

-- Annex 12.2: a call with these refusals gave the first number that applies, else 0; and refused, it changed nothing: what that is, each call says.
pub record Meets (refusals : List Refusal) (answer : ℕ) (Unchanged : Type 0) : Type 1 where
  pub first : FirstOf refusals answer
  pub refused : (answer ≡ 0 → ⊥) → Unchanged

-- Annex 8.13, 8.14: 25 if there is no entry to give.
abbrev pub none_found : List Entry → Refusal
none_found es = record { number = 25; Applies = es ≡ []; decided = decide_none es }

-- Annex 8.13, 8.14: least and next refuse 5 for a queue not sound, then 25.
abbrev pub find_refusals : Queue → List Entry → List Refusal
find_refusals q es = unsound q ∷ none_found es ∷ []

-- Annex 9.2: 18 if any period of the list is not 1 to 240.
abbrev pub bad_period : List ℕ → Refusal
bad_period periods = record { number = 18; Applies = AllInRange periods → ⊥; decided = Dec-not (decide_in_range periods) }

-- Annex 9.3: 19 if the least common multiple, which periods in range have, is above 5,040.
abbrev pub above_limit : List ℕ → Refusal
above_limit periods =
    record {
      number = 19;
      Applies = AllInRange periods → (m : ℕ) → IsLcm periods m → longest_frame < m;
      decided = decide_above periods (decide_in_range periods);
    }

-- Annex 9.2, 9.3: superframe refuses 18, then 19.
abbrev pub superframe_refusals : List ℕ → List Refusal
superframe_refusals periods = bad_period periods ∷ above_limit periods ∷ []

-- Annex 12.1, 12.2: each of these calls, on any queue, sound or not, any numbers, lists, bytes and buffers, by the contract that its code is proved
-- to meet; nothing is asked of the caller. filled and run_script refuse nothing, and packet_ids gives no number.
pub record OtherCallsMeet : Type 1 where
  pub insert_meets : (q : Queue) (id key release : ℕ) (r : Changed) → IsChange (insert_refusals q id key release) q (put (triple key release id) (entries q)) r
      → Meets (insert_refusals q id key release) r.answer (r.queue ≡ q)
  pub delete_meets : (q : Queue) (id : ℕ) (r : Changed) → IsChange (delete_refusals q id) q (without id (entries q)) r
      → Meets (delete_refusals q id) r.answer (r.queue ≡ q)
  pub move_meets : (q : Queue) (id amount : ℕ) (r : Changed) → IsChange (move_refusals q id amount) q (moved id amount (entries q)) r
      → Meets (move_refusals q id amount) r.answer (r.queue ≡ q)
  pub least_meets : (q : Queue) (r : Found) → r ≡ least_of q → Meets (find_refusals q (entries q)) r.answer (r ≡ refused_find r.answer)
  pub next_meets : (q : Queue) (key release id : ℕ) (r : Found) → r ≡ next_of q key release id
      → Meets (find_refusals q (after (triple key release id) (entries q))) r.answer (r ≡ refused_find r.answer)
  pub superframe_meets : (periods : List ℕ) → Meets (superframe_refusals periods) (superframe_of periods).answer ((superframe_of periods).value ≡ 0)
  pub write_meets : (v : Values) (before after : List ℕ) (answer : ℕ) → IsWritten v before after answer
      → Meets (write_refusals v before) answer (after ≡ before)
  pub read_meets : (p : List ℕ) (r : Header) → IsRead p r → Meets (read_refusals p) r.answer (r ≡ refused_read r.answer)
  pub ids_meet : (p : List ℕ) (r : Header) → IsRead p r → (r.answer ≡ 0 → ⊥) → ids_part p ≡ []
  pub filled_meets : (buffer part : List ℕ) (n : ℕ) → part ≡ take n buffer → (rest : List ℕ) × (buffer ≡ part ++ rest)
  pub script_meets : (script before after : List ℕ) (r : ℕ) → IsScript script before after r → StaysInside before after r
