-- The answers of insert, delete and move: each test of the code, in its order, is a refusal of the list.
use mathlib.Core.Path.{◌≡◌, sym, ◌∙◌}
use mathlib.Core.Logic.Dec
use mathlib.Core.List.{List, [], ◌∷◌}
use Prim.Native.Nat.{ℕ, ◌≤◌, ◌<◌}
use native.Mathlib.Nat.{lt_irrefl}
use native.Mathlib.Omega.{arith}
use lib.ListN.{length}
use Rattle.basics.specs.Refusals.{Refusal, answer_of}
use Rattle.basics.specs.Facts.Refusals.{answer_first, answer_later, answer_zero}
use Rattle.basics.specs.Limits.{largest_id, places}
use Rattle.basics.specs.OneTo.{OneTo, decide_one_to}
use Rattle.places.specs.Order.{Entry, triple}
use Rattle.places.specs.Entries.{put, Filed, InBounds}
use Rattle.places.specs.Decide.{decide_filed, decide_in_bounds}
use Rattle.queue.specs.Layout.{entries, Sound}
use Rattle.queue.specs.Layout.Decide.{decide_sound}
use Rattle.queue.specs.Calls.{unsound, bad_id, full, filed, out_of_bounds, not_filed, moved, insert_refusals, delete_refusals, move_refusals}
use Rattle.queue.specs.Linking.{CanInsert, CanDelete, CanMove}
use Rattle.queue.specs.declared.Queue.{Queue}

not_zero : (n : ℕ) → 1 ≤ n → n ≡ 0 → ⊥
not_zero n some zero = omega arith

-- a sound queue passes 5, and any other gets it
module _ (q : Queue) where
  -- with a queue that is not sound the answer is 5, whatever refusals follow
  pub refuses_5 : (rs : List Refusal) → (Sound q → ⊥) → 5 ≡ answer_of (unsound q ∷ rs)
  refuses_5 rs not_sound = sym (answer_first (unsound q) rs not_sound)

  passes_5 : (rs : List Refusal) → Sound q → answer_of (unsound q ∷ rs) ≡ answer_of rs
  passes_5 rs sound = answer_later (unsound q) rs (λ not_sound. not_sound sound)

  zero_sound : (rs : List Refusal) → answer_of (unsound q ∷ rs) ≡ 0 → Sound q × (answer_of rs ≡ 0)
  zero_sound rs zero =
      let w = answer_zero (unsound q) rs (λ e. not_zero 5 (omega arith) e) zero in
      ((Dec.not-not (decide_sound q)).0 w.0, w.1)

  module _ (sound : Sound q) (id : ℕ) where
    -- with a sound queue and an id that is not filed the answer is 24, whatever refusals follow
    pub refuses_24 : (rs : List Refusal) → (Filed id (entries q) → ⊥) → 24 ≡ answer_of (unsound q ∷ not_filed id (entries q) ∷ rs)
    refuses_24 rs none = sym (passes_5 (not_filed id (entries q) ∷ rs) sound ∙ answer_first (not_filed id (entries q)) rs none)

    passes_24 : (rs : List Refusal) → Filed id (entries q) → answer_of (unsound q ∷ not_filed id (entries q) ∷ rs) ≡ answer_of rs
    passes_24 rs some = passes_5 (not_filed id (entries q) ∷ rs) sound ∙ answer_later (not_filed id (entries q)) rs (λ none. none some)

  zero_filed : (id : ℕ) (rs : List Refusal) → answer_of (not_filed id (entries q) ∷ rs) ≡ 0 → Filed id (entries q) × (answer_of rs ≡ 0)
  zero_filed id rs zero =
      let w = answer_zero (not_filed id (entries q)) rs (λ e. not_zero 24 (omega arith) e) zero in
      ((Dec.not-not (decide_filed id (entries q))).0 w.0, w.1)

last_23 : (es : List Entry) → answer_of (out_of_bounds es ∷ []) ≡ 0 → InBounds es
last_23 es zero = (Dec.not-not (decide_in_bounds es)).0 (answer_zero (out_of_bounds es) [] (λ e. not_zero 23 (omega arith) e) zero).0

refuses_23 : (es : List Entry) → (InBounds es → ⊥) → 23 ≡ answer_of (out_of_bounds es ∷ [])
refuses_23 es out = sym (answer_first (out_of_bounds es) [] out)

passes_23 : (es : List Entry) → InBounds es → 0 ≡ answer_of (out_of_bounds es ∷ [])
unfolding answer_of
passes_23 es within = sym (answer_later (out_of_bounds es) [] (λ out. out within))

module _ (q : Queue) (id : ℕ) where
  -- with a sound queue and a filed id delete answers 0
  pub delete_answers_0 : Sound q → Filed id (entries q) → 0 ≡ answer_of (delete_refusals q id)
  unfolding answer_of
  delete_answers_0 sound some = sym (passes_24 q sound id [] some)

  -- where delete answers 0 the queue is sound and the id filed
  pub delete_can : answer_of (delete_refusals q id) ≡ 0 → CanDelete q id
  delete_can zero =
      let s = zero_sound q (not_filed id (entries q) ∷ []) zero in
      record { sound = s.0; filed = (zero_filed q id [] s.1).0 }

  module _ (amount : ℕ) where
    -- with a sound queue and a filed id move answers 23 where the entries after it would be out of bounds ..
    pub move_answers_23 : Sound q → Filed id (entries q) → (InBounds (moved id amount (entries q)) → ⊥) → 23 ≡ answer_of (move_refusals q id amount)
    move_answers_23 sound some out =
        refuses_23 (moved id amount (entries q)) out ∙ sym (passes_24 q sound id (out_of_bounds (moved id amount (entries q)) ∷ []) some)

    -- .. and 0 where they are within the bounds
    pub move_answers_0 : Sound q → Filed id (entries q) → InBounds (moved id amount (entries q)) → 0 ≡ answer_of (move_refusals q id amount)
    move_answers_0 sound some within =
        passes_23 (moved id amount (entries q)) within ∙ sym (passes_24 q sound id (out_of_bounds (moved id amount (entries q)) ∷ []) some)

    -- where move answers 0 the queue is sound, the id filed, and the entries after it within the bounds
    pub move_can : answer_of (move_refusals q id amount) ≡ 0 → CanMove q id amount
    move_can zero =
        let last = out_of_bounds (moved id amount (entries q)) ∷ [] in
        let s = zero_sound q (not_filed id (entries q) ∷ last) zero in
        let f = zero_filed q id last s.1 in
        record { sound = s.0; filed = f.0; bounds = last_23 (moved id amount (entries q)) f.1 }

module _ (q : Queue) (id key release : ℕ) where
  -- the refusals from each number on
  abbrev from_23 : List Refusal
  from_23 = out_of_bounds (put (triple key release id) (entries q)) ∷ []

  abbrev from_22 : List Refusal
  from_22 = filed id (entries q) ∷ from_23

  abbrev from_21 : List Refusal
  from_21 = full (entries q) ∷ from_22

  module _ (sound : Sound q) where
    -- with a sound queue and an id that is not 1 to 32,767 insert answers 6
    pub insert_answers_6 : (OneTo largest_id id → ⊥) → 6 ≡ answer_of (insert_refusals q id key release)
    insert_answers_6 bad = sym (passes_5 q (bad_id id ∷ from_21) sound ∙ answer_first (bad_id id) from_21 bad)

    module _ (range : OneTo largest_id id) where
      past_6 : answer_of (insert_refusals q id key release) ≡ answer_of from_21
      past_6 = passes_5 q (bad_id id ∷ from_21) sound ∙ answer_later (bad_id id) from_21 (λ bad. bad range)

      -- with an id in range and 64 entries filed, or more, it answers 21
      pub insert_answers_21 : places ≤ length (entries q) → 21 ≡ answer_of (insert_refusals q id key release)
      insert_answers_21 all = sym (past_6 ∙ answer_first (full (entries q)) from_22 all)

      module _ (room : length (entries q) < places) where
        past_21 : answer_of (insert_refusals q id key release) ≡ answer_of from_22
        past_21 = past_6 ∙ answer_later (full (entries q)) from_22 (λ all. lt_irrefl places (omega arith))

        -- with room for one more and the id filed, it answers 22
        pub insert_answers_22 : Filed id (entries q) → 22 ≡ answer_of (insert_refusals q id key release)
        insert_answers_22 there = sym (past_21 ∙ answer_first (filed id (entries q)) from_23 there)

        module _ (new : Filed id (entries q) → ⊥) where
          past_22 : answer_of (insert_refusals q id key release) ≡ answer_of from_23
          past_22 = past_21 ∙ answer_later (filed id (entries q)) from_23 new

          -- with a new id it answers 23 where the entries with it would be out of bounds ..
          pub insert_answers_23 : (InBounds (put (triple key release id) (entries q)) → ⊥) → 23 ≡ answer_of (insert_refusals q id key release)
          insert_answers_23 out = refuses_23 (put (triple key release id) (entries q)) out ∙ sym past_22

          -- .. and 0 where they are within the bounds
          pub insert_answers_0 : InBounds (put (triple key release id) (entries q)) → 0 ≡ answer_of (insert_refusals q id key release)
          insert_answers_0 within = passes_23 (put (triple key release id) (entries q)) within ∙ sym past_22

  -- where insert answers 0 the queue is sound and has room, the id is in range and new, and the entries with it are within the bounds
  pub insert_can : answer_of (insert_refusals q id key release) ≡ 0 → CanInsert q (triple key release id)
  insert_can zero =
      let s = zero_sound q (bad_id id ∷ from_21) zero in
      let r = answer_zero (bad_id id) from_21 (λ e. not_zero 6 (omega arith) e) s.1 in
      let range = (Dec.not-not (decide_one_to largest_id id)).0 r.0 in
      let f = answer_zero (full (entries q)) from_22 (λ e. not_zero 21 (omega arith) e) r.1 in
      let n = answer_zero (filed id (entries q)) from_23 (λ e. not_zero 22 (omega arith) e) f.1 in
      record {
        sound = s.0;
        some = range.0;
        small = range.1;
        room = less (length (entries q)) f.0;
        new = n.0;
        bounds = last_23 (put (triple key release id) (entries q)) n.1;
      }
    where
      less : (n : ℕ) → (places ≤ n → ⊥) → n < places
      less n other = omega arith
