-- The calls beside the planner's own meet demand 1.
use Rattle.std.specs.Prelude.{◌≡◌, refl, ℕ, ◌≤◌, drop}
use Rattle.std.proofs.Common.{sym, ap, ◌∙◌, lt_irrefl, arith, take-append-drop}
use Rattle.std.proofs.Math.Path.{subst⁻¹}
use mathlib.Core.List.{List, [], ◌∷◌, cons≢nil}
use Rattle.std.proofs.Math.Decide.{dec_le, ℕ_discrete}
use Rattle.basics.specs.Refusals.{Refusal, FirstOf, none, here, later, answer_of}
use Rattle.basics.specs.Facts.Refusals.{answer_is_first}
use Rattle.basics.specs.Limits.{longest_frame}
use Rattle.places.specs.Order.{Entry}
use Rattle.queue.specs.Layout.{Sound}
use Rattle.queue.specs.Layout.Decide.{decide_sound}
use Rattle.queue.specs.Calls.{unsound, IsChange, first_of, refused_find}
use Rattle.queue.specs.declared.Queue.{Queue}
use Rattle.queue.specs.declared.Changed.{Changed}
use Rattle.queue.specs.declared.Found.{Found}
use Rattle.superframe.specs.Periods.{AllInRange}
use Rattle.superframe.specs.Decide.{decide_in_range, lcm_exists}
use Rattle.superframe.specs.Superframe.{superframe_of, by_range, within_limit}
use Rattle.superframe.specs.Facts.Periods.{lcm_unique}
use Rattle.packets.specs.Reading.{read_refusals, refused_read, IsRead}
use Rattle.packets.specs.Facts.Reading.{no_part}
use Rattle.packets.specs.declared.Header.{Header}
use Rattle.command.proofs.Facts.Inside.{script_inside}
use Rattle.demands.specs.OtherCalls.{Meets, none_found, find_refusals, bad_period, above_limit, superframe_refusals, OtherCallsMeet}

-- a change of a queue
change_meets : {refusals : List Refusal} {q : Queue} {es : List Entry} {r : Changed} → IsChange refusals q es r → Meets refusals r.answer (r.queue ≡ q)
change_meets {refusals} is =
    record {
      first = subst⁻¹ (FirstOf refusals) is.answer (answer_is_first refusals);
      refused = λ nonzero. is.refused (λ zero. nonzero (is.answer ∙ zero));
    }

-- the first of some entries, however it was decided whether the queue is sound
find_meets : {q : Queue} (d : Dec (Sound q)) (es : List Entry) (r : Found) → r ≡ first_of d es
    → Meets (find_refusals q es) r.answer (r ≡ refused_find r.answer)
unfolding first_of
find_meets (no bad) es r is = rw is (record { first = here bad; refused = λ _. refl })
find_meets {q} (yes sound) [] r is = rw is (record { first = later {r = unsound q} (λ bad. bad sound) (here {r = none_found []} refl); refused = λ _. refl })
find_meets {q} (yes sound) (e ∷ es) r is =
    rw is (record {
      first = later {r = unsound q} (λ bad. bad sound) (later {r = none_found (e ∷ es)} (λ nothing. cons≢nil nothing) none);
      refused = λ nonzero. absurd (nonzero refl);
    })

-- superframe, however it was decided whether all periods are in range ..
frame_meets : (periods : List ℕ) (d : Dec (AllInRange periods))
    → Meets (superframe_refusals periods) (by_range periods d).answer ((by_range periods d).value ≡ 0)
unfolding by_range within_limit
frame_meets periods (no bad) = record { first = here bad; refused = λ _. refl }
frame_meets periods (yes good) = go (dec_le m longest_frame)
  where
    m : ℕ
    m = (lcm_exists periods good).0

    -- .. and its least common multiple within the limit
    go : (e : Dec (m ≤ longest_frame)) → Meets (superframe_refusals periods) (within_limit m e).answer ((within_limit m e).value ≡ 0)
    go (yes within) =
        let within_it : (above_limit periods).Applies → ⊥ = λ above. lt_irrefl 0 (omega (arith, above good m (lcm_exists periods good).1)) in
        record {
          first = later {r = bad_period periods} (λ bad. bad good) (later {r = above_limit periods} within_it none);
          refused = λ nonzero. absurd (nonzero refl);
        }
    go (no past) =
        let above_it : (above_limit periods).Applies = λ _ n is. omega (arith, lcm_unique periods m n (lcm_exists periods good).1 is) in
        record {
          first = later {r = bad_period periods} (λ bad. bad good) (here {r = above_limit periods} above_it);
          refused = λ _. refl;
        }

-- a read answers as its refusals do
read_answers : {p : List ℕ} {r : Header} → IsRead p r → r.answer ≡ answer_of (read_refusals p)
read_answers {p} {r} is = go (ℕ_discrete (answer_of (read_refusals p)) 0)
  where
    go : Dec (answer_of (read_refusals p) ≡ 0) → r.answer ≡ answer_of (read_refusals p)
    go (yes zero) = ap (λ (h : Header). h.answer) (is.read zero).3 ∙ sym zero
    go (no some) = ap (λ (h : Header). h.answer) (is.refused some)

read_meets_it : (p : List ℕ) (r : Header) → IsRead p r → Meets (read_refusals p) r.answer (r ≡ refused_read r.answer)
read_meets_it p r is =
    let answers = read_answers is in
    record {
      first = subst⁻¹ (FirstOf (read_refusals p)) answers (answer_is_first (read_refusals p));
      refused = λ nonzero. is.refused (λ zero. nonzero (answers ∙ zero)) ∙ ap refused_read (sym answers);
    }

-- Annex 12.1, 12.2: each of the other calls meets demand 1
pub other_calls_meet : OtherCallsMeet
unfolding superframe_of
other_calls_meet =
    record {
      insert_meets = λ q id key release r is. change_meets is;
      delete_meets = λ q id r is. change_meets is;
      move_meets = λ q id amount r is. change_meets is;
      least_meets = λ q r is. find_meets (decide_sound q) _ r is;
      next_meets = λ q key release id r is. find_meets (decide_sound q) _ r is;
      superframe_meets = λ periods. frame_meets periods (decide_in_range periods);
      write_meets = λ v before after answer is.
          record {
            first = subst⁻¹ (FirstOf _) is.answers (answer_is_first _);
            refused = λ nonzero. is.refused (λ zero. nonzero (is.answers ∙ zero));
          };
      read_meets = read_meets_it;
      ids_meet = λ p r is nonzero. sym (no_part p (λ zero. nonzero (read_answers is ∙ zero)));
      filled_meets = λ buffer part n is. (drop n buffer, sym (take-append-drop n buffer) ∙ rw is refl);
      script_meets = λ script before after r is. script_inside is;
    }
