-- The messages that wait: what a sound planner holds stays sound with one more, and with the first ones gone.
use Rattle.std.specs.Prelude.{◌≡◌, refl, ℕ, ◌<◌, length, take, drop}
use Rattle.std.proofs.Common.{subst, lt_irrefl, arith, length-append, length-drop, length-take, take-append-drop}
use Rattle.std.proofs.Math.Path.{subst⁻¹}
use Rattle.std.proofs.Math.Logic.Or
use Rattle.std.proofs.Math.Logic.Dec.{not-not as Dec-not_not}
use mathlib.Core.HLevel.{×_prop}
use mathlib.Core.List.{List, Mem, [], ◌∷◌, ◌++◌, mem-append, mem-append_right, eq-or-mem_of_mem-cons, not-mem-nil}
use Rattle.std.proofs.Math.Bridge.{le_prop}
use Rattle.basics.specs.Limits.{most_waiting}
use Rattle.basics.specs.Refusals.{answer_of}
use Rattle.basics.specs.Facts.Refusals.{answer_zero}
use Rattle.messages.specs.Waiting.{IsMessage, waiting_of}
use Rattle.messages.specs.Needs.{HasWaiting}
use Rattle.messages.specs.declared.Waiting.{Waiting}
use Rattle.state.specs.Content.{Content, content, with_waiting}
use Rattle.state.specs.Sound.{MailInRange, ContentSound, Sound}
use Rattle.state.proofs.Decide.{decide_sound}
use Rattle.planner.specs.AddRemove.{unsound, IsSoundWith}
use Rattle.planner.specs.Send.{no_message, mail_full, send_refusals, posted}
use Rattle.state.proofs.Facts.Open.{range_numbers, in_range_by_numbers}
use Rattle.planner.specs.Needs.{CanSend, with_list}
use Rattle.state.specs.declared.Planner.{Planner}

-- with the first ones gone, the others are in range
pub first_gone : {on : ℕ} {ns : List ℕ} → MailInRange on ns → (k : ℕ) → MailInRange on (drop k ns)
first_gone {on} {ns} mail k =
    record {
      few = omega (arith, length-drop k ns, mail.few);
      range = λ n m. mail.range n (subst (λ (l : List ℕ). Mem n l) (take-append-drop k ns) (mem-append_right (take k ns) m));
    }

-- with a message more behind them, all are
one_more : {ns : List ℕ} {n : ℕ} → MailInRange 1 ns → length ns < most_waiting → IsMessage n → MailInRange 1 (ns ++ (n ∷ []))
one_more {ns} {n} mail free is =
    record {
      few = omega (arith, length-append ns (n ∷ []), free);
      range = λ x m. Or.elim (×_prop le_prop le_prop) (mem-append.0 m) (mail.range x)
          (λ last. Or.elim (×_prop le_prop le_prop) (eq-or-mem_of_mem-cons last)
          (λ same. subst⁻¹ (λ (y : ℕ). IsMessage y) same is) (λ none. absurd (not-mem-nil none)));
    }

-- what a planner holds is sound with other messages that are in range ..
pub waits_sound : {h : Content} → ContentSound h → {ns : List ℕ} → MailInRange h.setting.messages ns → ContentSound (with_waiting h ns)
waits_sound sound mail =
    let range = sound.in_range in
    record {
      in_range = in_range_by_numbers (range_numbers range) range.at_most range.records mail;
      near = sound.near;
      demand_rule = sound.demand_rule;
      start_rule = sound.start_rule;
    }

-- .. and so is the planner
pub waits_with : {h : Content} {p : Planner} → IsSoundWith h p → {ns : List ℕ} {w : Waiting} → HasWaiting ns w → MailInRange h.setting.messages ns
    → IsSoundWith (with_waiting h ns) (with_list p w)
waits_with {h} {p} is {ns} {w} has mail =
    let holds : content (with_list p w) ≡ with_waiting h ns = λ i. with_waiting (is.holds i) (has.numbers i) in
    record {
      holds = holds;
      sound =
          record {
            count = is.sound.count;
            waiting_count = has.count;
            content_sound = subst⁻¹ ContentSound holds (waits_sound (subst ContentSound is.holds is.sound.content_sound) mail);
            queue_sound = is.sound.queue_sound;
            files = is.sound.files;
          };
    }

-- where send refuses nothing, the planner is sound
pub sent_is_sound : (p : Planner) (n : ℕ) → answer_of (send_refusals p n) ≡ 0 → Sound p
sent_is_sound p n none =
    (Dec-not_not (decide_sound p)).0
    (answer_zero (unsound p) (no_message n (content p) ∷ mail_full (content p) ∷ []) (λ e. lt_irrefl 0 (omega (arith, e))) none).0

-- the planner in which the number waits too
pub posted_with : {p : Planner} {n : ℕ} → CanSend p n → {w : Waiting}
    → HasWaiting (waiting_of p.waiting ++ (n ∷ [])) w → IsSoundWith (posted (content p) n) (with_list p w)
posted_with {p} {n} can has =
    let mail = can.sound.content_sound.in_range.mail in
    waits_with (record { holds = refl; sound = can.sound }) has
    (subst⁻¹ (λ (on : ℕ). MailInRange on (waiting_of p.waiting ++ (n ∷ []))) can.on
    (one_more (subst (λ (on : ℕ). MailInRange on (waiting_of p.waiting)) can.on mail)
    (omega (arith, length-take p.waiting.count p.waiting.numbers, can.place_free)) can.message))
