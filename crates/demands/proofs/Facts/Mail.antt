-- Messages leave first come first out, and each in its turn.
use Rattle.std.specs.Prelude.{◌≡◌, refl, List, [], ◌∷◌, ◌++◌, ℕ, ◌≤◌, length, take, drop}
use Rattle.std.proofs.Common.{ap, ◌∙◌, arith}
use Rattle.std.proofs.Math.Path.{subst⁻¹}
use Rattle.std.proofs.Math.Decide.{ℕ_discrete}
use Rattle.std.proofs.Math.Seq.{take-nil, drop-nil}
use Rattle.basics.specs.Refusals.{Refusal}
use Rattle.state.specs.Content.{Content, content}
use Rattle.state.specs.Sound.{ContentSound, Sound}
use Rattle.planner.specs.Round.{free_at}
use Rattle.planner.proofs.Facts.Calls.{refused_change, success_change, refused_round, success_round}
use Rattle.planner.proofs.Facts.Listed.{slot_free}
use Rattle.state.specs.declared.Planner.{Planner}
use Rattle.demands.specs.CallLists.{Asked, add, remove}
use Rattle.demands.specs.Mail.{MailCalls, none, asked, not_sent, sent, not_held, held, FirstOut, LeavesInTurn}
use Rattle.demands.proofs.Facts.Written.{messages_written}
use Rattle.demands.proofs.Facts.Leaving.{Mail, at_first, joins, leave, in_turn, out_in_turn}

-- add and remove leave the messages
still_waiting : {q : Planner} {refusals : List Refusal} {h : Content} → Asked q refusals h → h.waiting ≡ (content q).waiting
still_waiting (add o) = refl
still_waiting (remove id) = refl

-- of what waits in a sound planner, as many leave with a round as are free, and some slot is where any waits
one_leaves : (h : Content) → ContentSound h → (s : ℕ) {first numbers : List ℕ} {left : List (List ℕ)} → Mail first numbers left h.waiting
    → Mail first numbers (left ++ (take (free_at h s) h.waiting ∷ [])) (drop (free_at h s) h.waiting)
one_leaves h sound s {first} {numbers} {left} mail = go (ℕ_discrete h.setting.messages 1)
  where
    go : Dec (h.setting.messages ≡ 1) → Mail first numbers (left ++ (take (free_at h s) h.waiting ∷ [])) (drop (free_at h s) h.waiting)
    go (yes on) = leave mail (free_at h s) (slot_free h sound on s)
    go (no off) = empty h.waiting (omega (arith, sound.in_range.mail.few, sound.in_range.setting.flag, off)) mail
      where
        empty : (waiting : List ℕ) → length waiting ≤ 0 → Mail first numbers left waiting
            → Mail first numbers (left ++ (take (free_at h s) waiting ∷ [])) (drop (free_at h s) waiting)
        empty [] few mail =
            let none_taken : take (free_at h s) [] ≡ [] = take-nil (free_at h s) in
            let none_dropped : drop (free_at h s) [] ≡ [] = drop-nil (free_at h s) in
            subst⁻¹ (λ (l : List ℕ). Mail first numbers (left ++ (l ∷ [])) (drop (free_at h s) [])) none_taken
            (subst⁻¹ (Mail first numbers (left ++ ([] ∷ []))) none_dropped (leave mail 1 (omega arith)))
        empty (n ∷ ns) few mail = absurd (omega arith)

-- after a list of calls the planner is sound, and what has left and what waits is mail
abbrev AfterMail : Planner → List (List ℕ) → List ℕ → Planner → Type 0
AfterMail p left accepted q = Sound q × Mail (content p).waiting accepted left (content q).waiting

-- whatever the calls are
calls_are_mail : (p : Planner) → Sound p → {left : List (List ℕ)} {accepted : List ℕ} {q : Planner} → MailCalls p left accepted q → AfterMail p left accepted q
calls_are_mail p sound none = (sound, at_first)
calls_are_mail p sound (asked {left} {accepted} {q} calls call r is) = go (calls_are_mail p sound calls) (ℕ_discrete r.answer 0)
  where
    go : AfterMail p left accepted q → Dec (r.answer ≡ 0) → AfterMail p left accepted r.planner
    go so_far (no nonzero) = subst⁻¹ (AfterMail p left accepted) (refused_change is nonzero) so_far
    go so_far (yes zero) =
        let w = success_change is zero in
        (w.sound, subst⁻¹ (Mail (content p).waiting accepted left) (ap (λ (c : Content). c.waiting) w.holds ∙ still_waiting call) so_far.1)
calls_are_mail p sound (not_sent {left} {accepted} calls n r is nonzero) =
    subst⁻¹ (AfterMail p left accepted) (refused_change is nonzero) (calls_are_mail p sound calls)
calls_are_mail p sound (sent {left} {accepted} calls n r is zero) =
    let w = success_change is zero in
    let more = joins (calls_are_mail p sound calls).1 n in
    (w.sound, subst⁻¹ (λ (c : Content). Mail (content p).waiting (accepted ++ (n ∷ [])) left c.waiting) w.holds more)
calls_are_mail p sound (not_held {left} {accepted} calls before after r is nonzero) =
    subst⁻¹ (AfterMail p left accepted) (refused_round is nonzero).planner (calls_are_mail p sound calls)
calls_are_mail p sound (held {left} {accepted} {q} calls before after r is zero) =
    let w = success_round is zero in
    let so_far = calls_are_mail p sound calls in
    let first = (content p).waiting in
    let listed = take (free_at (content q) r.start) (content q).waiting in (
      w.planner.sound,
      subst⁻¹ (λ (ms : List ℕ). Mail first accepted (left ++ (ms ∷ [])) (content r.planner).waiting) (messages_written q so_far.0 before after r w)
          (subst⁻¹ (λ (c : Content). Mail first accepted (left ++ (listed ∷ [])) c.waiting) w.planner.holds
          (one_leaves (content q) so_far.0.content_sound r.start so_far.1)),
    )

-- Annex 12.28: first come first out
pub first_out : FirstOut
first_out p sound left accepted q calls = in_turn (calls_are_mail p sound calls).1

-- Annex 12.29: with q others ahead a message leaves no later than the (q + 1)-th held round
pub leaves_in_turn : LeavesInTurn
leaves_in_turn p sound left accepted q calls = out_in_turn (calls_are_mail p sound calls).1
