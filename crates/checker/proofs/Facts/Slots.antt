-- The slots of a round sent one after the other.
use Rattle.std.specs.Prelude.{◌≡◌, List, ◌∷◌, ℕ, ◌+◌, ◌≤◌, ◌<◌, length, get_or, drop, map}
use Rattle.std.proofs.Common.{sym, ap, subst, ◌∙◌, add-one, drop_of_length-le, drop-cons}
use Rattle.table.specs.Needs.{serve}
use Rattle.table.specs.declared.Record.{Record}
use Rattle.checker.specs.Plans.{sent_for, MaySend}
use Rattle.checker.specs.Needs.{MaySendOne}
use Rattle.checker.proofs.Facts.Sending.{Sending, one_more_sent, one_stops, all_sent}

module _ {before cur : List Record} {listed : List ℕ} {start k : ℕ} (so_far : Sending before listed start cur (drop k listed)) where
  next : k < length listed → drop k listed ≡ get_or listed k 0 ∷ drop (k + 1) listed
  next low = drop-cons listed k 0 low ∙ ap (λ (j : ℕ). get_or listed k 0 ∷ drop j listed) (sym (add-one k))

  module _ (low : k < length listed) where
    at_next : Sending before listed start cur (get_or listed k 0 ∷ drop (k + 1) listed)
    at_next = subst (Sending before listed start cur) (next low) so_far

    -- where the next may not be sent, not all may ..
    pub one_refused : (MaySendOne cur (get_or listed k 0) start → ⊥) → MaySend before listed start → ⊥
    one_refused not = one_stops at_next not

    -- .. and else one more has been
    pub one_more : {after : List Record} → MaySendOne cur (get_or listed k 0) start × (after ≡ serve (get_or listed k 0) cur)
        → Sending before listed start after (drop (k + 1) listed)
    one_more done = subst (λ (l : List Record). Sending before listed start l (drop (k + 1) listed)) (sym done.1) (one_more_sent at_next done.0)

  -- when none is left, all have been
  pub all_through : length listed ≤ k → MaySend before listed start × (cur ≡ map (sent_for listed) before)
  all_through done =
      let through = all_sent (subst (Sending before listed start cur) (drop_of_length-le listed {i = k} done) so_far) in
      (through.0, sym through.1)
