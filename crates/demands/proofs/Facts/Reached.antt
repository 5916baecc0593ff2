-- The rounds that a list of calls holds are the first of the planner's own rounds for ever, so that the bound of fewest rounds is reached.
use Rattle.std.specs.Prelude.{◌≡◌, refl, List, [], ◌∷◌, ◌++◌, ℕ, suc, ◌≤◌, ◌<◌, length}
use Rattle.std.proofs.Common.{sym, ap, subst, ◌∙◌, lt_irrefl, add-one, arith, length-append}
use Rattle.std.proofs.Math.Decide.{dec_lt}
use Rattle.std.proofs.Math.ListN.{get_or-append}
use Rattle.std.proofs.Math.Seq.{get_or-append_seam}
use Rattle.rules.specs.Demand.{IsLazyStart}
use Rattle.rules.specs.Plans.{Round}
use Rattle.rules.specs.Runs.{State, Held, none, then, round_at, state_at, IsLazyRun}
use Rattle.rules.specs.Runs
use Rattle.rules.proofs.Facts.LazyStart.{lazy_unique}
use Rattle.state.specs.Content.{content, slots_of, start_gap_of}
use Rattle.state.specs.Sound.{Sound}
use Rattle.state.specs.declared.Planner.{Planner}
use Rattle.demands.specs.CallLists.{HeldRound, Calls, start_of}
use Rattle.demands.specs.Rivals.{IsRivalOf}
use Rattle.demands.proofs.Facts.CallLists.{same_starts}
use Rattle.demands.proofs.Facts.EndlessRounds.{state_of, own_starts, own_rounds, own_lazy, own_is_rival}
use Rattle.demands.proofs.Facts.Held.{calls_follow}

-- lazy rounds that were held are the first of those for ever
held_is_run : (b gap : ℕ) (st : State) (starts : ℕ → ℕ) → IsLazyRun b gap st starts → {rounds : List Round} {at : State} → Held b gap st rounds at
    → (at ≡ state_at b gap st starts (length rounds)) × ((k : ℕ) → k < length rounds → Runs.start_of rounds k ≡ starts k)
unfolding state_at
held_is_run b gap st starts lazy none = (refl, λ k below. absurd (lt_irrefl 0 (omega arith)))
held_is_run b gap st starts lazy (then {rounds} {at} held s is) =
    let (same, before) = held_is_run b gap st starts lazy held in
    let n = length rounds in
    let there = state_at b gap st starts n in
    let start : s ≡ starts n =
    lazy_unique b there.cap there.table s (starts n) (subst (λ (x : State). IsLazyStart b x.cap x.table s) same is) (lazy n) in
    let long : length (rounds ++ (round_at b at s ∷ [])) ≡ suc n = length-append rounds (round_at b at s ∷ []) ∙ add-one n in (
      (λ i. Runs.after b gap (same i) (start i)) ∙ ap (state_at b gap st starts) (sym long),
      λ k below. go k before start (dec_lt k n) (omega (arith, long)),
    )
  where
    go : (k : ℕ) → ((j : ℕ) → j < length rounds → Runs.start_of rounds j ≡ starts j) → s ≡ starts (length rounds) → Dec (k < length rounds)
        → k ≤ length rounds → Runs.start_of (rounds ++ (round_at b at s ∷ [])) k ≡ starts k
    go k before start (yes earlier) most =
        ap (λ (r : Round). r.start) (get_or-append rounds (round_at b at s ∷ []) (record { start = 0; packets = [] }) k earlier) ∙ before k earlier
    go k before start (no late) most =
        let last : k ≡ length rounds = omega arith in
        rw last (ap (λ (r : Round). r.start) (get_or-append_seam rounds (round_at b at s) [] (record { start = 0; packets = [] })) ∙ start)

-- Annex 12.22: a rival whose k-th round starts when the k-th held one does, whatever calls are made: no rival holds one later, and this one holds it then
pub fewest_is_reached : (p : Planner) → Sound p
    → (plan : ℕ → Round) × (IsRivalOf (content p) plan
    × ((rounds : List HeldRound) (q : Planner) → Calls p rounds q → (k : ℕ) → k < length rounds → (plan k).start ≡ start_of rounds k))
fewest_is_reached p sound = (own_rounds (content p), (own_is_rival (content p) sound.content_sound, held_then))
  where
    held_then : (rounds : List HeldRound) (q : Planner) → Calls p rounds q → (k : ℕ) → k < length rounds
        → (own_rounds (content p) k).start ≡ start_of rounds k
    held_then rounds q calls k below =
        let h = content p in
        let follows = (calls_follow p sound calls).1 in
        let (many, same) = same_starts follows.played rounds follows.starts in
        let first = (held_is_run (slots_of h) (start_gap_of h) (state_of h) (own_starts h) (own_lazy h sound.content_sound) follows.lazy).1 in
        sym (first k (omega arith)) ∙ same k
