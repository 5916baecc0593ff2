-- A sound plan that starts a round later than the planner does cannot go on.
use Rattle.std.specs.Prelude.{List, ◌∷◌, ℕ, zero, suc, ◌<◌, length}
use Rattle.std.proofs.Common.{arith}
use Rattle.rules.specs.Plans.{Round}
use Rattle.packet_bytes.specs.Layout.{Values}
use Rattle.state.specs.Content.{Content, content}
use Rattle.state.specs.Sound.{Sound}
use Rattle.state.proofs.Facts.Sound.{content_ready}
use Rattle.state.specs.declared.Planner.{Planner}
use Rattle.checker.specs.Plans.{Passed, none, first, IsSoundPlan}
use Rattle.demands.specs.CallLists.{HeldRound, Calls, start_of}
use Rattle.demands.specs.Rivals.{IsRivalOf}
use Rattle.demands.specs.Foreign.{StartsLater, GoesOnAs}
use Rattle.demands.proofs.Facts.Three.{demand_3}
use Rattle.demands.proofs.Facts.InFront.{seen_round, in_front, IdsDiffer, still_differ, front_is_rival}

-- rounds of any kind: an endless plan that starts one later than the planner's own is no rival
later_is_no_rival : (p : Planner) → Sound p → {own : List HeldRound} {q : Planner} → Calls p own q → (k : ℕ) → k < length own
    → (plan : ℕ → Round) → start_of own k < (plan k).start → IsRivalOf (content p) plan → ⊥
later_is_no_rival p sound {own} {q} calls k held plan later rival = omega (arith, (demand_3 p sound own q calls).fewest plan rival k held, later)

-- rounds that pass, laid in front of a rival of what they leave, make a rival of what was held before them, which starts as they do
goes_on : {h left : Content} {rounds : List Values} → Passed h rounds left → IdsDiffer h → (plan : ℕ → Round) → IsRivalOf left plan
    → (whole : ℕ → Round) × (IsRivalOf h whole × GoesOnAs rounds whole)
unfolding in_front
goes_on none differ plan rival = (plan, (rival, λ k below. absurd (omega arith)))
goes_on (first {h} {c} {rounds} v passes rest) differ plan rival =
    let (later, (is, starts)) = goes_on rest (still_differ h v differ) plan rival in
    (in_front (seen_round h v) later, (front_is_rival h v passes differ later is, as_planned later starts))
  where
    as_planned : (later : ℕ → Round) → GoesOnAs rounds later → GoesOnAs (v ∷ rounds) (in_front (seen_round h v) later)
    as_planned later starts zero below = omega arith
    as_planned later starts (suc k) below = starts k (omega arith)

module _ (p : Planner) (sound : Sound p) {bytes : List ℕ} (plan : IsSoundPlan (content p) bytes) {own : List HeldRound} {q : Planner} (calls : Calls p own q)
    (k : ℕ) (later : StartsLater own plan.rounds k)
  where
    -- Annex 12.31: where some round of a sound plan starts later than the planner's own of the same number, nothing endless that serves all and keeps
    -- the gap limit goes on from it: no rival begins with its starts ..
    pub no_continuation : (further : ℕ → Round) → GoesOnAs plan.rounds further → IsRivalOf (content p) further → ⊥
    no_continuation further goes rival =
        later_is_no_rival p sound calls k later.held further (omega (arith, goes k later.planned, later.later)) rival

    -- Annex 12.31: .. and there is none of what it leaves
    pub no_continuation_from_left : (further : ℕ → Round) → IsRivalOf plan.left further → ⊥
    no_continuation_from_left further rival =
        let (whole, (is, starts)) = goes_on plan.passed (content_ready (content p) sound.content_sound).table.differ further rival in
        no_continuation whole starts is
