-- How often ids stand in rounds, and where a list of rounds ends.
use Rattle.std.specs.Prelude.{◌≡◌, refl, ℕ, ◌+◌, length, get_or}
use Rattle.std.proofs.Common.{sym, ap, ◌∙◌, arith}
use Rattle.std.proofs.Math.Path.{subst}
use mathlib.Core.List.Pairwise
use mathlib.Core.List.{List, [], ◌∷◌, ◌++◌, Mem, Nodup, filter, mem-filter, mem-cons_self, map}
use Rattle.std.proofs.Math.Decide.{ℕ_discrete}
use Rattle.std.proofs.lemmas.List.{length-map}
use Rattle.std.proofs.Math.ListN.{get_or-map}
use Rattle.rules.specs.Streams.{Stream}
use Rattle.rules.specs.Slots.{passed}
use Rattle.rules.specs.Plans.{Round}
use Rattle.rules.specs.Runs
use Rattle.rules.proofs.Facts.Lists.{mem_nonempty, no_longer}
use Rattle.rules.proofs.Facts.RoundKept.{passed_elim}
use Rattle.rules.proofs.Facts.Packets.{advanced, advanced_next}
use Rattle.basics.specs.Counts.{times_in}
use Rattle.demands.specs.CallLists.{HeldRound, times_sent, end_of, start_of}

module _ (id : ℕ) (ids : List ℕ) (differ : Nodup ids) where
  abbrev same : List ℕ
  same = filter (λ (x : ℕ). ℕ_discrete x id) ids

  nodup_same : Nodup same
  nodup_same = Pairwise.filter (λ (x : ℕ). ℕ_discrete x id) differ

  in_same : (x : ℕ) → Mem x same → Mem x ids × (x ≡ id)
  in_same x m = (mem-filter (λ (y : ℕ). ℕ_discrete y id) {l = ids}).0 m

  -- in a list without repeats an id stands once, or never
  pub stands_once : Mem id ids → times_in id ids ≡ 1
  unfolding times_in
  stands_once there =
      let most = no_longer same (id ∷ []) nodup_same (λ x m. subst (λ (y : ℕ). Mem y (id ∷ [])) (sym (in_same x m).1) mem-cons_self) in
      let least = mem_nonempty same id ((mem-filter (λ (y : ℕ). ℕ_discrete y id) {l = ids}).1 (there, refl)) in
      omega (arith, most, least)

  -- an id that is not in the list stands there 0 times
  pub stands_never : (Mem id ids → ⊥) → times_in id ids ≡ 0
  unfolding times_in
  stands_never absent =
      let none = no_longer same [] nodup_same
      (λ x m. absurd (absent (subst (λ (y : ℕ). Mem y ids) (in_same x m).1 (in_same x m).0))) in
      omega (arith, none)

-- one more round adds what stands in it
pub times_sent_snoc : (id : ℕ) (rounds : List HeldRound) (r : HeldRound) → times_sent id (rounds ++ (r ∷ [])) ≡ times_sent id rounds + times_in id r.ids
unfolding times_sent
times_sent_snoc id [] r = omega arith
times_sent_snoc id (x ∷ rounds) r = omega (arith, times_sent_snoc id rounds r)

-- a stream passes on as often as its id stands in the round
pub passes_as_sent : (chosen : List Stream) → Nodup (map (λ (x : Stream). x.number) chosen) → (k : ℕ) (s : Stream)
    → passed chosen (advanced k s) ≡ advanced (k + times_in s.number (map (λ (x : Stream). x.number) chosen)) s
passes_as_sent chosen differ k s =
    let ids = map (λ (x : Stream). x.number) chosen in
    passed_elim chosen (λ y. y ≡ advanced (k + times_in s.number ids) s) (advanced k s)
    (λ here. rw (stands_once s.number ids differ here) (advanced_next s k))
    (λ not_here. let e : k + 0 ≡ k = omega arith in rw (stands_never s.number ids differ not_here, e) refl)

-- the start of the last round, or what it was before the first
unfoldable pub last_of : ℕ → List HeldRound → ℕ
last_of last [] = last
last_of last (r ∷ rounds) = last_of r.start rounds

-- with one more round at the end, the start of the last round is its start
pub last_snoc : (last : ℕ) (rounds : List HeldRound) (r : HeldRound) → last_of last (rounds ++ (r ∷ [])) ≡ r.start
unfolding last_of
last_snoc last [] r = refl
last_snoc last (x ∷ rounds) r = last_snoc x.start rounds r

-- the end of the last round is one after its start
pub last_is_end : (last : ℕ) (rounds : List HeldRound) → last_of last rounds + 1 ≡ end_of (last + 1) rounds
unfolding last_of end_of
last_is_end last [] = refl
last_is_end last (x ∷ rounds) = last_is_end x.start rounds

-- rounds of the rules that start as the held ones are as many, and start so one by one
pub same_starts : (played : List Round) (rounds : List HeldRound) → map (λ (r : Round). r.start) played ≡ map (λ (r : HeldRound). r.start) rounds
    → (length played ≡ length rounds) × ((k : ℕ) → Runs.start_of played k ≡ start_of rounds k)
same_starts played rounds starts = (
  sym (length-map played (λ (r : Round). r.start)) ∙ ap (length {A = ℕ}) starts ∙ length-map rounds (λ (r : HeldRound). r.start),
  λ k.
      sym (get_or-map (λ (r : Round). r.start) played k (record { start = 0; packets = [] }))
      ∙ ap (λ (xs : List ℕ). get_or xs k 0) starts
      ∙ get_or-map (λ (r : HeldRound). r.start) rounds k (record { start = 0; ids = [] }),
)
