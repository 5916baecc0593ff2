-- Ids sent one after the other, on any records: when all may be sent, and what they leave.
use Rattle.std.specs.Prelude.{◌≡◌, refl, ℕ, zero, suc, ◌+◌, ◌*◌, ◌≤◌, ◌<◌, length}
use Rattle.std.proofs.Common.{sym, ap, ◌∙◌, ⊎_elim, lt_irrefl, suc-mul, arith}
use Rattle.std.proofs.Math.Path.{subst, subst⁻¹}
use Rattle.std.proofs.Math.Logic.{ite, if_pos, if_neg, ∥∥₁_elim, ∥∥₁_prop}
use mathlib.Core.HLevel.{×_prop}
use mathlib.Core.List.{List, [], ◌∷◌, Mem, map, filter, map-map, map_congr_left, map-id, mem-map_of_mem, exists_of_mem-map}
use mathlib.Core.List.Pairwise
use mathlib.Core.List.{mem-cons, mem-cons_self, mem-cons_of_mem, not-mem-nil}
use Rattle.std.proofs.Math.Decide.{ℕ_discrete}
use Rattle.std.proofs.Math.Bridge.{le_prop}
use Rattle.basics.specs.Counts.{times_in}
use Rattle.basics.specs.Limits.{largest_id, longest_period}
use Rattle.rules.specs.Streams.{packet, MayRide}
use Rattle.table.specs.Table.{stream_of, with_release}
use Rattle.table.specs.Changes.{HasId, sent}
use Rattle.table.specs.Needs.{stepped, serve}
use Rattle.table.specs.declared.Record.{Record}
use Rattle.checker.specs.Plans.{sent_for, MaySend}
use Rattle.checker.specs.Columns.{Regular}
use Rattle.checker.specs.Needs.{MaySendOne, RidesNow}

-- an id in front counts once more for itself, and not for another
times_hit : {id x : ℕ} (ids : List ℕ) → x ≡ id → times_in id (x ∷ ids) ≡ suc (times_in id ids)
unfolding times_in
times_hit {id} {x} ids same =
    let rest = filter (λ (y : ℕ). ℕ_discrete y id) ids in
    ap (length {A = ℕ}) (if_pos (ℕ_discrete x id) same (x ∷ rest) rest)

times_miss : {id x : ℕ} (ids : List ℕ) → (x ≡ id → ⊥) → times_in id (x ∷ ids) ≡ times_in id ids
unfolding times_in
times_miss {id} {x} ids other =
    let rest = filter (λ (y : ℕ). ℕ_discrete y id) ids in
    ap (length {A = ℕ}) (if_neg (ℕ_discrete x id) other (x ∷ rest) rest)

times_none : (id : ℕ) → times_in id [] ≡ 0
unfolding times_in
times_none id = refl

-- two changes that are the same on each record are the same on all
same_changes : {A : Type 0} (f g : Record → A) (rs : List Record) → ((r : Record) → f r ≡ g r) → map f rs ≡ map g rs
same_changes f g rs same = map_congr_left {l = rs} (λ r m. same r)

-- sending nothing leaves a record as it is
sent_none : (rs : List Record) → map (sent_for []) rs ≡ rs
sent_none rs = same_changes (sent_for []) (λ r. r) rs go ∙ map-id rs
  where
    go : (r : Record) → sent_for [] r ≡ r
    go r =
        let same : r.release + times_in r.id [] * r.period ≡ r.release = rw (times_none r.id) (omega arith) in
        ap (with_release r) same

-- an id in front is sent, and then the others
sent_step : (x : ℕ) (ids : List ℕ) (r : Record) → sent_for (x ∷ ids) r ≡ sent_for ids (stepped x r)
sent_step x ids r = go (ℕ_discrete r.id x)
  where
    go : (d : Dec (r.id ≡ x)) → sent_for (x ∷ ids) r ≡ sent_for ids (ite d (sent r) r)
    go (yes same) =
        let more : r.release + times_in r.id (x ∷ ids) * r.period ≡ r.release + r.period + times_in r.id ids * r.period =
        rw (times_hit ids (sym same), suc-mul (times_in r.id ids) r.period) (omega arith) in
        ap (with_release r) more
    go (no other) =
        ap (λ (n : ℕ). with_release r (r.release + n * r.period))
        (times_miss ids (λ e. other (sym e)))

sent_first : (x : ℕ) (ids : List ℕ) (rs : List Record) → map (sent_for (x ∷ ids)) rs ≡ map (sent_for ids) (serve x rs)
unfolding serve
sent_first x ids rs =
    same_changes (sent_for (x ∷ ids)) (λ r. sent_for ids (stepped x r)) rs (sent_step x ids) ∙ sym (map-map (sent_for ids) (stepped x) rs)

-- serving keeps ids and periods
stepped_id : (x : ℕ) (r : Record) → (stepped x r).id ≡ r.id
stepped_id x r = go (ℕ_discrete r.id x)
  where
    go : (d : Dec (r.id ≡ x)) → (ite d (sent r) r).id ≡ r.id
    go (yes _) = refl
    go (no _) = refl

stepped_period : (x : ℕ) (r : Record) → (stepped x r).period ≡ r.period
stepped_period x r = go (ℕ_discrete r.id x)
  where
    go : (d : Dec (r.id ≡ x)) → (ite d (sent r) r).period ≡ r.period
    go (yes _) = refl
    go (no _) = refl

served_ids : (x : ℕ) (rs : List Record) → map (λ (r : Record). r.id) (serve x rs) ≡ map (λ (r : Record). r.id) rs
unfolding serve
served_ids x rs = map-map (λ (r : Record). r.id) (stepped x) rs
    ∙ same_changes (λ (r : Record). (stepped x r).id) (λ (r : Record). r.id) rs (stepped_id x)

stepped_deadline : (x : ℕ) (r : Record) → (stepped x r).deadline ≡ r.deadline
stepped_deadline x r = go (ℕ_discrete r.id x)
  where
    go : (d : Dec (r.id ≡ x)) → (ite d (sent r) r).deadline ≡ r.deadline
    go (yes _) = refl
    go (no _) = refl

-- records changed one by one, with all but their releases kept, stay regular
module _ (f : Record → Record) (ids : (r : Record) → (f r).id ≡ r.id) (periods : (r : Record) → (f r).period ≡ r.period)
    (deadlines : (r : Record) → (f r).deadline ≡ r.deadline) where
  each : (rs : List Record) (P : Record → Type 0) → ((r : Record) → IsProp (P r)) → ((r : Record) → Mem r rs → P (f r))
      → (q : Record) → Mem q (map f rs) → P q
  each rs P prop all q m = ∥∥₁_elim (exists_of_mem-map {f = f} {l = rs} m) (prop q) (λ found. subst P found.2 (all found.0 found.1))

  mapped_regular : (rs : List Record) → Regular rs → Regular (map f rs)
  mapped_regular rs regular = record {
    ascending = Pairwise.map (λ a b. le_prop) f (λ a b less. omega (arith, ids a, ids b, less)) regular.ascending;
    ids = each rs (λ r. r.id ≤ largest_id) (λ r. le_prop) (λ r m. omega (arith, ids r, regular.ids r m));
    periods = each rs (λ r. r.period ≤ longest_period) (λ r. le_prop) (λ r m. omega (arith, periods r, regular.periods r m));
    deadlines = each rs (λ r. r.deadline ≤ longest_period) (λ r. le_prop) (λ r m. omega (arith, deadlines r, regular.deadlines r m));
  }

pub served_regular : (x : ℕ) (rs : List Record) → Regular rs → Regular (serve x rs)
unfolding serve
served_regular x rs regular = mapped_regular (stepped x) (stepped_id x) (stepped_period x) (stepped_deadline x) rs regular

-- records stay regular where any ids are sent
pub sent_regular : (ids : List ℕ) (rs : List Record) → Regular rs → Regular (map (sent_for ids) rs)
sent_regular ids rs regular = mapped_regular (sent_for ids) (λ r. refl) (λ r. refl) (λ r. refl) rs regular

-- all packets of a record that a list sends may ride
abbrev Rides : ℕ → List ℕ → Record → Type 0
Rides start ids r = (m : ℕ) → m < times_in r.id ids → MayRide (packet (stream_of r) m) start

module _ (x : ℕ) (ids : List ℕ) (start : ℕ) where
  rides_on : (r : Record) → Rides start (x ∷ ids) r → (d : Dec (r.id ≡ x)) → Rides start ids (ite d (sent r) r)
  rides_on r all (yes same) m low =
      let here = all (suc m) (omega (arith, times_hit ids (sym same))) in
      omega (arith, here, suc-mul m r.period)
  rides_on r all (no other) m low = all m (omega (arith, times_miss ids (λ e. other (sym e))))

  rides_back : (r : Record) → (r.id ≡ x → RidesNow start r) → (d : Dec (r.id ≡ x)) → Rides start ids (ite d (sent r) r) → Rides start (x ∷ ids) r
  rides_back r now (yes same) later zero low = let here = now same in omega (arith, here)
  rides_back r now (yes same) later (suc m) low =
      let here = later m (omega (arith, times_hit ids (sym same))) in
      omega (arith, here, suc-mul m r.period)
  rides_back r now (no other) later m low = later m (omega (arith, times_miss ids (λ e. other (sym e))))

  module _ (rs : List Record) where
    first_may : MaySend rs (x ∷ ids) start → MaySendOne rs x start
    first_may may = record {
      held = may.held x mem-cons_self;
      ride = λ r m same. let here = may.ride r m 0 (omega (arith, times_hit ids (sym same))) in omega (arith, here);
    }

    rest_may : MaySend rs (x ∷ ids) start → MaySend (serve x rs) ids start
    unfolding serve
    rest_may may = record {
      held = λ id m. subst⁻¹ (λ (l : List ℕ). Mem id l) (served_ids x rs) (may.held id (mem-cons_of_mem x m));
      ride = λ q m k low. ∥∥₁_elim (exists_of_mem-map {f = stepped x} {l = rs} m) (×_prop le_prop le_prop)
          (λ found. subst (Rides start ids) found.2 (rides_on found.0 (may.ride found.0 found.1) (ℕ_discrete found.0.id x)) k low);
    }

    both_may : MaySendOne rs x start → MaySend (serve x rs) ids start → MaySend rs (x ∷ ids) start
    unfolding serve
    both_may one rest = record {
      held = λ id m. ∥∥₁_elim (mem-cons.0 m) ∥∥₁_prop
          (⊎_elim (λ same. subst⁻¹ (λ (n : ℕ). HasId n rs) same one.held)
          (λ later. subst (λ (l : List ℕ). Mem id l) (served_ids x rs) (rest.held id later)));
      ride = λ r m. rides_back r (one.ride r m) (ℕ_discrete r.id x) (rest.ride (stepped x r) (mem-map_of_mem (stepped x) m));
    }

-- Sending, part of the way: what is asked of all ids and what they leave is what is asked of the rest, from the records reached.
pub record Sending (rs : List Record) (ids : List ℕ) (start : ℕ) (cur : List Record) (rest : List ℕ) : Type 0 where
  pub on : MaySend rs ids start → MaySend cur rest start
  pub back : MaySend cur rest start → MaySend rs ids start
  pub same : map (sent_for ids) rs ≡ map (sent_for rest) cur

module _ {rs : List Record} {ids : List ℕ} {start : ℕ} where
  -- at first none has been sent
  pub none_sent : Sending rs ids start rs ids
  none_sent = record { on = λ may. may; back = λ may. may; same = refl }

  module _ {cur : List Record} {x : ℕ} {rest : List ℕ} (so_far : Sending rs ids start cur (x ∷ rest)) where
    -- one that may be sent is ..
    pub one_more_sent : MaySendOne cur x start → Sending rs ids start (serve x cur) rest
    one_more_sent one = record {
      on = λ may. rest_may x rest start cur (so_far.on may);
      back = λ may. so_far.back (both_may x rest start cur one may);
      same = so_far.same ∙ sent_first x rest cur;
    }

    -- .. and one that may not stops all
    pub one_stops : (MaySendOne cur x start → ⊥) → MaySend rs ids start → ⊥
    one_stops not may = not (first_may x rest start cur (so_far.on may))

  -- with none left all may be sent, and these are what they leave
  pub all_sent : {cur : List Record} → Sending rs ids start cur [] → MaySend rs ids start × (map (sent_for ids) rs ≡ cur)
  all_sent {cur} so_far = (
    so_far.back (record { held = λ id m. absurd (not-mem-nil m); ride = λ r m k low. absurd (lt_irrefl 0 (omega (arith, times_none r.id))) }),
    so_far.same ∙ sent_none cur,
  )
