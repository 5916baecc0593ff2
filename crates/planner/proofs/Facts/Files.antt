-- A queue that files the records of a table: it goes on doing so through an insertion, a deletion and a move, and none of them is refused.
use Rattle.std.specs.Prelude.{◌≡◌, refl, ◌↔◌, ℕ, ◌+◌, ◌≤◌, ◌<◌, length}
use Rattle.std.proofs.Common.{sym, ap, subst, ◌∙◌, le_antisymm, lt_irrefl, arith}
use Rattle.std.proofs.Math.Path.{subst⁻¹}
use Rattle.std.proofs.Math.Logic.Or
use Rattle.std.proofs.Math.Logic.{◌∨₁◌, ite, ∥∥₁_elim, ∥∥₁_map, ∥∥₁_prop}
use mathlib.Core.HLevel.{×_prop, ¬_prop}
use mathlib.Core.List.Pairwise
use mathlib.Core.List.{List, Mem, Mem-prop, Nodup, map, mem-map, mem-map_of_mem}
use Rattle.std.proofs.Math.Bridge.{le_prop}
use Rattle.std.proofs.Math.Decide.{ℕ_discrete}
use Rattle.std.proofs.lemmas.List.{length-map}
use Rattle.basics.specs.Limits.{places, longest_period, furthest_release, largest_key, key_span, largest_id}
use Rattle.basics.specs.OneTo.{OneTo}
use Rattle.rules.proofs.Facts.Lists.{no_longer}
use Rattle.table.specs.Table.{due_of}
use Rattle.table.specs.Changes.{HasId, Ascending, put_by_id, without_id, sent}
use Rattle.table.specs.Needs.{stepped}
use Rattle.table.specs.Facts.Records.{one_record}
use Rattle.table.specs.declared.Record.{Record}
use Rattle.queue.specs.Interface.{Entry, Before, put, without, moved_on, moved, Filed, InBounds, entries, CanInsert, CanDelete}
use Rattle.queue.specs.InterfaceLaws.{entry_path, entry_set, before_asym, AreOnce, in_put_iff, in_without_iff, in_moved_iff, entries_in_order}
use Rattle.queue.specs.Interface
use Rattle.queue.specs.declared.Queue.{Queue}
use Rattle.state.specs.Content.{content, now_of}
use Rattle.state.specs.Sound.{InRange, entry_of, Files, Sound}
use Rattle.state.proofs.Facts.Table.{in_put_by_id, put_all, in_without_id}
use Rattle.state.specs.declared.Planner.{Planner}

-- the entries of a table's records, as a list
in_entries : (rs : List Record) (e : Entry) → Mem e (map entry_of rs) ↔ ∥ ((s : Record) × Mem s rs × (e ≡ entry_of s)) ∥₁
in_entries rs e = (
  λ m. ∥∥₁_map (mem-map.0 m) (λ w. (w.0, w.1, sym w.2)),
  λ some. mem-map.1 (∥∥₁_map some (λ w. (w.0, w.1, sym w.2))),
)

module _ (es : List Entry) (rs : List Record) (files : Files es rs) where
  -- each record's entry is filed
  files_entry : (s : Record) → Mem s rs → Mem (entry_of s) es
  files_entry s m = (files (entry_of s)).1 ∣ (s, m, refl) ∣₁

  -- the ids filed are those of the records
  pub files_filed : (id : ℕ) → Filed id es ↔ HasId id rs
  files_filed id = (
    λ filed. ∥∥₁_elim filed Mem-prop
        (λ v. ∥∥₁_elim ((files v.0).0 v.1) Mem-prop
        (λ w. subst (λ (n : ℕ). HasId n rs) (sym (ap (λ (e : Entry). e.id) w.2) ∙ v.2) (mem-map_of_mem (λ (s : Record). s.id) w.1))),
    λ held. ∥∥₁_map (mem-map.0 held) (λ w. (entry_of w.0, files_entry w.0 w.1, w.2)),
  )

  -- no release is after its key
  pub files_released : (e : Entry) → Mem e es → e.release ≤ e.key
  files_released e m = ∥∥₁_elim ((files e).0 m) le_prop (λ w. subst⁻¹ (λ (a : Entry). a.release ≤ a.key) w.2 (omega arith))

  -- keys lie where the due times lie
  pub files_within : (low high : ℕ) → ((s : Record) → Mem s rs → (low ≤ due_of s) × (due_of s ≤ high))
      → (e : Entry) → Mem e es → (low ≤ e.key) × (e.key ≤ high)
  files_within low high within e m =
      ∥∥₁_elim ((files e).0 m) (×_prop le_prop le_prop) (λ w. subst⁻¹ (λ (a : Entry). (low ≤ a.key) × (a.key ≤ high)) w.2 (within w.0 w.1))

module _ (es : List Entry) (rs : List Record) where
  -- with a record's entry inserted it files the table with that record
  pub files_inserted : (x : Record) → Files es rs → Files (put (entry_of x) es) (put_by_id x rs)
  files_inserted x files e = (
    λ m. Or.elim ∥∥₁_prop ((in_put_iff (entry_of x) es e).0 m) (λ same. ∣ (x, (in_put_by_id x rs x).1 (Or.inl refl), same) ∣₁)
        (λ old. ∥∥₁_map ((files e).0 old) (λ w. (w.0, (in_put_by_id x rs w.0).1 (Or.inr w.1), w.2))),
    λ some. (in_put_iff (entry_of x) es e).1
        (∥∥₁_elim some ∥∥₁_prop
        (λ w. Or.elim ∥∥₁_prop ((in_put_by_id x rs w.0).0 w.1)
        (λ same. Or.inl (w.2 ∙ ap entry_of same))
        (λ old. Or.inr ((files e).1 ∣ (w.0, old, w.2) ∣₁)))),
  )

  -- with an id's entry deleted it files the table without that id
  pub files_without : (id : ℕ) → Files es rs → Files (without id es) (without_id id rs)
  files_without id files e = (
    λ m. let left = (in_without_iff id es e).0 m in
        ∥∥₁_map ((files e).0 left.0) (λ w. (w.0, (in_without_id id rs w.0).1 (w.1, λ same. left.1 (ap (λ (a : Entry). a.id) w.2 ∙ same)), w.2)),
    λ some. (in_without_iff id es e).1
        (∥∥₁_elim some (×_prop Mem-prop ¬_prop)
        (λ w. let left = (in_without_id id rs w.0).0 w.1 in
        ((files e).1 ∣ (w.0, left.0, w.2) ∣₁, λ same. left.1 (sym (ap (λ (a : Entry). a.id) w.2) ∙ same)))),
  )

module _ (q : Queue) (sound : Interface.Sound q) (rs : List Record) (ascending : Ascending rs) where
  entries_differ : Nodup (entries q)
  entries_differ =
      Pairwise.imp (λ a b first same. let self : Before a a = subst⁻¹ (Before a) same first in before_asym a a self self) (entries_in_order q sound)

  record_entries_differ : Nodup (map entry_of rs)
  record_entries_differ =
      Pairwise.map (λ a b. ¬_prop) entry_of (λ a b less same. lt_irrefl a.id (omega (arith, less, ap (λ (e : Entry). e.id) same))) ascending

  -- there are as many entries as records
  pub files_length : Files (entries q) rs → length (entries q) ≡ length rs
  files_length files =
      le_antisymm
      (rw (length-map rs entry_of) at (no_longer (entries q) (map entry_of rs) entries_differ (λ e m. (in_entries rs e).1 ((files e).0 m))))
      (rw (length-map rs entry_of) at (no_longer (map entry_of rs) (entries q) record_entries_differ (λ e m. (files e).1 ((in_entries rs e).0 m))))

-- keys among 480 in a row are within the bounds
pub within_bounds : (es : List Entry) (low : ℕ) → low + key_span ≤ largest_key → ((e : Entry) → Mem e es → (low ≤ e.key) × (e.key ≤ low + key_span))
    → ((e : Entry) → Mem e es → e.release ≤ e.key) → InBounds es
within_bounds es low early within released =
    record {
      keys = λ e m. let w = within e m in omega arith;
      released = released;
      span = λ d e md me. let v = within d md in let w = within e me in omega arith;
    }

module _ (p : Planner) (sound : Sound p) where
  -- the first time at which a packet can be due, and that a record's is due from there on and not late
  abbrev first : ℕ
  first = now_of (content p) + 1

  abbrev IsDueNear : Record → Type 0
  IsDueNear s = (first ≤ due_of s) × (due_of s ≤ first + key_span)

  held_near : (s : Record) → Mem s (content p).table → IsDueNear s
  held_near s m =
      let r = sound.content_sound.in_range.records.each s m in
      let after = sound.content_sound.near.due_after s m in
      let released = sound.content_sound.near.released s m in
      (omega arith, omega (arith, r.period, r.deadline))

  -- no refusal applies to the insertion of a new record near now ..
  pub can_insert : (x : Record) → OneTo largest_id x.id → (HasId x.id (content p).table → ⊥) → length (content p).table < places
      → OneTo longest_period x.deadline → (now_of (content p) ≤ x.release) × (x.release ≤ now_of (content p) + furthest_release)
      → CanInsert p.queue (entry_of x)
  can_insert x id_in new room deadline_in near =
      let es = entries p.queue in
      let rs = (content p).table in
      let in_range : InRange (content p) = sound.content_sound.in_range in
      let files = files_inserted es rs x sound.files in
      record {
        sound = sound.queue_sound;
        some = id_in.0;
        small = id_in.1;
        room = rw (files_length p.queue sound.queue_sound rs in_range.records.ascending sound.files) room;
        new = λ filed. new ((files_filed es rs sound.files x.id).0 filed);
        bounds =
            within_bounds (put (entry_of x) es) first (omega (arith, in_range.last))
            (files_within (put (entry_of x) es) (put_by_id x rs) files first (first + key_span)
            (put_all IsDueNear (λ s. ×_prop le_prop le_prop) x rs (omega arith, omega arith) held_near))
            (files_released (put (entry_of x) es) (put_by_id x rs) files);
      }

  -- .. nor to the deletion of one it holds
  pub can_delete : (id : ℕ) → HasId id (content p).table → CanDelete p.queue id
  can_delete id held = record { sound = sound.queue_sound; filed = (files_filed (entries p.queue) (content p).table sound.files id).1 held }

-- the record of an id passes to its next packet, another stays
pub stepped_elim : (id : ℕ) (P : Record → Type 0) (y : Record) → (y.id ≡ id → P (sent y)) → ((y.id ≡ id → ⊥) → P y) → P (stepped id y)
stepped_elim id P y if_served if_not = go (ℕ_discrete y.id id)
  where
    go : (d : Dec (y.id ≡ id)) → P (ite d (sent y) y)
    go (yes same) = if_served same
    go (no other) = if_not other

-- with a record's entry moved by its period it files the table in which that record has passed to its next packet
pub files_moved : (es : List Entry) (rs : List Record) → Ascending rs → Files es rs → (x : Record) → Mem x rs
    → Files (moved x.id x.period es) (map (stepped x.id) rs)
files_moved es rs ascending files x mx e = (
  λ m. Or.elim ∥∥₁_prop (change.0 m) (λ same. ∣ (stepped x.id x, mem-map_of_mem (stepped x.id) mx, same ∙ here) ∣₁)
      (λ old. ∥∥₁_map ((files e).0 old.0)
      (λ w.
      let still = elsewhere w.0 (λ n. old.1 (ap (λ (a : Entry). a.id) w.2 ∙ n)) in
      (stepped x.id w.0, mem-map_of_mem (stepped x.id) w.1, w.2 ∙ still))),
  λ some. change.1 (∥∥₁_elim some ∥∥₁_prop (λ w. ∥∥₁_elim (mem-map.0 w.1) ∥∥₁_prop (λ v. back v.0 v.1 (w.2 ∙ ap entry_of (sym v.2))))),
)
  where
    once : AreOnce es
    once d e md me same =
        ∥∥₁_elim ((files d).0 md) (entry_set d e)
        (λ v. ∥∥₁_elim ((files e).0 me) (entry_set d e)
        (λ w.
        let ids : v.0.id ≡ w.0.id = sym (ap (λ (a : Entry). a.id) v.2) ∙ same ∙ ap (λ (a : Entry). a.id) w.2 in
        let one : v.0 ≡ w.0 = one_record rs ascending v.0 w.0 v.1 w.1 ids in
        v.2 ∙ ap entry_of one ∙ sym w.2))

    after : Entry
    after = moved_on x.period (entry_of x)

    change : Mem e (moved x.id x.period es) ↔ ((e ≡ after) ∨₁ (Mem e es × (e.id ≡ x.id → ⊥)))
    change = in_moved_iff es once (entry_of x) (files_entry es rs files x mx) x.period e

    here : after ≡ entry_of (stepped x.id x)
    here =
        stepped_elim x.id (λ (z : Record). after ≡ entry_of z) x
        (λ _. entry_path after (entry_of (sent x)) (omega arith) refl refl)
        (λ other. absurd (other refl))

    elsewhere : (s : Record) → (s.id ≡ x.id → ⊥) → entry_of s ≡ entry_of (stepped x.id s)
    elsewhere s other = stepped_elim x.id (λ (z : Record). entry_of s ≡ entry_of z) s (λ same. absurd (other same)) (λ _. refl)

    back : (y : Record) → Mem y rs → e ≡ entry_of (stepped x.id y) → (e ≡ after) ∨₁ (Mem e es × (e.id ≡ x.id → ⊥))
    back y my =
        stepped_elim x.id (λ (z : Record). e ≡ entry_of z → (e ≡ after) ∨₁ (Mem e es × (e.id ≡ x.id → ⊥))) y
        (λ same eq.
        let y_x : y ≡ x = one_record rs ascending y x my mx same in
        Or.inl (eq ∙ ap (λ (z : Record). entry_of (sent z)) y_x ∙ entry_path (entry_of (sent x)) after (omega arith) refl refl))
        (λ other eq. Or.inr ((files e).1 ∣ (y, my, eq) ∣₁, λ n. other (sym (ap (λ (a : Entry). a.id) eq) ∙ n)))
