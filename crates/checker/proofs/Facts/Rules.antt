-- Which rule a round breaks first, and when it breaks none.
use Rattle.std.specs.Prelude.{◌≡◌, refl, ℕ, ◌+◌, ◌≤◌, ◌<◌, take}
use Rattle.std.proofs.Common.{rules, sym, ◌∙◌, subst, arith}
use Rattle.std.proofs.Math.Logic.{∥∥₁_elim}
use mathlib.Core.List.{List, ◌++◌, map, exists_of_mem-map, mem-map_of_mem}
use Rattle.std.proofs.Math.Bridge.{le_prop}
use Rattle.table.specs.Table.{due_of}
use Rattle.table.specs.declared.Record.{Record}
use Rattle.messages.specs.Numbers.{stream_ids}
use Rattle.packet_bytes.specs.Layout.{Values, bytes_of}
use Rattle.state.specs.Content.{Content}
use Rattle.checker.specs.Plans.{sent_for, LeavesNone, MaySend, Passes, IsFirstBroken, BreaksRule}
use Rattle.checker.specs.Plans.{of_packet, of_start, of_room, of_slots, of_rest}
use Rattle.checker.specs.Needs.{CanCheck, NoneDue, NoneInFront, IsInFront, values, BreaksFirst, KeepsThree, IsFront}
use Rattle.checker.specs.declared.rounds.Front.{Front}
use Rattle.checker.proofs.Facts.Numbers.{ids_listed}
use Rattle.checker.specs.declared.round_rules.Rule.TheVariants.{Slots, Rest}
use Rattle.checker.proofs.Facts.Verdicts.{one_cut}

-- no others stand in front of bytes than a packet that stands there: the rule that it breaks is what is broken
pub breaks_front : {h : Content} {rest : List ℕ} (more : List ℕ) {v : Values} {n : ℕ} → rest ≡ bytes_of v ++ more → IsFirstBroken h v n → BreaksRule h rest n
breaks_front {h} {rest} more {v} {n} here broken = record {
  in_front = λ w others same. subst (λ (x : Values). IsFirstBroken h x n) (one_cut v w more others (sym here ∙ same)).0 broken;
  cut_short = λ none. absurd (none v more here);
}

-- where no packet with at most B numbers stands in front, the first rule is broken
pub none_breaks : {h : Content} {rest : List ℕ} → NoneInFront rest h.setting.slots → BreaksRule h rest 1
none_breaks {h} {rest} none = record {
  in_front = λ v more same.
      record {
        rule = of_packet;
        number = refl;
        broken = λ keeps. none v more same (omega (arith, keeps.0.count, keeps.1));
        earlier = λ q low. search rules;
      };
  cut_short = λ _. refl;
}

-- the stream ids of a packet with few enough numbers are few
pub few_ids : {h : Content} {v : Values} {n : ℕ} → CanCheck h.setting → KeepsThree h v n → n ≤ 64
few_ids can three = omega (arith, can.slots, three.room, three.counted)

-- what has been sent, or may not be, are the stream ids, which stand in front of all others
module _ {h : Content} (f : Front) {n : ℕ} (three : KeepsThree h (values f) n) where
  listed_are : take n f.numbers ≡ stream_ids (values f).ids
  listed_are = ids_listed f.numbers f.count n three.packet.0.ids three.counted

  pub refused_ids : {start : ℕ} {before : List Record} → (MaySend before (take n f.numbers) start → ⊥) → MaySend before (stream_ids (values f).ids) start → ⊥
  refused_ids {start} {before} not = subst (λ (ids : List ℕ). MaySend before ids start → ⊥) listed_are not

  pub sent_ids : {start : ℕ} {before after : List Record} → MaySend before (take n f.numbers) start × (after ≡ map (sent_for (take n f.numbers)) before)
      → MaySend before (stream_ids (values f).ids) start × (after ≡ map (sent_for (stream_ids (values f).ids)) before)
  sent_ids {start} {before} {after} sent = subst (λ (ids : List ℕ). MaySend before ids start × (after ≡ map (sent_for ids) before)) listed_are sent

module _ {h : Content} {v : Values} {n : ℕ} (three : KeepsThree h v n) where
  abbrev ids : List ℕ
  ids = stream_ids v.ids

  -- where not all slots may be sent, that is the first rule that is broken
  pub slots_break : (MaySend h.table ids v.start → ⊥) → BreaksFirst h v Slots
  slots_break not = record { rule = of_slots; number = refl; broken = not; earlier = λ q low. search rules }

  module _ {after : List Record} (sent : MaySend h.table ids v.start × (after ≡ map (sent_for ids) h.table)) where
    -- where something due by the end is left over, it is the last one
    pub rest_breaks : (NoneDue (v.start + 1) after → ⊥) → BreaksFirst h v Rest
    rest_breaks not = record { rule = of_rest; number = refl; broken = left_over; earlier = λ q low. search rules }
      where
        left_over : LeavesNone h v → ⊥
        left_over keeps =
            subst (λ (l : List Record). NoneDue (v.start + 1) l → ⊥) sent.1 not
            (λ q m. ∥∥₁_elim (exists_of_mem-map {f = sent_for ids} {l = h.table} m) le_prop
            (λ found. subst (λ (r : Record). v.start + 1 < due_of r) found.2 (keeps found.0 found.1)))

    -- and else the round passes
    pub all_kept : NoneDue (v.start + 1) after → Passes h v
    all_kept none of_packet = three.packet
    all_kept none of_start = three.start
    all_kept none of_room = three.room
    all_kept none of_slots = sent.0
    all_kept none of_rest =
        λ r m. subst (NoneDue (v.start + 1)) sent.1 none (sent_for ids r) (mem-map_of_mem (sent_for ids) m)

-- a packet in front whose round passes is the round in front
pub front_passes : {h : Content} {rest : List ℕ} {f : Front} {n : ℕ} {after : List Record} → IsInFront rest f → (three : KeepsThree h (values f) n)
    → MaySend h.table (stream_ids (values f).ids) f.start × (after ≡ map (sent_for (stream_ids (values f).ids)) h.table) → NoneDue (f.start + 1) after
    → IsFront h rest after (record { length = f.length; start = f.start })
front_passes {h} {rest} {f} here three sent none = record {
  round = values f;
  long = here.long;
  are = here.are;
  passes = all_kept three sent none;
  start = refl;
  left = sent.1;
}
