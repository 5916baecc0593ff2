-- Soundness of a planner can be decided, on any value whatever.
use Rattle.std.proofs.Common.{sym, subst}
use Rattle.std.proofs.Math.Logic.{∥∥₁_elim}
use Rattle.std.proofs.Math.Logic.Dec.{and as Dec-and}
use mathlib.Core.List.{List, Mem, Mem-prop, decidable_b_all, decidable_b_ex, dec_mem, inst_decidable_pairwise}
use Rattle.std.specs.Prelude.{ℕ, ◌+◌, ◌*◌, ◌<◌, length}
use Rattle.std.proofs.Math.Decide.{ℕ_discrete, dec_le, dec_lt, dec_dvd, map_dec}
use Rattle.basics.specs.OneTo.{decide_one_to}
use Rattle.basics.specs.Limits.{furthest_release, largest_id, longest_period, last_start, places, most_waiting}
use Rattle.basics.specs.Refusals.{answer_of}
use Rattle.rules.proofs.Decide.{decide_demand_rule, decide_start_rule}
use Rattle.table.specs.Table.{due_of}
use Rattle.table.specs.Range.{RecordInRange, RecordsInRange, AreNear}
use Rattle.table.specs.declared.Record.{Record}
use Rattle.queue.specs.Interface.{Entry, entries, entry_discrete}
use Rattle.queue.specs.Interface
use Rattle.messages.specs.Waiting.{decide_message}
use Rattle.state.specs.Content.{Content, content, slots_of, frame_of, streams_in, now_of, cap_of}
use Rattle.state.specs.Sound.{MailInRange, InRange, ContentSound, entry_of, Files, Sound}
use Rattle.state.specs.declared.Setting.{Setting}
use Rattle.state.specs.Open.{open_refusals}
use Rattle.state.proofs.Facts.Open.{range_numbers, in_range_by_numbers, open_exact}
use Rattle.state.specs.Needs.{NumbersInRange}
use Rattle.state.specs.declared.Planner.{Planner}
use Rattle.rules.proofs.Facts.LazyStart.{lazy_unique}
use Rattle.state.proofs.Facts.Sound.{sound_start}
use Rattle.state.specs.Start.{IsStart, StartsLate}

decide_record : (frame : ℕ) (r : Record) → Dec (RecordInRange frame r)
decide_record frame r =
    map_dec
    (λ w. record { id = w.0; period = w.1.0; divides = w.1.1.0; deadline = w.1.1.1 })
    (λ range. (range.id, (range.period, (range.divides, range.deadline))))
    (Dec-and (decide_one_to largest_id r.id)
    (Dec-and (decide_one_to longest_period r.period)
    (Dec-and (dec_dvd r.period frame) (decide_one_to r.period r.deadline))))

decide_records : (frame : ℕ) (rs : List Record) → Dec (RecordsInRange frame rs)
decide_records frame rs =
    map_dec (λ w. record { each = w.0; ascending = w.1 }) (λ r. (r.each, r.ascending))
    (Dec-and (decidable_b_all (decide_record frame) rs) (inst_decidable_pairwise (λ (x y : Record). dec_lt x.id y.id) rs))

decide_near : (now : ℕ) (rs : List Record) → Dec (AreNear now rs)
decide_near now rs =
    map_dec (λ w. record { due_after = w.0; released = w.1 }) (λ r. (r.due_after, r.released))
    (Dec-and (decidable_b_all (λ (r : Record). dec_lt now (due_of r)) rs) (decidable_b_all (λ (r : Record). dec_le r.release (now + furthest_release)) rs))

-- the numbers are in range exactly if open does not refuse them
decide_numbers : (s : Setting) (t : ℕ) → Dec (NumbersInRange s t)
decide_numbers s t = map_dec open_exact.0 open_exact.1 (ℕ_discrete (answer_of (open_refusals s t)) 0)

decide_mail : (on : ℕ) (ns : List ℕ) → Dec (MailInRange on ns)
decide_mail on ns =
    map_dec (λ w. record { few = w.0; range = w.1 }) (λ m. (m.few, m.range))
    (Dec-and (dec_le (length ns) (most_waiting * on)) (decidable_b_all decide_message ns))

decide_in_range : (h : Content) → Dec (InRange h)
decide_in_range h =
    map_dec (λ w. in_range_by_numbers w.0 w.1.0 w.1.1.0 w.1.1.1) (λ r. (range_numbers r, (r.at_most, (r.records, r.mail))))
    (Dec-and (decide_numbers h.setting h.last) (Dec-and (dec_le (length h.table) places)
    (Dec-and (decide_records (frame_of h) h.table) (decide_mail h.setting.messages h.waiting))))

decide_content : (h : Content) → Dec (ContentSound h)
decide_content h =
    map_dec (λ w. record { in_range = w.0; near = w.1.0; demand_rule = w.1.1.0; start_rule = w.1.1.1 })
    (λ r. (r.in_range, (r.near, (r.demand_rule, r.start_rule))))
    (Dec-and (decide_in_range h)
    (Dec-and (decide_near (now_of h) h.table)
    (Dec-and (decide_demand_rule (slots_of h) (streams_in h)) (decide_start_rule (slots_of h) (now_of h) (streams_in h)))))

decide_files : (es : List Entry) (rs : List Record) → Dec (Files es rs)
decide_files es rs =
    map_dec
    (λ w e. (w.0 e, λ some. ∥∥₁_elim some Mem-prop (λ v. subst (λ (a : Entry). Mem a es) (sym v.2) (w.1 v.0 v.1))))
    (λ files. (λ e m. (files e).0 m, λ r m. (files (entry_of r)).1 ∣ (r, m, λ i. entry_of r) ∣₁))
    (Dec-and (decidable_b_all (λ (e : Entry). decidable_b_ex (λ (r : Record). entry_discrete e (entry_of r)) rs) es)
    (decidable_b_all (λ (r : Record). dec_mem entry_discrete (entry_of r) es) rs))

-- Whether a planner is sound can be decided.
pub decide_sound : (p : Planner) → Dec (Sound p)
decide_sound p =
    map_dec (λ w. record { count = w.0; waiting_count = w.1.1.1.1; content_sound = w.1.0; queue_sound = w.1.1.0; files = w.1.1.1.0 })
    (λ s. (s.count, (s.content_sound, (s.queue_sound, (s.files, s.waiting_count)))))
    (Dec-and (dec_le p.table.count places)
    (Dec-and (decide_content (content p))
    (Dec-and (Interface.decide_sound p.queue)
    (Dec-and (decide_files (entries p.queue) (content p).table) (dec_le p.waiting.count most_waiting)))))

-- Whether it starts late can be decided: a sound planner has just one lazy start.
pub decide_late : (p : Planner) → Dec (Sound p) → Dec (StartsLate p)
decide_late p (no unsound) = yes (λ sound. absurd (unsound sound))
decide_late p (yes sound) = go (sound_start p sound)
  where
    go : ((s : ℕ) × IsStart (content p) s) → Dec (StartsLate p)
    go (s, lazy) = at (dec_lt last_start s)
      where
        at : Dec (last_start < s) → Dec (StartsLate p)
        at (yes late) =
            let h = content p in
            yes (λ _ x is. subst (λ (y : ℕ). last_start < y) (lazy_unique (slots_of h) (cap_of h) (streams_in h) s x lazy is) late)
        at (no early) = no (λ all. early (all sound s lazy))
