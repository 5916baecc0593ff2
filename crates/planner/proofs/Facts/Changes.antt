-- A planner put together again after a change: it holds what the change says, and it is sound.
use Rattle.std.specs.Prelude.{◌≡◌, List, ℕ, ◌≤◌}
use Rattle.std.proofs.Common.{sym, ap}
use Rattle.std.proofs.Math.Path.{subst⁻¹}
use Rattle.basics.specs.Limits.{most_waiting}
use Rattle.basics.specs.Refusals.{Refusal, answer_of}
use Rattle.table.specs.Table.{records_of}
use Rattle.table.specs.declared.Record.{Record}
use Rattle.table.specs.Changes.{without_id}
use Rattle.table.specs.Needs.{HasRecords}
use Rattle.table.specs.declared.Table.{Table}
use Rattle.queue.specs.Interface.{Entry, without, entries, HasEntries}
use Rattle.queue.specs.declared.Queue.{Queue}
use Rattle.state.specs.Content.{Content, content, with_table, with_last}
use Rattle.state.specs.Sound.{ContentSound, Files, Sound}
use Rattle.planner.specs.AddRemove.{removed, IsSoundWith, IsChange}
use Rattle.planner.proofs.Facts.Kept.{removed_sound}
use Rattle.planner.proofs.Facts.Files.{can_delete, files_without}
use Rattle.planner.specs.Needs.{stored}
use Rattle.state.specs.declared.Planner.{Planner}

-- a planner with a table of streams that make it sound, and with a queue that files them, is sound
pub is_sound_with : (p : Planner) → p.waiting.count ≤ most_waiting → (last : ℕ) {rs : List Record} {table : Table} → HasRecords rs table
    → ContentSound (with_table (with_last (content p) last) rs) → {queue : Queue} {es : List Entry} → HasEntries queue es → Files es rs
    → IsSoundWith (with_table (with_last (content p) last) rs) (stored p last table queue)
is_sound_with p few last has_records sound has_entries files =
    let holds = ap (with_table (with_last (content p) last)) has_records.records in
    record {
      holds = holds;
      sound =
          record {
            count = has_records.count;
            waiting_count = few;
            content_sound = subst⁻¹ ContentSound holds sound;
            queue_sound = has_entries.sound;
            files = rw (has_entries.content, has_records.records) files;
          };
    }

-- a change that no refusal applies to, with a sound planner that holds h, is done
pub change_done : {refusals : List Refusal} {p q : Planner} {h : Content} → 0 ≡ answer_of refusals → IsSoundWith h q
    → IsChange refusals p h (record { answer = 0; planner = q })
change_done zero with_h = record { answer = zero; refused = λ some. absurd (some (sym zero)); changed = λ _. with_h }

module _ {p : Planner} (sound : Sound p) (id : ℕ) where
  -- the planner without the stream
  pub removed_with : {table : Table} → HasRecords (without_id id (records_of p.table)) table
      → {queue : Queue} → HasEntries queue (without id (entries p.queue))
      → IsSoundWith (removed (content p) id) (stored p p.last table queue)
  removed_with has_records has_entries =
      is_sound_with p sound.waiting_count p.last has_records (removed_sound (content p) sound.content_sound id) has_entries
      (files_without (entries p.queue) (content p).table id sound.files)

pub ruleset removal = (change_done, removed_with, can_delete)
