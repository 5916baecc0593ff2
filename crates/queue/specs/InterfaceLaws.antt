-- The laws of what Interface lists, for the layer above.
-- entries and lists in order
pub use Rattle.places.specs.Facts.Entries.{entry_path, entry_set, InOrder, before_asym, before_prop, in_order_unique}
pub use Rattle.queue.specs.Layout.Laws.{AreOnce, in_put_iff, in_without_iff, in_moved_iff}
-- queues
pub use Rattle.queue.specs.Layout.Laws.{empty_has_none, entries_in_order, entries_at_most, entry_id_in_range, entry_once}
