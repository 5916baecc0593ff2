-- What the layer above may cite of a queue, with InterfaceLaws: what it files, and what its calls need and leave. Nothing here speaks of places,
-- buckets or links; where an entry is found stays in `IsPlacedAt`, which only the queue opens.
-- The types Queue and Placed themselves, whose fields it does not name, it takes from the code.
-- entries, their order, and what the calls do to a list of them
pub use Rattle.places.specs.Order.{Entry, Before, triple}
pub use Rattle.places.specs.Entries.{put, without, moved_on, Filed, row_of, FilesJust, InBounds}
pub use Rattle.queue.specs.Calls.{moved}
-- a queue by its entries
pub use Rattle.queue.specs.Layout.{empty_queue, entries, Sound, IsPlacedAt}
pub use Rattle.queue.specs.Calls.{HasEntries}
-- what the forms that rely on a sound queue need and leave
pub use Rattle.queue.specs.Linking.{CanInsert, CanDelete, ArePlaced, IsInOrder, CanMoveAll}
pub use Rattle.places.specs.Filing.{CanFile}
unfoldable pub use Rattle.queue.specs.Linking.{moved_all}
-- deciders
pub use Rattle.places.specs.Facts.Entries.{entry_discrete}
pub use Rattle.queue.specs.Layout.Decide.{decide_sound}
