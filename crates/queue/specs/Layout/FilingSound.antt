-- A queue that files just the rows that it is compared with is sound if its links are, since the rows are within the bounds of a queue.
use Rattle.std.specs.Prelude.{Bool, List, ℕ}
use Rattle.basics.specs.Decides.{Decides}
use Rattle.basics.specs.Facts.Decides.{same_as}
use Rattle.places.specs.Entries.{row_of, FilesJust}
use Rattle.places.specs.Filing.{CanFile, PlacesFile}
use Rattle.places.specs.Facts.FilingSound.{files_just_places, places_file_sound, places_file_just}
use Rattle.queue.specs.Layout.{entry_at, next_at, prev_at, AllLinked, entries, Sound}
use Rattle.queue.specs.Layout.SoundnessFacts.{sound_last}
use Rattle.queue.specs.declared.Queue.{Queue}

module _ (q : Queue) (ids keys releases : List ℕ) (n : ℕ) where
  -- a sound queue that files just the rows has them at its places ..
  pub filing_places : Sound q × FilesJust ids keys releases n (entries q) → PlacesFile (entry_at q) (row_of ids keys releases) n
  unfolding entries
  filing_places w = files_just_places (entry_at q) ids keys releases n w.0.once w.1

  -- .. and where its places hold them, the links are what is left to decide
  pub filing_last : CanFile ids keys releases n → PlacesFile (entry_at q) (row_of ids keys releases) n
      → {b : Bool} → Decides b (AllLinked (entry_at q) (next_at q) (prev_at q)) → Decides b (Sound q × FilesJust ids keys releases n (entries q))
  unfolding entries
  filing_last can file linked =
      same_as (λ sound. (sound, places_file_just (entry_at q) ids keys releases n file)) (λ w. w.0)
      (sound_last q (places_file_sound (entry_at q) ids keys releases n file can) linked)
