-- Entries as the code has them: one by one, and lent column by column.
use Rattle.std.specs.Prelude.{ℕ}
use Rattle.places.specs.Order.{triple, Entry}
use Rattle.places.specs.Entries.{row_of}
use Rattle.places.specs.Filing.{CanFile, IsRow, IsNoRow, PlacesFile}
use Rattle.places.specs.declared.Entry as code
use Rattle.places.specs.declared.Places.{Places}
use Rattle.places.specs.declared.filing.Rows.{Rows}

-- An entry of the code.
abbrev pub as_entry : code.Entry → Entry
as_entry e = triple e.key e.release e.id

-- The entry at a place.
abbrev pub entry_in : Places → ℕ → Entry
entry_in p = row_of p.ids.now p.keys.now p.releases.now

-- One of the rows.
abbrev pub row_in : Rows → ℕ → Entry
row_in r = row_of r.ids.now r.keys.now r.releases.now

-- A sound queue can file the rows.
abbrev pub CanFileRows : Rows → Type 0
CanFileRows r = CanFile r.ids.now r.keys.now r.releases.now r.count

-- i is which of the rows stands at place x ..
abbrev pub IsRowAt : Places → Rows → ℕ → ℕ → Type 0
IsRowAt p r x = IsRow r.ids.now r.keys.now r.releases.now r.count (entry_in p x)

-- .. and none of them does.
abbrev pub IsNoRowAt : Places → Rows → ℕ → Type 0
IsNoRowAt p r x = IsNoRow r.ids.now r.keys.now r.releases.now r.count (entry_in p x)

-- The places hold just the rows.
abbrev pub FileRows : Places → Rows → Type 0
FileRows p r = PlacesFile (entry_in p) (row_in r) r.count
