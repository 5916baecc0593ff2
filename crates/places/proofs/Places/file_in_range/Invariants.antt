-- `Places::file_in_range` meets its contract: the places before x hold rows, no two the same; those are marked, and n of them are.
use Rattle.std.proofs.Common.{◌≡◌, length}
use Rattle.basics.specs.Limits.{places}
use Rattle.places.specs.Lent.{entry_in, row_in}
use Rattle.places.specs.Facts.Marks.{marks_of}
use Rattle.places.specs.Facts.Filing.{FiledTo}
use Rattle.places.proofs.Places.file_in_range.Given as goal

abbrev pub invariant-loop-x : goal.invariant-loop-x
invariant-loop-x l = record {
  long : length l.met ≡ places;
  filed : FiledTo (entry_in l.self) (row_in l.rows) l.rows.count l.x l.n (marks_of l.met);
}
