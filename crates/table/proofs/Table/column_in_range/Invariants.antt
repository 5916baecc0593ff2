-- `table::Table::column_in_range` meets its contract: the values before place i are right, the places from it on are still free.
use mathlib.Core.Path.{◌≡◌}
use Prim.Native.Nat.{ℕ, ◌≤◌, ◌<◌}
use lib.ListN.{get_or, length}
use Rattle.table.specs.Facts.Table.{row_at}
use Rattle.table.proofs.Table.column_in_range.Given as goal

abbrev pub invariant-loop-i : goal.invariant-loop-i
invariant-loop-i g l = record {
  size : length l.values ≡ 64;
  held : (k : ℕ) → k < l.i → goal.F-post g l.value (row_at l.stream-items k) (get_or l.values k l.fn.none);
  free : (k : ℕ) → l.i ≤ k → get_or l.values k l.fn.none ≡ l.fn.none;
}
