-- Records moved one place up or down within the 64 places: which records the table then has.
use Rattle.std.specs.Prelude.{◌≡◌, List, [], ◌∷◌, ◌++◌, ℕ, suc, ◌+◌, ◌-◌, ◌≤◌, take, drop, set, get_or, length}
use Rattle.std.proofs.Common.{ap, ◌∙◌, add-one, arith, append_assoc}
use Rattle.std.proofs.Math.Seq.{paste, take-add, take-suc, take-set-lt}
use Rattle.std.proofs.lemmas.List.{take_at, drop-take, set_at, length-take-le, take-set, length-drop}
use Rattle.std.proofs.lemmas.List.Edits.{take-paste}
use Rattle.table.specs.Table.{records_of, no_record}
use Rattle.table.specs.Facts.Table.{row_at}
use Rattle.table.specs.Needs.{HasRecords}
use Rattle.table.specs.Places.{opened, closed, CanOpen, CanClose}
use Rattle.table.specs.declared.Record.{Record}
use Rattle.table.specs.declared.Table.{Table}

-- of the records before a place more can follow
take_before : (place m : ℕ) (rs : List Record) → place ≤ length rs → take place (take (place + m) rs) ≡ take place rs
take_before place m rs within = rw (take-add place m rs) (take_at (take place rs) (take m (drop place rs)) place (length-take-le place rs within))

-- with the m records behind a place moved one place down, the place is closed
moved_down : (rs : List Record) (place m : ℕ) → place + 1 + m ≤ length rs
    → take (place + m) (paste rs place (drop (place + 1) rs) m) ≡ closed place (take (place + 1 + m) rs)
moved_down rs place m within =
    let one : place + 1 + m ≡ place + (1 + m) = omega arith in
    let before : take place (take (place + 1 + m) rs) ≡ take place rs = rw one (take_before place (1 + m) rs (omega arith)) in
    let behind : drop (suc place) (take (place + 1 + m) rs) ≡ take m (drop (place + 1) rs) = rw (← add-one place) (drop-take (place + 1) m rs) in
    rw (before, behind) (take-paste rs place (drop (place + 1) rs) m (omega arith) (omega (arith, length-drop (place + 1) rs)))

-- with the m records from a place on moved one place up and a record put there, the place is opened
moved_up : (x : Record) (rs : List Record) (place m : ℕ) → place + 1 + m ≤ length rs
    → take (place + 1 + m) (set (paste rs (place + 1) (drop place rs) m) place x) ≡ opened place x (take (place + m) rs)
moved_up x rs place m within =
    let first : take (place + 1) rs ≡ take place rs ++ (get_or rs place no_record ∷ []) = rw (add-one place) (take-suc rs place no_record (omega arith)) in
    let here = row_at rs place in
    take-set-lt (place + 1 + m) _ place x (omega arith)
    ∙ ap (λ (qs : List Record). set qs place x) (take-paste rs (place + 1) (drop place rs) m (omega arith) (omega (arith, length-drop place rs)))
    ∙ rw (first, append_assoc, take_before place m rs (omega arith), drop-take place m rs)
    (set_at (take place rs) here (take m (drop place rs)) x place (length-take-le place rs (omega arith)))

-- a table with the later records moved down, and one place fewer counted, has the place closed
pub closes : (table : Table) (place : ℕ) → CanClose table place → length table.streams ≡ 64 → (x : Record)
    → let last = table.count - 1 in
    HasRecords (closed place (records_of table))
    (record { count = last; streams = set (paste table.streams place (drop (place + 1) table.streams) (table.count - (place + 1))) last x })
closes table place can size x = record {
  records =
      let last : table.count - 1 ≡ place + (table.count - (place + 1)) = omega arith in
      let all : place + 1 + (table.count - (place + 1)) ≡ table.count = omega arith in
      take-set (paste table.streams place (drop (place + 1) table.streams) (table.count - (place + 1))) (table.count - 1) x
      ∙ rw last (moved_down table.streams place (table.count - (place + 1)) (omega arith))
      ∙ ap (λ n. closed place (take n table.streams)) all;
  count = omega arith;
}

-- a table with the records from a place on moved up, a record there and one place more counted, has the place opened
pub opens : (table : Table) (place : ℕ) → CanOpen table place → length table.streams ≡ 64 → (x : Record)
    → HasRecords (opened place x (records_of table))
    (record { count = table.count + 1; streams = set (paste table.streams (place + 1) (drop place table.streams) (table.count - place)) place x })
opens table place can size x = record {
  records =
      let more : table.count + 1 ≡ place + 1 + (table.count - place) = omega arith in
      let all : place + (table.count - place) ≡ table.count = omega arith in
      rw more (moved_up x table.streams place (table.count - place) (omega arith))
      ∙ ap (λ n. opened place x (take n table.streams)) all;
  count = omega arith;
}
