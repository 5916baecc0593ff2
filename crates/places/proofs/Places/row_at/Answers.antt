-- `Places::row_at` meets its contract: only the row at the id's place among the rising ids can stand at x.
use Rattle.std.proofs.Common.{◌≡◌, false, eqb, ◌&&◌, ap, sym, lt_irrefl, lt_of_le_of_lt, ◌∙◌, arith}
use Rattle.places.specs.Order.{Entry}
use Rattle.places.specs.Lent.{as_entry, entry_in}
use Rattle.places.specs.declared.Entry as code
use Rattle.places.specs.Facts.Filing.{no_row_at}
use Rattle.places.proofs.Places.row_at.Goals as goal
use Rattle.places.proofs.Places.row_at.Goals.{else-i-rows-via-then-i-rows+else-eq, else-i-rows-via-else-i-rows}

-- two entries that are one pass the test for that
differ : (a b : code.Entry) → as_entry b ≡ as_entry a → false ≡ (eqb b.key a.key && (eqb b.release a.release && eqb b.id a.id)) → ⊥
differ a b same =
    let key : b.key ≡ a.key = ap (λ (e : Entry). e.key) same in
    let release : b.release ≡ a.release = ap (λ (e : Entry). e.release) same in
    let id : b.id ≡ a.id = ap (λ (e : Entry). e.id) same in
    λ fails. grind arith

pub returns : goal.returns
returns c =
    let a = c.args in
    let among = c.place_among_rising-i in
    let id = ap (λ (e : Entry). e.id) c.entry_at-entry.ensures in
    no_row_at (entry_in a.self a.x) among.result c.requires.can_file (rw id at among.ensures) (λ below is.
    elim c.else-i-rows.branch [
      | else-i-rows-via-then-i-rows+else-eq w ↦ differ (c.entry_at-entry.result) (w.row.result) (w.row.ensures ∙ is ∙ sym c.entry_at-entry.ensures) w.if-eq.ensures
      | else-i-rows-via-else-i-rows w ↦ lt_irrefl _ (lt_of_le_of_lt w.if-i-rows.false below)
    ])
