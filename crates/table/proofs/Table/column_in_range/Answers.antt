use mathlib.Core.List.{List, Mem}
use Rattle.std.specs.Prelude.{◌≡◌, refl, ℕ, zero, suc, get_or, replicate}
use Rattle.std.proofs.Common.{rules, subst, below_none}
use Rattle.basics.specs.Facts.Members.{get_or_mem}
use Rattle.table.specs.Table.{no_record}
use Rattle.table.specs.Facts.Table.{row_at}
use Rattle.table.specs.declared.Record.{Record}
use Rattle.table.proofs.Table.column_in_range.Goals as goal

-- an array filled with one value has it at every place, and reads as it beyond them
all_alike : {A : Type 0} (n k : ℕ) (x : A) → get_or (replicate n x) k x ≡ x
all_alike zero k x = refl
all_alike (suc n) zero x = refl
all_alike (suc n) (suc k) x = all_alike n k x

pub loop-i-init : goal.loop-i-init
loop-i-init g c = record { size = refl; held = below_none _; free = λ k from. all_alike 64 k c.args.none }

pub value-requires : goal.value-requires
value-requires g c =
    let records = c.records-stream-items in
    let here : Record = row_at records.result.now c.loop-i.i in
    let may : goal.F-pre g c.args.value here =
    c.requires.defined here (subst (λ (rs : List Record). Mem here rs) records.ensures (get_or_mem records.result.now c.loop-i.i no_record c.loop-i-test.true)) in
    search rules
