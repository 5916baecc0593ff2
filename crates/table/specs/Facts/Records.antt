-- An id has one record, for the layer above.
use Rattle.std.specs.Prelude.{◌≡◌}
use Rattle.std.proofs.Common.{ap, lt_irrefl, arith}
use mathlib.Core.HLevel.{hedberg, ¬_prop}
use mathlib.Mathlib.Data.List.Nodup.{inj_on_of_Nodup-map}
use mathlib.Core.List.Pairwise
use mathlib.Core.List.{List, Mem}
use Rattle.std.proofs.Math.Decide.{ℕ_discrete}
use Rattle.table.specs.Changes.{Ascending}
use Rattle.table.specs.declared.Record.{Record}

record_discrete : Discrete Record
record_discrete q r =
    go (ℕ_discrete q.id r.id) (ℕ_discrete q.period r.period) (ℕ_discrete q.deadline r.deadline) (ℕ_discrete q.release r.release)
  where
    go : Dec (q.id ≡ r.id) → Dec (q.period ≡ r.period) → Dec (q.deadline ≡ r.deadline) → Dec (q.release ≡ r.release) → Dec (q ≡ r)
    go (no other) _ _ _ = no (λ e. other (ap (λ (x : Record). x.id) e))
    go (yes id) (no other) _ _ = no (λ e. other (ap (λ (x : Record). x.period) e))
    go (yes id) (yes period) (no other) _ = no (λ e. other (ap (λ (x : Record). x.deadline) e))
    go (yes id) (yes period) (yes deadline) (no other) = no (λ e. other (ap (λ (x : Record). x.release) e))
    go (yes id) (yes period) (yes deadline) (yes release) =
        yes (λ i. record { id = id i; period = period i; deadline = deadline i; release = release i })

-- where ids ascend, an id has one record
pub one_record : (rs : List Record) → Ascending rs → (q r : Record) → Mem q rs → Mem r rs → q.id ≡ r.id → q ≡ r
one_record rs ascending q r mq mr same =
    inj_on_of_Nodup-map (hedberg record_discrete) (λ (x : Record). x.id)
    (Pairwise.map (λ a b. ¬_prop) (λ (x : Record). x.id) (λ a b less equal. lt_irrefl a.id (omega (arith, less, equal))) ascending) q mq r mr same
