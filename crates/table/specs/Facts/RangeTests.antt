-- Records are in range and near exactly if each can follow the one before it.
use Rattle.std.specs.Prelude.{◌≡◌, refl, List, ℕ, zero, suc, ◌+◌, ◌≤◌, ◌<◌, length}
use Rattle.std.proofs.Common.{sym, subst, lt_irrefl, add-one, arith, below_none, below_more}
use mathlib.Core.HLevel.{×_prop}
use Rattle.std.proofs.Math.Nat.{∣_prop}
use Rattle.std.proofs.Math.Bridge.{le_prop}
use Rattle.std.proofs.Math.Decide.{dec_lt}
use Rattle.basics.specs.Facts.Members.{get_or_mem}
use Rattle.table.specs.Table.{no_record}
use Rattle.table.specs.Facts.Table.{row_at, all_at, ascends_at, ascends_from}
use Rattle.table.specs.Range.{RecordInRange, RecordsInRange, AreNear}
use Rattle.table.specs.RangeTests.{IsNear, CanFollow}
use Rattle.table.specs.declared.Record.{Record}

-- the id that the record at place n stands behind, 0 for the first
unfoldable pub id_before : List Record → ℕ → ℕ
id_before rows zero = 0
id_before rows (suc n) = (row_at rows n).id

-- the first n records follow one another; `before` is the id of the last of them
pub record Followed (frame now : ℕ) (rows : List Record) (n before : ℕ) : Type 0 where
  pub last : before ≡ id_before rows n
  pub each : (k : ℕ) → k < n → CanFollow frame now (id_before rows k) (row_at rows k)

-- before the first record none has been looked at, and the id to stand behind is 0
pub none_followed : (frame now : ℕ) (rows : List Record) → Followed frame now rows 0 0
unfolding id_before
none_followed frame now rows = record { last = refl; each = below_none _ }

id_before_next : (rows : List Record) (n : ℕ) → id_before rows (n + 1) ≡ (row_at rows n).id
unfolding id_before
id_before_next rows n = rw (add-one n) refl

-- a record that can follow the n before it makes n + 1 that follow one another, its id being the last
pub one_more_followed : (frame now : ℕ) (rows : List Record) (n before : ℕ) → Followed frame now rows n before → CanFollow frame now before (row_at rows n)
    → Followed frame now rows (n + 1) (row_at rows n).id
one_more_followed frame now rows n before so_far here = record {
  last = sym (id_before_next rows n);
  each = below_more (λ k. CanFollow frame now (id_before rows k) (row_at rows k)) n so_far.each
      (subst (λ b. CanFollow frame now b (row_at rows n)) so_far.last here);
}

-- ids that rise from one place to the next rise from any place to any later one
rise : (rows : List Record) → ((k : ℕ) → k < length rows → id_before rows k < (row_at rows k).id)
    → (j k : ℕ) → j < k → k < length rows → (row_at rows j).id < (row_at rows k).id
unfolding id_before
rise rows step j zero order low = absurd (lt_irrefl 0 (omega arith))
rise rows step j (suc k) order low = go (dec_lt j k) (rise rows step j k)
  where
    go : Dec (j < k) → (j < k → k < length rows → (row_at rows j).id < (row_at rows k).id) → (row_at rows j).id < (row_at rows (suc k)).id
    go (yes earlier) ih = omega (arith, step (suc k) low, ih earlier (omega arith))
    go (no late) ih =
        let same : k ≡ j = omega arith in
        subst (λ p. (row_at rows p).id < (row_at rows (suc k)).id) same (step (suc k) low)

-- a record is in range in one way only
pub record_in_range_prop : (frame : ℕ) (r : Record) → IsProp (RecordInRange frame r)
record_in_range_prop frame r p q = λ i. record {
  id = ×_prop le_prop le_prop p.id q.id i;
  period = ×_prop le_prop le_prop p.period q.period i;
  divides = ∣_prop r.period frame p.divides q.divides i;
  deadline = ×_prop le_prop le_prop p.deadline q.deadline i;
}

-- records all of which follow one another are in range and near
pub all_followed : (frame now : ℕ) (rows : List Record) (n before : ℕ) → length rows ≤ n → Followed frame now rows n before
    → RecordsInRange frame rows × AreNear now rows
all_followed frame now rows n before reached f =
    let each : (k : ℕ) → k < length rows → CanFollow frame now (id_before rows k) (row_at rows k) = λ k low. f.each k (omega arith) in
    let all_near = all_at (IsNear now) (λ _. ×_prop le_prop le_prop) rows (λ k low. (each k low).near) in (
      record {
        each = all_at (RecordInRange frame) (record_in_range_prop frame) rows (λ k low. (each k low).in_range);
        ascending = ascends_from rows (rise rows (λ k low. (each k low).after));
      },
      record {
        due_after = λ r m. (all_near r m).0;
        released = λ r m. (all_near r m).1;
      },
    )

-- among records in range each is above the one before it
above_before : (frame : ℕ) (rows : List Record) → RecordsInRange frame rows → (k : ℕ) → k < length rows → id_before rows k < (row_at rows k).id
unfolding id_before
above_before frame rows in_range zero low = (in_range.each _ (get_or_mem rows zero no_record low)).id.0
above_before frame rows in_range (suc k) low = ascends_at rows in_range.ascending k (suc k) (omega arith) low

-- among records in range and near the one at place n can follow the n before it
pub next_follows : (frame now : ℕ) (rows : List Record) (n before : ℕ) → RecordsInRange frame rows → AreNear now rows → n < length rows
    → Followed frame now rows n before → CanFollow frame now before (row_at rows n)
next_follows frame now rows n before in_range near low f =
    let member = get_or_mem rows n no_record low in
    record {
      after = omega (arith, above_before frame rows in_range n low);
      in_range = in_range.each _ member;
      near = (near.due_after _ member, near.released _ member);
    }
