-- Tables with a record put in, with one taken out, and with one served.
use Rattle.std.proofs.Math.Logic.{ite}
use Rattle.std.proofs.Math.Logic.Dec.{not as Dec-not}
use mathlib.Core.List.{List, [], ◌∷◌, Mem, Pairwise, map, filter, dec_mem}
use Rattle.std.specs.Prelude.{ℕ, ◌+◌, ◌<◌}
use Rattle.std.proofs.Math.Decide.{dec_lt, ℕ_discrete}
use Rattle.table.specs.Table.{with_release}
use Rattle.table.specs.declared.Record.{Record}

-- Annex 7.13: a record of the table has the id.
abbrev pub HasId : ℕ → List Record → Type 0
HasId id rs = Mem id (map (λ (r : Record). r.id) rs)

-- Annex 7.13: that can be decided.
abbrev pub decide_id : (id : ℕ) (rs : List Record) → Dec (HasId id rs)
decide_id id rs = dec_mem ℕ_discrete id (map (λ (r : Record). r.id) rs)

-- Annex 7.20: the table with a record put at its place by ascending id: before the first one with a larger id, or at the end.
unfoldable pub put_by_id : Record → List Record → List Record
put_by_id x [] = x ∷ []
put_by_id x (y ∷ ys) = ite (dec_lt x.id y.id) (x ∷ y ∷ ys) (y ∷ put_by_id x ys)

-- Annex 7.23: the table without any record of the id; the others stay, in their order.
unfoldable pub without_id : ℕ → List Record → List Record
without_id id rs = filter (λ (r : Record). Dec-not (ℕ_discrete r.id id)) rs

-- Annex 5.6: a record at its stream's next packet: the release is larger by P, and nothing else changes.
abbrev pub sent : Record → Record
sent r = with_release r (r.release + r.period)

-- Annex 3.3: ids rise along the table, so that no two are equal.
abbrev pub Ascending : List Record → Type 0
Ascending rs = Pairwise (λ (x y : Record). x.id < y.id) rs
