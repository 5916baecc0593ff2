-- The laws of what the rules see of records: nothing but these opens `as_streams`.
use Rattle.std.specs.Prelude.{◌≡◌, refl, ℕ, ◌<◌}
use Rattle.std.proofs.Common.{sym, subst, ◌∙◌}
use Rattle.std.proofs.Math.Logic.{ite, ∥∥₁_elim}
use Rattle.std.proofs.Math.Logic.Dec.{not as Dec-not}
use mathlib.Core.List.{List, [], ◌∷◌, ◌++◌, Mem, map, filter, map-map, map-append, map_congr_left, filter-map, exists_of_mem-map, mem-map_of_mem}
use mathlib.Core.List.Perm
use mathlib.Core.List.{Perm}
use Rattle.std.proofs.Math.Decide.{dec_lt, ℕ_discrete}
use Rattle.rules.specs.Streams.{Stream}
use Rattle.table.specs.Table.{stream_of, as_streams}
use Rattle.table.specs.Changes.{put_by_id, without_id}
use Rattle.table.specs.declared.Record.{Record}

-- of no records nothing is seen
pub none_seen : as_streams [] ≡ []
unfolding as_streams
none_seen = refl

-- a record at the end is seen at the end
pub one_record_more : (rs : List Record) (r : Record) → as_streams (rs ++ (r ∷ [])) ≡ as_streams rs ++ (stream_of r ∷ [])
unfolding as_streams
one_record_more rs r = map-append stream_of rs (r ∷ [])

-- each record is seen ..
pub seen : {r : Record} {rs : List Record} → Mem r rs → Mem (stream_of r) (as_streams rs)
unfolding as_streams
seen m = mem-map_of_mem stream_of m

-- .. and nothing else
pub seen_from : {s : Stream} {rs : List Record} → Mem s (as_streams rs) → ∥ ((r : Record) × Mem r rs × (stream_of r ≡ s)) ∥₁
unfolding as_streams
seen_from m = exists_of_mem-map m

-- what holds of every record as the rules see it holds of every stream
pub all_streams : (P : Stream → Type 0) → ((s : Stream) → IsProp (P s)) → (rs : List Record) → ((r : Record) → Mem r rs → P (stream_of r))
    → (s : Stream) → Mem s (as_streams rs) → P s
unfolding as_streams
all_streams P prop rs all s m = ∥∥₁_elim (exists_of_mem-map m) (prop s) (λ seen. subst P seen.2 (all seen.0 seen.1))

-- records changed alike are seen changed alike
pub seen_changed : (f : Record → Record) (g : Stream → Stream) (rs : List Record) → ((r : Record) → stream_of (f r) ≡ g (stream_of r))
    → as_streams (map f rs) ≡ map g (as_streams rs)
unfolding as_streams
seen_changed f g rs alike = map-map stream_of f rs ∙ map_congr_left {l = rs} (λ r m. alike r) ∙ sym (map-map g stream_of rs)

-- the streams' numbers are the records' ids
pub numbers : (rs : List Record) → map (λ (s : Stream). s.number) (as_streams rs) ≡ map (λ (r : Record). r.id) rs
unfolding as_streams
numbers rs = map-map (λ (s : Stream). s.number) stream_of rs

-- a record put in is seen as one stream more, wherever it stands
pub as_streams_put : (x : Record) (rs : List Record) → Perm (as_streams (put_by_id x rs)) (stream_of x ∷ as_streams rs)
unfolding put_by_id as_streams
as_streams_put x [] = Perm.refl (stream_of x ∷ [])
as_streams_put x (y ∷ ys) = go (dec_lt x.id y.id) (as_streams_put x ys)
  where
    go : (before : Dec (x.id < y.id)) → Perm (as_streams (put_by_id x ys)) (stream_of x ∷ as_streams ys)
        → Perm (as_streams (ite before (x ∷ y ∷ ys) (y ∷ put_by_id x ys))) (stream_of x ∷ stream_of y ∷ as_streams ys)
    go (yes first) later = Perm.refl (stream_of x ∷ stream_of y ∷ as_streams ys)
    go (no behind) later = Perm.trans (Perm.cons (stream_of y) later) (Perm.swap (stream_of x) (stream_of y) (as_streams ys))

-- a record taken out is seen as the streams of the other numbers
pub as_streams_without : (id : ℕ) (rs : List Record)
    → as_streams (without_id id rs) ≡ filter (λ (s : Stream). Dec-not (ℕ_discrete s.number id)) (as_streams rs)
unfolding without_id as_streams
as_streams_without id rs = sym (filter-map (λ (s : Stream). Dec-not (ℕ_discrete s.number id)) stream_of rs)
