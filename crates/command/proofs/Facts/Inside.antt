-- A script run into a lent buffer stays inside it, and leaves the places behind what it wrote.
use Rattle.std.specs.Prelude.{◌≡◌, refl, List, ◌++◌, ℕ, ◌+◌, ◌-◌, ◌≤◌, ◌<◌, length, take, drop}
use Rattle.std.proofs.Common.{sym, ap, subst, ◌∙◌, append_assoc, arith, length-append, length-take-le, drop_at, drop-drop}
use Rattle.std.proofs.Math.Decide.{dec_lt, ℕ_discrete}
use Rattle.command.specs.Puts.{room, IsPut}
use Rattle.command.specs.Runs.{Reaches, HasRunLast}
use Rattle.command.specs.Runs.Reaches.{none, one_more}
use Rattle.command.specs.Script.{IsScript, StaysInside}
use Rattle.command.proofs.Facts.Puts.{put_length}
use Rattle.command.specs.declared.lines.Reached.{Reached}

-- behind what was put the buffer is as it was
put_behind : {P : List ℕ → Type 0} {before after : List ℕ} {at r : ℕ} → IsPut P before after at r → at ≤ length before → drop r after ≡ drop r before
put_behind {before = before} {at = at} {r = r} put inside =
    let front = take at before ++ put.bytes in
    let long : length front ≡ r = length-append (take at before) put.bytes ∙ omega (arith, length-take-le at before inside, put.ends) in
    ap (drop r) (put.content ∙ sym (append_assoc (take at before) put.bytes (drop r before))) ∙ drop_at front (drop r before) r long

-- lists that are equal from a place on are equal from a later one on
equal_further : (l m : List ℕ) (a b : ℕ) → a ≤ b → drop a l ≡ drop a m → drop b l ≡ drop b m
equal_further l m a b later same =
    let further : a + (b - a) ≡ b = omega arith in
    subst (λ (n : ℕ). drop n l ≡ drop n m) further (sym (drop-drop (b - a) a l) ∙ ap (drop (b - a)) same ∙ drop-drop (b - a) a m)

-- what is put behind the end stays inside too
put_inside : {P : List ℕ → Type 0} {out mid after : List ℕ} {at r : ℕ} → StaysInside out mid at → IsPut P mid after at r → r ≤ length out
    → StaysInside out after r
put_inside {out = out} {mid} {at = at} {r} inside put within =
    record {
      within = within;
      same_length = put_length put (omega (arith, inside.same_length)) ∙ inside.same_length;
      behind = put_behind put (omega (arith, inside.within, inside.same_length))
          ∙ equal_further mid out at r (omega (arith, put.ends)) inside.behind;
    }

-- a run keeps the buffer's length ..
pub run_length : {bytes out : List ℕ} {s t : Reached} {w : List ℕ} → Reaches bytes s out t w → length w ≡ length out
run_length none = refl
run_length (one_more {t} run to line_end inside free after r is) =
    let so_far = run_length run in
    put_length is.written (omega (arith, is.in_room)) ∙ so_far

-- .. and from inside the buffer on it stays there
run_inside : {bytes out : List ℕ} {s t : Reached} {w : List ℕ} → s.end ≤ length out → Reaches bytes s out t w → StaysInside out w t.end
run_inside begun none = record { within = begun; same_length = refl; behind = refl }
run_inside begun (one_more run to line_end inside free after r is) = put_inside (run_inside begun run) is.written (omega (arith, is.in_room))

-- and so does what is left behind the last line end
last_inside : {bytes out w after : List ℕ} {t r : Reached} → StaysInside out w t.end → HasRunLast t bytes w after r → StaysInside out after r.end
last_inside {bytes} {out} {w} {after} {t} {r} inside last = go (ℕ_discrete t.from (length bytes)) (dec_lt (length w) (t.end + room))
  where
    unmoved : (r ≡ t) × (after ≡ w) → StaysInside out after r.end
    unmoved (same, untouched) = rw (same, untouched) inside

    go : Dec (t.from ≡ length bytes) → Dec (length w < t.end + room) → StaysInside out after r.end
    go (yes done) _ = unmoved (last.nothing_left done)
    go (no some) (yes full) = unmoved (last.no_room full)
    go (no some) (no free) =
        let (step, (is, r_is)) = last.last_line some (omega arith) in
        rw r_is (put_inside inside is.written (omega (arith, is.in_room, inside.same_length)))

-- Annex 11.24, 12.1: what a script writes stays inside the lent buffer
pub script_inside : {script before after : List ℕ} {r : ℕ} → IsScript script before after r → StaysInside before after r
script_inside {before = before} {after = after} is =
    let begun : is.begins.end ≤ length before = omega (arith, is.beginning.end) in
    subst (StaysInside before after) (sym is.written) (last_inside (run_inside begun is.lines.reaches) is.last)
