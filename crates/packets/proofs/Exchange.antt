-- Reading and writing fit together, and their promises leave nothing to choose.
use Rattle.std.specs.Prelude.{◌≡◌, refl, ◌↔◌, List, ◌++◌, ℕ, ◌≤◌, length, take, drop}
use Rattle.std.proofs.Common.{sym, ap, subst, ◌∙◌, arith, take_at}
use Rattle.std.proofs.Math.Path.{subst⁻¹}
use Rattle.std.proofs.Math.Decide.{ℕ_discrete}
use Rattle.basics.specs.Refusals.{answer_of}
use Rattle.packet_bytes.specs.Layout.{Values, id_bytes, bytes_of}
use Rattle.packets.specs.Good.{IsGood, IsGoodPacket}
use Rattle.packet_bytes.specs.Parts.{ids_in, values_in}
use Rattle.packet_bytes.specs.Facts.Layout.{ids_kept, same_bytes_same_values, length_bytes, AreBytes, bytes_kept}
use Rattle.packets.specs.Reading.{HasLength, read_refusals, header_of, IsRead, ids_part}
use Rattle.packets.specs.Facts.Good.{values_are_in}
use Rattle.packets.specs.Facts.Reading.{answers_27, good_is_read, read_is_good, whole_part}
use Rattle.packets.specs.Writing.{write_refusals, IsWritten}
use Rattle.packets.specs.Facts.Writing.{written_is_good, good_is_written}
use Rattle.packets.specs.declared.Header.{Header}

-- Annex 12.18: a read answers 0 exactly for the bytes of a good packet.
pub read_exactly : (p : List ℕ) → (answer_of (read_refusals p) ≡ 0) ↔ IsGoodPacket p
read_exactly p = (read_is_good p, good_is_read p)

-- Every list of bytes that is as long as its byte 5 says is the layout of some values, and of no others (`same_bytes_same_values`).
pub carries_values : (p : List ℕ) → AreBytes p → HasLength p → (v : Values) × (p ≡ bytes_of v)
carries_values p small long = (values_in p, sym (bytes_kept p small long.1))

-- Of these it answers 27 exactly if the values are not good.
pub twenty_seven_exactly : (p : List ℕ) (v : Values) → p ≡ bytes_of v → (answer_of (read_refusals p) ≡ 27) ↔ (IsGood v → ⊥)
twenty_seven_exactly p v same = (
  λ given good. omega (arith, good_is_read p (v, same, good), given),
  λ bad. sym (answers_27 p (subst⁻¹ HasLength same (omega arith, length_bytes v)) (λ good. bad (subst⁻¹ IsGood (values_are_in v same) good))),
)

-- what a read of a good packet gives, with the values whose bytes it is
read_gives : (v : Values) → IsGood v → (r : Header) → IsRead (bytes_of v) r → (r ≡ header_of v) × (ids_part (bytes_of v) ≡ id_bytes v.ids)
read_gives v good r is =
    let zero = good_is_read (bytes_of v) (v, refl, good) in
    let given = is.read zero in
    (given.3 ∙ ap header_of (same_bytes_same_values given.0 v (sym given.1)), sym (whole_part (bytes_of v) zero))

-- Annex 12.17: reading a written packet gives its values: of what a write that answered 0 put in front, a read gives start, B and n as they were
-- passed, and the second call the bytes of the ids.
pub read_of_written : (v : Values) (before after : List ℕ) → IsWritten v before after 0 → (r : Header) → IsRead (take (length (bytes_of v)) after) r
    → (r ≡ header_of v) × (ids_part (take (length (bytes_of v)) after) ≡ id_bytes v.ids)
read_of_written v before after wrote r is =
    let zero = sym wrote.answers in
    let many = length (bytes_of v) in
    let front : take many after ≡ bytes_of v = ap (take many) (wrote.written zero) ∙ take_at (bytes_of v) (drop many before) many refl in
    let gives = read_gives v (written_is_good v before zero) r in
    subst⁻¹ (λ (p : List ℕ). IsRead p r → (r ≡ header_of v) × (ids_part p ≡ id_bytes v.ids)) front gives is

-- a read whose answer is 0 was not refused
not_refused : (p : List ℕ) (r : Header) → IsRead p r → r.answer ≡ 0 → answer_of (read_refusals p) ≡ 0
not_refused p r is zero = go (ℕ_discrete (answer_of (read_refusals p)) 0)
  where
    go : Dec (answer_of (read_refusals p) ≡ 0) → answer_of (read_refusals p) ≡ 0
    go (yes none) = none
    go (no some) = sym (ap (λ (h : Header). h.answer) (is.refused some)) ∙ zero

-- the values of a packet that was read: its start and B, and the ids whose bytes the second call gives
read_values : (p : List ℕ) (r : Header) → IsRead p r → r.answer ≡ 0 → (ids : List ℕ) → id_bytes ids ≡ ids_part p
    → (p ≡ bytes_of (record { start = r.start; slots = r.slots; ids = ids })) × IsGood (record { start = r.start; slots = r.slots; ids = ids })
read_values p r is zero ids part =
    let none = not_refused p r is zero in
    let given = is.read none in
    let v = given.0 in
    let bytes : id_bytes ids ≡ id_bytes v.ids = part ∙ sym (whole_part p none) ∙ ap (drop 6) given.1 in
    let same_ids : v.ids ≡ ids = sym (ids_kept v.ids) ∙ ap ids_in (sym bytes) ∙ ids_kept ids in
    let same_start : v.start ≡ r.start = ap (λ (h : Header). h.start) (sym given.3) in
    let same_slots : v.slots ≡ r.slots = ap (λ (h : Header). h.slots) (sym given.3) in
    let same : v ≡ record { start = r.start; slots = r.slots; ids = ids } = λ i. record { start = same_start i; slots = same_slots i; ids = same_ids i } in
    (given.1 ∙ ap bytes_of same, subst IsGood same given.2)

-- Annex 12.17: writing what was read gives its bytes: the values that a read gave, written to any buffer long enough, give the packet in front.
pub written_of_read : (p : List ℕ) (r : Header) → IsRead p r → r.answer ≡ 0 → (ids : List ℕ) → id_bytes ids ≡ ids_part p
    → (before after : List ℕ) (answer : ℕ) → length p ≤ length before → IsWritten (record { start = r.start; slots = r.slots; ids = ids }) before after answer
    → (answer ≡ 0) × (after ≡ p ++ drop (length p) before)
written_of_read p r is zero ids part before after answer room wrote =
    let v : Values = record { start = r.start; slots = r.slots; ids = ids } in
    let values = read_values p r is zero ids part in
    let room_for_v : length (bytes_of v) ≤ length before = subst (λ (l : List ℕ). length l ≤ length before) values.0 room in
    let none : answer_of (write_refusals v before) ≡ 0 = good_is_written v before values.1 room_for_v in
    (wrote.answers ∙ none, subst⁻¹ (λ (l : List ℕ). after ≡ l ++ drop (length l) before) values.0 (wrote.written none))

-- Annex 12.18: no two good packets with the same values differ: the same start, B and n read, and the same bytes of ids.
pub same_values_same_packet : (p q : List ℕ) (r : Header) → IsRead p r → IsRead q r → r.answer ≡ 0 → ids_part p ≡ ids_part q → p ≡ q
same_values_same_packet p q r of_p of_q zero same =
    let given = of_p.read (not_refused p r of_p zero) in
    let ids = given.0.ids in
    let part : id_bytes ids ≡ ids_part p = sym (ap (drop 6) given.1) ∙ whole_part p (not_refused p r of_p zero) in
    (read_values p r of_p zero ids part).0 ∙ sym (read_values q r of_q zero ids (part ∙ same)).0

-- Two reads of the same bytes that keep the promise give the same.
pub read_unique : (p : List ℕ) (r s : Header) → IsRead p r → IsRead p s → r ≡ s
read_unique p r s one two = go (ℕ_discrete (answer_of (read_refusals p)) 0)
  where
    go : Dec (answer_of (read_refusals p) ≡ 0) → r ≡ s
    go (yes none) =
        let a = one.read none in
        let b = two.read none in
        a.3 ∙ ap header_of (same_bytes_same_values a.0 b.0 (sym a.1 ∙ b.1)) ∙ sym b.3
    go (no some) = one.refused some ∙ sym (two.refused some)

-- Two writes of the same values to the same bytes that keep the promise answer the same and leave the same.
pub write_unique : (v : Values) (before a b : List ℕ) (x y : ℕ) → IsWritten v before a x → IsWritten v before b y → (x ≡ y) × (a ≡ b)
write_unique v before a b x y one two = (one.answers ∙ sym two.answers, go (ℕ_discrete (answer_of (write_refusals v before)) 0))
  where
    go : Dec (answer_of (write_refusals v before) ≡ 0) → a ≡ b
    go (yes none) = one.written none ∙ sym (two.written none)
    go (no some) = one.refused some ∙ sym (two.refused some)
