-- What a reader may say of bytes.
use Rattle.std.specs.Prelude.{◌≡◌, Bool, ℕ, ◌-◌, ◌≤◌, length, get_or, take, drop}
use Rattle.std.proofs.Math.Path.{sym, subst⁻¹}
use Rattle.std.proofs.Common.{ap, subst, ◌∙◌, arith}
use mathlib.Core.List.{List, []}
use Rattle.basics.specs.Decides.{Decides}
use Rattle.basics.specs.Facts.Decides.{same_as}
use Rattle.basics.specs.Refusals.{answer_of}
use Rattle.packet_bytes.specs.Layout.{Values}
use Rattle.packet_bytes.specs.Parts.{start_in, ids_in, values_in}
use Rattle.packet_bytes.specs.Facts.Layout.{AreBytes, bytes_kept}
use Rattle.packets.specs.Good.{IsGood, IsGoodPacket}
use Rattle.packets.specs.Reading.{HasLength, read_refusals, refused_read, IsRead, ids_part}
use Rattle.packets.specs.Facts.Reading.{values_read, answers_26, answers_27, good_is_read, read_is_good, read_refused, no_part, rest_is_part}

module _ (p : List ℕ) where
  -- no good packet is refused, and a refused read gives its number and zeros
  refused : {number : ℕ} → number ≡ answer_of (read_refusals p) → 1 ≤ number → (IsGoodPacket p → ⊥) × IsRead p (refused_read number)
  refused same some =
      (λ good. omega (arith, good_is_read p good), read_refused p same (λ zero. omega arith))

  -- it is refused with 26 for a wrong length ..
  pub refuses_26 : (HasLength p → ⊥) → (IsGoodPacket p → ⊥) × IsRead p (refused_read 26)
  refuses_26 wrong = refused (answers_26 p wrong) (omega arith)

  -- .. and with 27 where values of the right length are not good
  pub refuses_27 : HasLength p → (IsGood (values_in p) → ⊥) → (IsGoodPacket p → ⊥) × IsRead p (refused_read 27)
  refuses_27 long bad = refused (answers_27 p long bad) (omega arith)

  -- the values that were tested are those in the bytes
  pub tested : {start slots : ℕ} {ids : List ℕ} {good : Bool} → start ≡ start_in p → slots ≡ get_or p 4 0
      → ids ≡ ids_in (take (length p - 6) (drop 6 p))
      → Decides good (IsGood (record { start = start; slots = slots; ids = ids }))
      → Decides good (IsGood (values_in p))
  tested start slots ids =
      let same = values_read p start slots ids in
      same_as (subst IsGood same) (subst⁻¹ IsGood same)

  -- bytes of the right length with good values in them are a good packet, of which the start, B and n are given
  pub reads : {start slots n : ℕ} → AreBytes p → HasLength p → start ≡ start_in p → slots ≡ get_or p 4 0 → n ≡ get_or p 5 0 → IsGood (values_in p)
      → IsGoodPacket p × IsRead p (record { answer = 0; start = start; slots = slots; n = n })
  reads small long start slots n good =
      let v : Values = values_in p in
      let bytes = bytes_kept p small long.1 in
      let is : IsGoodPacket p = (v, sym bytes, good) in
      let count : get_or p 5 0 ≡ length v.ids = ap (λ (l : List ℕ). get_or l 5 0) (sym bytes) in (
        is,
        record {
          read = λ _. (v, sym bytes, good, λ i. record { answer = 0; start = start i; slots = slots i; n = (n ∙ count) i });
          refused = λ some. absurd (some (good_is_read p is));
        },
      )

  -- the part of the ids is all bytes of a good packet from byte 6 on ..
  pub good_part : IsGoodPacket p → take (length p - 6) (drop 6 p) ≡ ids_part p
  good_part good = rest_is_part p (good_is_read p good)

  -- .. and empty where they are those of no good packet
  pub bad_part : (IsGoodPacket p → ⊥) → [] ≡ ids_part p
  bad_part bad = no_part p (λ zero. bad (read_is_good p zero))
