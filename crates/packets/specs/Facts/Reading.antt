-- Why a reader's tests give the answers, and what is read is what was meant.
use Rattle.std.specs.Prelude.{◌≡◌, ℕ, ◌+◌, ◌-◌, ◌*◌, ◌<◌, length, get_or, take, drop}
use Rattle.std.proofs.Math.Path.{sym, subst⁻¹}
use Rattle.std.proofs.Common.{ap, ◌∙◌, lt_irrefl, length-drop, take_all}
use Rattle.std.proofs.Math.Logic.{if_pos, if_neg}
use mathlib.Core.List.{List, [], ◌∷◌}
use Rattle.std.proofs.Math.Decide.{ℕ_discrete}
use native.Mathlib.Omega.{arith}
use Rattle.basics.specs.Limits.{most_slots}
use Rattle.basics.specs.Refusals.{answer_of}
use Rattle.basics.specs.Facts.Refusals.{answer_first, answer_later, answer_zero}
use Rattle.packet_bytes.specs.Layout.{Values}
use Rattle.packets.specs.Good.{IsGood, IsGoodPacket}
use Rattle.packet_bytes.specs.Parts.{start_in, ids_in, values_in}
use Rattle.packet_bytes.specs.Facts.Layout.{length_ids_in, length_bytes}
use Rattle.packets.specs.Facts.Good.{good_in, decide_packet}
use Rattle.packets.specs.Reading.{HasLength, wrong_length, bad_value, read_refusals, refused_read, IsRead, ids_part}

-- the whole rest of a list, as a part
rest_taken : (p : List ℕ) → take (length p - 6) (drop 6 p) ≡ drop 6 p
rest_taken p = take_all (length p - 6) (drop 6 p) (simp length-drop (omega arith))

-- bytes as long as n says, with n above the largest B, hold no good values
pub too_many_ids : (p : List ℕ) (n : ℕ) → length p ≡ 6 + 2 * n → most_slots < n → IsGood (values_in p) → ⊥
too_many_ids p n long many good =
    let pairs : length (drop 6 p) ≡ 2 * n = simp length-drop (omega arith) in
    lt_irrefl n (omega (arith, many, length_ids_in n (drop 6 p) pairs, good.count, good.slots.1))

-- what the tests look at are the values in the bytes
pub values_read : {start slots : ℕ} {ids : List ℕ} (p : List ℕ) → start ≡ start_in p → slots ≡ get_or p 4 0 → ids ≡ ids_in (take (length p - 6) (drop 6 p))
    → ◌≡◌ {A = Values} (record { start = start; slots = slots; ids = ids }) (values_in p)
values_read p start slots ids =
    let all = ids ∙ ap ids_in (rest_taken p) in
    λ i. record { start = start i; slots = slots i; ids = all i }

module _ (p : List ℕ) where
  -- a reader answers 26 where the length is wrong ..
  pub answers_26 : (HasLength p → ⊥) → 26 ≡ answer_of (read_refusals p)
  answers_26 wrong = sym (answer_first (wrong_length p) (bad_value p ∷ []) wrong)

  -- .. 27 where the length is right and the values in the bytes are not good ..
  pub answers_27 : HasLength p → (IsGood (values_in p) → ⊥) → 27 ≡ answer_of (read_refusals p)
  answers_27 long bad =
      sym (answer_later (wrong_length p) (bad_value p ∷ []) (λ wrong. wrong long) ∙ answer_first (bad_value p) [] (λ is. bad (good_in is)))

  -- .. and 0 for the bytes of good values
  pub good_is_read : IsGoodPacket p → answer_of (read_refusals p) ≡ 0
  unfolding answer_of
  good_is_read is =
      let v = is.0 in
      let long : HasLength p = subst⁻¹ HasLength is.1 (omega arith, length_bytes v) in
      answer_later (wrong_length p) (bad_value p ∷ []) (λ wrong. wrong long) ∙ answer_later (bad_value p) [] (λ bad. bad is)

  -- a packet that is not refused is good, and so has six bytes at least
  pub read_is_good : answer_of (read_refusals p) ≡ 0 → IsGoodPacket p
  read_is_good zero = go (decide_packet p)
    where
      passes : (IsGoodPacket p → ⊥) → ⊥
      passes =
          let then : answer_of (bad_value p ∷ []) ≡ 0 = (answer_zero (wrong_length p) (bad_value p ∷ []) (λ e. omega arith) zero).1 in
          (answer_zero (bad_value p) [] (λ e. omega arith) then).0

      go : Dec (IsGoodPacket p) → IsGoodPacket p
      go (yes is) = is
      go (no not) = absurd (passes not)

  -- the number of the refusal, with zeros for start, B and n, is what a refused read has to give
  pub read_refused : {answer : ℕ} → answer ≡ answer_of (read_refusals p) → (answer ≡ 0 → ⊥) → IsRead p (refused_read answer)
  read_refused same some = record { read = λ zero. absurd (some (same ∙ zero)); refused = λ _. ap refused_read same }

  -- of bytes that are refused the part of the ids is empty ..
  pub no_part : (answer_of (read_refusals p) ≡ 0 → ⊥) → [] ≡ ids_part p
  unfolding ids_part
  no_part some = sym (if_neg (ℕ_discrete (answer_of (read_refusals p)) 0) some (drop 6 p) [])

  -- .. and of others it is all bytes from byte 6 on
  pub whole_part : answer_of (read_refusals p) ≡ 0 → drop 6 p ≡ ids_part p
  unfolding ids_part
  whole_part zero = sym (if_pos (ℕ_discrete (answer_of (read_refusals p)) 0) zero (drop 6 p) [])

  -- of bytes that are not refused, the slice that begins at byte 6 and is 6 shorter than the packet is the part of the ids
  pub rest_is_part : answer_of (read_refusals p) ≡ 0 → take (length p - 6) (drop 6 p) ≡ ids_part p
  rest_is_part zero = rest_taken p ∙ whole_part zero
