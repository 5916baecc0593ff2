-- Why a writer's tests give the answers, and what its two parts leave together.
use Rattle.std.specs.Prelude.{◌≡◌, refl, ℕ, ◌+◌, ◌-◌, ◌*◌, ◌≤◌, ◌<◌, length, take, drop}
use Rattle.std.proofs.Common.{sym, ap, ◌∙◌, arith, take_all, drop-drop}
use mathlib.Core.List.{List, [], ◌∷◌, ◌++◌, append-nil}
use Rattle.std.proofs.Math.Seq.{drop-length}
use borrow.Rule.Slice.PartMut.{put_mid, mid_of}
use Rattle.basics.specs.Refusals.{answer_of}
use Rattle.basics.specs.Facts.Refusals.{answer_first, answer_later, answer_zero}
use Rattle.packet_bytes.specs.Layout.{Values, header_bytes, id_bytes, bytes_of}
use Rattle.packets.specs.Good.{IsGood}
use Rattle.packet_bytes.specs.Facts.Layout.{length_bytes}
use Rattle.packets.specs.Facts.Good.{decide_good}
use Rattle.packets.specs.Writing.{bad_values, short_buffer, write_refusals, IsWritten}

module _ (v : Values) (before : List ℕ) where
  -- a refused write
  left_as_it_was : (answer : ℕ) → answer ≡ answer_of (write_refusals v before) → (answer ≡ 0 → ⊥) → IsWritten v before before answer
  left_as_it_was answer same some = record { answers = same; written = λ zero. absurd (some (same ∙ zero)); refused = λ _. refl }

  -- a write of values that are not good keeps its promise with answer 27 and the buffer as it was
  pub refuses_27 : (IsGood v → ⊥) → IsWritten v before before 27
  refuses_27 bad = left_as_it_was 27 (sym (answer_first (bad_values v) (short_buffer v before ∷ []) bad)) (λ e. omega arith)

  -- a write of good values into fewer than 6 + 2×n bytes keeps its promise with answer 28 and the buffer as it was
  pub refuses_28 : IsGood v → length before < 6 + 2 * length v.ids → IsWritten v before before 28
  refuses_28 good short =
      let passes = answer_later (bad_values v) (short_buffer v before ∷ []) (λ bad. bad good) in
      let refused = answer_first (short_buffer v before) [] (omega (arith, length_bytes v)) in
      left_as_it_was 28 (sym (passes ∙ refused)) (λ e. omega arith)

  -- a write of good values into a buffer no shorter than the packet is not refused
  pub good_is_written : IsGood v → length (bytes_of v) ≤ length before → answer_of (write_refusals v before) ≡ 0
  unfolding answer_of
  good_is_written good room =
      answer_later (bad_values v) (short_buffer v before ∷ []) (λ bad. bad good) ∙ answer_later (short_buffer v before) [] (λ short. omega arith)

  -- values whose write is not refused are good
  pub written_is_good : answer_of (write_refusals v before) ≡ 0 → IsGood v
  written_is_good zero = go (decide_good v)
    where
      go : Dec (IsGood v) → IsGood v
      go (yes good) = good
      go (no bad) = absurd ((answer_zero (bad_values v) (short_buffer v before ∷ []) (λ e. omega arith) zero).0 bad)

  -- a write of good values into 6 + 2×n bytes or more keeps its promise with answer 0, the packet in front and the later bytes as they were
  pub writes : (after : List ℕ) → IsGood v → 6 + 2 * length v.ids ≤ length before → after ≡ bytes_of v ++ drop (length (bytes_of v)) before
      → IsWritten v before after 0
  writes after good room is =
      let zero = good_is_written good (omega (arith, length_bytes v)) in
      record { answers = sym zero; written = λ _. is; refused = λ some. absurd (some zero) }

  -- the header, and then the ids in the part from byte 6 on
  pub header_and_ids : (whole part : List ℕ) → 6 + 2 * length v.ids ≤ length before
      → whole ≡ header_bytes v.start v.slots (length v.ids) ++ drop 6 before
      → part ≡ id_bytes v.ids ++ drop (2 * length v.ids) (mid_of 6 (length whole - 6) whole)
      → put_mid 6 (length whole - 6) whole part ≡ bytes_of v ++ drop (length (bytes_of v)) before
  header_and_ids whole part room is_whole is_part =
      let front = header_bytes v.start v.slots (length v.ids) in
      let many = 2 * length v.ids in
      let size = length whole - 6 in
      let rest : drop 6 whole ≡ drop 6 before = ap (drop 6) is_whole in
      let all : size ≡ length (drop 6 before) = omega (arith, ap (length {A = ℕ}) is_whole) in
      let middle : mid_of 6 size whole ≡ drop 6 before = ap (take size) rest ∙ take_all size (drop 6 before) (omega arith) in
      let behind : drop size (drop 6 whole) ≡ [] = ap (drop size) rest ∙ ap (λ (n : ℕ). drop n (drop 6 before)) all ∙ drop-length (drop 6 before) in
      let later : drop many (drop 6 before) ≡ drop (length (bytes_of v)) before
      = drop-drop many 6 before ∙ ap (λ (n : ℕ). drop n before) (sym (length_bytes v)) in
      let ids : part ≡ id_bytes v.ids ++ drop (length (bytes_of v)) before
      = is_part ∙ ap (λ (l : List ℕ). id_bytes v.ids ++ drop many l) middle ∙ ap (λ (l : List ℕ). id_bytes v.ids ++ l) later in
      ap (λ (l : List ℕ). l ++ (part ++ drop size (drop 6 whole))) (ap (take 6) is_whole)
      ∙ ap (λ (l : List ℕ). front ++ (part ++ l)) behind
      ∙ ap (λ (l : List ℕ). front ++ l) (append-nil part ∙ ids)
