-- Worked examples: packets byte by byte, one of them that of a first round, one with messages, and each refusal.
use Rattle.std.specs.Prelude.{◌≡◌, refl, ℕ, ◌+◌, ◌*◌, ◌≤◌, length, get_or}
use Rattle.std.proofs.Common.{sym, ap, arith}
use Rattle.std.proofs.Math.Logic.Or
use mathlib.Core.HLevel.{⊥_prop}
use mathlib.Core.List.{List, [], ◌∷◌, Mem, Nodup-cons, eq-or-mem_of_mem-cons, mem-cons_self, mem-cons_of_mem, not-mem-nil}
use Rattle.std.proofs.Math.Decide.{dec_le, dec_lt}
use Rattle.basics.specs.Refusals.{answer_of}
use Rattle.messages.specs.Waiting.{IsMessage}
use Rattle.packet_bytes.specs.Layout.{Values, id_bytes, bytes_of}
use Rattle.packets.specs.Good.{IdsGood, AreMessages, IsGood}
use Rattle.packet_bytes.specs.Parts.{ids_in, values_in}
use Rattle.packets.specs.Facts.Met.{none_good, one_more_good, all_with}
use Rattle.packets.specs.Facts.Numbers.{numbers_good, no_messages, ids_alone}
use Rattle.packets.specs.Reading.{HasLength, read_refusals}
use Rattle.packets.specs.Facts.Reading.{answers_26, answers_27, good_is_read}
use Rattle.packets.specs.Writing.{write_refusals}
use Rattle.packets.specs.Facts.Writing.{refuses_27, refuses_28}

abbrev carries : ℕ → ℕ → List ℕ → Values
carries start slots ids = record { start = start; slots = slots; ids = ids }

-- A round at 2 of a planner with B 2: two slots, ids 1 and 2.
abbrev first_packet : List ℕ
first_packet = 0 ∷ 0 ∷ 0 ∷ 2 ∷ 2 ∷ 2 ∷ 0 ∷ 1 ∷ 0 ∷ 2 ∷ []

-- start 2, B 2 and the ids 1 and 2 are the ten bytes 0 0 0 2, 2, 2, 0 1, 0 2
pub first_bytes : bytes_of (carries 2 2 (1 ∷ 2 ∷ [])) ≡ first_packet
unfolding id_bytes
first_bytes = refl

-- The last start and the largest id; a round with no slot.
pub last_bytes : bytes_of (carries 1_000_000_000 64 (32_767 ∷ 256 ∷ [])) ≡ 59 ∷ 154 ∷ 202 ∷ 0 ∷ 64 ∷ 2 ∷ 127 ∷ 255 ∷ 1 ∷ 0 ∷ []
unfolding id_bytes
last_bytes = refl

-- start 20, B 1 and no ids are the six bytes 0 0 0 20, 1, 0
pub empty_bytes : bytes_of (carries 20 1 []) ≡ 0 ∷ 0 ∷ 0 ∷ 20 ∷ 1 ∷ 0 ∷ []
unfolding id_bytes
empty_bytes = refl

-- One stream id.
one_good : IdsGood (1 ∷ [])
one_good = one_more_good [] 1 none_good (omega arith, omega arith) not-mem-nil

-- The first is good.
first_good : IsGood (carries 2 2 (1 ∷ 2 ∷ []))
first_good =
    record {
      start = omega arith;
      slots = (omega arith, omega arith);
      count = omega arith;
      ids = ids_alone (1 ∷ 2 ∷ []) (one_more_good (1 ∷ []) 2 one_good (omega arith, omega arith) two_is_new);
    }
  where
    two_is_new : Mem {A = ℕ} 2 (1 ∷ []) → ⊥
    two_is_new m = Or.elim ⊥_prop (eq-or-mem_of_mem-cons m) (λ same. omega (arith, same)) not-mem-nil

-- A read of these bytes answers n.
pub record Gives (p : List ℕ) (n : ℕ) : Type 0 where
  pub given : answer_of (read_refusals p) ≡ n

wrong_length : {p : List ℕ} → (HasLength p → ⊥) → Gives p 26
wrong_length {p} wrong = record { given = sym (answers_26 p wrong) }

bad_value : {p : List ℕ} → 6 ≤ length p → length p ≡ 6 + 2 * get_or p 5 0 → (IsGood (values_in p) → ⊥) → Gives p 27
bad_value {p} header long bad = record { given = sym (answers_27 p (header, long) bad) }

good_values : {p : List ℕ} (v : Values) → bytes_of v ≡ p → IsGood v → Gives p 0
good_values {p} v same good = record { given = good_is_read p (v, sym same, good) }

-- a read of the first, start 2, B 2 and ids 1 and 2, answers 0
pub first_is_read : Gives first_packet 0
first_is_read = good_values (carries 2 2 (1 ∷ 2 ∷ [])) first_bytes first_good

-- Messages behind the ids: 40,000 is the bytes 156 and 64, 32,768 is 128 and 0, 65,535 is 255 and 255.
one_message : (n : ℕ) → IsMessage n → AreMessages (n ∷ [])
one_message n is = all_with (λ (x : ℕ). IsMessage x) [] n no_messages is

-- B 3 with the id 1 and the message 40,000 twice is read: a message may repeat
pub message_twice : Gives (0 ∷ 0 ∷ 0 ∷ 2 ∷ 3 ∷ 3 ∷ 0 ∷ 1 ∷ 156 ∷ 64 ∷ 156 ∷ 64 ∷ []) 0
unfolding id_bytes
message_twice =
    good_values (carries 2 3 (1 ∷ 40_000 ∷ 40_000 ∷ [])) refl
    (record { start = omega arith; slots = (omega arith, omega arith); count = omega arith; ids = numbers_good one_good twice })
  where
    twice : AreMessages (40_000 ∷ 40_000 ∷ [])
    twice = all_with (λ (n : ℕ). IsMessage n) (40_000 ∷ []) 40_000 (one_message 40_000 (omega arith, omega arith)) (omega arith, omega arith)

-- a message and no id: the numbers of B 1 and n 1
message_alone : (n : ℕ) → IsMessage n → IsGood (carries 2 1 (n ∷ []))
message_alone n is =
    record { start = omega arith; slots = (omega arith, omega arith); count = omega arith; ids = numbers_good none_good (one_message n is) }

-- B 1 with the one number 32,768, the least message, is read
pub message_32768 : Gives (0 ∷ 0 ∷ 0 ∷ 2 ∷ 1 ∷ 1 ∷ 128 ∷ 0 ∷ []) 0
unfolding id_bytes
message_32768 = good_values (carries 2 1 (32_768 ∷ [])) refl (message_alone 32_768 (omega arith, omega arith))

-- B 1 with the one number 65,535, the largest message, is read
pub message_65535 : Gives (0 ∷ 0 ∷ 0 ∷ 2 ∷ 1 ∷ 1 ∷ 255 ∷ 255 ∷ []) 0
unfolding id_bytes
message_65535 = good_values (carries 2 1 (65_535 ∷ [])) refl (message_alone 65_535 (omega arith, omega arith))

-- 26: five bytes; seven, though B is bad too.
pub five_bytes : Gives (0 ∷ 0 ∷ 0 ∷ 2 ∷ 2 ∷ []) 26
five_bytes = wrong_length (λ long. omega (arith, long.0))

-- seven bytes where n is 0, and six are right, get 26 and not 27, though B is 99
pub seven_bytes : Gives (0 ∷ 0 ∷ 0 ∷ 2 ∷ 99 ∷ 0 ∷ 0 ∷ []) 26
seven_bytes = wrong_length (λ long. omega (arith, long.1))

-- 27: a start after the last one; B 0 and 65; n above B, also by messages; 0; an id twice; an id behind a message.
pub late_start : Gives (59 ∷ 154 ∷ 202 ∷ 1 ∷ 1 ∷ 0 ∷ []) 27
late_start = bad_value (omega arith) refl (λ good. omega (arith, good.start))

-- start 2, B 0 and n 0 get 27: B is below 1
pub no_slots : Gives (0 ∷ 0 ∷ 0 ∷ 2 ∷ 0 ∷ 0 ∷ []) 27
no_slots = bad_value (omega arith) refl (λ good. omega (arith, good.slots.0))

-- start 2, B 65 and n 0 get 27: B is above 64
pub too_many_slots : Gives (0 ∷ 0 ∷ 0 ∷ 2 ∷ 65 ∷ 0 ∷ []) 27
too_many_slots = bad_value (omega arith) refl (λ good. omega (arith, good.slots.1))

-- B 1 and n 2 with the ids 1 and 2 get 27: n is above B
pub more_than_slots : Gives (0 ∷ 0 ∷ 0 ∷ 2 ∷ 1 ∷ 2 ∷ 0 ∷ 1 ∷ 0 ∷ 2 ∷ []) 27
unfolding ids_in
more_than_slots = bad_value (omega arith) refl (λ good. omega (arith, good.count))

-- B 2 and n 3 with the id 1 and the message 40,000 twice get 27: n counts the messages too
pub messages_past_slots : Gives (0 ∷ 0 ∷ 0 ∷ 2 ∷ 2 ∷ 3 ∷ 0 ∷ 1 ∷ 156 ∷ 64 ∷ 156 ∷ 64 ∷ []) 27
unfolding ids_in
messages_past_slots = bad_value (omega arith) refl (λ good. omega (arith, good.count))

-- B 1 with the one id 0 gets 27
pub id_zero : Gives (0 ∷ 0 ∷ 0 ∷ 2 ∷ 1 ∷ 1 ∷ 0 ∷ 0 ∷ []) 27
unfolding ids_in dec_le
id_zero = bad_value (omega arith) refl (λ good. omega (arith, (good.ids.ids.range 0 mem-cons_self).0))

-- B 2 with 0 behind the id 1 gets 27: 0 is no message
pub zero_behind : Gives (0 ∷ 0 ∷ 0 ∷ 2 ∷ 2 ∷ 2 ∷ 0 ∷ 1 ∷ 0 ∷ 0 ∷ []) 27
unfolding ids_in dec_le
zero_behind = bad_value (omega arith) refl (λ good. omega (arith, (good.ids.ids.range 0 (mem-cons_of_mem 1 mem-cons_self)).0))

-- B 2 with the id 1 twice gets 27
pub id_twice_in_a_row : Gives (0 ∷ 0 ∷ 0 ∷ 2 ∷ 2 ∷ 2 ∷ 0 ∷ 1 ∷ 0 ∷ 1 ∷ []) 27
unfolding ids_in dec_le
id_twice_in_a_row = bad_value (omega arith) refl (λ good. (Nodup-cons.0 good.ids.ids.once).0 mem-cons_self)

-- B 3 with the ids 1, 2 and 1 gets 27: 1 stands twice
pub id_twice : Gives (0 ∷ 0 ∷ 0 ∷ 2 ∷ 3 ∷ 3 ∷ 0 ∷ 1 ∷ 0 ∷ 2 ∷ 0 ∷ 1 ∷ []) 27
unfolding ids_in dec_le
id_twice = bad_value (omega arith) refl (λ good. (Nodup-cons.0 good.ids.ids.once).0 (mem-cons_of_mem 2 mem-cons_self))

-- B 2 with the message 40,000 and behind it the id 1 gets 27
pub id_behind : Gives (0 ∷ 0 ∷ 0 ∷ 2 ∷ 2 ∷ 2 ∷ 156 ∷ 64 ∷ 0 ∷ 1 ∷ []) 27
unfolding ids_in dec_le dec_lt
id_behind = bad_value (omega arith) refl (λ good. omega (arith, ap (λ (l : List ℕ). get_or l 0 0) good.ids.behind))

-- The writer: B 261 is 27 and not byte 5; 27 before 28, a bad id with no buffer; 28 for nine bytes where ten are needed.
pub slots_261 : (buffer : List ℕ) → answer_of (write_refusals (carries 2 261 []) buffer) ≡ 27
slots_261 buffer = sym (refuses_27 (carries 2 261 []) buffer (λ good. omega (arith, good.slots.1))).answers

-- B 1 and the id 0 need eight bytes: with a buffer of none both refusals apply, and 27 is given
pub bad_id_no_buffer : answer_of (write_refusals (carries 2 1 (0 ∷ [])) []) ≡ 27
unfolding dec_le
bad_id_no_buffer = sym (refuses_27 (carries 2 1 (0 ∷ [])) [] (λ good. omega (arith, (good.ids.ids.range 0 mem-cons_self).0))).answers

-- start 2, B 2 and the ids 1 and 2 are ten bytes: a buffer of nine gets 28
pub nine_bytes_of_ten : answer_of (write_refusals (carries 2 2 (1 ∷ 2 ∷ [])) (0 ∷ 0 ∷ 0 ∷ 0 ∷ 0 ∷ 0 ∷ 0 ∷ 0 ∷ 0 ∷ [])) ≡ 28
nine_bytes_of_ten = sym (refuses_28 (carries 2 2 (1 ∷ 2 ∷ [])) (0 ∷ 0 ∷ 0 ∷ 0 ∷ 0 ∷ 0 ∷ 0 ∷ 0 ∷ 0 ∷ []) first_good (omega arith)).answers
