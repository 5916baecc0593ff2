-- The packet in front of bytes: its values are those in its bytes, and no others stand in front.
use Rattle.std.specs.Prelude.{◌≡◌, ℕ, ◌+◌, ◌-◌, ◌*◌, ◌≤◌, ◌<◌, length, get_or, take, drop}
use Rattle.std.proofs.Common.{sym, ap, ◌∙◌, lt_irrefl, arith, take-append-drop, drop_at, take-add, length-take-le, get_or-take}
use mathlib.Core.List.{List, ◌++◌}
use Rattle.std.proofs.Math.Decide.{dec_lt}
use Rattle.std.proofs.Math.ListN.{get_or-eq_default}
use Rattle.basics.specs.Limits.{places}
use Rattle.packet_bytes.specs.Layout.{Values, bytes_of}
use Rattle.packet_bytes.specs.Parts.{ids_in, start_in, values_in}
use Rattle.packet_bytes.specs.Facts.Layout.{AreBytes, bytes_kept}
use Rattle.checker.specs.Needs.{NoneInFront, values, IsInFront}
use Rattle.checker.specs.declared.rounds.Front.{Front}

-- a packet that says more numbers than so many has too many
pub too_many : {rest : List ℕ} {most : ℕ} → most < get_or rest 5 0 → NoneInFront rest most
too_many {rest} {most} many v more same few =
    let five : get_or rest 5 0 ≡ length v.ids = ap (λ (l : List ℕ). get_or l 5 0) same in
    lt_irrefl 0 (omega (arith, many, five, few))

-- bytes of which the first n are a whole packet
module _ (rest : List ℕ) {n : ℕ} (bytes : AreBytes rest) (whole : (n ≡ 6 + 2 * get_or rest 5 0) × (n ≤ length rest)) where
  -- the values in front
  abbrev round : Values
  round = values_in (take n rest)

  taken : length (take n rest) ≡ n
  taken = length-take-le n rest whole.1

  byte : (i : ℕ) → i < n → get_or (take n rest) i 0 ≡ get_or rest i 0
  byte i low = get_or-take n rest i 0 low

  six : 6 ≤ n
  six = omega (arith, whole.0)

  small : AreBytes (take n rest)
  small i = go (dec_lt i n)
    where
      go : Dec (i < n) → get_or (take n rest) i 0 < 256
      go (yes low) = omega (arith, byte i low, bytes i)
      go (no past) = omega (arith, get_or-eq_default (take n rest) 0 {n = i} (omega (arith, taken)))

  is_packet : bytes_of round ≡ take n rest
  is_packet = bytes_kept (take n rest) small (taken ∙ whole.0 ∙ ap (λ (k : ℕ). 6 + 2 * k) (sym (byte 5 (omega (arith, six)))))

  behind : drop 6 (take n rest) ≡ take (n - 6) (drop 6 rest)
  behind =
      let sum : n ≡ 6 + (n - 6) = omega (arith, six) in
      ap (drop 6) (ap (λ (k : ℕ). take k rest) sum ∙ take-add 6 (n - 6) rest)
      ∙ drop_at (take 6 rest) (take (n - 6) (drop 6 rest)) 6 (length-take-le 6 rest (omega (arith, six, whole.1)))

  start_there : start_in (take n rest) ≡ start_in rest
  start_there = omega (arith, byte 0 (omega (arith, six)), byte 1 (omega (arith, six)), byte 2 (omega (arith, six)), byte 3 (omega (arith, six)))

  -- what is read of the bytes, part by part, is the packet in front
  pub read_in_front : {f : Front} → f.length ≡ n → f.count ≤ places → f.start ≡ start_in rest → f.slots ≡ get_or rest 4 0
      → take f.count f.numbers ≡ ids_in (take (n - 6) (drop 6 rest)) → IsInFront rest f
  read_in_front {f} length_is few start slots numbers = record { long = long; are = are; few = few }
    where
      start_is : f.start ≡ round.start
      start_is = start ∙ sym start_there

      slots_is : f.slots ≡ round.slots
      slots_is = slots ∙ sym (byte 4 (omega (arith, six)))

      numbers_are : take f.count f.numbers ≡ round.ids
      numbers_are = numbers ∙ ap ids_in (sym behind)

      read : values f ≡ round
      read i = record { start = start_is i; slots = slots_is i; ids = numbers_are i }

      packet : bytes_of (values f) ≡ take n rest
      packet = ap bytes_of read ∙ is_packet

      long : f.length ≡ length (bytes_of (values f))
      long = length_is ∙ sym taken ∙ ap (length {A = ℕ}) (sym packet)

      are : rest ≡ bytes_of (values f) ++ drop f.length rest
      are =
          sym (take-append-drop n rest)
          ∙ ap (λ (l : List ℕ). l ++ drop n rest) (sym packet)
          ∙ ap (λ (k : ℕ). bytes_of (values f) ++ drop k rest) (sym length_is)
