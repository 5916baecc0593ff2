-- What reading a packet answers: Annex, chapter 10.
use Rattle.std.specs.Prelude.{◌≡◌, List, [], ◌∷◌, ℕ, ◌+◌, ◌*◌, ◌≤◌, length, get_or, drop}
use Rattle.std.proofs.Math.Logic.{ite}
use Rattle.std.proofs.Math.Logic.Dec.{and as Dec-and, not as Dec-not}
use Rattle.std.proofs.Math.Decide.{dec_le, ℕ_discrete}
use Rattle.basics.specs.Refusals.{Refusal, answer_of}
use Rattle.packet_bytes.specs.Layout.{Values, bytes_of}
use Rattle.packets.specs.Good.{IsGood, IsGoodPacket}
use Rattle.packets.specs.Facts.Good.{decide_packet}
use Rattle.packets.specs.declared.Header.{Header}

-- Annex 10.6: the length is right: not under 6, so that there is a byte 5, and 6 + 2×n, n being that byte, whatever it is.
abbrev pub HasLength : List ℕ → Type 0
HasLength p = (6 ≤ length p) × (length p ≡ 6 + 2 * get_or p 5 0)

-- Annex 10.6: 26 if the length is not right.
abbrev pub wrong_length : List ℕ → Refusal
wrong_length p =
    record {
      number = 26;
      Applies = HasLength p → ⊥;
      decided = Dec-not (Dec-and (dec_le 6 (length p)) (ℕ_discrete (length p) (6 + 2 * get_or p 5 0)));
    }

-- Annex 10.6: 27 if the bytes are those of no good values.
abbrev pub bad_value : List ℕ → Refusal
bad_value p = record { number = 27; Applies = IsGoodPacket p → ⊥; decided = Dec-not (decide_packet p) }

-- Annex 10.6: a read is refused, in this order: 26 for its length, 27 for a value that is not good.
abbrev pub read_refusals : List ℕ → List Refusal
read_refusals p = wrong_length p ∷ bad_value p ∷ []

-- Annex 10.7: what a read gives of values: answer 0, the start, B and n.
abbrev pub header_of : Values → Header
header_of v = record { answer = 0; start = v.start; slots = v.slots; n = length v.ids }

-- Annex 10.7: a refused read gives zeros beside its number.
abbrev pub refused_read : ℕ → Header
refused_read number = record { answer = number; start = 0; slots = 0; n = 0 }

-- Annex 10.7: a read gives the start, B and n of the good values whose bytes the packet is; refused, the number of the first refusal and zeros.
pub record IsRead (p : List ℕ) (r : Header) : Type 0 where
  pub read : answer_of (read_refusals p) ≡ 0 → (v : Values) × (p ≡ bytes_of v) × IsGood v × (r ≡ header_of v)
  pub refused : (answer_of (read_refusals p) ≡ 0 → ⊥) → r ≡ refused_read (answer_of (read_refusals p))

-- Annex 10.8: the second call, of the bytes alone: the part from byte 6 on, which is the ids' bytes; none where the read is refused.
unfoldable pub ids_part : List ℕ → List ℕ
ids_part p = ite (ℕ_discrete (answer_of (read_refusals p)) 0) (drop 6 p) []
