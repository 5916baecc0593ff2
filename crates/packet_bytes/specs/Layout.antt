-- The layout of a packet: what it carries, and its bytes. Annex, chapter 10.
use Rattle.std.specs.Prelude.{List, [], ◌∷◌, ◌++◌, ℕ, ◌/◌, ◌%◌, length}

-- Annex 10.1: what a packet carries: the start of a round, B, and the numbers that it lists in their order, stream ids and then messages; n is their
-- count.
pub record Values : Type 0 where
  pub start : ℕ
  pub slots : ℕ
  pub ids : List ℕ

-- Annex 10.2: bytes 0 to 3 are the start, the most significant byte first; byte 4 is B and byte 5 is n.
abbrev pub header_bytes : ℕ → ℕ → ℕ → List ℕ
header_bytes start slots n = start / 16_777_216 ∷ start / 65_536 % 256 ∷ start / 256 % 256 ∷ start % 256 ∷ slots ∷ n ∷ []

-- Annex 10.2: each id takes two bytes, the most significant first; the ids follow one another in their order.
unfoldable pub id_bytes : List ℕ → List ℕ
id_bytes [] = []
id_bytes (id ∷ ids) = id / 256 ∷ id % 256 ∷ id_bytes ids

-- Annex 10.2: all bytes of a packet in their order: the header, then the ids from byte 6 on, and nothing after them.
abbrev pub bytes_of : Values → List ℕ
bytes_of v = header_bytes v.start v.slots (length v.ids) ++ id_bytes v.ids
