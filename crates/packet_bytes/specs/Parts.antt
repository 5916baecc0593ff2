-- Bytes taken apart again: what the functions that read them promise. That this is the layout the other way round is shown in Facts.Layout.
use Rattle.std.specs.Prelude.{List, [], ◌∷◌, ℕ, ◌+◌, ◌*◌, get_or, drop}
use Rattle.packet_bytes.specs.Layout.{Values}

-- The most ids that are read from a packet: no good one has more.
abbrev pub most_read : ℕ
most_read = 64

-- The ids in a list of bytes, two bytes each; a byte left over is passed over.
unfoldable pub ids_in : List ℕ → List ℕ
ids_in [] = []
ids_in (a ∷ []) = []
ids_in (a ∷ b ∷ rest) = (a * 256 + b) ∷ ids_in rest

-- The number in the first four bytes.
abbrev pub start_in : List ℕ → ℕ
start_in p = get_or p 0 0 * 16_777_216 + get_or p 1 0 * 65_536 + get_or p 2 0 * 256 + get_or p 3 0

-- What a list of bytes would carry, read so.
abbrev pub values_in : List ℕ → Values
values_in p = record { start = start_in p; slots = get_or p 4 0; ids = ids_in (drop 6 p) }
