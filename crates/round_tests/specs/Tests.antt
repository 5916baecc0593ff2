-- What the tests of a round promise.
use Rattle.std.specs.Prelude.{◌≡◌, List, ◌++◌, ℕ, ◌+◌, ◌*◌, ◌≤◌, ◌<◌, length, get_or, Option, MatchOption}
use Rattle.packet_bytes.specs.Layout.{Values, bytes_of}

-- No packet stands whole in front of bytes.
abbrev pub CutShort : List ℕ → Type 0
CutShort rest = (v : Values) (more : List ℕ) → rest ≡ bytes_of v ++ more → ⊥

-- The length of the packet in front of bytes, by its byte 5; none where no packet stands there whole.
abbrev pub IsFrontLength : List ℕ → Option ℕ → Type 0
IsFrontLength rest r = MatchOption r (CutShort rest) (λ n. (n ≡ 6 + 2 * get_or rest 5 0) × (n ≤ length rest))

-- A start after the last one, and by the gap cap.
abbrev pub StartFits : ℕ → ℕ → ℕ → Type 0
StartFits start last gap = (last < start) × (start ≤ last + 1 + gap)

-- A packet with this due time and deadline may ride in a round at a start: it is released, and not late.
abbrev pub RidesBy : ℕ → ℕ → ℕ → Type 0
RidesBy due deadline start = (due ≤ start + deadline) × (start < due)

-- None of the first due times is by a moment.
abbrev pub NoneBy : ℕ → List ℕ → ℕ → Type 0
NoneBy count dues end = (k : ℕ) → k < count → end < get_or dues k 0
