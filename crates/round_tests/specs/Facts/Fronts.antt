-- The packet in front of bytes.
use Rattle.std.specs.Prelude.{◌≡◌, List, ◌++◌, ℕ, ◌+◌, ◌*◌, ◌≤◌, length, get_or}
use Rattle.std.proofs.Common.{ap, arith, length-append}
use Rattle.packet_bytes.specs.Layout.{Values, bytes_of}
use Rattle.packet_bytes.specs.Facts.Layout.{length_bytes}

-- a packet in front is as long as its byte 5 says, and not longer than what is there
pub front_long : (rest : List ℕ) (v : Values) (more : List ℕ) → rest ≡ bytes_of v ++ more → 6 + 2 * get_or rest 5 0 ≤ length rest
front_long rest v more same =
    let five : get_or rest 5 0 ≡ length v.ids = ap (λ (l : List ℕ). get_or l 5 0) same in
    omega (arith, five, ap (length {A = ℕ}) same, length-append (bytes_of v) more, length_bytes v)
