-- The number of this version, which hosts and libraries compare.
use Rattle.std.specs.Prelude.{ℕ}

-- Annex 7.40: this is version 8.
abbrev pub version : ℕ
version = 8
