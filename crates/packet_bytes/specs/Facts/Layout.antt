-- Values and bytes determine one another.
use Rattle.std.specs.Prelude.{◌≡◌, refl, List, [], ◌∷◌, ℕ, zero, suc, ◌+◌, ◌*◌, ◌/◌, ◌%◌, ◌<◌, length, get_or}
use Rattle.std.proofs.Common.{sym, ap, ◌∙◌, arith}
use Rattle.packet_bytes.specs.Parts.{ids_in, values_in}
use Rattle.packet_bytes.specs.Layout.{Values, id_bytes, bytes_of}

-- the two bytes of an id give it back
pub ids_kept : (ids : List ℕ) → ids_in (id_bytes ids) ≡ ids
unfolding ids_in id_bytes
ids_kept [] = refl
ids_kept (id ∷ ids) = let here : id / 256 * 256 + id % 256 ≡ id = omega arith in λ i. here i ∷ ids_kept ids i

-- n ids take 2×n bytes
pub length_id_bytes : (ids : List ℕ) → length (id_bytes ids) ≡ 2 * length ids
unfolding id_bytes
length_id_bytes [] = refl
length_id_bytes (id ∷ ids) = let rest = length_id_bytes ids in omega (arith, rest)

-- the packet of n ids has 6 + 2×n bytes
pub length_bytes : (v : Values) → length (bytes_of v) ≡ 6 + 2 * length v.ids
length_bytes v = omega (arith, length_id_bytes v.ids)

-- the bytes give the values back, whatever these are
pub values_kept : (v : Values) → values_in (bytes_of v) ≡ v
values_kept v =
    let start : v.start / 16_777_216 * 16_777_216 + v.start / 65_536 % 256 * 65_536 + v.start / 256 % 256 * 256 + v.start % 256 ≡ v.start = omega arith in
    λ i. record { start = start i; slots = v.slots; ids = ids_kept v.ids i }

-- Annex 12.18: no two values have the same bytes, good or not
pub same_bytes_same_values : (v w : Values) → bytes_of v ≡ bytes_of w → v ≡ w
same_bytes_same_values v w same = sym (values_kept v) ∙ ap values_in same ∙ values_kept w

-- a list of bytes
abbrev pub AreBytes : List ℕ → Type 0
AreBytes p = (i : ℕ) → get_or p i 0 < 256

-- bytes in pairs, read and written again, are the same bytes
pairs_kept : (n : ℕ) (p : List ℕ) → AreBytes p → length p ≡ 2 * n → id_bytes (ids_in p) ≡ p
unfolding ids_in id_bytes
pairs_kept n [] small even = refl
pairs_kept n (a ∷ []) small even = absurd (omega arith)
pairs_kept zero (a ∷ b ∷ rest) small even = absurd (omega arith)
pairs_kept (suc n) (a ∷ b ∷ rest) small even =
    let low = small 1 in
    let first : (a * 256 + b) / 256 ≡ a = omega arith in
    let second : (a * 256 + b) % 256 ≡ b = omega arith in
    let fewer : length rest ≡ 2 * n = omega (arith, even) in
    λ i. first i ∷ second i ∷ pairs_kept n rest (λ k. small (suc (suc k))) fewer i

-- in 2×n bytes there are n ids
pub length_ids_in : (n : ℕ) (p : List ℕ) → length p ≡ 2 * n → length (ids_in p) ≡ n
unfolding ids_in
length_ids_in n [] even = omega (arith, even)
length_ids_in n (a ∷ []) even = absurd (omega arith)
length_ids_in zero (a ∷ b ∷ rest) even = absurd (omega arith)
length_ids_in (suc n) (a ∷ b ∷ rest) even = let fewer : length rest ≡ 2 * n = omega (arith, even) in ap suc (length_ids_in n rest fewer)

-- bytes as long as byte 5 says are those of the values in them
pub bytes_kept : (p : List ℕ) → AreBytes p → length p ≡ 6 + 2 * get_or p 5 0 → bytes_of (values_in p) ≡ p
bytes_kept (a ∷ b ∷ c ∷ d ∷ e ∷ n ∷ rest) small long =
    let lb = small 1 in
    let lc = small 2 in
    let ld = small 3 in
    let many : length rest ≡ 2 * n = omega (arith, long) in
    let start = a * 16_777_216 + b * 65_536 + c * 256 + d in
    let a_is : start / 16_777_216 ≡ a = omega arith in
    let b_is : start / 65_536 % 256 ≡ b = omega arith in
    let c_is : start / 256 % 256 ≡ c = omega arith in
    let d_is : start % 256 ≡ d = omega arith in
    let count = length_ids_in n rest many in
    let ids = pairs_kept n rest (λ k. small (suc (suc (suc (suc (suc (suc k))))))) many in
    λ i. a_is i ∷ b_is i ∷ c_is i ∷ d_is i ∷ e ∷ count i ∷ ids i
bytes_kept (a ∷ b ∷ c ∷ d ∷ e ∷ []) small long = absurd (omega arith)
bytes_kept (a ∷ b ∷ c ∷ d ∷ []) small long = absurd (omega arith)
bytes_kept (a ∷ b ∷ c ∷ []) small long = absurd (omega arith)
bytes_kept (a ∷ b ∷ []) small long = absurd (omega arith)
bytes_kept (a ∷ []) small long = absurd (omega arith)
bytes_kept [] small long = absurd (omega arith)
