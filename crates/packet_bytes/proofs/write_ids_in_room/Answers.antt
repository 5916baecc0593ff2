use Rattle.std.specs.Prelude.{◌≡◌, List, [], ◌∷◌, ℕ, zero, suc, ◌+◌, ◌*◌, ◌-◌, ◌<◌, length, get_or, set}
use Rattle.std.proofs.Common.{refl, sym, ap, subst, ◌∙◌, arith}
use borrow.Rule.Slice.PartMut.{put_mid}
use Rattle.packet_bytes.specs.Facts.Stores.{AreStored, none_stored, one_more_stored}
use Rattle.packet_bytes.proofs.write_ids_in_room.Goals as goal

-- two numbers put one behind the other are a part of two written over
two_put : (l : List ℕ) (i a b : ℕ) → i + 1 < length l → set (set l i a) (i + 1) b ≡ put_mid i 2 l (a ∷ b ∷ [])
two_put [] i a b inside = absurd (omega (arith, inside))
two_put (x ∷ []) zero a b inside = absurd (omega (arith, inside))
two_put (x ∷ y ∷ l) zero a b inside = refl
two_put (x ∷ l) (suc i) a b inside =
    let next : suc i + 1 ≡ suc (i + 1) = omega arith in rw next (ap (λ (m : List ℕ). x ∷ m) (two_put l i a b (omega (arith, inside))))

pub loop-k-init : goal.loop-k-init
loop-k-init c = none_stored _ _

pub loop-k-preserved : goal.loop-k-preserved
loop-k-preserved c =
    let k = c.loop-k.k in
    let after = c.loop-k.part in
    let two = c.to_be_bytes.result in
    let inside = c.loop-k-test.true in
    let part = c.loop-k.auto.part in
    let wide : 2 * k + 2 - 2 * k ≡ 2 = omega arith in
    let pair : two ≡ get_or two 0 0 ∷ get_or two 1 0 ∷ [] = rw c.to_be_bytes.ensures refl in
    let put : put_mid (2 * k) (2 * k + 2 - 2 * k) after two ≡ set (set after (2 * k) (get_or two 0 0)) (2 * k + 1) (get_or two 1 0) =
    rw wide (ap (put_mid (2 * k) 2 after) pair ∙ sym (two_put after (2 * k) _ _ (omega (arith, inside, part, c.requires)))) in
    subst (AreStored c.args.part.now c.args.ids.now (k + 1)) put
    (one_more_stored _ _ _ _ _ c.loop-k.invariant inside (omega (arith, part, c.requires)) (omega (arith, c.type_inv.ids k)) c.to_be_bytes.ensures)
