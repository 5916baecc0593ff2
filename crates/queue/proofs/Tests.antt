-- What a test that fails decides of something more.
use Rattle.std.proofs.Common.{◌≡◌, Bool, false, sym, ◌∙◌, true≢false}
use Rattle.basics.specs.Decides.{Decides}

-- what holds only where A does fails with it
pub fails_with : {b : Bool} {A P : Type 0} → Decides b A → b ≡ false → (P → A) → Decides b P
fails_with tested is need = record { if_true = λ e. absurd (true≢false (sym e ∙ is)); if_false = λ e p. tested.if_false e (need p) }
