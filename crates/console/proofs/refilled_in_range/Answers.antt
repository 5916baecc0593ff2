-- `console::refilled_in_range` meets its contract: the read leaves what was kept as it is (`kept_refilled`).
use mathlib.Core.Path.{◌∙◌, ap}
use Prim.Native.Nat.{ℕ, ◌-◌, ◌≤◌}
use native.Mathlib.Omega.{arith}
use lib.ListN.{length, take, drop}
use borrow.Rule.Slice.PartMut.{take_put}
use Rattle.std.specs.Prelude.{Option}
use Rattle.std.specs.Option.{unwrap_or}
use Rattle.console.specs.Facts.Session.{kept_refilled, within_part, got_few}
use Rattle.console.proofs.refilled_in_range.Goals as goal

pub returns : goal.returns
returns g c =
    let kept = c.keep_rest_in_range-kept in
    let read = c.read_input-read in
    let got = c.unwrap_or-got in
    let have = kept.result.have in
    let input = kept.new.input in
    let places = kept.auto.input ∙ c.requires.can_keep.places in
    let room = length input - have in
    let have-fits : have ≤ length input = omega (arith, kept.ensures.have, places) in
    let within : got.result ≤ length (take room (drop have input)) = omega (arith, got.ensures, got_few read.result _ read.ensures) in
    let few = within_part input have room got.result within (omega (arith, kept.ensures.have)) places in
    let same = take_put have room input read.new.buffer have-fits in
    kept_refilled kept.ensures c.requires _ same _ _ _ few (λ ended. got.ensures ∙ ap (λ (r : Option ℕ). unwrap_or r 0) (c.after_read.ensures ended))
