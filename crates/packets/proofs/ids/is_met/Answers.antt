-- `packets::ids::is_met` meets its contract: where the set has the id's remainder, the ids are looked through.
use Rattle.std.proofs.Math.Path.{subst⁻¹}
use mathlib.Core.List.{Mem}
use Rattle.basics.specs.Decides.{Decides}
use Rattle.packets.specs.Facts.Met.{among}
use Rattle.packets.proofs.ids.is_met.Goals as goal

pub returns-then-is_in_below_1024 : goal.returns-then-is_in_below_1024
returns-then-is_in_below_1024 c =
    subst⁻¹ (λ found. Decides found (Mem c.args.id c.args.ids.now)) c.contains.ensures.value (among _ _)
