-- The rules as the code names them.
use Rattle.std.specs.Prelude.{ℕ}
use Rattle.basics.specs.OneTo.{OneTo}
use Rattle.checker.specs.Plans.{Rule, of_packet, of_start, of_room, of_slots, of_rest, number_of}
use Rattle.checker.specs.declared.round_rules.Rule.{Rule as Named}
use Rattle.checker.specs.declared.round_rules.Rule.TheVariants.{Packet, Start, Room, Slots, Rest}

-- Annex 14.9: the rule that a name stands for.
abbrev pub rule_of : Named → Rule
rule_of Packet = of_packet
rule_of Start = of_start
rule_of Room = of_room
rule_of Slots = of_slots
rule_of Rest = of_rest

-- Annex 14.13: no rule has this number: it is not 1 to that of the last rule.
abbrev pub NumbersNone : ℕ → Type 0
NumbersNone n = OneTo (number_of of_rest) n → ⊥
