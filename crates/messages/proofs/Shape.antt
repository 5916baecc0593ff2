-- The array of messages is as long as its type says.
use mathlib.Core.Path.{◌≡◌}
use mathlib.Core.List.{List}
use lib.ListN.{length}
use mir.Val.{Val}
use denote.Laws.{Is}
use denote.Struct.Declared.{row}
use Rattle.basics.specs.Limits.{most_waiting}
use Rattle.messages.specs.declared.Waiting.{Waiting}
use Rattle.messages.specs.contracts.Waiting.{the_type}

pub numbers_shape : (w : Waiting) (vs : List Val) → Is (row the_type) w vs → length w.numbers ≡ most_waiting
numbers_shape w vs is = is.1.1.1.0.1.0.1
