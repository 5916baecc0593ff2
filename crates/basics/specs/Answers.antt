-- The number of each refusal, and what a call answers.
use Rattle.std.specs.Prelude.{Result, Ok, Err, ℕ}
use Rattle.basics.specs.declared.refusals.Refusal.{Refusal}
use Rattle.basics.specs.declared.refusals.Refusal.TheVariants.{BadSlots, BadFrame, BadGap, BadLast, NotSound, BadId, IdTaken, Full, BadPeriod, BadDeadline, BadRelease, BreaksDemand, BreaksStart}
use Rattle.basics.specs.declared.refusals.Refusal.TheVariants.{NoStream, ShortBuffer, LateStart, BadPeriodOfList, LongFrame, Malformed, QueueFull, Filed, OutOfBounds, NotFiled, NoEntry, WrongLength, BadValues, ShortPacketBuffer, BadMessage, WaitingFull}

-- Annex 7.2, table 1: the number of a refusal.
abbrev pub number_of : Refusal → ℕ
number_of BadSlots = 1
number_of BadFrame = 2
number_of BadGap = 3
number_of BadLast = 4
number_of NotSound = 5
number_of BadId = 6
number_of IdTaken = 7
number_of Full = 8
number_of BadPeriod = 9
number_of BadDeadline = 10
number_of BadRelease = 11
number_of BreaksDemand = 12
number_of BreaksStart = 13
number_of NoStream = 14
number_of ShortBuffer = 16
number_of LateStart = 17
number_of BadPeriodOfList = 18
number_of LongFrame = 19
number_of Malformed = 20
number_of QueueFull = 21
number_of Filed = 22
number_of OutOfBounds = 23
number_of NotFiled = 24
number_of NoEntry = 25
number_of WrongLength = 26
number_of BadValues = 27
number_of ShortPacketBuffer = 28
number_of BadMessage = 29
number_of WaitingFull = 30

-- Annex 7.2: 0 where nothing is refused, else the number of the refusal.
abbrev pub answer : {A : Type 0} → Result A Refusal → ℕ
answer (Ok _) = 0
answer (Err refusal) = number_of refusal
