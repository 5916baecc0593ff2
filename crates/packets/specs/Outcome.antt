-- What a read comes to, before it is told C.
use Rattle.std.specs.Prelude.{List, ℕ, Result, MatchResult}
use Rattle.basics.specs.Answers.{number_of}
use Rattle.basics.specs.declared.refusals.Refusal.{Refusal}
use Rattle.packets.specs.Good.{IsGoodPacket}
use Rattle.packets.specs.Reading.{refused_read, IsRead}
use Rattle.packets.specs.declared.Header.{Header}
use Rattle.packets.specs.declared.Front.{Front}

-- What C is told of a good packet's header.
abbrev pub header_told : Front → Header
header_told front = record { answer = 0; start = front.start; slots = front.slots; n = front.n }

-- A good packet is read, and gives its header; another is refused.
abbrev pub IsReading : List ℕ → Result Front Refusal → Type 0
IsReading p r =
    MatchResult r (λ front. IsGoodPacket p × IsRead p (header_told front))
    (λ refusal. (IsGoodPacket p → ⊥) × IsRead p (refused_read (number_of refusal)))
