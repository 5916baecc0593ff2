-- What holds between turns of the command program, from its beginning on.
use Rattle.std.specs.Prelude.{◌≡◌, refl, List, [], ◌++◌, ℕ, ◌+◌, ◌*◌, ◌≤◌, ◌<◌, length, take}
use Rattle.std.proofs.Math.Path.{subst⁻¹}
use Rattle.std.proofs.Common.{inl, arith, length-take, drop_of_length-le}
use Rattle.console.specs.Transcript.{Told}
use Rattle.console.specs.Transcript.Transcript.{none}
use Rattle.console.specs.Session.{buffer_places, at_hand, HasTold, InBounds, delivered, IsTurned}
use Rattle.console.specs.Needs.{most_lines, IsBegun, CanAnswer, CanAnswerLast}
use Rattle.console.specs.declared.Session.{Session}
use Rattle.console.specs.declared.Turn.{Turn}
use Rattle.console.specs.declared.Outcome.TheVariants.{Ended}

-- how many turns a run has
abbrev pub most_turns : ℕ
most_turns = 140_737_488_355_328

-- All that was read is answered up to what is at hand, and line numbers are kept while turns are left.
pub record Going (s : Session) (input : List ℕ) (turns : ℕ) : Type 0 where
  pub told : (read : List ℕ) × ((written : List ℕ) × HasTold read written s input)
  pub bounds : InBounds s
  pub empty : s.reached.end ≡ 0
  pub number : s.reached.number + turns * buffer_places ≤ most_lines

-- at the beginning nothing is read, written or at hand
begun_told : {s : Session} → IsBegun s → (input : List ℕ) → HasTold [] [] s input
begun_told {s} is input =
    let nothing : at_hand s input ≡ [] =
    drop_of_length-le (take s.have input) {i = s.reached.from} (omega (arith, length-take s.have input, is.have, is.beginning.from)) in
    subst⁻¹ (Told [] [] s.reached.planner s.reached.number) nothing
    (subst⁻¹ (λ (n : ℕ). Told [] [] s.reached.planner n []) is.beginning.number
    (record {
      rest = [];
      answered = record { first = s.reached.planner; closed = is.beginning.closed; lines = []; all = refl; transcript = none };
      stands = inl refl;
    }))

-- at the beginning nothing is read or written, and all turns are left
pub begun_going : {s : Session} {input : List ℕ} → IsBegun s → Going s input most_turns
begun_going {input = input} is =
    record {
      told = ([], ([], begun_told is input));
      bounds = record { from = omega (arith, is.beginning.from, is.have); have = omega (arith, is.have) };
      empty = is.beginning.end;
      number = omega (arith, is.beginning.number);
    }

module _ {s : Session} {input : List ℕ} {turns : ℕ} (going : Going s input turns) where
  -- between turns whole lines at hand can be answered: the output is empty, and the line number cannot wrap
  pub can_turn : {out : List ℕ} → length input ≡ buffer_places → length out ≡ buffer_places → CanAnswer s input out
  can_turn places room =
      record { bounds = going.bounds; empty = going.empty; number = omega (arith, going.number); places = places; room = room }

  -- what a turn read and handed over is added to what was
  turn_told : {after out : List ℕ} {t : Turn} → IsTurned s input after out t
      → (read : List ℕ) × ((written : List ℕ) × HasTold read written t.session after)
  turn_told {after} {out} {t} is =
      let (read, (written, told)) = going.told in
      (read ++ delivered t after, (written ++ take t.wrote out, is.told read written told))

  -- what holds between turns holds again after a turn, with fewer turns left
  pub gone_on : {after out : List ℕ} {t : Turn} {left : ℕ} → IsTurned s input after out t → left < turns → Going t.session after left
  gone_on is fewer =
      record {
        told = turn_told is;
        bounds = is.bounds;
        empty = is.empty;
        number = omega (arith, is.number, going.number, fewer);
      }

-- where the input has ended, what is at hand can be answered as the last line
pub can_finish : {s : Session} {input after out : List ℕ} {t : Turn} {turns : ℕ} → Going s input turns → 1 ≤ turns → IsTurned s input after out t
    → t.outcome ≡ Ended → length after ≡ buffer_places → length out ≡ buffer_places → CanAnswerLast t.session after out
can_finish going some is ended places room =
    record { can_answer = can_turn (gone_on going {left = 0} is (omega (arith, some))) places room; no_end = is.at_end ended }
