-- Worked cases, each a script with its answers, as three tables over the contracts of the calls: Annex, appendix C.
use Rattle.std.specs.Prelude.{◌≡◌, List, [], ◌∷◌, ℕ, ◌+◌, ◌*◌, ◌≤◌, length, take}
use Rattle.superframe.specs.Superframe.{superframe_of, packed}
use Rattle.state.specs.Open.{setting, IsOpened}
use Rattle.planner.specs.declared.Offer.{Offer}
use Rattle.planner.specs.AddRemove.{offer, IsAdd, IsRemove}
use Rattle.planner.specs.Send.{IsSend}
use Rattle.planner.specs.Round.{IsRound}
use Rattle.state.specs.declared.Setting.{Setting}
use Rattle.state.specs.declared.Planner.{Planner}
use Rattle.state.specs.declared.Changed.{Changed}
use Rattle.planner.specs.declared.Rounded.{Rounded}

-- Annex 12.21: a line of a case: a call, and what it answers.
pub data Line : Type 0 where
  add_gives : Offer → (answer : ℕ) → Line
  remove_gives : (id answer : ℕ) → Line
  send_gives : (number answer : ℕ) → Line
  round_gives : (start n : ℕ) (numbers : List ℕ) → Line
  round_refused : (answer : ℕ) → Line

-- Annex 12.21: whatever results the calls have by their contracts, they are those of the lines. Each call gets the planner that the one before handed back,
-- a round any buffer of at least B elements.
unfoldable pub Answers : Planner → List Line → Type 0
Answers p [] = Unit {0}
Answers p (add_gives o answer ∷ lines) = (r : Changed) → IsAdd p o r → (r.answer ≡ answer) × Answers r.planner lines
Answers p (remove_gives id answer ∷ lines) = (r : Changed) → IsRemove p id r → (r.answer ≡ answer) × Answers r.planner lines
Answers p (send_gives n answer ∷ lines) = (r : Changed) → IsSend p n r → (r.answer ≡ answer) × Answers r.planner lines
Answers p (round_gives start n numbers ∷ lines) =
    (before after : List ℕ) (r : Rounded) → p.setting.slots ≤ length before → IsRound p before after r
    → ((r.answer ≡ 0) × (r.start ≡ start) × (r.n ≡ n) × (take r.n after ≡ numbers)) × Answers r.planner lines
Answers p (round_refused answer ∷ lines) =
    (before after : List ℕ) (r : Rounded) → p.setting.slots ≤ length before → IsRound p before after r → (r.answer ≡ answer) × Answers r.planner lines

-- Annex 12.21: a case: what open is passed, a setting and T, and the lines after it; or the periods passed to superframe, with the answer and
-- the value.
pub data Case : Type 0 where
  planner_case : Setting → (last : ℕ) (lines : List Line) → Case
  superframe_case : (periods : List ℕ) (answer value : ℕ) → Case

-- Annex 12.21: whatever open hands back by its contract, it has succeeded, and the lines hold from there. Whatever number superframe returns by its
-- contract, it is the answer × 65,536, plus the value.
unfoldable pub Holds : Case → Type 0
Holds (planner_case s t lines) = (r : Changed) → IsOpened s t r → (r.answer ≡ 0) × Answers r.planner lines
Holds (superframe_case periods answer value) = (r : ℕ) → r ≡ packed (superframe_of periods) → r ≡ answer * 65_536 + value

-- Annex 12.21: tables on the edge. A stream is written (S,P,D).
-- Three rounds: O,2,6,6,0 / A,1,1,3,2 / A,2,1,6,6 / A,3,2,6,5 / R / R / R print R,0,2,2,1,2 / R,0,5,2,1,3 / R,0,8,2,1,2.
-- B=1, F=2, G=9, T=0: stream 1 (1,2,1) goes in, and 2 as (2,2,1) gets 12.
-- B=1, F=10, G=20, T=0, streams 1 and 2, each (1,10,10): a round at 9 sends 1. Then 3 gets 13 as (10,10,1) and 0 as (11,10,1).
-- B=1, F=240, G=20, T=0, stream 1 (1,240,240): a round at 21 with it, then one at 42 with no slot.
-- B=1, F=1, G=1, T=999,999,999, stream 1 (1,000,000,000,1,1): a round at the last start with it, then 17.
-- Superframe: 5, 7, 15 give 105; 240, 7, 9 give 5,040; 240, 7, 11 get 19.
unfoldable pub starred : List Case
starred =
    planner_case (setting 2 6 6 0) 0
    (add_gives (offer 1 1 3 2) 0 ∷ add_gives (offer 2 1 6 6) 0 ∷ add_gives (offer 3 2 6 5) 0
    ∷ round_gives 2 2 (1 ∷ 2 ∷ []) ∷ round_gives 5 2 (1 ∷ 3 ∷ []) ∷ round_gives 8 2 (1 ∷ 2 ∷ []) ∷ [])
    ∷ planner_case (setting 1 2 9 0) 0 (add_gives (offer 1 1 2 1) 0 ∷ add_gives (offer 2 2 2 1) 12 ∷ [])
    ∷ planner_case (setting 1 10 20 0) 0
    (add_gives (offer 1 1 10 10) 0 ∷ add_gives (offer 2 1 10 10) 0 ∷ round_gives 9 1 (1 ∷ [])
    ∷ add_gives (offer 3 10 10 1) 13 ∷ add_gives (offer 3 11 10 1) 0 ∷ [])
    ∷ planner_case (setting 1 240 20 0) 0 (add_gives (offer 1 1 240 240) 0 ∷ round_gives 21 1 (1 ∷ []) ∷ round_gives 42 0 [] ∷ [])
    ∷ planner_case (setting 1 1 1 0) 999_999_999 (add_gives (offer 1 1_000_000_000 1 1) 0 ∷ round_gives 1_000_000_000 1 (1 ∷ []) ∷ round_refused 17 ∷ [])
    ∷ superframe_case (5 ∷ 7 ∷ 15 ∷ []) 0 105
    ∷ superframe_case (240 ∷ 7 ∷ 9 ∷ []) 0 5040
    ∷ superframe_case (240 ∷ 7 ∷ 11 ∷ []) 19 0
    ∷ []

-- Annex 12.21: rounds with no stream, at the cap: O,2,6,6,0 / R / R / R / A,1,22,3,2 / R / D,1 / R print R,0,7,0 / R,0,14,0 / R,0,21,0, then with
-- the stream R,0,23,1,1, since its packet is due at 24, and without it R,0,30,0, at the cap again.
-- B=2, F=6, G=2: with T=999,999,997 a round at 1,000,000,000, then 17; with T=999,999,998, where L + G is in time, 17 at once.
-- Near the cap, B=1, F=12, T=0. G=1: rounds at 2 and 4; G=255: at 256 and 512. G=5, one stream (1,12,D), due at D + 1: D=5 is sent at 5,
-- D=6 and D=7 at the cap, 6.
-- Ties, F=12, G=20, T=0, all due at 9. B=1, streams 1 (5,12,4) and 2 (1,12,8): a round at 7 sends 2, one at 8 sends 1; by id alone it would be 1, 2.
-- B=2, with 2 as (3,12,6) and 3 as (1,12,8): at 7 the ids are 3, 2, at 8 it is 1. B=1, streams 9, 4 and 7, each (1,12,8): 4 at 6, 7 at 7, 9 at 8.
unfoldable pub later : List Case
later =
    planner_case (setting 2 6 6 0) 0
    (round_gives 7 0 [] ∷ round_gives 14 0 [] ∷ round_gives 21 0 []
    ∷ add_gives (offer 1 22 3 2) 0 ∷ round_gives 23 1 (1 ∷ []) ∷ remove_gives 1 0 ∷ round_gives 30 0 [] ∷ [])
    ∷ planner_case (setting 2 6 2 0) 999_999_997 (round_gives 1_000_000_000 0 [] ∷ round_refused 17 ∷ [])
    ∷ planner_case (setting 2 6 2 0) 999_999_998 (round_refused 17 ∷ [])
    ∷ planner_case (setting 1 12 1 0) 0 (round_gives 2 0 [] ∷ round_gives 4 0 [] ∷ [])
    ∷ planner_case (setting 1 12 255 0) 0 (round_gives 256 0 [] ∷ round_gives 512 0 [] ∷ [])
    ∷ planner_case (setting 1 12 5 0) 0 (add_gives (offer 1 1 12 5) 0 ∷ round_gives 5 1 (1 ∷ []) ∷ [])
    ∷ planner_case (setting 1 12 5 0) 0 (add_gives (offer 1 1 12 6) 0 ∷ round_gives 6 1 (1 ∷ []) ∷ [])
    ∷ planner_case (setting 1 12 5 0) 0 (add_gives (offer 1 1 12 7) 0 ∷ round_gives 6 1 (1 ∷ []) ∷ [])
    ∷ planner_case (setting 1 12 20 0) 0
    (add_gives (offer 1 5 12 4) 0 ∷ add_gives (offer 2 1 12 8) 0 ∷ round_gives 7 1 (2 ∷ []) ∷ round_gives 8 1 (1 ∷ []) ∷ [])
    ∷ planner_case (setting 2 12 20 0) 0
    (add_gives (offer 1 5 12 4) 0 ∷ add_gives (offer 2 3 12 6) 0 ∷ add_gives (offer 3 1 12 8) 0 ∷ round_gives 7 2 (3 ∷ 2 ∷ []) ∷ round_gives 8 1 (1 ∷ []) ∷ [])
    ∷ planner_case (setting 1 12 20 0) 0
    (add_gives (offer 9 1 12 8) 0 ∷ add_gives (offer 4 1 12 8) 0 ∷ add_gives (offer 7 1 12 8) 0
    ∷ round_gives 6 1 (4 ∷ []) ∷ round_gives 7 1 (7 ∷ []) ∷ round_gives 8 1 (9 ∷ []) ∷ [])
    ∷ []

-- Annex 12.21: messages. A stream is written (S,P,D); messages are on but where it is said that they are off.
-- B=3, F=6, G=6, T=0, streams 1 (1,3,2), 2 (1,6,6) and 3 (2,6,5), sent 40,000 twice and then 50,000: rounds at 2, 5, 8 and 11 list 1, 2 and 40,000;
-- 1, 3 and 40,000; 1, 2 and 50,000; 1 and 3.
-- B=2, F=6, G=6, T=0, no stream, sent 32,768 to 32,771: a round at 7 lists the first two, one at 14 the others, one at 21 none.
-- The same, where 32,767, 65,536, 98,304 and 0 get 29, and 65,535 goes in; and with messages off, where every number gets 29.
-- B=2, F=6, G=2, T=999,999,998, sent 40,000: 17; then stream 1 (999,999,999,1,1) goes in, and a round at 999,999,999 lists it and 40,000.
-- B=2, F=2, G=9, T=0, streams 1 and 2, each (1,2,1): the second gets 12, and with messages off 0.
-- B=2, F=2, G=1, T=0, streams 1 and 2, each (1,2,2): rounds at 1, 2, 3 and 4 with 1, 2, 1 and 2, and with messages off at 2, 4 and 6 with both.
unfoldable pub with_messages : List Case
with_messages =
    planner_case (setting 3 6 6 1) 0
    (add_gives (offer 1 1 3 2) 0 ∷ add_gives (offer 2 1 6 6) 0 ∷ add_gives (offer 3 2 6 5) 0
    ∷ send_gives 40_000 0 ∷ send_gives 40_000 0 ∷ send_gives 50_000 0
    ∷ round_gives 2 3 (1 ∷ 2 ∷ 40_000 ∷ []) ∷ round_gives 5 3 (1 ∷ 3 ∷ 40_000 ∷ []) ∷ round_gives 8 3 (1 ∷ 2 ∷ 50_000 ∷ [])
    ∷ round_gives 11 2 (1 ∷ 3 ∷ []) ∷ [])
    ∷ planner_case (setting 2 6 6 1) 0
    (send_gives 32_768 0 ∷ send_gives 32_769 0 ∷ send_gives 32_770 0 ∷ send_gives 32_771 0
    ∷ round_gives 7 2 (32_768 ∷ 32_769 ∷ []) ∷ round_gives 14 2 (32_770 ∷ 32_771 ∷ []) ∷ round_gives 21 0 [] ∷ [])
    ∷ planner_case (setting 2 6 6 1) 0 (send_gives 32_767 29 ∷ send_gives 65_536 29 ∷ send_gives 98_304 29 ∷ send_gives 0 29 ∷ send_gives 65_535 0 ∷ [])
    ∷ planner_case (setting 2 6 6 0) 0 (send_gives 40_000 29 ∷ send_gives 32_768 29 ∷ send_gives 65_535 29 ∷ send_gives 0 29 ∷ [])
    ∷ planner_case (setting 2 6 2 1) 999_999_998
    (send_gives 40_000 0 ∷ round_refused 17 ∷ add_gives (offer 1 999_999_999 1 1) 0 ∷ round_gives 999_999_999 2 (1 ∷ 40_000 ∷ []) ∷ [])
    ∷ planner_case (setting 2 2 9 1) 0 (add_gives (offer 1 1 2 1) 0 ∷ add_gives (offer 2 1 2 1) 12 ∷ [])
    ∷ planner_case (setting 2 2 9 0) 0 (add_gives (offer 1 1 2 1) 0 ∷ add_gives (offer 2 1 2 1) 0 ∷ [])
    ∷ planner_case (setting 2 2 1 1) 0
    (add_gives (offer 1 1 2 2) 0 ∷ add_gives (offer 2 1 2 2) 0
    ∷ round_gives 1 1 (1 ∷ []) ∷ round_gives 2 1 (2 ∷ []) ∷ round_gives 3 1 (1 ∷ []) ∷ round_gives 4 1 (2 ∷ []) ∷ [])
    ∷ planner_case (setting 2 2 1 0) 0
    (add_gives (offer 1 1 2 2) 0 ∷ add_gives (offer 2 1 2 2) 0
    ∷ round_gives 2 2 (1 ∷ 2 ∷ []) ∷ round_gives 4 2 (1 ∷ 2 ∷ []) ∷ round_gives 6 2 (1 ∷ 2 ∷ []) ∷ [])
    ∷ []
