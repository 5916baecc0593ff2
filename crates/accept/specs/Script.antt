-- The planner that a script builds.
use Rattle.std.specs.Prelude.{List, ℕ, ◌+◌, ◌≤◌, ◌<◌, length}
use Rattle.state.specs.Open.{zeros, IsFresh}
use Rattle.state.specs.declared.Planner.{Planner}
use Rattle.command.specs.Lines.{IsLineEnd}
use Rattle.command.specs.Runs.{part_of}
use Rattle.command.specs.Step.{IsAnswer}
use Rattle.accept.specs.declared.script.Undone.{Undone}

-- Annex 14.17: a line is run as the command program runs it, whatever its answer.
pub record IsRun (p : Planner) (number : ℕ) (line : List ℕ) (after : Planner) : Type 0 where
  pub answer : List ℕ
  pub answered : IsAnswer p number line answer after

-- Annex 14.17: the planner that lines up to a place leave, and how many there were: it is closed at first, and each line gets what the one before left.
pub data Leaves (script : List ℕ) : ℕ → ℕ → Planner → Type 0 where
  no_line : {p : Planner} → IsFresh zeros 0 p → Leaves script 0 0 p
  one_more : {from number : ℕ} {p after : Planner} → Leaves script from number p → from < length script → (to : ℕ) → IsLineEnd script from to
      → IsRun p (number + 1) (part_of script from to) after → Leaves script (to + 1) (number + 1) after

-- Annex 14.17: the planner that all lines of a script leave.
pub record IsPlannerOf (script : List ℕ) (p : Planner) : Type 0 where
  pub place : ℕ
  pub lines : ℕ
  pub all : length script ≤ place
  pub left : Leaves script place lines p

-- Annex 14.17: where a line was not done: its number, and the planner that the lines up to it leave.
pub record IsUndone (script : List ℕ) (undone : Undone) : Type 0 where
  pub place : ℕ
  pub left : Leaves script place undone.number undone.planner
