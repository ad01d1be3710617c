-- What undo, redo, squash and history do to a file and its journal (own).
use Rattle.std.specs.Prelude.{ℕ, List, Option}
use Rattle.yq_journal.{specs.History.History, specs.State.State}
use Rattle.yq_history.{specs.declared.direction.Direction.Direction, specs.Causes.Cause, specs.Directions.walk_move}
use Rattle.yq_history.{specs.Effects.{Effect, move_effect, squash_effect}, specs.Steps.{move_cause, move_next, squash_cause, squash_next}}

-- An action: why a history refuses it, the history after it, and its effect on a text and its settled journal.
pub record Action : Type 0 where
  pub cause : Option History → Option Cause
  pub next : Option History → Option History
  pub effect : List ℕ → State → Effect

-- an undo or redo
abbrev pub walking : Direction → Action
walking dir = record { cause = move_cause (walk_move dir); next = move_next (walk_move dir); effect = move_effect (walk_move dir) }

-- a squash of the last n edits
abbrev pub squashing : ℕ → Action
squashing n = record { cause = squash_cause n; next = squash_next n; effect = squash_effect n }
