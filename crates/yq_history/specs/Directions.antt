-- Undo and redo as moves of a journal (own).
use Rattle.yq_journal.specs.declared.moves.Move.{Move}
use Rattle.yq_history.{specs.declared.direction.Direction.Direction, specs.declared.direction.Direction.TheVariants.{Undo, Redo}}
use Rattle.yq_journal.specs.declared.moves.Move.TheVariants as move

-- the move of a walk
abbrev pub walk_move : Direction → Move
walk_move Undo = move.Undo
walk_move Redo = move.Redo
