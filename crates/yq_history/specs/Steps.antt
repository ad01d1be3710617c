-- What an undo, a redo and a squash do to a history, and why they and its listing are refused (own).
use Rattle.std.specs.Prelude.{ℕ, [], Option, Some, None, option_map}
use Rattle.yq_journal.{specs.declared.fault.JournalFault.JournalFault, specs.declared.moves.Move.Move}
use Rattle.yq_journal.{specs.Good.{after_move, squash_refusal, step_fault}, specs.History.{History, after_squash}}
use Rattle.yq_history.specs.Causes.{Cause, named}
use Rattle.yq_fault.specs.declared.fault.Fault.TheVariants as fault

-- a history that stays where there is a fault, and else goes on
abbrev pub unless_fault : Option JournalFault → History → History → History
unless_fault None h k = k
unless_fault (Some f) h k = h

-- why an undo or a redo is refused
abbrev pub move_cause : Move → Option History → Option Cause
move_cause step None = Some (named fault.NotThere)
move_cause step (Some h) = option_map (λ f. named (fault.Journal f)) (step_fault h step)

-- the history after it
abbrev pub move_next : Move → Option History → Option History
move_next step None = None
move_next step (Some h) = Some (unless_fault (step_fault h step) h (after_move h step []))

-- why a squash is refused
abbrev pub squash_cause : ℕ → Option History → Option Cause
squash_cause n None = Some (named fault.NotThere)
squash_cause n (Some h) = option_map (λ f. named (fault.Journal f)) (squash_refusal h n)

-- the history after it
abbrev pub squash_next : ℕ → Option History → Option History
squash_next n None = None
squash_next n (Some h) = Some (unless_fault (squash_refusal h n) h (after_squash h n))

-- why a file's history isn't listed
abbrev pub listing_cause : Option History → Option Cause
listing_cause None = Some (named fault.NotThere)
listing_cause (Some h) = None
