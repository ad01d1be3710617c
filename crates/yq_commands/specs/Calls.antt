-- How a command calls a store, by what that answers (own).
use Rattle.std.{specs.Prelude.{◌≡◌, ◌⊎◌, List, [], ◌∷◌, true, false, is_ok, Result, Ok, Err}, specs.String.string_bytes}
use Rattle.yq_semantics.specs.Program.{Program}
use Rattle.yq_args.specs.declared.command.Command.{Command}
use Rattle.yq_args.specs.declared.command.Command.TheVariants.{Eval, Undo, Redo, History as Lists, Squash, Help}
use Rattle.yq_history.{specs.Causes.Cause, specs.Calls.{CallsOnPair, ReadsFile}, specs.Report.Report}
use Rattle.yq_history.specs.Effects.{move_effect, squash_effect, listing_effect}
use Rattle.yq_fault.specs.declared.fault.Fault.{Fault}
use Rattle.yq_store.specs.Calls.{Call}
use Rattle.yq_commands.{specs.declared.answer.Answer.Answer, specs.Lists.IsAnswer, specs.CommandEffects.edit_effect}
use Rattle.yq_commands.{specs.Editing.{program_in, program_edits}, specs.EvalAsked.{EvalAsked, asked_in}}
use Rattle.yq_journal.specs.declared.moves.Move.TheVariants as move

module _ {S T : Type 0} (leads : S → Call → S → Type 0) (r : Result T Fault) where
  -- the calls of an expression: none where it is no program, or where memory was refused as it was read
  abbrev pub IfProgram : Result Program Cause → (Program → S → S → Type 0) → S → S → Type 0
  IfProgram (Err x) next s t = t ≡ s
  IfProgram (Ok p) next s t = ((is_ok r ≡ false) × (t ≡ s)) ⊎ next p s t

  -- one that isn't carried out in place: the file is read, and nothing else
  abbrev pub CallsToShow : EvalAsked → S → S → Type 0
  CallsToShow asked s t = IfProgram (program_in asked.expr) (λ p. ReadsFile leads r asked.file (λ text u v. v ≡ u)) s t

  -- one that is
  abbrev pub CallsToEdit : EvalAsked → S → S → Type 0
  CallsToEdit asked s t =
      IfProgram (program_in asked.expr)
      (λ p. CallsOnPair leads r asked.file asked.journal (λ text. edit_effect asked.expr (program_edits p text) text)) s t

  -- the calls of a command
  abbrev pub CallsOf : Command → S → S → Type 0
  CallsOf (Eval w true) s t = CallsToEdit (asked_in w) s t
  CallsOf (Eval w false) s t = CallsToShow (asked_in w) s t
  CallsOf (Undo f j) s t = CallsOnPair leads r (string_bytes f) (string_bytes j) (move_effect move.Undo) s t
  CallsOf (Redo f j) s t = CallsOnPair leads r (string_bytes f) (string_bytes j) (move_effect move.Redo) s t
  CallsOf (Lists f j diffs) s t = CallsOnPair leads r (string_bytes f) (string_bytes j) (listing_effect diffs) s t
  CallsOf (Squash n f j) s t = CallsOnPair leads r (string_bytes f) (string_bytes j) (squash_effect n) s t
  CallsOf Help s t = t ≡ s

-- the calls of commands with these answers, one after the other
abbrev pub CallsOfAll : {S : Type 0} → (S → Call → S → Type 0) → List Command → List Answer → S → S → Type 0
CallsOfAll leads [] [] s t = t ≡ s
CallsOfAll {S} leads (c ∷ cs) (a ∷ as') s t =
    (r : Result (Unit {0}) Fault) × (o : Report) × IsAnswer r a o × (m : S) × CallsOf leads r c s m × CallsOfAll leads cs as' m t
CallsOfAll leads [] (a ∷ as') s t = ⊥
CallsOfAll leads (c ∷ cs) [] s t = ⊥
