-- What an accepted edit makes of the text that a file holds (own).
use Rattle.std.{specs.Prelude.{◌≡◌, ◌≢◌, ℕ, Bool, List, [], true, false, Option, Some, Ok, Result, IfOk}, specs.FinMap.get}
use Rattle.std.specs.String.{string_bytes}
use Rattle.yq_semantics.specs.Program.{Program, Update, updates}
use Rattle.yq_text.{specs.Splice.Splice, specs.declared.edited.Edited.Edited}
use Rattle.yq_edit_laws.{specs.Carried.edit_of, specs.Edit.gives, specs.Theorems.IsEdited}
use Rattle.yq_history.{specs.Unified.IsPrintedDiff, specs.declared.report.Report.Report}
use Rattle.yq_fault.specs.declared.fault.Fault.{Fault}
use Rattle.yq_store.specs.FileMap.{FileMap}
use Rattle.yq_args.{specs.declared.command.Command.Command, specs.declared.command.Command.TheVariants.Eval}
use Rattle.yq_commands.{specs.Editing.program_in, specs.EvalAsked.{EvalAsked, asked_in}}

-- A program makes one text of another: the defined one, to which each of its updates in order leads.
pub record IsTextEdited (p : Program) (t new : List ℕ) : Type 0 where
  pub splices : List Splice
  pub exact : edit_of p t ≡ gives new splices
  pub edited : IsEdited p t new splices

-- an edited text is one that a program makes of a text
abbrev pub IsEditedBy : Program → List ℕ → Edited → Type 0
IsEditedBy p t e = IsTextEdited p t (string_bytes e.text)

-- what was printed of a text is the one that a program makes of it, or with `--diff` a diff of the two
abbrev pub PrintsEdit : Bool → List ℕ → Program → List ℕ → List ℕ → Type 0
PrintsEdit false file p t printed = IsTextEdited p t printed
PrintsEdit true file p t printed = (new : List ℕ) × IsTextEdited p t new × IsPrintedDiff file t new printed

-- the text is printed so that a report has
abbrev pub GivesEdit : Bool → List ℕ → Program → List ℕ → Result Report Fault → Type 0
GivesEdit diffs file p t r = IfOk r (λ s. PrintsEdit diffs file p t (string_bytes s.text))

-- what was printed is so of the text that a file holds
abbrev pub PrintsHeldEdit : Bool → List ℕ → Program → Option (List ℕ) → List ℕ → Type 0
PrintsHeldEdit diffs file p held printed = (text : List ℕ) × (held ≡ Some text) × PrintsEdit diffs file p text printed

-- the text is there that a program makes of another one
abbrev pub HoldsEdited : Program → List ℕ → Option (List ℕ) → Type 0
HoldsEdited p t new = (edited_to : List ℕ) × (new ≡ Some edited_to) × IsTextEdited p t edited_to

-- A text is there, and the one that the program of an expression makes of it.
pub record IsFileEdited (expr : List ℕ) (old new : Option (List ℕ)) : Type 0 where
  pub program : Program
  pub parsed : program_in expr ≡ Ok program
  pub text : List ℕ
  pub old_is : old ≡ Some text
  pub new_is : HoldsEdited program text new

-- what was printed is the edited text, where the expression is an update
abbrev pub PrintsEdited : List ℕ → Option (List ℕ) → List ℕ → Type 0
PrintsEdited expr old printed =
    (us : List Update) → program_in expr ≡ Ok (updates us) → IsFileEdited expr old (Some printed)

-- What was printed is a diff of the text that a file holds and the one that the program of an expression makes of it.
pub record IsFileDiffed (expr file : List ℕ) (old : Option (List ℕ)) (printed : List ℕ) : Type 0 where
  pub text : List ℕ
  pub old_is : old ≡ Some text
  pub new : List ℕ
  pub edited : IsFileEdited expr old (Some new)
  pub diff : IsPrintedDiff file text new printed

-- what was printed of an update is the edited text, or with `--diff` a diff
abbrev pub PrintsUpdate : Bool → List ℕ → List ℕ → Option (List ℕ) → List ℕ → Type 0
PrintsUpdate false expr file old printed = PrintsEdited expr old printed
PrintsUpdate true expr file old printed = (us : List Update) → program_in expr ≡ Ok (updates us) → IsFileDiffed expr file old printed

-- what was printed of an edit in place: nothing, or with `--diff` a diff of what the file held and what it holds
abbrev pub PrintsChange : Bool → List ℕ → Option (List ℕ) → Option (List ℕ) → List ℕ → Type 0
PrintsChange false file old new printed = printed ≡ []
PrintsChange true file (Some t) (Some u) printed = IsPrintedDiff file t u printed
PrintsChange true file _ _ printed = ⊥

-- an edit in place leaves the edited text in its file, and prints nothing, or with `--diff` a diff
abbrev pub HasEditedFile : EvalAsked → FileMap → FileMap → List ℕ → Type 0
HasEditedFile asked old new printed =
    IsFileEdited asked.expr (get old asked.file) (get new asked.file)
    × PrintsChange asked.options.diff asked.file (get old asked.file) (get new asked.file) printed

-- any other update prints it, or with `--diff` a diff
abbrev pub PrintsAsked : EvalAsked → FileMap → List ℕ → Type 0
PrintsAsked asked old printed = PrintsUpdate asked.options.diff asked.expr asked.file (get old asked.file) printed

-- the edited text: an edit in place leaves it in the file, any other update prints it, or with `--diff` a diff; nothing is said of other commands
abbrev pub HasEdited : Command → FileMap → FileMap → List ℕ → Type 0
HasEdited (Eval w true) old new printed = string_bytes w.file ≢ string_bytes w.journal → HasEditedFile (asked_in w) old new printed
HasEdited (Eval w false) old new printed = PrintsAsked (asked_in w) old printed
HasEdited _ old new printed = Unit {0}
