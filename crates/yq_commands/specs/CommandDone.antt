-- What a command does over a store that keeps what it was given, by what the store's names held before it (old) and hold after it (new) (own).
use Rattle.std.specs.Prelude.{◌≡◌, ◌≢◌, ℕ, Bool, true, false, List, [], Option, Some, Result, Ok, OnOk, IsTrue, string_bytes}
use Rattle.std.specs.FinMap.{get}
use Rattle.yq_journal.{specs.History.History, specs.State.State}
use Rattle.yq_semantics.specs.Program.{Program}
use Rattle.yq_args.{specs.declared.command.Command.Command, specs.declared.eval_options.EvalOptions.EvalOptions}
use Rattle.yq_store.{specs.Calls.Call, specs.FileMap.FileMap, specs.declared.store.Store.Ghosts}
use Rattle.yq_text.specs.declared.edited.Edited.{Edited}
use Rattle.yq_history.{specs.Causes.Cause, specs.Effects.{Effect, Works}, specs.Leaves.{ArrivesBy, HoldsBytes, LeavesNames}}
use Rattle.yq_history.{specs.Output.{Showing, Shows}, specs.OpenedAnswers.{IsHeld, MakesFrom}}
use Rattle.yq_history.{specs.Pair.{NamesDiffer, Arrives, Differs, GoodIn, IsOther}, specs.Report.Report}
use Rattle.yq_history.specs.declared.opened.OpenPair.{OpenPair}
use Rattle.yq_fault.specs.declared.fault.Fault.{Fault}
use Rattle.yq_commands.specs.CommandEffects.{IsListing, ListsUpdate, OfEffect, edit_effect, update_asked}
use Rattle.yq_commands.{specs.CommandNames.{IsNotNamed, IsOn, file_of}, specs.CommandSteps.{cause_of, next_of, update_cause, update_next}}
use Rattle.yq_commands.{specs.Editing.{EachProgram, program_edits, program_in}, specs.Evaluation.report_in, specs.CommandFaults.cause_in}
use Rattle.yq_commands.specs.Expecting.{ReportsExpected, expects_change, report_edit, showing_change, works_as_expected}
use Rattle.yq_commands.{specs.EvalAsked.EvalAsked, specs.FileEdits.{HasEdited, HasEditedFile, HoldsEdited, PrintsChange}}
use Rattle.yq_commands.specs.Prints.{prints, prints_change, reads_journal, report_of}

-- ---- what calls on a file and its journal share

-- a call that is carried out shows what is due by such a history
abbrev pub ShowsBy : (Option History → Showing) → List ℕ → List ℕ → FileMap → {T : Type 0} → Result T Fault → Report → Type 0
ShowsBy due file journal old r s = (h : Option History) → GoodIn old file journal h → OnOk r (Shows file (due h) s)

-- ---- a command

-- a command arrives so on the file and the journal that it works on
abbrev pub ArrivesOn : {T : Type 0} → FileMap → FileMap → Result T Fault → Command → Type 0
ArrivesOn old new r c =
    (file journal : List ℕ) → file ≢ journal → IsOn file journal c → ArrivesBy (cause_of c) (next_of c) file journal old new r

-- its effect on what the two hold comes about, be they good for a history or not
abbrev pub WorksOn : {T : Type 0} → FileMap → FileMap → Result T Fault → Command → Type 0
WorksOn old new r c =
    (file journal : List ℕ) → file ≢ journal → IsOn file journal c →
    OfEffect c (get old file) (get old journal) (λ x. Works x file journal old new r)

-- it shows what is due by a history for which they are good
abbrev pub ShowsOn : {T : Type 0} → FileMap → Result T Fault → Report → Command → Type 0
ShowsOn old r s c = (file journal : List ℕ) → IsOn file journal c →
    (h : Option History) → GoodIn old file journal h → OnOk r (Shows (file_of c) (report_of c h) s)

-- it prints what `history`, or an edit in place with `--diff`, prints by what they hold
abbrev pub ListsOn : {T : Type 0} → FileMap → Result T Fault → List ℕ → Command → Type 0
ListsOn old r printed c = (file journal : List ℕ) → IsOn file journal c → OnOk r (IsListing c (get old file) (get old journal) printed)

-- accepted, it has edited the text of its file, or printed the edited text
abbrev pub EditsOn : {T : Type 0} → FileMap → FileMap → Result T Fault → List ℕ → Command → Type 0
EditsOn old new r printed c = OnOk r (HasEdited c old new printed)

-- it says that nothing matched exactly where it is to change a byte and changes none
abbrev pub ExpectsOn : {T : Type 0} → FileMap → Result T Fault → Bool → Command → Type 0
ExpectsOn old r is_match c = (file journal : List ℕ) → IsOn file journal c → ReportsExpected r is_match c old file journal

-- it leaves what names hold that it doesn't name
abbrev pub LeavesOn : {T : Type 0} → FileMap → FileMap → Result T Fault → Command → Type 0
LeavesOn old new r c = LeavesNames (λ q. IsNotNamed q c) old new r

-- a command that prints nothing, nor what it changes, shows no bytes
abbrev pub IsSilent : Command → Report → Type 0
IsSilent c s = prints c ≡ false → prints_change c ≡ false → s.printed ≡ []

-- a command that reads a journal says that something matched, where it isn't to change a byte
abbrev pub MatchesUnasked : Command → Report → Type 0
MatchesUnasked c s = reads_journal c ≡ true → expects_change c ≡ false → s.is_match ≡ true

-- What a command does, and what it shows where it is carried out.
pub record CarriesOut (c : Command) (old new : FileMap) {T : Type 0} (r : Result T Fault) (s : Report) : Type 0 where
  pub arrives : ArrivesOn old new r c
  pub effect : WorksOn old new r c
  pub output : ShowsOn old r s c
  pub listed : ListsOn old r s.printed c
  pub edited : EditsOn old new r s.printed c
  pub expected : ExpectsOn old r s.is_match c
  pub still : prints c ≡ true → new ≡ old
  pub names : LeavesOn old new r c

-- ---- an edit in place

-- what it does to a file and its journal by what both hold
abbrev pub update_on : EvalAsked → FileMap → Effect
update_on asked held = update_asked asked (get held asked.file) (get held asked.journal)

-- What an edit in place does, and what it shows where it is carried out.
pub record EditsInPlace (asked : EvalAsked) (old new : FileMap) {T : Type 0} (r : Result T Fault) (s : Report) : Type 0 where
  pub arrives : asked.file ≢ asked.journal →
      ArrivesBy (update_cause (program_in asked.expr)) (update_next asked.expr (program_in asked.expr)) asked.file asked.journal old new r
  pub effect : asked.file ≢ asked.journal → Works (update_on asked old) asked.file asked.journal old new r
  pub edited : asked.file ≢ asked.journal → OnOk r (HasEditedFile asked old new s.printed)
  pub output : ShowsBy (report_edit asked.options (program_in asked.expr)) asked.file asked.journal old r s
  pub listed : asked.file ≢ asked.journal → OnOk r (ListsUpdate asked (get old asked.file) (get old asked.journal) s.printed)
  pub expected : OnOk r (s.is_match ≡ works_as_expected asked.options.expect_change (update_on asked old))
  pub names : LeavesNames (λ q. Differs q asked.file asked.journal) old new r

-- what an edit of a text by a program does
abbrev pub program_effect : List ℕ → Program → List ℕ → State → Effect
program_effect expr p text s = edit_effect expr (program_edits p text) text s

-- what it shows
abbrev pub showing_edit : EvalOptions → Program → List ℕ → Showing
showing_edit options p text = showing_change options text (program_edits p text)

-- What an edit of a text by a program does, from a journal that is settled next to that text.
pub record EditsFrom (p : Program) (expr : List ℕ) (o : OpenPair) (old new : FileMap) {T : Type 0} (r : Result T Fault) : Type 0 where
  pub arrives : (h : History) → IsHeld old o h →
      Arrives new o.pair.file.now o.pair.journal.now (update_cause (Ok p) (Some h)) (Some h) (update_next expr (Ok p) (Some h)) r
  pub effect : Works (program_effect expr p o.text.items o.state) o.pair.file.now o.pair.journal.now old new r

-- What it leaves in the file and prints, where it is carried out on the text that the file held.
pub record LeavesEdited (p : Program) (o : OpenPair) (diffs : Bool) (new : FileMap) (s : Report) : Type 0 where
  pub edited : HoldsEdited p o.text.items (get new o.pair.file.now)
  pub printed : PrintsChange diffs o.pair.file.now (Some o.text.items) (get new o.pair.file.now) s.printed

-- What an edit of a file and its journal does, from what was read of both, and what it shows where it is carried out.
pub record EditsOpened (p : Program) (expr : List ℕ) (diffs : Bool) (o : OpenPair) (old new : FileMap)
    {T : Type 0} (r : Result T Fault) (report : Report) : Type 0 where
  pub edit : NamesDiffer o.pair → EditsFrom p expr o old new r
  pub held : NamesDiffer o.pair → HoldsBytes old o.pair.file.now o.text.items → OnOk r (LeavesEdited p o diffs new report)
  pub names : LeavesNames (IsOther o.pair) old new r

-- an edit to this text does so, whatever program makes it
abbrev pub EditsByAny : {S : Type 0} → Ghosts S → (old new : S) → OpenPair → List ℕ → Edited → {T : Type 0} → Result T Fault → Type 0
EditsByAny d old new o expr e r =
    IsTrue d.keeps → NamesDiffer o.pair → EachProgram o.text.items e (λ p. EditsFrom p expr o (d.content old) (d.content new) r)

-- a success leaves the edited text in the file that held the text
abbrev pub LeavesText : {S : Type 0} → Ghosts S → (old new : S) → OpenPair → Edited → {T E : Type 0} → Result T E → Type 0
LeavesText d old new o e r =
    IsTrue d.keeps → NamesDiffer o.pair → HoldsBytes (d.content old) o.pair.file.now o.text.items →
    OnOk r (HoldsBytes (d.content new) o.pair.file.now (string_bytes e.text))

-- it is done by these calls
abbrev pub CallsOfEdit : {S T : Type 0} → (S → Call → S → Type 0) → Result T Fault → OpenPair → List ℕ → Edited → S → S → Type 0
CallsOfEdit leads r o expr e s t = EachProgram o.text.items e (λ p. MakesFrom leads r o (program_effect expr p) s t)

-- what matched before still does after an edit that isn't asked to change a byte
abbrev pub MatchesStill : EvalOptions → Report → Report → Type 0
MatchesStill options old new = options.expect_change ≡ false → old.is_match ≡ true → new.is_match ≡ true

-- ---- an expression that isn't carried out in place

-- What it does and shows of a file, by what is due of that by its history.
pub record Evaluates (due : Option History → Result Showing Cause) (file : List ℕ) (old new : FileMap)
    {T : Type 0} (r : Result T Fault) (s : Report) : Type 0 where
  pub arrives : (journal : List ℕ) → ArrivesBy (λ h. cause_in (due h)) (λ h. h) file journal old new r
  pub output : (journal : List ℕ) → ShowsBy (λ h. report_in (due h)) file journal old r s
