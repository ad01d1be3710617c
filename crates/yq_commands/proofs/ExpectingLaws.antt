-- Whether an edit changes what it is asked to change, by its outcome, its effect and its history.
use Rattle.std.proofs.Common.{rules, ◌≡◌, ℕ, Bool, true, false, not, ◌&&◌, List, Option, Some, Result, Ok, OnOk, ap}
use Rattle.std.{proofs.lemmas.Option.same_Some, specs.FinMap.get, specs.Str.bytes_eq}
use Rattle.yq_semantics.specs.Program.{Program}
use Rattle.yq_journal.{specs.History.History, specs.State.State}
use Rattle.yq_args.specs.declared.eval_options.EvalOptions.{EvalOptions}
use Rattle.yq_history.{specs.Effects.Effect, specs.Pair.GoodIn, proofs.PairLaws.good_text}
use Rattle.yq_fault.specs.declared.fault.Fault.{Fault}
use Rattle.yq_store.specs.FileMap.{FileMap}
use Rattle.yq_commands.{specs.CommandEffects.edit_effect, specs.Editing.{EditOutcome, program_edits}}
use Rattle.yq_commands.specs.Expecting.{changes_as_expected, edits_as_expected, report_edit, showing_change, works_as_expected}

-- where no change is expected, every effect is as expected
pub none_expected : (x : Effect) → true ≡ works_as_expected false x
none_expected x = search rules

-- where none is expected, every edit is as expected
pub free_edit : (options : EvalOptions) (t u : List ℕ) → options.expect_change ≡ false → changes_as_expected options t u ≡ true
free_edit options t u free = ap (λ b. not (b && bytes_eq u t)) free

-- an edit is as expected where its effect is
pub effect_expected : (options : EvalOptions) (expr t : List ℕ) (o : EditOutcome) (s : State) →
    edits_as_expected options t o ≡ works_as_expected options.expect_change (edit_effect expr o t s)
effect_expected options expr t o s = search rules

-- what an edit in place shows of a text is what it shows of the file
pub history_showing : (options : EvalOptions) (p : Program) (c : FileMap) (f j t : List ℕ) → get c f ≡ Some t → (h : Option History) → GoodIn c f j h →
    showing_change options t (program_edits p t) ≡ report_edit options (Ok p) h
history_showing options p c f j t there h good = search (rules, same_Some, good_text)

-- the same, in other words
pub matched_as : (T : Type 0) (r : Result T Fault) (m a b : Bool) → OnOk r (m ≡ a) → a ≡ b → OnOk r (m ≡ b)
matched_as T r m a b is same = search rules
