-- What a command does where a call within it failed, or its text stays equal.
use Rattle.std.proofs.Common.{rules, ◌≡◌, ◌≢◌, ℕ, Bool, true, false, List, Option, None, Result, Ok, Err, OnOk, sym, subst, refl}
use Rattle.std.{proofs.Common.string_bytes, specs.FinMap.get}
use Rattle.yq_semantics.specs.Program.{Program}
use Rattle.yq_journal.{specs.History.History, specs.State.State}
use Rattle.yq_args.{specs.declared.eval_options.EvalOptions.EvalOptions, specs.declared.eval_words.EvalWords.EvalWords}
use Rattle.yq_store.{specs.FileMap.FileMap, specs.Count.IsOfRead}
use Rattle.yq_history.{specs.Causes.{Cause, IsFor, named}, specs.Effects.{Effect, from_names, refuses}, specs.Output.Showing}
use Rattle.yq_history.{specs.Pair.{Arrives, GoodIn, Opens}, specs.declared.opened.OpenPair.OpenPair, specs.Report.Report}
use Rattle.yq_history.{proofs.EffectLaws.not_opened, proofs.PairLaws.same_pair}
use Rattle.yq_fault.{specs.declared.fault.Fault.Fault, specs.Faults.is_outer_fault}
use Rattle.yq_commands.{specs.CommandDone.{EditsFrom, EditsInPlace, EditsOpened, Evaluates}, specs.CommandEffects.edit_effect}
use Rattle.yq_commands.{specs.EvalAsked.{EvalAsked, asked_in}, specs.CommandSteps.{update_cause, update_next}}
use Rattle.yq_commands.{specs.Editing.{Refuses, program_edits, program_in}, specs.CommandFaults.cause_in}
use Rattle.yq_commands.{specs.Evaluation.{evaluated, of_file, shows}, proofs.EditEffects.parsed_works}
use Rattle.yq_commands.proofs.OutcomeLaws.{all_left, arrives_as, unopened}
use Rattle.yq_fault.specs.declared.fault.Fault.TheVariants as fault

-- what is said of a success, where there is none
pub no_success : {T : Type 0} (P : Type 0) (r : Result T Fault) (e : Fault) → r ≡ Err e → OnOk r P
no_success P r e is = subst (λ x. OnOk x P) (sym is) tt

-- ---- an edit in place

module _ (asked : EvalAsked) (c : FileMap) {T : Type 0} (r : Result T Fault) (e : Fault) (is : r ≡ Err e) (s : Report) where
  -- its expression is no program
  pub unparsed_edits : (e ≢ fault.OutOfMemory → IsFor (cause_in (program_in asked.expr)) e) → EditsInPlace asked c c r s
  unparsed_edits why = search rules

  -- its file or its journal couldn't be read, or settled
  pub unopened_edits : (p : Program) (m : FileMap) → program_in asked.expr ≡ Ok p → m ≡ c →
      ((h : Option History) → GoodIn c asked.file asked.journal h → Opens m asked.file asked.journal h (Err e)) →
      (is_outer_fault e ≡ false → (go : List ℕ → State → Effect) → from_names c asked.file asked.journal go ≡ refuses (named e)) → EditsInPlace asked c m r s
  unopened_edits p m parsed same opens missed = record {
    arrives = λ apart h good.
        arrives_as m asked.file asked.journal r (λ q. update_cause q h) (λ q. update_next asked.expr q h) h (Ok p) (program_in asked.expr) (sym parsed)
        (unopened (update_cause (Ok p)) (update_next asked.expr (Ok p)) m m asked.file asked.journal r refl e h is (opens h good)
        (same_pair c m asked.file asked.journal h same good));
    effect = λ apart.
        parsed_works asked.file asked.journal c m asked.expr p (get c asked.file) (get c asked.journal) r parsed
        (not_opened (get c asked.file) (get c asked.journal) (λ t z. edit_effect asked.expr (program_edits p t) t z) asked.file asked.journal c m r e is same missed);
    edited = λ apart. no_success _ r e is;
    output = λ h good. no_success _ r e is;
    listed = λ apart. no_success _ r e is;
    expected = no_success _ r e is;
    names = all_left _ c m r same;
  }

-- ---- an edit of a text

module _ (p : Program) (expr : List ℕ) (o : OpenPair) (c : FileMap) where
  -- the program is refused on it
  pub refused_edits : {T : Type 0} (r : Result T Fault) (e : Fault) (diffs : Bool) (report : Report) (t : List ℕ) → t ≡ o.text.items →
      r ≡ Err e → (e ≢ fault.OutOfMemory → Refuses (program_edits p t) e) → EditsOpened p expr diffs o c c r report
  refused_edits r e diffs report t same is why = search rules

  -- memory was refused before anything was written
  pub cut_edits : {T : Type 0} (r : Result T Fault) (e : Fault) → r ≡ Err e → is_outer_fault e ≡ true → EditsFrom p expr o c c r
  cut_edits r e is out = search rules

-- ---- an expression that isn't carried out in place

-- the file couldn't be read
pub unread_arrives : (c m : FileMap) (f j : List ℕ) (of_text : List ℕ → Result Showing Cause) {T : Type 0} (r : Result T Fault) (x : Fault) → IsOfRead x → r ≡ Err x → m ≡ c →
    (x ≡ fault.NotThere → get c f ≡ None) → (h : Option History) → GoodIn c f j h → Arrives m f j (cause_in (of_file of_text h)) h h r
unread_arrives c m f j of_text r x of_read is same absent h good = search rules

module _ (options : EvalOptions) (expr f : List ℕ) (c : FileMap) {T : Type 0} (r : Result T Fault) (s : Report) where
  -- its expression is no program
  pub unparsed_shows : (e : Fault) → r ≡ Err e → (e ≢ fault.OutOfMemory → IsFor (cause_in (program_in expr)) e) → Evaluates (evaluated options (program_in expr)) f c c r s
  unparsed_shows e is why = search rules

  -- it is one
  pub parsed_shows : (p : Program) (d : FileMap) → program_in expr ≡ Ok p → Evaluates (of_file (shows options p)) f c d r s → Evaluates (evaluated options (program_in expr)) f c d r s
  parsed_shows p d is k = search rules

-- ---- by the words of `eval`

-- what holds of their bytes holds of what they ask
pub by_words : (w : EvalWords) (x f j : List ℕ) → x ≡ string_bytes w.expr → f ≡ string_bytes w.file → j ≡ string_bytes w.journal →
    (P : EvalAsked → Type 0) → P (record { expr = x; options = w.options; file = f; journal = j }) → P (asked_in w)
by_words w x f j expr_is file_is journal_is P h =
    let asks = λ (x f j : List ℕ). P (record { expr = x; options = w.options; file = f; journal = j }) in
    subst (λ y. asks y (string_bytes w.file) (string_bytes w.journal)) expr_is
    (subst (λ y. asks x y (string_bytes w.journal)) file_is (subst (asks x f) journal_is h))
