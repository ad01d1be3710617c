-- What is shown of a file, by what is shown of its text.
use Rattle.std.proofs.Common.{rules, ◌≡◌, ◌≢◌, inl, true, false, ℕ, List, Option, Some, None, option_map, Result, Ok, Err, IfErr, sym, ap}
use Rattle.std.{proofs.Common.{◌∙◌, subst, refl, true≢false, if◌then◌else◌, IfOk}, proofs.lemmas.Option.same_Some, specs.FinMap.get}
use Rattle.std.specs.Str.{is_utf8}
use Rattle.yq_core.{specs.Answers.{ReadFails, ReadError}, specs.Tree.Node}
use Rattle.yq_places.specs.Answers.{IsNotUtf8}
use Rattle.yq_documents.{specs.Documents.Document, specs.Reading.{documents, read_at}}
use Rattle.yq_semantics.{specs.Copies.matches, specs.Judgement.{Judgement, refuses, ExprError}}
use Rattle.yq_semantics.specs.Program.{Program, Stage, is_read, read}
use Rattle.yq_journal.specs.History.{History, text_at}
use Rattle.yq_fault.{specs.declared.fault.Fault.Fault, specs.declared.fault.Fault.TheVariants.OutOfMemory}
use Rattle.yq_fault.specs.Faults.{is_outer_fault, fault_of_reading, fault_of_refusal}
use Rattle.yq_history.{specs.Causes.{Cause, IsFor, named, no_reading, IsUnreadable}, specs.Pair.{Arrives, GoodIn}}
use Rattle.yq_history.{specs.Report.{Report, report_by}, proofs.MoveLaws.{cut, is_refused}}
use Rattle.yq_history.{specs.Output.{Showing, Shows, showing_by, IsOutput, bytes, diff}, proofs.PairLaws.{good_text, same_pair}}
use Rattle.yq_store.specs.FileMap.{FileMap}
use Rattle.yq_args.specs.declared.eval_options.EvalOptions.{EvalOptions}
use Rattle.yq_commands.specs.Editing.{EditOutcome, edited, Refuses, program_edits}
use Rattle.yq_commands.specs.Evaluation.{of_file, IsShowing, show_edit, show_found, show_read, shows, report_in, edit_output}
use Rattle.yq_commands.{specs.CommandFaults.cause_in, proofs.EditingLaws.unread_text, specs.Expecting.{change_output, changes_as_expected}}
use Rattle.yq_text.specs.Splice.{Splice}
use Rattle.yq_history.specs.declared.report.Report as declared
use Rattle.yq_semantics.specs.Judgement as judgement
use Rattle.yq_failure.specs.declared.failure.Failure.TheVariants as matching
use Rattle.yq_fault.specs.declared.fault.Fault.TheVariants as fault

-- the fault of an edit says why its text isn't shown
pub reports_edit : (options : EvalOptions) (t : List ℕ) (o : EditOutcome) (x : Fault) → Refuses o x → IsFor (cause_in (show_edit options t o)) x
reports_edit options t o x is = search rules

-- ---- of a text

module _ (options : EvalOptions) (t : List ℕ) where
  -- a read, by the documents
  by_documents : (p : Program) (docs : Option (List Document)) → is_read p ≡ true →
      option_map documents (read_at t) ≡ docs → (pipe : List Stage) × (p ≡ read pipe) × (shows options p t ≡ show_read options pipe t docs)
  unfolding shows
  by_documents p docs is reads = search rules

  -- a read of a text without a reading
  pub unread_shows : (p : Program) → is_read p ≡ true → read_at t ≡ None → shows options p t ≡ Err (no_reading t)
  unread_shows p is none = (by_documents p None is (ap (option_map documents) none)).2

  -- a read of a text, by its matches
  pub found_shows : (p : Program) (docs : List Document) (found : Judgement (List (ℕ × Node))) → is_read p ≡ true → option_map documents (read_at t) ≡ Some docs →
      ((pipe : List Stage) → p ≡ read pipe → matches pipe docs ≡ found) → shows options p t ≡ show_found options found
  found_shows p docs found is reads matched =
      let x = by_documents p (Some docs) is reads in
      x.2 ∙ ap (show_found options) (matched x.0 x.1)

  -- the fault that is reported, where a program is refused on the text
  abbrev pub HasFault : Program → {T : Type 0} → Result T Fault → Type 0
  HasFault p r = IfErr r (λ x. x ≢ OutOfMemory → IsFor (cause_in (shows options p t)) x)

  -- it is the one for a cause
  for_cause : (p : Program) (why : Cause) {T : Type 0} (r : Result T Fault) (x : Fault) → r ≡ Err x → (x ≢ OutOfMemory → (shows options p t ≡ Err why) × IsFor (Some why) x) → HasFault p r
  for_cause p why r x is known = subst (HasFault p) (sym is) (λ memory. let k = known memory in subst (λ o. IsFor (cause_in o) x) (sym k.0) k.1)

  -- a text without a reading
  pub unread_fails : (p : Program) {T : Type 0} (r : Result T Fault) (x : Fault) → is_read p ≡ true → r ≡ Err x → IsUnreadable t x → read_at t ≡ None → HasFault p r
  unread_fails p r x is fails unread none = for_cause p (no_reading t) r x fails (λ memory. (unread_shows p is none, unread))

  -- a text that isn't read
  pub reading_fails : (p : Program) {T : Type 0} (r : Result T Fault) (e : ReadError) → is_read p ≡ true → is_utf8 t ≡ true →
      r ≡ Err (fault_of_reading e) → ReadFails e (read_at t) → (IsNotUtf8 {X = List ℕ} (Err e) → is_utf8 t ≡ false) → HasFault p r
  reading_fails p r e is utf8 fails h6 text = search (rules, for_cause, unread_fails, unread_text, true≢false)

  -- documents on which matching is refused
  pub matching_fails : (p : Program) (docs : List Document) {T : Type 0} (r : Result T Fault) (e : ExprError) → is_read p ≡ true →
      r ≡ Err (fault_of_refusal e) → option_map documents (read_at t) ≡ Some docs → ((pipe : List Stage) → p ≡ read pipe → judgement.MatchFails e (matches pipe docs)) → HasFault p r
  matching_fails p docs r matching.Memory is fails reads why = for_cause p (no_reading t) r OutOfMemory fails (λ memory. absurd (memory refl))
  matching_fails p docs r (matching.Fault x) is fails reads why =
      for_cause p (named (fault.Refused x)) r (fault.Refused x) fails (λ memory. (found_shows p docs (refuses x) is reads why, refl))

  -- an update of a text
  pub edit_shows : (p : Program) → is_read p ≡ false → shows options p t ≡ show_edit options t (program_edits p t)
  unfolding shows
  edit_shows p is = search rules

  -- an update that is refused
  pub edit_fails : (p : Program) {T : Type 0} (r : Result T Fault) (x : Fault) → is_read p ≡ false → r ≡ Err x → (x ≢ OutOfMemory → Refuses (program_edits p t) x) → HasFault p r
  edit_fails p r x is fails why = subst (HasFault p) (sym fails) (λ memory. subst (λ o. IsFor (cause_in o) x) (sym (edit_shows p is)) (reports_edit options t (program_edits p t) x (why memory)))

-- ---- of a file

is_showing : (name : List ℕ) (r : Result Showing Cause) (s : Report) → IsShowing name r s → (due : Showing) × (r ≡ Ok due) × Shows name due s
is_showing name r s shows = search rules

module _ (c e : FileMap) (f j : List ℕ) (of_text : List ℕ → Result Showing Cause) (t : List ℕ) (same : e ≡ c) (file_is : get c f ≡ Some t) where
  -- a file that is there has a history, of which it is the text at the cursor
  there : (h : Option History) → GoodIn c f j h → (x : History) × (h ≡ Some x) × (text_at x ≡ t)
  there h good = search (rules, same_Some, good_text)

  module _ (h : Option History) (good : GoodIn c f j h) where
    file_shows : of_file of_text h ≡ of_text t
    file_shows = let x = there h good in ap (of_file of_text) x.1 ∙ ap of_text x.2

    still_good : GoodIn e f j h
    still_good = same_pair c e f j h same good

    -- the program was refused on the text
    pub show_refused : {T : Type 0} (r : Result T Fault) (x : Fault) → r ≡ Err x → (x ≢ OutOfMemory → IsFor (cause_in (of_text t)) x) → Arrives e f j (cause_in (of_file of_text h)) h h r
    show_refused r x is why = elim (is_outer_fault x) as (λ b. is_outer_fault x ≡ b → Arrives e f j (cause_in (of_file of_text h)) h h r) [
      | true ↦ λ out. cut e f j (cause_in (of_file of_text h)) h h r x is out (inl still_good)
      | false ↦ λ out. is_refused e f j (cause_in (of_file of_text h)) h h r x is out
          (subst (λ o. IsFor (cause_in o) x) (sym file_shows) (why (λ memory. true≢false (sym (ap is_outer_fault memory) ∙ out)))) still_good
    ] refl

    -- it was carried out on it
    pub show_done : {T : Type 0} (v : T) (name : List ℕ) (s : Report) → IsShowing name (of_text t) s → Arrives e f j (cause_in (of_file of_text h)) h h {T = T} (Ok v)
    show_done v name s shows = let x = is_showing name (of_text t) s shows in (ap cause_in (file_shows ∙ x.1), still_good)

    pub report_is : (name : List ℕ) (s : Report) → IsShowing name (of_text t) s → Shows name (report_in (of_file of_text h)) s
    report_is name s shows =
        let x = is_showing name (of_text t) s shows in
        subst (λ due. Shows name due s) (sym (ap report_in (file_shows ∙ x.1))) x.2

-- ---- an update that is shown

-- by the new text, or with `--diff` by what changed
pub edit_showing : (options : EvalOptions) (file t u : List ℕ) (changes : List Splice) (p : Program) (s : Report) → is_read p ≡ false → program_edits p t ≡ edited u changes →
    IsOutput file (edit_output options t u) s.printed → s.is_match ≡ changes_as_expected options t u → IsShowing file (shows options p t) s
edit_showing options file t u changes p s update gives output is_match = search (rules, edit_shows)

-- the output, by whether a diff is asked for
pub text_output : (options : EvalOptions) (file t u printed : List ℕ) → options.diff ≡ false → printed ≡ u → IsOutput file (edit_output options t u) printed
text_output options file t u printed off is = subst (λ b. IsOutput file (if b then diff t u else bytes u) printed) (sym off) is

pub diff_output : (options : EvalOptions) (file t u : List ℕ) (changes : List Splice) (o : EditOutcome) (printed : List ℕ) → options.diff ≡ true → o ≡ edited u changes →
    IsOutput file (change_output options.diff t o) printed → IsOutput file (edit_output options t u) printed
diff_output options file t u changes o printed on gives shows = search rules

-- a read that is shown
pub read_shows : {E : Type 0} (name : List ℕ) (x : Result Showing Cause) (r : Result declared.Report E) → IfOk r (λ s. x ≡ Ok (showing_by s)) → IfOk r (λ s. IsShowing name x (report_by s))
read_shows name x r is = search rules
