-- What a command does, by the contract of the call that carries it out.
use Rattle.std.{proofs.Common.{rules, ap, ◌≡◌, ◌≢◌, ℕ, Bool, List, Option, Result, Ok, Err, OnOk, refl, ◌∙◌, subst}, specs.FinMap.get}
use Rattle.yq_journal.{specs.State.State, specs.History.History}
use Rattle.yq_history.{specs.Causes.Cause, specs.Effects.{Effect, Works, from_names, listing_effect, printed_by}, specs.Leaves.LeavesNames}
use Rattle.yq_history.{specs.Pair.{Arrives, Differs, GoodIn}, specs.Report.{Report, nothing}}
use Rattle.yq_history.specs.Output.{IsOutput, Shows, listing_output, showing, showing_nothing}
use Rattle.yq_fault.specs.declared.fault.Fault.{Fault}
use Rattle.yq_args.specs.declared.eval_options.EvalOptions.{EvalOptions}
use Rattle.yq_store.specs.FileMap.{FileMap}
use Rattle.yq_commands.{specs.CommandEffects.{update_effect, output_by}, specs.Editing.program_in, specs.CommandFaults.cause_in}
use Rattle.yq_commands.{specs.Evaluation.{evaluated, report_in}, specs.FileEdits.{IsFileEdited, PrintsChange}}
use Rattle.yq_commands.specs.Expecting.{report_edit, works_as_expected}

-- nothing is shown
pub empty_shows : (file : List ℕ) (s : Report) → s ≡ nothing → Shows file showing_nothing s
empty_shows file s empty = record { output = ap (λ (x : Report). x.printed) empty; is_match = ap (λ (x : Report). x.is_match) empty }

-- ---- by the names of a file and a journal

module _ (s t f j : List ℕ) (file_is : s ≡ f) (journal_is : t ≡ j) where
  -- what holds of the names of a call holds of those on which its command works
  pub by_names : (P : List ℕ → List ℕ → Type 0) (file journal : List ℕ) → (f ≡ file) × (j ≡ journal) → P s t → P file journal
  by_names P file journal on h = subst (λ x. P x journal) (file_is ∙ on.0) (subst (P s) (journal_is ∙ on.1) h)

  pub pair_arrives : (c d : FileMap) {T : Type 0} (r : Result T Fault) (cause : Option History → Option Cause) (next : Option History → Option History) →
      (s ≢ t → (h : Option History) → GoodIn c s t h → Arrives d s t (cause h) h (next h) r) →
      (file journal : List ℕ) → file ≢ journal → (f ≡ file) × (j ≡ journal) → (h : Option History) → GoodIn c file journal h → Arrives d file journal (cause h) h (next h) r
  pair_arrives c d r cause next h file journal apart on = search rules

  pub pair_works : (c d : FileMap) {T : Type 0} (r : Result T Fault) (go : List ℕ → State → Effect) → (s ≢ t → Works (from_names c s t go) s t c d r) →
      (file journal : List ℕ) → file ≢ journal → (f ≡ file) × (j ≡ journal) → Works (from_names c file journal go) file journal c d r
  pair_works c d r go h file journal apart on = by_names (λ x y. x ≢ y → Works (from_names c x y go) x y c d r) file journal on h apart

  pub pair_names : (c d : FileMap) {T : Type 0} (r : Result T Fault) → LeavesNames (λ q. Differs q s t) c d r → LeavesNames (λ q. Differs q f j) c d r
  pair_names c d r h = record { kept = h.kept; others = λ q apart. h.others q (λ is. apart.0 (is ∙ file_is), λ is. apart.1 (is ∙ journal_is)) }

  -- a listing
  pub listing_shows : (c : FileMap) {T : Type 0} (r : Result T Fault) (o : Report) (diffs : Bool) →
      ((h : Option History) → GoodIn c s t h → OnOk r (Shows s (showing (listing_output diffs h)) o)) →
      (file journal : List ℕ) → (f ≡ file) × (j ≡ journal) → (h : Option History) → GoodIn c file journal h → OnOk r (Shows f (showing (listing_output diffs h)) o)
  listing_shows c r o diffs shows file journal on = search rules

  pub listing_lists : (c : FileMap) {T : Type 0} (r : Result T Fault) (o : List ℕ) (diffs : Bool) →
      OnOk r (IsOutput s (printed_by (from_names c s t (listing_effect diffs))) o) →
      (file journal : List ℕ) → (f ≡ file) × (j ≡ journal) → OnOk r (IsOutput f (printed_by (from_names c file journal (listing_effect diffs))) o)
  listing_lists c r o diffs shows file journal on = search rules

-- ---- by the names of a file and a journal, and the bytes of an expression

-- what a success gives under a condition
on_ok_where : (P Q : Type 0) {T E : Type 0} (r : Result T E) → (P → OnOk r Q) → OnOk r (P → Q)
on_ok_where P Q (Ok v) h = h
on_ok_where P Q (Err e) h = tt

-- an edit in place
module _ (f j e : List ℕ) (c : FileMap) {T : Type 0} (r : Result T Fault) where
  abbrev does : List ℕ → List ℕ → Effect
  does x y = update_effect e (program_in e) (get c x) (get c y)

  pub update_works : (d : FileMap) → (f ≢ j → Works (does f j) f j c d r) →
      (file journal : List ℕ) → file ≢ journal → (f ≡ file) × (j ≡ journal) → Works (does file journal) file journal c d r
  update_works d h file journal apart on = by_names f j f j refl refl (λ x y. x ≢ y → Works (does x y) x y c d r) file journal on h apart

  pub update_edits : (d : FileMap) (o : List ℕ) (b : Bool) →
      (f ≢ j → OnOk r (IsFileEdited e (get c f) (get d f) × PrintsChange b f (get c f) (get d f) o)) →
      OnOk r (f ≢ j → IsFileEdited e (get c f) (get d f) × PrintsChange b f (get c f) (get d f) o)
  update_edits d o b edits = on_ok_where (f ≢ j) (IsFileEdited e (get c f) (get d f) × PrintsChange b f (get c f) (get d f) o) r edits

  pub update_expects : (m b : Bool) → OnOk r (m ≡ works_as_expected b (does f j)) →
      (file journal : List ℕ) → (f ≡ file) × (j ≡ journal) → OnOk r (m ≡ works_as_expected b (does file journal))
  update_expects m b h file journal on = by_names f j f j refl refl (λ x y. OnOk r (m ≡ works_as_expected b (does x y))) file journal on h

  pub update_shows : (o : Report) (options : EvalOptions) → ((h : Option History) → GoodIn c f j h → OnOk r (Shows f (report_edit options (program_in e) h) o)) →
      (file journal : List ℕ) → (f ≡ file) × (j ≡ journal) → (h : Option History) → GoodIn c file journal h → OnOk r (Shows f (report_edit options (program_in e) h) o)
  update_shows o options shows file journal on =
      by_names f j f j refl refl (λ x y. (h : Option History) → GoodIn c x y h → OnOk r (Shows f (report_edit options (program_in e) h) o)) file journal on shows

  pub update_lists : (o : List ℕ) (b : Bool) → (f ≢ j → OnOk r (IsOutput f (output_by b (get c f) (does f j)) o)) →
      (file journal : List ℕ) → (f ≡ file) × (j ≡ journal) → OnOk r (f ≢ j → IsOutput f (output_by b (get c file) (does file journal)) o)
  update_lists o b lists file journal on =
      by_names f j f j refl refl (λ x y. OnOk r (f ≢ j → IsOutput f (output_by b (get c x) (does x y)) o)) file journal on (on_ok_where (f ≢ j) (IsOutput f (output_by b (get c f) (does f j)) o) r lists)

-- one that isn't carried out in place
module _ (f e : List ℕ) (options : EvalOptions) where
  pub evaluate_arrives : (c d : FileMap) {T : Type 0} (r : Result T Fault) →
      ((journal : List ℕ) (h : Option History) → GoodIn c f journal h → Arrives d f journal (cause_in (evaluated options (program_in e) h)) h h r) →
      (file journal : List ℕ) → f ≡ file → (h : Option History) → GoodIn c file journal h → Arrives d file journal (cause_in (evaluated options (program_in e) h)) h h r
  evaluate_arrives c d r h file journal on = search rules

  pub evaluate_shows : (c : FileMap) {T : Type 0} (r : Result T Fault) (o : Report) →
      ((journal : List ℕ) (h : Option History) → GoodIn c f journal h → OnOk r (Shows f (report_in (evaluated options (program_in e) h)) o)) →
      (file journal : List ℕ) → f ≡ file → (h : Option History) → GoodIn c file journal h → OnOk r (Shows f (report_in (evaluated options (program_in e) h)) o)
  evaluate_shows c r o h file journal on = search rules
