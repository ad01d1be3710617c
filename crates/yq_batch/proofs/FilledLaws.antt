-- One more item or entry put into a collection of a head that was empty, right after the last one.
use Rattle.std.proofs.Common.{◌≡◌, ℕ, ◌-◌, ◌≤◌, ◌<◌, Bool, true, cond, List, [], ◌∷◌, ◌++◌, drop, length, take, Option, Some, refl, sym, ap}
use Rattle.std.{proofs.Common.{◌∙◌, append-nil, arith}, proofs.lemmas.Bool.false≢true}
use Rattle.std.proofs.lemmas.List.{drop_all, length-drop, length-take-le}
use Rattle.yq_text.{specs.Limit.text_limit, specs.Script.{new_text, splice_at}}
use Rattle.yq_core.{specs.Paths.Step, specs.Tree.Node, specs.Collections.CollPieces}
use Rattle.yq_flow_edits.specs.FlowEdits.{FlowEdit, after_appended}
use Rattle.yq_row_table.specs.Rows.{Cut, cut_text}
use Rattle.yq_documents.specs.Reading.{read_at}
use Rattle.yq_semantics.{specs.Operations.append, specs.declared.refusal.Refusal.TheVariants.TooLarge}
use Rattle.yq_edit_rules.{specs.FlowParts.{flow_segments, takes_key}, specs.Operands.HasOperand}
use Rattle.yq_edit_laws.{specs.PartPuts.more_edit, proofs.CutLaws.text_read}
use Rattle.yq_edit_laws.{proofs.FlowAppendLaws.{appended_reads, following_end, head_after, next, following_part}, proofs.LaterEnds.ends_on}
use Rattle.yq_edit_laws.{specs.Carried.carried, specs.Edit.{edit_of_segments, gives, refuses}, specs.Theorems.IsFitting}
use Rattle.yq_batch.{specs.FilledRuns.IsFilledCollection, specs.Runs.{IsPutRun, text_with_run}}
use Rattle.yq_batch.proofs.PutComes.{made_text, new_is, segments_come, segments_large, more_comes}
use Rattle.yq_batch.{proofs.RunEdits.{fits_now, run_out, run_splices}, proofs.HeadRunLaws.head_row_on}
use Rattle.yq_edit_laws.proofs.FlowAppendLaws as more

module _ (c : Cut) (n : ℕ) (stem left : List Step) (key : Option (List ℕ)) (v : Node) (out : List ℕ) (done : ℕ) (run : IsPutRun c n stem out done)
    (w : CollPieces) (takes : takes_key w.close key ≡ true) (f : IsFilledCollection w run.cut n (stem ++ left) (drop done (cut_text c))) (written : List ℕ) (is : written ≡ (more_edit key v w).written) where
  abbrev path : List Step
  path = stem ++ left

  abbrev t : List ℕ
  t = cut_text c

  abbrev now : List ℕ
  now = text_with_run t out done

  abbrev z : CollPieces
  z = f.coll

  abbrev e : FlowEdit
  e = more_edit key v z

  text : cut_text run.cut ≡ now
  text = text_read now run.cut run.read

  read : read_at (cut_text run.cut) ≡ Some run.cut
  read = ap read_at text ∙ run.read

  takes_now : takes_key z.close key ≡ true
  takes_now = ap (λ (k : ℕ). takes_key k key) f.close ∙ takes

  comes : carried (append n path key v) now ≡ edit_of_segments (flow_segments (cut_text run.cut) e)
  comes = more_comes now run.cut n path key v z run.read f.found takes_now

  -- it comes where the run ends
  split : cut_text run.cut ≡ out ++ (e.old ++ e.after)
  split = text ∙ ap (λ (l : List ℕ). out ++ l) (sym f.following_is)

  lead_is : e.lead ≡ 44 ∷ (32 ∷ [])
  lead_is = ap (λ (b : Bool). cond b [] (44 ∷ (32 ∷ []))) f.some

  nothing : drop done (take done t) ≡ []
  nothing = drop_all done (take done t) (omega (arith, length-take-le done t run.within))

  front_is : out ++ drop done (take done t) ≡ out
  front_is = ap (λ (l : List ℕ). out ++ l) nothing ∙ append-nil out

  abbrev new : List ℕ
  new = (44 ∷ (32 ∷ [])) ++ written

  abbrev new_out : List ℕ
  new_out = run_out t out done done new

  made_is : made_text out e ≡ text_with_run t new_out done
  made_is = λ i. (sym front_is i ++ (lead_is i ++ sym is i)) ++ f.following_is i

  cs_is : splice_at (length out) e.old (e.lead ++ e.written) ≡ run_splices t out done done done new
  cs_is = λ i. splice_at (length (sym front_is i)) (sym nothing i) (lead_is i ++ sym is i)

  pub again_there : length (text_with_run t new_out done) ≤ text_limit → carried (append n path key v) now ≡ gives (text_with_run t new_out done) (run_splices t out done done done new)
  again_there small = comes ∙ (segments_come (cut_text run.cut) out e split (omega (arith, small, ap length made_is)) ∙ λ i. gives (made_is i) (cs_is i))

  pub again_large : text_limit < length (text_with_run t new_out done) → carried (append n path key v) now ≡ refuses TooLarge
  again_large large = comes ∙ segments_large (cut_text run.cut) out e split (omega (arith, large, ap length made_is))

  -- the run goes on after it, and the next one comes where it ends
  pub again_goes_on : HasOperand (append n path key v) → IsFitting (append n path key v) now → length (text_with_run t new_out done) ≤ text_limit →
      (on : IsPutRun c n stem new_out done) × IsFilledCollection w on.cut n path (drop done t)
  again_goes_on operand fitting small =
      let new_bytes : new_text (flow_segments (cut_text run.cut) e) ≡ text_with_run t new_out done = new_is (cut_text run.cut) out e split ∙ made_is in
      let fit = fits_now (append n path key v) now run.cut operand fitting run.read in
      let reads = appended_reads run.cut n path key v z read f.found operand.0 operand.1 takes_now fit (omega (arith, small, ap length new_bytes)) in
      let size : length (after_appended z) ≡ length t - done = ap length f.following_is ∙ length-drop done t in
      let own = following_end run.cut n path key v z read f.found stem left refl run.leads left z f.found (omega arith, λ none. absurd (false≢true (sym f.some ∙ none))) in (
        record {
          within = run.within;
          edge = run.edge;
          cut = next run.cut n path key v z read f.found stem left refl run.leads;
          read = ap read_at (sym new_bytes) ∙ reads;
          leads = head_after run.cut n path key v z read f.found stem left refl run.leads;
          stays = λ ss r y part less begins. following_part run.cut n path key v z read f.found stem left refl run.leads ss r y (run.stays ss r y part less begins) (omega (arith, less, size)) (omega (arith, begins, size));
          ends = λ ss u at_end after.
              let d = run.ends ss u at_end after in
              let g = following_end run.cut n path key v z read f.found stem left refl run.leads ss d.0 d.1 (
                omega (arith, after.0, size, ap length d.2.after),
                λ none. omega (arith, after.1 (sym d.2.none ∙ none), size, ap length d.2.after),
              ) in
              (g.0, g.1, ends_on u d.0 g.0 d.2 g.2);
          row =
              let y : FlowEdit = more.e run.cut n path key v z read f.found in
              head_row_on c run.cut n path z (more.at run.cut n path key v z read f.found) y.gap y.items stem left refl run.leads run.row;
        },
        record { coll = own.0; found = own.1; close = own.2.close ∙ f.close; some = own.2.none ∙ f.some; following_is = own.2.after ∙ f.following_is },
      )
