-- One more item or entry put into a collection of a head, after what was put before.
use Rattle.std.proofs.Common.{◌≡◌, ℕ, ◌+◌, ◌-◌, ◌≤◌, ◌<◌, Bool, true, cond, List, [], ◌∷◌, ◌++◌, drop, length, Option, Some, refl, sym, ap}
use Rattle.std.proofs.Common.{◌∙◌, arith}
use Rattle.yq_core.{specs.NodesWritten.{flow_key, flow_of}, specs.Paths.Step, specs.Tree.Node, specs.Collections.CollPieces}
use Rattle.yq_text.{specs.Limit.text_limit, specs.Script.{new_text, script_text_before, keep, put}}
use Rattle.yq_flow_edits.{specs.FlowEdits.{FlowEdit, is_none}, specs.FlowPlaces.PlacedEdit}
use Rattle.yq_row_table.specs.Rows.{Cut, cut_text}
use Rattle.yq_documents.specs.Reading.{read_at}
use Rattle.yq_places.specs.FlowNodes.{flow_collection}
use Rattle.yq_semantics.{specs.Operations.append, specs.declared.refusal.Refusal.TheVariants.TooLarge}
use Rattle.yq_edit_rules.{specs.FlowParts.{flow_segments, takes_key}, specs.Operands.HasOperand}
use Rattle.yq_edit_laws.{specs.PartPuts.{EndsAsIn, IsEditPlace, more_edit}, proofs.CutLaws.text_read}
use Rattle.yq_edit_laws.{proofs.FlowAppendLaws.{appended_reads, following_end, head_after, next, following_part}, proofs.LaterEnds.ends_on}
use Rattle.yq_edit_laws.{specs.Carried.carried, specs.Edit.{edit_of_segments, gives, refuses}, specs.Theorems.IsFitting}
use Rattle.yq_batch.specs.Runs.{IsPutRun, text_with_run}
use Rattle.yq_batch.proofs.RunEdits.{edit_large, edit_size, edit_there, fits_now, left_is, new_text_is, run_out, run_splices}
use Rattle.yq_batch.{proofs.CollectionLeft.{after_first, has_some, more_there, with_items}, specs.FilledRuns.IsFilledCollection}
use Rattle.yq_batch.{proofs.HeadRunLaws.head_row_on, proofs.PutComes.more_comes}
use Rattle.yq_edit_laws.proofs.FlowAppendLaws as more

module _ (c : Cut) (n : ℕ) (stem left : List Step) (key : Option (List ℕ)) (v : Node) (out : List ℕ) (done : ℕ) (run : IsPutRun c n stem out done)
    (w : CollPieces) (found : flow_collection n (stem ++ left) c ≡ Some w) (takes : takes_key w.close key ≡ true) (place : PlacedEdit) (at : IsEditPlace (cut_text c) (more_edit key v w) place)
    (following : done ≤ place.start) (opens : place.lead ≡ [] → done < place.start) (written : List ℕ) (is : written ≡ (more_edit key v w).written) where
  abbrev path : List Step
  path = stem ++ left

  abbrev t : List ℕ
  t = cut_text c

  abbrev now : List ℕ
  now = text_with_run t out done

  abbrev start : ℕ
  start = place.start

  abbrev finish : ℕ
  finish = place.end

  abbrev e : FlowEdit
  e = more_edit key v w

  start_is : start ≡ length t - length e.after
  start_is = ap (λ (p : PlacedEdit). p.start) at.place_is

  finish_is : finish ≡ length t - length e.after
  finish_is = ap (λ (p : PlacedEdit). p.end) at.place_is

  size : length t ≡ length at.before + (0 + length e.after)
  size = edit_size t e place at

  -- nothing is in the collection: so no item or entry leads to what is written
  none_leads : is_none w.items ≡ true → place.lead ≡ []
  none_leads none = ap (λ (p : PlacedEdit). p.lead) at.place_is ∙ ap (λ (b : Bool). cond b [] (44 ∷ (32 ∷ []))) none

  -- the collection as it is now
  there : EndsAsIn w run.cut n path
  there = run.ends left w found (omega (arith, following, start_is, size, run.within), λ none. omega (arith, opens (none_leads none), start_is, size, run.within))

  abbrev z : CollPieces
  z = there.0

  text : cut_text run.cut ≡ now
  text = text_read now run.cut run.read

  read : read_at (cut_text run.cut) ≡ Some run.cut
  read = ap read_at text ∙ run.read

  takes_now : takes_key z.close key ≡ true
  takes_now = ap (λ (k : ℕ). takes_key k key) there.2.close ∙ takes

  -- what is exchanged is the same
  same_segments : flow_segments (cut_text run.cut) (more_edit key v z) ≡ flow_segments (cut_text run.cut) e
  same_segments =
      λ i. let b : List ℕ = there.2.after i in
      keep (script_text_before (cut_text run.cut) b) ∷ (put [] (cond (there.2.none i) [] (44 ∷ (32 ∷ []))) ∷ (put [] e.written ∷ (keep b ∷ [])))

  comes : carried (append n path key v) now ≡ edit_of_segments (flow_segments (cut_text run.cut) e)
  comes = more_comes now run.cut n path key v z run.read there.1 takes_now ∙ ap edit_of_segments same_segments

  abbrev new_out : List ℕ
  new_out = run_out t out done start (place.lead ++ written)

  pub more_put_there : length (text_with_run t new_out finish) ≤ text_limit → carried (append n path key v) now ≡ gives (text_with_run t new_out finish) (run_splices t out done start finish (place.lead ++ written))
  more_put_there = edit_there c n stem out done run e place at following written is (append n path key v) comes

  pub more_large : text_limit < length (text_with_run t new_out finish) → carried (append n path key v) now ≡ refuses TooLarge
  more_large = edit_large c n stem out done run e place at following written is (append n path key v) comes

  -- the run goes on after it, and the collection has it, if it had nothing
  pub more_goes_on : HasOperand (append n path key v) → IsFitting (append n path key v) now → length (text_with_run t new_out finish) ≤ text_limit →
      (on : IsPutRun c n stem new_out finish) × (is_none w.items ≡ true → IsFilledCollection w on.cut n path (drop finish t))
  more_goes_on operand fitting small =
      let new_bytes : new_text (flow_segments (cut_text run.cut) e) ≡ text_with_run t new_out finish = new_text_is c n stem out done run e place at following written is in
      let own_bytes : new_text (flow_segments (cut_text run.cut) (more_edit key v z)) ≡ text_with_run t new_out finish = ap new_text same_segments ∙ new_bytes in
      let fit = fits_now (append n path key v) now run.cut operand fitting run.read in
      let reads = appended_reads run.cut n path key v z read there.1 operand.0 operand.1 takes_now fit (omega (arith, small, ap length own_bytes)) in
      let same = ap length there.2.after in (
        record {
          within = omega (arith, finish_is);
          edge = at.lies.end;
          cut = next run.cut n path key v z read there.1 stem left refl run.leads;
          read = ap read_at (sym own_bytes) ∙ reads;
          leads = head_after run.cut n path key v z read there.1 stem left refl run.leads;
          stays = λ ss r y part less begins.
              following_part run.cut n path key v z read there.1 stem left refl run.leads ss r y
              (run.stays ss r y part (omega (arith, less, following, finish_is, start_is)) (omega (arith, begins, following, finish_is, start_is))) (omega (arith, less, finish_is, size, same)) (omega (arith, begins, finish_is, size, same));
          ends = λ ss u at_end after.
              let d = run.ends ss u at_end (omega (arith, after.0, following, finish_is, start_is), λ none. omega (arith, after.1 none, following, finish_is, start_is)) in
              let f = following_end run.cut n path key v z read there.1 stem left refl run.leads ss d.0 d.1
              (omega (arith, after.0, finish_is, size, same, ap length d.2.after), λ none. omega (arith, after.1 (sym d.2.none ∙ none), finish_is, size, same, ap length d.2.after)) in
              (f.0, f.1, ends_on u d.0 f.0 d.2 f.2);
          row =
              let y : FlowEdit = more.e run.cut n path key v z read there.1 in
              head_row_on c run.cut n path z (more.at run.cut n path key v z read there.1) y.gap y.items stem left refl run.leads run.row;
        },
        λ none. record {
          coll = with_items (more_edit key v z).gap (more_edit key v z).items z;
          found = more_there run.cut n stem left z read there.1 run.leads key v;
          close = there.2.close;
          some = has_some (flow_key key) (flow_of v) z.gap z.items;
          following_is =
              after_first z.close (more_edit key v z).gap z.gap (flow_key key) (flow_of v) z.items z.rest (there.2.none ∙ none)
              ∙ (there.2.after ∙ sym (left_is c n stem out done run e place at following written is));
        },
      )
