-- One more value put in a head, after those that were.
use Rattle.std.proofs.Common.{◌≡◌, ℕ, ◌+◌, ◌-◌, ◌≤◌, ◌<◌, true, false, List, [], ◌++◌, length, Option, Some, refl, sym, ap, ◌∙◌, subst}
use Rattle.std.{proofs.Common.{arith, length-append}, proofs.lemmas.Option.same_Some}
use Rattle.yq_text.{specs.Limit.text_limit, specs.Script.new_text}
use Rattle.yq_core.{specs.Paths.Step, specs.Tree.Node, specs.Answers.◌>>=◌, proofs.Bools.bind_some, specs.Collections.CollPieces}
use Rattle.yq_core.{specs.Entries.item_at, specs.Nodes.{node_text, without_anchor}, proofs.NodesWrittenLaws.node_then, specs.Trees.tree_of}
use Rattle.yq_flow_edits.{specs.FlowEdits.FlowEdit, specs.FlowPlaces.PlacedEdit, specs.Valued.IsValueTree}
use Rattle.yq_row_table.specs.Rows.{Cut, cut_text}
use Rattle.yq_documents.specs.Reading.{read_at}
use Rattle.yq_places.{specs.FlowNodes.flow_collection, specs.NodesAt.node_in, specs.Placements.{FlowPart, flow_placement, last_step}}
use Rattle.yq_semantics.{specs.Operations.replace, specs.declared.refusal.Refusal.TheVariants.TooLarge}
use Rattle.yq_edit_rules.{specs.FlowParts.flow_segments, specs.Replacing.keeps_scalar}
use Rattle.yq_edit_laws.{specs.PartPuts.{IsEditPlace, IsPartOf, IsPlaceOf, put_edit}, proofs.CutLaws.text_read}
use Rattle.yq_edit_laws.proofs.FlowPartNodes.{part_node}
use Rattle.yq_edit_laws.{proofs.FlowPutLaws.{following_end, head_after, next, following_part, replaced_reads}, proofs.LaterEnds.ends_on}
use Rattle.yq_edit_laws.{proofs.FlowPlacements.{EntryAt, entry_found}, specs.Carried.carried, specs.Edit.{edit_of_segments, gives, refuses}}
use Rattle.yq_edit_laws.specs.Theorems.{IsFitting}
use Rattle.yq_batch.{specs.Runs.{EndsInCollection, IsPutRun, text_with_run}, proofs.PutComes.{kept_comes, put_comes}}
use Rattle.yq_batch.proofs.HeadRunLaws.{head_row_on}
use Rattle.yq_batch.proofs.RunEdits.{edit_large, edit_size, edit_there, fits_now, new_text_is, run_out, run_splices}
use Rattle.yq_edit_laws.proofs.FlowPutLaws as puts

-- A value is put at a part.
module _ (c : Cut) (n : ℕ) (stem path : List Step) (v : Node) (out : List ℕ) (done : ℕ) (whole : read_at (cut_text c) ≡ Some c) (run : IsPutRun c n stem out done)
    (ends : EndsInCollection stem path) (z : FlowPart) (placement : flow_placement n c (last_step path) ≡ Some z) (place : PlacedEdit)
    (placed : IsPlaceOf (cut_text c) v z place) (following : done ≤ place.start) (passes : done < place.end) where
  abbrev t : List ℕ
  t = cut_text c

  abbrev now : List ℕ
  now = text_with_run t out done

  abbrev start : ℕ
  start = place.start

  abbrev finish : ℕ
  finish = place.end

  -- the part as it was read
  abbrev b : EntryAt c n path
  b = (entry_found c n path z placement).0

  abbrev first_part : FlowPart
  first_part = record { step = b.step; collection = b.coll; part = b.item }

  abbrev e : FlowEdit
  e = put_edit v first_part

  at : IsEditPlace t e place
  at = subst (λ (y : FlowPart). IsPlaceOf t v y place) (sym (entry_found c n path z placement).1) placed

  start_is : start ≡ length t - length (e.old ++ e.after)
  start_is = ap (λ (p : PlacedEdit). p.start) at.place_is

  finish_is : finish ≡ length t - length e.after
  finish_is = ap (λ (p : PlacedEdit). p.end) at.place_is

  size : length t ≡ length at.before + (length e.old + length e.after)
  size = edit_size t e place at

  -- and as it is now
  abbrev left : List Step
  left = ends.0

  steps_are : b.init ≡ stem ++ left
  steps_are = ap (λ (y : List Step × Step). y.0) (same_Some _ _ (sym b.last ∙ ends.1.1))

  first : IsPartOf c n (stem ++ left) b.step b.item
  first = ap (λ (o : Option CollPieces). o >>= λ w. item_at w.close b.step w.items w.rest) (ap (λ (ss : List Step). flow_collection n ss c) (sym steps_are) ∙ b.found) ∙ b.at

  content_is : length (e.old ++ e.after) ≡ length (node_text (without_anchor b.item.node) b.item.rest)
  content_is = ap length (sym (node_then (without_anchor b.item.node) b.item.rest))

  stays : IsPartOf run.cut n (stem ++ left) b.step b.item
  stays = run.stays left b.step b.item first (omega (arith, passes, finish_is, size)) (omega (arith, following, start_is, content_is, size, run.within, length-append e.old e.after))

  abbrev a : EntryAt run.cut n path
  a =
      let there = bind_some (flow_collection n (stem ++ left) run.cut) stays in
      record { init = stem ++ left; step = b.step; last = b.last ∙ ap (λ (ss : List Step). Some (ss, b.step)) steps_are; coll = there.0; found = there.1; item = b.item; at = there.2 }

  text : cut_text run.cut ≡ now
  text = text_read now run.cut run.read

  read : read_at (cut_text run.cut) ≡ Some run.cut
  read = ap read_at text ∙ run.read

  same_kept : keeps_scalar (node_in n path c) v ≡ keeps_scalar (Some (tree_of b.item.node)) v
  same_kept = ap (λ (o : Option Node). keeps_scalar o v) (part_node c n path b whole)

  -- an equal scalar
  pub kept_there : keeps_scalar (node_in n path c) v ≡ true → carried (replace n path v) now ≡ gives now []
  kept_there kept = subst (λ (u : List ℕ). carried (replace n path v) u ≡ gives u []) text (kept_comes run.cut n path v read a (sym same_kept ∙ kept))

  -- another value
  module _ (written : List ℕ) (other : keeps_scalar (node_in n path c) v ≡ false) (is : written ≡ (put_edit v z).written) where
    written_is : written ≡ e.written
    written_is = is ∙ ap (λ (y : FlowPart). (put_edit v y).written) (sym (entry_found c n path z placement).1)

    abbrev new_out : List ℕ
    new_out = run_out t out done start (place.lead ++ written)

    pub comes : carried (replace n path v) now ≡ edit_of_segments (flow_segments (cut_text run.cut) e)
    comes = ap (carried (replace n path v)) (sym text) ∙ put_comes run.cut n path v read a (sym same_kept ∙ other)

    pub put_there : length (text_with_run t new_out finish) ≤ text_limit → carried (replace n path v) now ≡ gives (text_with_run t new_out finish) (run_splices t out done start finish (place.lead ++ written))
    put_there = edit_there c n stem out done run e place at following written written_is (replace n path v) comes

    pub large_there : text_limit < length (text_with_run t new_out finish) → carried (replace n path v) now ≡ refuses TooLarge
    large_there = edit_large c n stem out done run e place at following written written_is (replace n path v) comes

    -- the run goes on after it
    pub goes_on : IsValueTree v → IsFitting (replace n path v) now → length (text_with_run t new_out finish) ≤ text_limit → IsPutRun c n stem new_out finish
    goes_on value fitting small =
        let new_bytes : new_text (flow_segments (cut_text run.cut) e) ≡ text_with_run t new_out finish = new_text_is c n stem out done run e place at following written written_is in
        let fit = fits_now (replace n path v) now run.cut value fitting run.read in
        let reads = replaced_reads run.cut n path v read a value fit (omega (arith, small, ap length new_bytes)) in
        record {
          within = omega (arith, finish_is);
          edge = at.lies.end;
          cut = next run.cut n path v read a stem left refl run.leads;
          read = ap read_at (sym new_bytes) ∙ reads;
          leads = head_after run.cut n path v read a stem left refl run.leads;
          stays = λ ss r y there less begins.
              following_part run.cut n path v read a stem left refl run.leads ss r y
              (run.stays ss r y there (omega (arith, less, passes)) (omega (arith, begins, passes))) (omega (arith, less, finish_is, size)) (omega (arith, begins, finish_is, size));
          ends = λ ss w found after.
              let d = run.ends ss w found (omega (arith, after.0, passes), λ none. omega (arith, after.1 none, passes)) in
              let f = following_end run.cut n path v read a stem left refl run.leads ss d.0 d.1 (omega (arith, after.0, finish_is, size, ap length d.2.after)) in
              (f.0, f.1, ends_on w d.0 f.0 d.2 f.2);
          row =
              let z : FlowEdit = puts.e run.cut n path v read a in
              head_row_on c run.cut n a.init a.coll (puts.at run.cut n path v read a) z.gap z.items stem left refl run.leads run.row;
        }
