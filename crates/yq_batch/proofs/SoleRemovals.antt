-- The only item or entry that is left of a collection in another one, taken out before those that were: an empty collection comes there.
use Rattle.std.proofs.Common.{◌≡◌, ℕ, suc, ◌+◌, ◌-◌, ◌≤◌, ◌<◌, Bool, true, false, cond, eqb, List, [], ◌∷◌, ◌++◌, length, take, drop, Some}
use Rattle.std.{proofs.Common.{refl, sym, ap, ◌∙◌, subst, append_assoc, arith, length-append}, proofs.lemmas.List.append_cancel_right}
use Rattle.std.{specs.Prelude.nat_lt, specs.Str.IsCharBoundary}
use Rattle.yq_text.{specs.Limit.text_limit, specs.Script.splice_at}
use Rattle.yq_core.{specs.Paths.{Step, change_child}, specs.Tree.Node, specs.Collections.CollPieces}
use Rattle.yq_core.{specs.Nodes.{coll, flow_items_text, node_text}, specs.Trees.items_tree, proofs.NodesWrittenLaws.node_then}
use Rattle.yq_core.proofs.NodeAgain.{items_longer}
use Rattle.yq_flow_edits.{specs.FlowEdits.{FlowEdit, after_appended}, specs.Valued.IsValueTree}
use Rattle.yq_outline.specs.Counts.{count}
use Rattle.yq_row_table.specs.Rows.{Cut, cut_text}
use Rattle.yq_documents.{specs.Reading.read_at, specs.TreeEdits.replaced_node}
use Rattle.yq_places.{specs.FlowNodes.flow_collection, specs.Placements.last_step}
use Rattle.yq_semantics.{specs.Operations.{remove, replace}, specs.declared.refusal.Refusal.TheVariants.TooLarge}
use Rattle.yq_edit_rules.{specs.FlowParts.flow_segments, specs.FlowRows.FlowAt}
use Rattle.yq_edit_laws.{proofs.FlowEditLaws.flow_texts, proofs.CutLaws.text_read, proofs.EarlierPuts.coll_before_put}
use Rattle.yq_edit_laws.{proofs.FlowPutLaws.{bounds, edited, head_after, next, replaced_reads, there}, proofs.FlowSoundLaws.last_is}
use Rattle.yq_edit_laws.{proofs.LaterEnds.last_longer, proofs.SoleLaws.empty_value}
use Rattle.yq_edit_laws.proofs.SoleParts.{IsEmptiedBy, sole_comes, sole_fitting}
use Rattle.yq_edit_laws.proofs.SoleEntries.{InnerEntry, coll_size, empty_bytes, g, inner_entry, node_emptied, sole_after, sole_old}
use Rattle.yq_edit_laws.{proofs.SoleEntries.{sole_other, sole_written, v}, proofs.FlowWholeLaws.IsPlacedBefore, specs.Carried.carried}
use Rattle.yq_edit_laws.{specs.Edit.{edit_of_segments, gives, refuses}, specs.Theorems.IsFitting}
use Rattle.yq_batch.{proofs.HeadsBefore.row_keeps, specs.RemovalRuns.{IsRemovalRun, text_exchanged}, proofs.PutComes.put_comes}
use Rattle.yq_batch.proofs.RunEdits.{fits_now}
use Rattle.yq_batch.proofs.BackEdits.{back_finish, back_large, back_new, back_order, back_start, back_text, back_there, drop_is, gone_first}
use Rattle.yq_batch.proofs.BackEdits.{gone_is}

two_bytes : (k : ℕ) → length (empty_bytes k) ≡ 2
two_bytes k = go (eqb k 125)
  where
    go : (b : Bool) → length {A = ℕ} (cond b (123 ∷ (125 ∷ [])) (91 ∷ (93 ∷ []))) ≡ 2
    go true = refl
    go false = refl

module _ (c : Cut) (n : ℕ) (stem left path : List Step) (s : Step) (keep : ℕ) (tail : List ℕ) (run : IsRemovalRun c n stem keep tail) (last : last_step path ≡ Some (stem ++ left, s))
    (own : List Step × Step) (inner : last_step left ≡ Some own) (z : CollPieces) (found : flow_collection n (stem ++ left) run.cut ≡ Some z) (few : nat_lt 1 (count (items_tree z.items)) ≡ false) where
  abbrev pub t : List ℕ
  t = cut_text c

  abbrev pub now : List ℕ
  now = take keep t ++ tail

  abbrev pub text : cut_text run.cut ≡ now
  text = text_read now run.cut run.read

  abbrev pub read : read_at (cut_text run.cut) ≡ Some run.cut
  read = ap read_at text ∙ run.read

  abbrev pub steps : List Step
  steps = stem ++ left

  abbrev pub y : InnerEntry run.cut n stem left own z
  y = inner_entry run.cut n stem left own z read run.leads inner found

  abbrev pub e : FlowEdit
  e = g run.cut n steps z read y.entry y.inside

  abbrev pub new : List ℕ
  new = e.lead ++ e.written

  emptied : IsEmptiedBy (v run.cut n steps z read y.entry y.inside) (Rattle.yq_core.specs.Trees.tree_of y.entry.item.node)
  emptied = node_emptied y.entry.item.node y.entry.item.rest z y.inside few

  path_is : path ≡ steps ++ (s ∷ [])
  path_is = last_is path steps s last

  value : IsValueTree (v run.cut n steps z read y.entry y.inside)
  value = empty_value _ _ emptied.0

  abbrev pub is_located : IsPlacedBefore (cut_text run.cut) (e.old ++ e.after)
  is_located = there run.cut n steps (v run.cut n steps z read y.entry y.inside) read y.entry

  abbrev pub before : List ℕ
  before = is_located.before

  now_is : now ≡ before ++ (e.old ++ e.after)
  now_is = sym text ∙ is_located.text

  -- what the operation comes to
  comes : carried (remove n path) now ≡ edit_of_segments (flow_segments (cut_text run.cut) e)
  comes =
      ap (carried (remove n path)) (sym text)
      ∙ (ap (λ (p : List Step). carried (remove n p) (cut_text run.cut)) path_is
      ∙ (sole_comes run.cut n steps s (v run.cut n steps z read y.entry y.inside) read y.entry emptied
      ∙ put_comes run.cut n steps (v run.cut n steps z read y.entry y.inside) read y.entry (sole_other run.cut n steps z read y.entry y.inside)))

  -- where it is
  old_text : e.old ++ e.after ≡ node_text (coll z.close z.gap z.items) z.rest
  old_text = (λ i. sole_old run.cut n steps z read y.entry y.inside i ++ sole_after run.cut n steps z read y.entry y.inside i) ∙ sym (node_then (coll z.close z.gap z.items) z.rest)

  pub opens : (opening : List ℕ) → cut_text run.cut ≡ opening ++ flow_items_text z.close z.items z.rest → length before + suc (length z.gap) ≡ length opening
  opens opening is =
      omega (
        arith,
        ap length is,
        length-append opening (flow_items_text z.close z.items z.rest),
        ap length is_located.text,
        length-append before (e.old ++ e.after),
        ap length old_text,
        coll_size z.close z.gap z.items z.rest,
      )

  pub ends : length (before ++ e.old) + length z.rest ≡ length now
  ends =
      omega (
        arith,
        ap length now_is,
        length-append before (e.old ++ e.after),
        length-append e.old e.after,
        length-append before e.old,
        ap length (sole_after run.cut n steps z read y.entry y.inside),
      )

  pub new_is : new ≡ empty_bytes z.close
  new_is = sole_written run.cut n steps z read y.entry y.inside

  module _ (start finish : ℕ) (start_is : start ≡ length before) (finish_is : finish ≡ length (before ++ e.old)) (short : start ≤ keep) where
    pub sole_there : length (text_exchanged now start finish new) ≤ text_limit → carried (remove n path) now ≡ gives (text_exchanged now start finish new) (splice_at start (drop start (take finish now)) new)
    sole_there = back_there c n stem keep tail run e before now_is start finish start_is finish_is short (remove n path) comes

    pub sole_large : text_limit < length (text_exchanged now start finish new) → carried (remove n path) now ≡ refuses TooLarge
    sole_large = back_large c n stem keep tail run e before now_is start finish start_is finish_is short (remove n path) comes

    pub sole_start : IsCharBoundary now start
    sole_start = back_start c n stem keep tail run e before now_is start finish start_is finish_is short (bounds run.cut n steps (v run.cut n steps z read y.entry y.inside) read y.entry)

    pub sole_finish : IsCharBoundary now finish
    sole_finish = back_finish c n stem keep tail run e before now_is start finish start_is finish_is short (bounds run.cut n steps (v run.cut n steps z read y.entry y.inside) read y.entry)

    pub sole_order : start ≤ finish
    sole_order = back_order c n stem keep tail run e before now_is start finish start_is finish_is short

    pub sole_room : length new ≤ finish - start
    sole_room =
        omega (
          arith,
          ap length new_is,
          two_bytes z.close,
          start_is,
          finish_is,
          length-append before e.old,
          ap length (sole_old run.cut n steps z read y.entry y.inside),
          coll_size z.close z.gap z.items [],
          items_longer z.close z.items [],
        )

    pub sole_text : text_exchanged now start finish new ≡ take start t ++ (new ++ e.after)
    sole_text = back_text c n stem keep tail run e before now_is start finish start_is finish_is short

    abbrev first : List ℕ
    first = gone_first c n stem keep tail run e before now_is start finish start_is finish_is short

    abbrev new_value : Node
    new_value = v run.cut n steps z read y.entry y.inside

    abbrev at : FlowAt run.cut n y.entry.init y.entry.coll
    at = Rattle.yq_edit_laws.proofs.FlowPutLaws.at run.cut n steps new_value read y.entry

    abbrev next_cut : Cut
    next_cut = next run.cut n steps new_value read y.entry stem own.0 y.init run.leads

    -- the run goes on after it
    pub sole_goes_on : IsFitting (remove n path) now → length (text_exchanged now start finish new) ≤ text_limit → IsRemovalRun c n stem start (new ++ e.after)
    sole_goes_on fitting small =
        let own_fits = sole_fitting run.cut n steps s (v run.cut n steps z read y.entry y.inside) read y.entry emptied
        (subst (λ (p : List Step). IsFitting (remove n p) (cut_text run.cut)) path_is (subst (IsFitting (remove n path)) (sym text) fitting)) in
        let fits = fits_now (replace n steps (v run.cut n steps z read y.entry y.inside)) (cut_text run.cut) run.cut value own_fits read in
        let new_bytes = back_new c n stem keep tail run e before now_is start finish start_is finish_is short in
        let reads = replaced_reads run.cut n steps (v run.cut n steps z read y.entry y.inside) read y.entry value fits (omega (arith, small, ap length new_bytes)) in
        record {
          within = omega (arith, short, run.within);
          cut = next run.cut n steps (v run.cut n steps z read y.entry y.inside) read y.entry stem own.0 y.init run.leads;
          read = ap read_at (sym (new_bytes ∙ sole_text)) ∙ reads;
          leads = head_after run.cut n steps (v run.cut n steps z read y.entry y.inside) read y.entry stem own.0 y.init run.leads;
          stays = λ ss u m at_end u_rest.
              let own_rest : u.rest ≡ (m ++ first) ++ drop keep t =
              u_rest ∙ (ap (λ (l : List ℕ). m ++ l) (drop_is c n stem keep tail run e before now_is start finish start_is finish_is short) ∙ sym (append_assoc m first (drop keep t))) in
              let rest : (m ++ first) ++ tail ≡ m ++ (e.old ++ e.after) =
              append_assoc m first tail ∙ ap (λ (l : List ℕ). m ++ l) (gone_is c n stem keep tail run e before now_is start finish start_is finish_is short) in
              let u2 : CollPieces = record u { rest = (m ++ first) ++ tail } in
              let longer : length (e.old ++ e.after) < length (after_appended u2) = omega (arith, last_longer u2.close u2.gap u2.items u2.rest, ap length rest, length-append m (e.old ++ e.after)) in
              let b = coll_before_put run.cut n steps (v run.cut n steps z read y.entry y.inside) read y.entry stem own.0 y.init run.leads value fits ss u2 (run.stays ss u (m ++ first) at_end own_rest) longer in
              b.2 ∙ ap (λ (l : List ℕ). Some (record u { rest = l ++ (new ++ e.after) })) (append_cancel_right b.0 m (e.old ++ e.after) (sym b.1 ∙ rest));
          row = row_keeps c run.cut n y.entry.init y.entry.coll at e stem own.0 y.init run.leads read
              (flow_texts run.cut n y.entry.init y.entry.coll at e (change_child y.entry.step (replaced_node new_value)) (edited run.cut n steps new_value read y.entry value fits))
              (ap read_at (text_read _ next_cut reads) ∙ reads) keep start tail first (new ++ e.after) run.row refl
              (drop_is c n stem keep tail run e before now_is start finish start_is finish_is short) (gone_is c n stem keep tail run e before now_is start finish start_is finish_is short);
        }
