-- One more item or entry that fits has a place in a flow collection, or at the end of a block collection.
use Rattle.std.proofs.Common.{rules, ◌≡◌, ◌⊎◌, inl, inr, ℕ, Bool, true, false, cond, eqb, eqb-true, List, [], ◌∷◌, length, Option, Some}
use Rattle.std.{proofs.Common.{None, option_map, refl, sym, ap, ◌∙◌, subst}, proofs.lemmas.Bool.{cond-false, cond-true, false≢true}}
use Rattle.std.{proofs.lemmas.Option.{none-some, same_Some}, specs.List.slice_get, specs.Prelude.is_some}
use Rattle.yq_core.{specs.Answers.◌>>=◌, specs.Paths.{Step, node_at}, specs.Text.is_empty, specs.Collections.CollPieces}
use Rattle.yq_core.{specs.Nodes.{IsFlowNode, FlowNode, node_text}, specs.Trees.node_head}
use Rattle.yq_outline.{specs.Outline.{Line, Outline, flatten}, specs.Places.{FoundLine, find}, specs.Positions.has_no_mark}
use Rattle.yq_outline.{proofs.Decides.flatten-group, specs.Lines.{head_of, lines_of_rows}}
use Rattle.yq_row_table.{specs.Exchange.asked_after, specs.Grammar.{IsContent, IsRow, Limit, unlimited}}
use Rattle.yq_row_table.specs.Rows.{Content, Nothing, Inline, Block, Cut, Part, Row, cut_text, parent_indent, rows_text}
use Rattle.yq_row_table.specs.View.{anchor_cut, content_cut, slices}
use Rattle.yq_documents.{specs.Documents.document_parts, specs.Reading.{part_outline, read_at, root_of}}
use Rattle.yq_places.{proofs.PlacedPartLaws.placed_is, specs.FlowNodes.{find_head, flow_collection}, specs.PlacedRows.PlacedPart}
use Rattle.yq_places.specs.Placements.{RowsOfEntry, Placement, after_entry, past_mark, below, beside, entry_placement, held, is_alone}
use Rattle.yq_places.specs.Placements.{root_placement, placement_at}
use Rattle.yq_edit_rules.{proofs.ApartLaws.block_some, specs.Siblings.{HasEntries, IsCollectionAt, IsEntry, NodeLines}}
use Rattle.yq_edit_rules.{specs.PlacementLaws.HasItsRows, proofs.NodeLineLaws.lines_found}
use Rattle.yq_edit_rules.{proofs.PlacementMarks.{even_there, row_there, under_it}, proofs.PlacementRows.rows_located}
use Rattle.yq_edit_rules.{proofs.UnderLaws.{line_is, under_is}, specs.declared.layout.Layout.Layout, specs.EditLaws.AppendHasEdit}
use Rattle.yq_edit_rules.{specs.EntryEdits.block_more, specs.Edits.appended, specs.FlowParts.{flow_more, takes_key}}
use Rattle.yq_edit_rules.specs.Layouts.{layout_of}
use Rattle.yq_semantics.specs.Fits.{Takes}
use Rattle.yq_text.specs.Script.{Segment}
use Rattle.yq_edit_laws.{proofs.FlowHeldNodes.{collection_cases, FlowContent as Holds, held as held_in}, proofs.DocumentParts.part_of}
use Rattle.yq_edit_laws.{proofs.FlowHeldLines.flow_there, proofs.PlacementExists.rows_there, proofs.RemoveExists.second_there}
use Rattle.yq_core.specs.Tree as tree
use Rattle.yq_outline.specs.Outline as outlines

-- ---- lines of items or entries

first_is : (o : Outline) (l : Line) (ls : List Line) → HasEntries o → l ∷ ls ≡ flatten o → IsEntry l.mark
first_is o l ls h e = search rules

no_bare : (m : outlines.LineMark) → IsEntry m → has_no_mark m ≡ false
no_bare m h = search rules

-- their first row isn't a node alone on its line
not_alone : (r : Row) (rs : List Row) (o : Outline) → HasEntries o → lines_of_rows (r ∷ rs) ≡ flatten o → is_alone r ≡ false
not_alone r rs o block lines = search (rules, no_bare, first_is)

-- ---- at the end of a block collection

-- more is put where something is
abbrev IsPut : Layout → Option (List ℕ) → tree.Node → Placement → Type 0
IsPut l key v s = (ss : List Segment) × (block_more l key v s ≡ Some ss)

-- nothing but an anchor is written of a node without a head
head_bare : (flow : Bool) (spaces : Option ℕ) (d : ℕ) (node : FlowNode) (rest : List ℕ) → IsFlowNode flow spaces d node rest → node_head node ≡ None → (anchor_cut node).2 ≡ []
unfolding IsFlowNode node_text
head_bare flow spaces d node rest h e = search (rules, none-some, false≢true)

module _ (l : Layout) (key : Option (List ℕ)) (v : tree.Node) where
  below_put : (e : RowsOfEntry) (us : List Row) (o : Outline) → HasEntries o → lines_of_rows us ≡ flatten o → IsPut l key v (below e us)
  below_put e [] o block lines = absurd (block_some o block (sym lines))
  below_put e (r ∷ rs) o block lines = (_, ap (block_more l key v) (cond-false _ _ _ (not_alone r rs o block lines)))

  root_put : (d : PlacedPart) (rs : List Row) (o : Outline) → HasEntries o → lines_of_rows rs ≡ flatten o → IsPut l key v (root_placement d rs)
  root_put d [] o block lines = absurd (block_some o block (sym lines))
  root_put d (r ∷ rs) o block lines = (_, ap (block_more l key v) (cond-false _ _ _ (not_alone r rs o block lines)))

  -- after a mark, where no head is written
  mark_put : (e : RowsOfEntry) (limit : Limit) (rest : List ℕ) (o : Outline) → IsRow limit e.row rest → head_of e.row.content ≡ None → HasEntries o → lines_of_rows e.under ≡ flatten o → IsPut l key v (past_mark e e.row.content)
  mark_put e limit rest o is head block lines = go e.row.content refl
    where
      go : (y : Content) → e.row.content ≡ y → IsPut l key v (past_mark e y)
      go (Nothing tail) same = below_put e e.under o block lines
      go (Inline space node tail) same =
          let valid = (subst (λ (y : Content). IsContent (parent_indent e.row) y rest) same is.content).1.valid in
          let none : (slices e.row).head ≡ [] = ap (λ (y : Content). (content_cut y).3) same ∙ head_bare _ _ _ node _ valid (sym (ap head_of same) ∙ head) in
          let w = below_put e e.under o block lines in
          (w.0, ap (λ (t : List ℕ). block_more l key v (cond (is_empty t) (below e e.under) (beside (held e)))) none ∙ w.1)
      go (Block space anchor b) same = absurd (none-some _ (sym (sym (ap head_of same) ∙ head)))

  entry_put : (n : ℕ) (s : Step) (ss : List Step) (c : Cut) (e : RowsOfEntry) (t : HasItsRows n s ss c e) → t.found.line.head ≡ None → HasEntries t.found.under → IsPut l key v (entry_placement e)
  entry_put n s ss c e t head block = go (eqb e.line (length e.row.dashes)) refl
    where
      go : (b : Bool) → eqb e.line (length e.row.dashes) ≡ b → IsPut l key v (entry_placement e)
      go false is = (_, ap (block_more l key v) (cond-false _ _ _ is))
      go true is =
          let last = eqb-true e.line (length e.row.dashes) is in
          let u = under_it n s ss c e t last in
          let even = even_there n s ss c e t last in
          let own : head_of e.row.content ≡ None = ap (λ (z : Line). z.head) (line_is t.part s ss e.front e.row e.under e.back u even) ∙ head in
          let w = mark_put e (asked_after unlimited e.front) (rows_text e.under (after_entry e)) t.found.under (row_there n s ss c e t) own block (under_is t.part s ss e.front e.row e.under e.back u even) in
          (w.0, ap (block_more l key v) (cond-true _ _ _ is) ∙ w.1)

  -- the block collection at a path
  block_put : (n : ℕ) (steps : List Step) (c : Cut) (p : Part) (h : NodeLines) → read_at (cut_text c) ≡ Some c → slice_get (document_parts c) n ≡ Some p → IsCollectionAt steps (part_outline p) h →
      (ss : List Segment) × ((placement_at n steps c >>= block_more l key v) ≡ Some ss)
  block_put n [] c p h read there at =
      let d = placed_is n c p there in
      let own : part_outline p ≡ h.lines = ap (λ (z : NodeLines). z.lines) (same_Some _ _ at.place_is) in
      let lines : lines_of_rows d.0.part.rows ≡ flatten h.lines = ap (λ (q : Part). lines_of_rows q.rows) d.2 ∙ (sym (flatten-group (lines_of_rows p.rows)) ∙ ap flatten own) in
      let w = root_put d.0 d.0.part.rows h.lines at.block lines in
      (w.0, ap (λ (o : Option PlacedPart). option_map (λ (d : PlacedPart). root_placement d d.part.rows) o >>= block_more l key v) d.1 ∙ w.1)
  block_put n (s ∷ ss) c p h read there at =
      let u = lines_found s ss (part_outline p) h at.place_is in
      let e = rows_there n s ss c p there u.found u.is in
      let t = rows_located n s ss c e.0 read e.1 in
      let part : t.part ≡ p = same_Some _ _ (sym t.old.there ∙ there) in
      let found : t.found ≡ u.found = ap (λ (z : FoundLine × List Step). z.0) (same_Some _ _ (sym t.is ∙ (ap (λ (q : Part). find s ss (part_outline q)) part ∙ u.is))) in
      let block : HasEntries t.found.under = subst (λ (f : FoundLine). HasEntries f.under) (sym found) (subst HasEntries (sym (ap (λ (z : NodeLines). z.lines) u.place_is)) at.block) in
      let w = entry_put n s ss c e.0 t (ap (λ (f : FoundLine). f.line.head) found ∙ u.open') block in
      (w.0, ap (λ (o : Option RowsOfEntry). option_map entry_placement o >>= block_more l key v) e.1 ∙ w.1)

-- ---- in a flow collection

taken : (key : Option (List ℕ)) (n : tree.Node) → Takes key n → (x : Holds) × (held_in n ≡ Some x) × (x.0 ≡ is_some key)
taken None n h = ((false, h.1), ap held_in h.2, refl)
taken (Some k) n h = ((true, h.1), ap held_in h.2, refl)

bracket_takes : (key : Option (List ℕ)) (w : CollPieces) → eqb w.close 125 ≡ is_some key → takes_key w.close key ≡ true
bracket_takes key w e = search rules

-- ---- either

pub takers_have_edit : AppendHasEdit
takers_have_edit n steps key v c read fits =
    let p = part_of c n fits.0 fits.1 in
    let at : node_at steps (root_of p.part) ≡ Some fits.2.2.0 = ap (node_at steps) (sym p.root) ∙ fits.2.2.1 in
    let x = taken key fits.2.2.0 fits.2.2.2 in
    go p.part p.there at x.0 x.1 x.2 (collection_cases steps (part_outline p.part) x.0 (fits.2.2.0, at, x.1))
  where
    go : (p : Part) → slice_get (document_parts c) n ≡ Some p → node_at steps (root_of p) ≡ Some fits.2.2.0 → (x : Holds) → held_in fits.2.2.0 ≡ Some x → x.0 ≡ is_some key →
        ((y : FoundLine × List Step) × (find_head steps (part_outline p) ≡ Some y)) ⊎ ((h : NodeLines) × IsCollectionAt steps (part_outline p) h) → (ss : List Segment) × (appended n steps key v c ≡ Some ss)
    go p there at x holds takes (inl y) =
        let w = flow_there c n steps x (record { read = read; part = p; there = there; line = y.0.0; rest = y.0.1; found = y.1; at = (fits.2.2.0, at, holds) }) in
        let own : takes_key w.0.close key ≡ true = bracket_takes key w.0 (ap (λ (z : Holds). z.0) w.2 ∙ takes) in
        second_there (placement_at n steps c >>= block_more (layout_of n c) key v) (flow_collection n steps c >>= flow_more (cut_text c) key v)
        (_, ap (λ (o : Option CollPieces). o >>= flow_more (cut_text c) key v) w.1 ∙ cond-true _ _ _ own)
    go p there at x holds takes (inr b) = search (rules, block_put (layout_of n c) key v n steps c p b.0 read there b.1)
