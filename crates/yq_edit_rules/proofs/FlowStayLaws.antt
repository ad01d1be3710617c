-- With other items or entries in a flow collection, the steps that lead to its head lead there still, with what they led to in it.
use Rattle.std.proofs.Common.{rules, ◌≡◌, ℕ, zero, suc, ◌+◌, Bool, true, false, not, ◌||◌, List, [], ◌∷◌, ◌++◌, length, take, map, Option}
use Rattle.std.{proofs.Common.{Some, None, option_map, refl, sym, ap, ◌∙◌, arith}, proofs.Math.Seq.take-append_seam}
use Rattle.std.{proofs.lemmas.Bool.false≢true, proofs.lemmas.List.length-map, proofs.lemmas.Option.same_Some, specs.List.slice_get}
use Rattle.std.specs.Option.{is_some}
use Rattle.yq_core.{specs.Answers.◌>>=◌, specs.Paths.Step, specs.Collections.{CollPieces, coll_along, collection_put}}
use Rattle.yq_core.specs.Nodes.{FlowNode, Items}
use Rattle.yq_outline.{specs.Group.group, specs.Outline.Outline, specs.Places.{below, FoundLine, place_inside, lines_before}}
use Rattle.yq_outline.specs.Lines.{head_of, lines_of_rows}
use Rattle.yq_row_table.{specs.Exchange.{after_row, with_content}, specs.Grammar.{begins_document, no_rows}}
use Rattle.yq_row_table.{specs.Rows.{Content, Inline, Row, Part, Cut, last, marked, rows_text}, specs.Splices.after_part}
use Rattle.yq_row_table.proofs.splices.SpliceTexts.{own_gap, own_end}
use Rattle.yq_documents.{specs.Documents.{begins_bare, document_parts, has_begin}, specs.PartNumbers.{number_from, part_number}}
use Rattle.yq_documents.{specs.Reading.part_outline, specs.LinesInRows.{RowLine, document_row, row_line}}
use Rattle.yq_places.specs.FlowNodes.{bare_line, content_flow, find_head, flow_collection, head_line, line_collection}
use Rattle.yq_places.{specs.FlowViews.LeadsToHead, specs.NodeReading.head_line_of, proofs.FlowNodeLaws.{collection_is, rows_collection}}
use Rattle.yq_places.{proofs.FlowViewLaws.{head_found, numbered}, proofs.RemovalLines.front_some, proofs.WalkDocuments.row_line_number}
use Rattle.yq_places.proofs.RemovalViewLaws.{slice_seam}
use Rattle.yq_places.proofs.StrippedLines.{find_strip, head_strip, heads_before, heads_compose, heads_found, heads_group, heads_outline}
use Rattle.yq_places.proofs.StrippedLines.{null_head, strip_pair, stripped}
use Rattle.yq_edit_rules.{specs.Changed.{put_document, put_part}, specs.DocumentRows.after_document}
use Rattle.yq_edit_rules.{specs.FlowRows.{FlowAt, InlineRow, text_after_node, with_node}, specs.Rooms.row_shape}
use Rattle.yq_edit_rules.{proofs.ChangedLaws.{document_put, first_stays, nth_changed}, proofs.FlowKeptLaws.one_other}
use Rattle.yq_edit_rules.{proofs.FlowPathLaws.{InCut, row_in_cut}, proofs.FlowRowLaws.node_holds}
use Rattle.yq_edit_rules.proofs.ShapeLaws.{rows_strip, shapes_lines}

-- ---- among lines

abbrev Reached : Type 0
Reached = FoundLine × List Step

bare_strip : (o : Outline) → bare_line (heads_outline null_head o) ≡ option_map (heads_found null_head) (bare_line o)
bare_strip o = search (rules, heads_found)

under_strip : (f : FoundLine) (o : Option FoundLine) →
    option_map {U = Reached} (λ g. (place_inside (heads_found null_head f) g, [])) (option_map (heads_found null_head) o)
    ≡ option_map strip_pair (option_map {U = Reached} (λ g. (place_inside f g, [])) o)
under_strip f None = refl
under_strip f (Some g) = λ i. Some (record (heads_found null_head g) { place = heads_compose null_head f.place (below f.line g.place f.after) i }, [])

line_strip : (f : FoundLine) (left : List Step) → head_line (heads_found null_head f) left ≡ option_map strip_pair (head_line f left)
line_strip f left = search (rules, heads_found, bare_strip, under_strip, head_strip)

find_head_strip : (steps : List Step) (o : Outline) → find_head steps (heads_outline null_head o) ≡ option_map strip_pair (find_head steps o)
find_head_strip [] o = search (rules, bare_strip, heads_found, strip_pair)
find_head_strip (s ∷ ss) o = search (rules, find_strip, strip_pair, line_strip)

-- where a path leads in rows of the same shapes
shape_head : (p q : Part) → map row_shape q.rows ≡ map row_shape p.rows → (steps : List Step) → option_map strip_pair (find_head steps (part_outline q)) ≡ option_map strip_pair (find_head steps (part_outline p))
shape_head p q h steps =
    sym (find_head_strip steps (part_outline q))
    ∙ (ap (find_head steps) (sym (heads_group null_head (lines_of_rows q.rows)) ∙ (ap group (rows_strip q.rows ∙ (ap shapes_lines h ∙ sym (rows_strip p.rows))) ∙ heads_group null_head (lines_of_rows p.rows)))
    ∙ find_head_strip steps (part_outline p))

same_numbers : (o : Option Reached) → option_map numbered o ≡ option_map numbered (option_map strip_pair o)
same_numbers None = refl
same_numbers (Some x) = λ i. Some (sym (ap length (heads_before null_head x.0.place) ∙ length-map (lines_before x.0.place) stripped) i, x.1)

numbers_stay : (p q : Part) → map row_shape q.rows ≡ map row_shape p.rows → (steps : List Step) → head_line_of steps (lines_of_rows q.rows) ≡ head_line_of steps (lines_of_rows p.rows)
numbers_stay p q h steps =
    sym (head_found (lines_of_rows q.rows) steps)
    ∙ (same_numbers (find_head steps (part_outline q))
    ∙ (ap (option_map numbered) (shape_head p q h steps)
    ∙ (sym (same_numbers (find_head steps (part_outline p))) ∙ head_found (lines_of_rows p.rows) steps)))

-- ---- in a cut

-- what comes after a document
after_stays : (is : Bool) (k : ℕ) (q : Part) (c : Cut) → after_part (number_from is k (put_part (number_from is k c) q c)) (put_part (number_from is k c) q c) ≡ after_part (number_from is k c) c
after_stays is k q (last p) = refl
after_stays true zero q (marked p marker c) = refl
after_stays true (suc k) q (marked p marker c) = after_stays (begins_document marker) k q c
after_stays false k q (marked p marker c) = after_stays (begins_document marker) k q c

module _ (c : Cut) (k : ℕ) (steps : List Step) (w : CollPieces) (at : FlowAt c k steps w) (gap : List ℕ) (is : Items) where
  abbrev i : InlineRow
  i = at.row

  abbrev m : FlowNode
  m = collection_put at.rest gap is i.node

  abbrev q : Part
  q = with_node at.part i m

  abbrev new : Cut
  new = put_document k q c

  abbrev r : Row
  r = with_content (Inline i.space m i.tail) i.row

  rows_are : q.rows ≡ i.front ++ (r ∷ i.back)
  rows_are = ap (λ (rs : List Row). i.front ++ (r ∷ rs)) (own_gap i.back at.part.end)

  keeps : no_rows q.rows ≡ true → no_rows at.part.rows ≡ true
  keeps h = absurd (false≢true (sym (ap no_rows rows_are ∙ front_some i.front r i.back) ∙ h))

  there : slice_get (document_parts new) k ≡ Some q
  there = ap (λ (ps : List Part). slice_get ps k) (document_put c k at.part q at.there keeps) ∙ nth_changed k at.part q (document_parts c) at.there

  in_new : InCut (part_number k new) new q i.front r i.back
  in_new = row_in_cut new k q i.front r i.back there rows_are

  same_after : after_document k new ≡ after_document k c
  same_after =
      ap (λ (b : Bool). after_part (number_from b k new) new) (first_stays c k at.part q at.there keeps) ∙ after_stays (begins_bare c || not (has_begin c)) k q c

  headed : is_some (head_of (Inline i.space m i.tail)) ≡ is_some (head_of i.row.content)
  headed = search (rules, node_holds at.rest i.node (text_after_node c k at.part i) w gap is at.at.along)

  shapes : map row_shape q.rows ≡ map row_shape at.part.rows
  shapes = search (rules, headed, rows_are, one_other)

  -- by how many lines come before the one in whose head the node is
  abbrev number : ℕ
  number = length (lines_before at.line.place)

  line_there : (rows : List Row) (y : Content) → rows ≡ i.front ++ (with_content y i.row ∷ i.back) → row_line number rows ≡ Some (record { before = length i.front; row = with_content y i.row; line = length i.row.dashes })
  line_there rows y are =
      let front : take (length i.front) rows ≡ i.front = ap (take (length i.front)) are ∙ take-append_seam i.front (with_content y i.row ∷ i.back) in
      let is : number ≡ length (lines_of_rows (take (length i.front) rows)) + length i.row.dashes = sym at.at.number ∙ ap (λ (rs : List Row). length (lines_of_rows rs) + length i.row.dashes) (sym front) in
      ap (λ (n : ℕ). row_line n rows) is
      ∙ row_line_number rows (length i.front) (length i.row.dashes) (with_content y i.row) (ap (λ (rs : List Row). slice_get rs (length i.front)) are ∙ slice_seam i.front (with_content y i.row) i.back) (omega arith)

  -- other steps lead to other collections of the same head
  module _ (stem left : List Step) (init : steps ≡ stem ++ left) (h : LeadsToHead c k stem) where
    leads : (ss : List Step) → head_line_of (stem ++ ss) (lines_of_rows at.part.rows) ≡ Some (h.number, ss)
    leads ss = ap (λ (p : Part). head_line_of (stem ++ ss) (lines_of_rows p.rows)) (same_Some _ _ (sym at.there ∙ h.there)) ∙ h.leads ss

    same_number : h.number ≡ number
    same_number =
        ap (λ (x : ℕ × List Step). x.0) (same_Some _ _ (sym (leads left) ∙ (ap (λ (ss : List Step). head_line_of ss (lines_of_rows at.part.rows)) (sym init)
        ∙ (sym (head_found (lines_of_rows at.part.rows) steps) ∙ ap (option_map numbered) at.at.found))))

    leads_there : (ss : List Step) → head_line_of (stem ++ ss) (lines_of_rows at.part.rows) ≡ Some (number, ss)
    leads_there ss = leads ss ∙ ap (λ (n : ℕ). Some (n, ss)) same_number

    leads_after : (ss : List Step) → head_line_of (stem ++ ss) (lines_of_rows q.rows) ≡ Some (number, ss)
    leads_after ss = numbers_stay at.part q shapes (stem ++ ss) ∙ leads_there ss

    pub head_after : LeadsToHead new k stem
    head_after = record { part = q; there = there; number = number; leads = leads_after }

    pub collection_before : (ss : List Step) → flow_collection k (stem ++ ss) c ≡ coll_along ss i.node (text_after_node c k at.part i)
    collection_before ss =
        sym (collection_is c k (stem ++ ss))
        ∙ (ap (λ (o : Option Part). o >>= λ p. rows_collection (document_row k c) c p.rows (stem ++ ss)) at.there
        ∙ (ap (λ (o : Option (ℕ × List Step)). o >>= λ x. line_collection (document_row k c) c at.part.rows x.0 x.1) (leads_there ss)
        ∙ (ap (λ (o : Option RowLine). o >>= λ s. content_flow ss s.row.content (after_row (document_row k c + s.before) c)) (line_there at.part.rows i.row.content at.at.rows_are)
        ∙ λ j. content_flow ss (at.at.content_is j) ((row_in_cut c k at.part i.front i.row i.back at.there at.at.rows_are).after j))))

    pub collection_after : (ss : List Step) → flow_collection k (stem ++ ss) new ≡ coll_along ss m (text_after_node c k at.part i)
    collection_after ss =
        sym (collection_is new k (stem ++ ss))
        ∙ (ap (λ (o : Option Part). o >>= λ p. rows_collection (document_row k new) new p.rows (stem ++ ss)) there
        ∙ (ap (λ (o : Option (ℕ × List Step)). o >>= λ x. line_collection (document_row k new) new q.rows x.0 x.1) (leads_after ss)
        ∙ (ap (λ (o : Option RowLine). o >>= λ s. content_flow ss s.row.content (after_row (document_row k new + s.before) new)) (line_there q.rows (Inline i.space m i.tail) rows_are)
        ∙ λ j. coll_along ss m (i.tail ++ (in_new.after ∙ (λ j. rows_text i.back (own_end i.back at.part.end j ++ same_after j))) j))))
