-- One entry more on a line after those of a root, or of a collection that begins after a dash.
use Rattle.std.proofs.Common.{◌≡◌, ℕ, ◌<◌, false, not, List, [], ◌∷◌, ◌++◌, length, Option, Some, None, option_map, refl, rules, sym, ap}
use Rattle.std.{proofs.Common.{◌∙◌, subst, append_assoc}, proofs.lemmas.Bool.eqb-true}
use Rattle.yq_core.{specs.Answers.◌>>=◌, specs.Paths.Step, specs.Text.is_empty, specs.Tree.Node}
use Rattle.yq_outline.specs.Outline.{null_node}
use Rattle.yq_row_table.{specs.Exchange.row_front, specs.Rows.{Cut, Row, after_indent, cut_text, print_row, rows_text}}
use Rattle.yq_documents.specs.Reading.{read_at}
use Rattle.yq_semantics.specs.Operations.{append}
use Rattle.yq_places.{specs.CollectionEnds.CollectionEnd, specs.PlacedRows.{PlacedPart, placed_document}, specs.RowPieces.upto_dash}
use Rattle.yq_places.specs.Placements.{LinesIn, RowsOfEntry, Placement, before_entry, after_entry, compact_in, compact_lines, dash_text}
use Rattle.yq_places.specs.Placements.{entry_placement, is_alone, root, root_lines, rows_of_entry, placement_at}
use Rattle.yq_edit_rules.{specs.CollectionPlaces.IsCollectionEnd, specs.Edits.op_edits, specs.EntryEdits.{block_more, more_lines}}
use Rattle.yq_edit_rules.{specs.Layouts.layout_of, specs.PiecePuts.after_lines, specs.RowChanges.PutsOne, specs.PlacementLaws.HasItsRows}
use Rattle.yq_edit_rules.proofs.AppendPlaces.{IsAppendPlace}
use Rattle.yq_edit_laws.{proofs.CollectionIsThere.{end_at, front_there, headless_dash, root_rows_there}, proofs.EntryAdds.AddsEntry}
use Rattle.yq_edit_laws.proofs.FinalBreaks.{feed_last, last_feed}
use Rattle.yq_edit_laws.proofs.MoreLaws.{compact_column, compact_end, compact_some, compact_spelled, compact_text, root_end, root_place}
use Rattle.yq_edit_laws.{proofs.MoreLaws.{root_some, root_spelled, there}, proofs.OnePutLaws.lines_put_after}

-- lines of a collection, which ends there
module _ (m : ℕ) (steps : List Step) (key : List ℕ) (v : Node) (d : Cut) (w : LinesIn) (x : CollectionEnd) (place : IsAppendPlace m steps d x) (front back : List Row)
    (rows : (y : IsCollectionEnd d m place.part steps x) → (y.front ≡ front) × (y.back ≡ back)) (broken : is_empty w.last ≡ false) (ends : x.broken ≡ not (is_empty w.last))
    (spelled : w.before ++ (w.lines ++ w.last) ≡ x.before) (after : w.after ≡ x.after)
    (more : (placement_at m steps d >>= block_more (layout_of m d) (Some key) v) ≡ Some (after_lines w (more_lines (layout_of m d) (Some key) v x.column w.last))) where
  abbrev lines : List ℕ
  lines = more_lines (layout_of m d) (Some key) v x.column (10 ∷ [])

  more_is : more_lines (layout_of m d) (Some key) v x.column w.last ≡ lines
  more_is = search rules

  edited : op_edits (append m steps (Some key) v) d ≡ Some (after_lines w lines)
  edited = search (rules, more_is)

  pub lines_adds : AddsEntry m steps key v d place.part front back x.column x.before x.after
  lines_adds = record {
    x = x;
    place = place;
    part = refl;
    rows = rows;
    column_is = refl;
    before = refl;
    after = refl;
    broken = ends ∙ ap not broken;
    segments = after_lines w lines;
    edited = edited;
    puts = subst (λ (t : List ℕ). PutsOne (after_lines w lines) x.before [] lines t) after
        (subst (λ (t : List ℕ). PutsOne (after_lines w lines) t [] lines w.after) spelled (lines_put_after w lines));
  }

-- ---- a root

module _ (m : ℕ) (d : Cut) (q : PlacedPart) (read : read_at (cut_text d) ≡ Some d) (at : placed_document m d ≡ Some q) (r : Row) (rs : List Row) (are : q.part.rows ≡ r ∷ rs) (single : is_alone r ≡ false) where
  abbrev root_w : LinesIn
  root_w = root_lines q r rs

  abbrev upto : List ℕ
  upto = q.before ++ rows_text q.part.rows []

  parts : upto ≡ root_w.before ++ (after_indent r (rows_text rs []))
  parts = search (rules, append_assoc)

  -- a line ends those of a root, if the text has a break before what comes after them
  pub root_last_some : (text : List ℕ) → upto ≡ text ++ (10 ∷ []) → is_empty root_w.last ≡ false
  root_last_some text ended = last_feed root_w.before (after_indent r (rows_text rs [])) text (root_some m d q read at r rs are single) (sym parts ∙ ended)

  -- and the other way round
  pub root_text_ended : is_empty root_w.last ≡ false → (text : List ℕ) × (upto ≡ text ++ (10 ∷ []))
  root_text_ended broken =
      let lf = feed_last (after_indent r (rows_text rs [])) broken in
      (root_w.before ++ lf.0, parts ∙ (ap (λ (t : List ℕ). root_w.before ++ t) lf.1 ∙ sym (append_assoc root_w.before lf.0 (10 ∷ []))))

  pub root_adds : (key : List ℕ) (v : Node) → is_empty root_w.last ≡ false → AddsEntry m [] key v d q.part q.part.rows [] r.column upto (q.part.end ++ q.after)
  root_adds key v broken =
      let x : CollectionEnd = root_end m d q read at r rs are single in
      let place : IsAppendPlace m [] d x = root_place m d q read at r rs are single in
      let is_located : placement_at m [] d ≡ Some (root r.column root_w) = search (rules, are, single) in
      lines_adds m [] key v d root_w x place q.part.rows [] (λ y. root_rows_there m d q.part x y) broken refl (root_spelled m d q read at r rs are single) refl
      (ap (λ (o : Option Placement). o >>= block_more (layout_of m d) (Some key) v) is_located)

-- ---- after a dash

module _ (m : ℕ) (s : Step) (ss : List Step) (d : Cut) (e : RowsOfEntry) (read : read_at (cut_text d) ≡ Some d) (found : rows_of_entry m (s ∷ ss) d ≡ Some e) (less : e.line < length e.row.dashes) where
  abbrev compact_w : LinesIn
  compact_w = compact_lines e

  abbrev pub dash_is_there : HasItsRows m s ss d e
  dash_is_there = there m s ss None null_node d e read found

  abbrev dash_upto : List ℕ
  dash_upto = before_entry e ++ print_row e.row (rows_text e.under [])

  dash_parts : dash_upto ≡ compact_w.before ++ dash_text e
  dash_parts = ap (λ (t : List ℕ). before_entry e ++ t) (compact_text m s ss None null_node d e read found less) ∙ sym (append_assoc (before_entry e) (row_front (upto_dash e.line e.row)) (dash_text e))

  -- a line ends those after a dash, if the text has a break before what comes after them
  pub compact_last_some : (text : List ℕ) → dash_upto ≡ text ++ (10 ∷ []) → is_empty compact_w.last ≡ false
  compact_last_some text ended = last_feed compact_w.before (dash_text e) text (compact_some m s ss None null_node d e read found less) (sym dash_parts ∙ ended)

  -- and the other way round
  pub compact_text_ended : is_empty compact_w.last ≡ false → (text : List ℕ) × (dash_upto ≡ text ++ (10 ∷ []))
  compact_text_ended broken =
      let lf = feed_last (dash_text e) broken in
      (compact_w.before ++ lf.0, dash_parts ∙ (ap (λ (t : List ℕ). compact_w.before ++ t) lf.1 ∙ sym (append_assoc compact_w.before lf.0 (10 ∷ []))))

  dash_placement : entry_placement e ≡ compact_in e
  dash_placement = search (rules, eqb-true)

  pub compact_adds : (key : List ℕ) (v : Node) → is_empty compact_w.last ≡ false →
      AddsEntry m (s ∷ ss) key v d dash_is_there.part (e.front ++ (e.row ∷ e.under)) e.back (compact_column m s ss None null_node d e read found less) dash_upto (after_entry e)
  compact_adds key v broken =
      let x : CollectionEnd = end_at m s ss d e dash_is_there (compact_column m s ss None null_node d e read found less) (not (is_empty compact_w.last)) in
      let place : IsAppendPlace m (s ∷ ss) d x = record { part = dash_is_there.part; there = dash_is_there.old.there; end = compact_end m s ss None null_node d e read found less } in
      lines_adds m (s ∷ ss) key v d compact_w x place (e.front ++ (e.row ∷ e.under)) e.back (λ y. front_there m s ss d e dash_is_there x y (headless_dash m s ss d e dash_is_there less)) broken refl
      (compact_spelled m s ss None null_node d e read found less) refl
      (ap (λ (o : Option Placement). o >>= block_more (layout_of m d) (Some key) v) (ap (option_map entry_placement) found ∙ ap Some dash_placement))
