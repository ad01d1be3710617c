-- One entry more on a line after those under a key or dash.
use Rattle.std.proofs.Common.{◌≡◌, ℕ, true, false, not, List, [], ◌∷◌, ◌++◌, length, Some, None, refl, rules, sym, ap, ◌∙◌, subst}
use Rattle.std.{proofs.Common.append_assoc, proofs.lemmas.Bool.{cond-false, false≢true}}
use Rattle.yq_text.specs.Script.{Segment}
use Rattle.yq_core.{specs.Paths.Step, specs.Text.is_empty, specs.Tree.Node}
use Rattle.yq_outline.specs.Outline.{null_node}
use Rattle.yq_row_table.{specs.Rows.{Cut, Row, cut_text, print_row, rows_text}, specs.Seams.is_block, specs.View.slices}
use Rattle.yq_documents.specs.Reading.{read_at}
use Rattle.yq_semantics.specs.Operations.{append}
use Rattle.yq_places.{specs.CollectionEnds.CollectionEnd, specs.CommentPlaces.text_to_line_end, specs.PrintedLines.last_break}
use Rattle.yq_places.proofs.CommentEndLaws.{row_text_parts}
use Rattle.yq_places.specs.Placements.{RowsOfEntry, before_entry, after_entry, entry_placement, held, is_alone, rows_of_entry, under}
use Rattle.yq_edit_rules.{specs.Edits.op_edits, specs.EntryEdits.{after_held, more_lines}, specs.Layouts.layout_of}
use Rattle.yq_edit_rules.{specs.RowChanges.PutsOne, specs.PlacementLaws.HasItsRows}
use Rattle.yq_edit_laws.{proofs.CollectionIsThere.{end_at, front_there, headless_mark}, proofs.EntryAdds.AddsEntry}
use Rattle.yq_edit_laws.{proofs.FinalBreaks.{feed_last, last_feed}, proofs.MoreLaws.{below_some, there, under_end, under_spelled}}
use Rattle.yq_edit_laws.proofs.OnePutLaws.{lines_put_one}

-- rows under a key or dash after which nothing is written are its collection
pub under_there : (e : RowsOfEntry) (r : Row) (rs : List Row) → e.line ≡ length e.row.dashes → is_block e.row.content ≡ false → is_empty (slices e.row).head ≡ true → e.under ≡ r ∷ rs → is_alone r ≡ false →
    entry_placement e ≡ under (held e) r.column
under_there e r rs last plain h5 is single = search (rules, false≢true)

-- the lines under it, and what is in front of them
module _ (m : ℕ) (s : Step) (ss : List Step) (d : Cut) (e : RowsOfEntry) (r : Row) (rs : List Row) (read : read_at (cut_text d) ≡ Some d)
    (found : rows_of_entry m (s ∷ ss) d ≡ Some e) (is : e.under ≡ r ∷ rs) (single : is_alone r ≡ false) where
  abbrev own : List ℕ
  own = (slices e.row).raw ++ rows_text e.under []

  abbrev lead : List ℕ
  lead = before_entry e ++ (text_to_line_end e.row ++ (slices e.row).tail)

  some : is_empty own ≡ false
  some = below_some m s ss None null_node d e read found r rs is single

  parts : before_entry e ++ print_row e.row (rows_text e.under []) ≡ lead ++ own
  parts = search (rules, row_text_parts, append_assoc)

  last_is : (held e).last ≡ last_break own
  last_is = cond-false _ _ _ some

  -- a line ends those under a key or dash, if the text has a break before what comes after them
  pub last_some : (text : List ℕ) → before_entry e ++ print_row e.row (rows_text e.under []) ≡ text ++ (10 ∷ []) → is_empty (held e).last ≡ false
  last_some text ended = ap is_empty last_is ∙ last_feed lead own text some (sym parts ∙ ended)

  -- and the other way round
  pub text_ended : is_empty (held e).last ≡ false → (text : List ℕ) × (before_entry e ++ print_row e.row (rows_text e.under []) ≡ text ++ (10 ∷ []))
  text_ended broken =
      let lf = feed_last own (sym (ap is_empty last_is) ∙ broken) in
      (lead ++ lf.0, parts ∙ (ap (λ (t : List ℕ). lead ++ t) lf.1 ∙ sym (append_assoc lead lf.0 (10 ∷ []))))

module _ (m : ℕ) (s : Step) (ss : List Step) (key : List ℕ) (v : Node) (d : Cut) (e : RowsOfEntry) (read : read_at (cut_text d) ≡ Some d) (found : rows_of_entry m (s ∷ ss) d ≡ Some e) (r : Row) (rs : List Row)
    (last : e.line ≡ length e.row.dashes) (plain : is_block e.row.content ≡ false) (none : is_empty (slices e.row).head ≡ true) (is : e.under ≡ r ∷ rs) (single : is_alone r ≡ false) (broken : is_empty (held e).last ≡ false) where
  abbrev lines : List ℕ
  lines = more_lines (layout_of m d) (Some key) v r.column (10 ∷ [])

  abbrev segments : List Segment
  segments = after_held (held e) lines

  abbrev pub is_located : HasItsRows m s ss d e
  is_located = there m s ss (Some key) v d e read found

  abbrev pub upto : List ℕ
  upto = before_entry e ++ print_row e.row (rows_text e.under [])

  more_is : more_lines (layout_of m d) (Some key) v r.column (held e).last ≡ lines
  more_is = search rules

  edited : op_edits (append m (s ∷ ss) (Some key) v) d ≡ Some segments
  edited = search (rules, under_there, more_is)

  abbrev x : CollectionEnd
  x = end_at m s ss d e is_located r.column (not (is_empty (held e).last))

  pub under_adds : AddsEntry m (s ∷ ss) key v d is_located.part (e.front ++ (e.row ∷ e.under)) e.back r.column upto (after_entry e)
  under_adds = record {
    x = x;
    place = record { part = is_located.part; there = is_located.old.there; end = under_end m s ss (Some key) v d e read found r rs last none is single };
    part = refl;
    rows = λ y. front_there m s ss d e is_located x y (headless_mark m s ss d e is_located last none);
    column_is = refl;
    before = refl;
    after = refl;
    broken = ap not broken;
    segments = segments;
    edited = edited;
    puts = subst (λ (t : List ℕ). PutsOne segments t [] lines (after_entry e)) (under_spelled m s ss (Some key) v d e read found) (lines_put_one (held e) lines);
  }
