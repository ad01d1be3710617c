-- An item or entry that is in rows can be taken out.
use Rattle.std.proofs.Common.{rules, ◌≡◌, ◌-◌, Bool, true, false, eqb, ℕ, List, [], ◌∷◌, ◌++◌, length, drop, map, Option, Some, None}
use Rattle.std.{proofs.Common.{option_map, option_and_then, refl, ap, ◌∙◌}, proofs.lemmas.Bool.cond-false, specs.List.slice_get}
use Rattle.std.specs.Option.{option_or}
use Rattle.yq_core.{specs.Answers.◌>>=◌, specs.Paths.Step}
use Rattle.yq_outline.{specs.Ends.{found_line, line_at_steps, lines_end}, specs.Group.group, specs.Outline.{Line, flatten}}
use Rattle.yq_outline.{specs.Places.{FoundLine, find, lines_after, lines_before}, specs.Lines.lines_of_rows}
use Rattle.yq_row_table.specs.Rows.{Part, Cut, cut_text}
use Rattle.yq_documents.{specs.declared.path.Part.TheVariants.Entry, specs.Pieces.TextPiece, specs.Reading.read_at}
use Rattle.yq_documents.{specs.LinesInRows.{RowLine, row_line, row_line_of}, specs.Documents.document_parts}
use Rattle.yq_places.{proofs.PlacedPartLaws.placed_is, specs.FirstPlaces.{first_entry, first_out, first_removal}}
use Rattle.yq_places.specs.PathPieces.{BlockEntry, PrintedDocument, entry_piece, found_entry, piece_in, piece_in_entry, printed_document}
use Rattle.yq_places.{specs.PrintedLines.line_in, specs.RemovalPlaces.{OwnRows, in_three, removal_place, row_count, rows_out}}
use Rattle.yq_places.{specs.Placements.{RowsOfEntry, rows_of_entry}, proofs.FoundEntries.{entry_there, middle}}
use Rattle.yq_places.{proofs.PrintedLaws.{lines_are, IsPrintedDocument, document_is}, proofs.RowPathLaws.found_lines}
use Rattle.yq_places.proofs.DashLineLaws.{row_line_found}
use Rattle.yq_edit_rules.{specs.PlacementLaws.HasItsRows, proofs.PlacementRows.rows_located, specs.EntryEdits.one_removed}
use Rattle.yq_edit_rules.{specs.Removing.{first_removed, rows_removed}, proofs.PartLaws.document_known, proofs.PlaceTextLaws.around}
use Rattle.yq_text.specs.Script.{Segment}

-- ---- the first of two that is there

-- there is an edit
abbrev pub IsThere : Option (List Segment) → Type 0
IsThere o = (ss : List Segment) × (o ≡ Some ss)

-- the first of two that is there
pub first_there : (a b : Option (List Segment)) → IsThere a → IsThere (option_or a b)
first_there a b h = (h.0, ap (λ (x : Option (List Segment)). option_or x b) h.1)

pub second_there : (a b : Option (List Segment)) → IsThere b → IsThere (option_or a b)
second_there None b h = h
second_there (Some ss) b h = (ss, refl)

-- ---- the lines of a document of a cut that has a reading

-- The lines of document doc, which has part p.
pub record IsPrintedAt (c : Cut) (doc : ℕ) (p : Part) : Type 0 where
  pub document : PrintedDocument
  pub is : printed_document doc c ≡ Some document
  pub printed : IsPrintedDocument p document

pub printed_at : (c : Cut) (doc : ℕ) (p : Part) → read_at (cut_text c) ≡ Some c → slice_get (document_parts c) doc ≡ Some p → IsPrintedAt c doc p
printed_at c doc p read there =
    let s = around doc c p there in
    let known = document_known (cut_text c) c doc p (record { read = read; there = there }) in
    let q = document_is doc c _ known.cut.parts s.printed in
    record { document = _; is = s.printed; printed = record { lines = refl; as_printed = q.2.as_printed } }

-- ---- an item or entry that is in rows can be taken out

module _ (n : ℕ) (s : Step) (ss : List Step) (c : Cut) (e : RowsOfEntry) (read : read_at (cut_text c) ≡ Some c) (x : HasItsRows n s ss c e) where
  abbrev p : Part
  p = x.part

  abbrev ls : List Line
  ls = lines_of_rows p.rows

  abbrev at : ℕ
  at = length (lines_before x.found.place)

  number : line_at_steps (s ∷ ss) (lines_of_rows x.part.rows) ≡ Some (length (lines_before x.found.place))
  number = ap (λ (o : Option (FoundLine × List Step)). option_and_then (λ y. found_line y.0 y.1) o) x.is

  -- the row in which its line is
  printed_line : (w : RowLine) × (row_line (length (lines_before x.found.place)) x.part.rows ≡ Some w)
  printed_line =
      let lines : ls ≡ lines_before x.found.place ++ (x.found.line ∷ (flatten x.found.under ++ (flatten x.found.after ++ lines_after x.found.place))) = found_lines ls s ss [] x.found x.is in
      let there : slice_get ls at ≡ Some x.found.line = search (rules, middle) in
      let w = row_line_found p.rows at x.found.line there in
      (w.0, w.1)

  -- the first line of a row
  by_rows : (w : RowLine) → row_line at p.rows ≡ Some w → eqb w.line 0 ≡ true → (us : List Segment) × (option_map rows_removed (removal_place n (s ∷ ss) c) ≡ Some us)
  by_rows w is first =
      let d = placed_is n c p x.old.there in
      let own : OwnRows = in_three w.before (row_count (lines_end at ls - at) (drop w.before p.rows)) p.rows in
      let place : removal_place n (s ∷ ss) c ≡ Some (rows_out d.0 own) = search rules in
      (rows_removed (rows_out d.0 own), ap (option_map rows_removed) place)

  -- a line after a dash
  piece_there : (y : TextPiece) × ((printed_document n c >>= piece_in Entry (s ∷ ss)) ≡ Some y)
  piece_there =
      let d = printed_at c n p read x.old.there in
      let found : find s ss (group (map line_in d.document.lines)) ≡ Some (x.found, []) = ap (λ (k : List Line). find s ss (group k)) (ap (map line_in) d.printed.lines ∙ lines_are p.rows) ∙ x.is in
      let y = entry_there d.document s ss [] x.found found in (
        entry_piece y.0,
        ap (λ (o : Option PrintedDocument). o >>= piece_in Entry (s ∷ ss)) d.is
            ∙ (ap (λ (o : Option (FoundLine × List Step)). o >>= λ f. found_entry d.document f.0 >>= piece_in_entry Entry f.1) found ∙ ap (λ (o : Option BlockEntry). o >>= piece_in_entry Entry []) y.1),
      )

  by_first : (w : RowLine) → row_line at p.rows ≡ Some w → eqb w.line 0 ≡ false → (us : List Segment) × (option_map first_removed (first_removal n (s ∷ ss) c) ≡ Some us)
  by_first w is later =
      let y = piece_there in
      let row_found : row_line_of (s ∷ ss) p.rows ≡ Some w = ap (λ (o : Option ℕ). o >>= λ k. row_line k p.rows) number ∙ is in
      let line : first_entry n (s ∷ ss) c ≡ Some y.0 = search (rules, cond-false) in
      (first_removed (first_out y.0), ap (λ (o : Option TextPiece). option_map first_removed (option_map first_out o)) line)

  either : (w : RowLine) → row_line at p.rows ≡ Some w → (b : Bool) → eqb w.line 0 ≡ b → (us : List Segment) × (one_removed n (s ∷ ss) c ≡ Some us)
  either w is true first = first_there _ _ (by_rows w is first)
  either w is false first = second_there _ _ (by_first w is first)

pub one_there : (n : ℕ) (s : Step) (ss : List Step) (c : Cut) (e : RowsOfEntry) → read_at (cut_text c) ≡ Some c → rows_of_entry n (s ∷ ss) c ≡ Some e → (us : List Segment) × (one_removed n (s ∷ ss) c ≡ Some us)
one_there n s ss c e read is = let x = rows_located n s ss c e read is in let w = printed_line n s ss c e read x in either n s ss c e read x w.0 w.1 (eqb w.0.line 0) refl
