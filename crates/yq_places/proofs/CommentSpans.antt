-- What the code answers for a comment is the span of its piece.
use Rattle.std.proofs.Common.{◌≡◌, ℕ, ◌+◌, eqb, List, [], ◌∷◌, ◌++◌, length, take, drop, map, Option, Some, None, option_map}
use Rattle.std.proofs.Common.{option_and_then, Bool, true, false, cond, refl, sym, ap, ◌∙◌, subst, arith, length-append, rules}
use Rattle.std.{proofs.lemmas.Bool.{eqb-true, eqb-false}, specs.List.slice_get}
use Rattle.yq_core.{specs.Answers.◌>>=◌, specs.Paths.Step}
use Rattle.yq_outline.{specs.Ends.{found_line, line_at_steps}, specs.Group.group, specs.Places.{lines_before, FoundLine, find}}
use Rattle.yq_row_table.{specs.Exchange.after_row, specs.Rows.{dashes_text, following_gap, Row, Part, Cut}}
use Rattle.yq_row_table.specs.View.{content_cut, slices, rows_of}
use Rattle.yq_documents.{specs.declared.path.Path.Path, specs.Documents.document_parts, specs.Located.steps_of}
use Rattle.yq_documents.specs.Pieces.{piece_span, tail_comment, content_comment, gap_comment}
use Rattle.yq_documents.{specs.LinesInRows.{RowLine, row_line, row_line_of, row_line_at, document_row}, proofs.PartRows.part_begins}
use Rattle.yq_places.specs.CommentReading.{before_row, before_tail, line_comment_in, head_comment_in}
use Rattle.yq_places.specs.PathPieces.{PrintedDocument, printed_document, found_entry, piece_in_entry, piece_in, path_piece}
use Rattle.yq_places.specs.PrintedLines.{PrintedLine, line_front, print_lines, printed_lines, line_in}
use Rattle.yq_places.{proofs.PieceHolds.{no_comment, no_gap, no_part}, proofs.CommentPlaceLaws.{gap_agrees, tail_view}}
use Rattle.yq_places.{specs.PlacedRows.placed_document, proofs.PlacedPartLaws.part_is_there, proofs.PrintedLaws.lines_are}
use Rattle.yq_places.{proofs.FoundEntries.{line_there, entry_is}, proofs.PrintedTexts.{map_some, lines_then}}
use Rattle.yq_places.proofs.RunSpans.{begin_is, content_size, row_line_at as row_line_there}
use Rattle.yq_places.proofs.PrintedRowLines.{IsPrintedLine, IsPlaced, document_placed}
use Rattle.yq_documents.specs.declared.path.Part.TheVariants as parts

-- spans of comments, by how long the text before them is
tail_same : (a b tail x y : List ℕ) → length a ≡ length b → option_map piece_span (tail_comment a tail x) ≡ option_map piece_span (tail_comment b tail y)
tail_same a b tail x y e = sym (tail_view a tail x (length a) refl) ∙ tail_view b tail y (length a) e

gap_same : (a b gap x y : List ℕ) → length a ≡ length b → option_map piece_span (gap_comment a gap x) ≡ option_map piece_span (gap_comment b gap y)
gap_same a b gap x y e = sym (gap_agrees a gap x (length a) refl) ∙ gap_agrees b gap y (length a) e

-- the lines of a document among those of a cut
module _ (c : Cut) (p : Part) (more : List Row) (k : ℕ) (start end : List ℕ) (there : drop k (rows_of c) ≡ p.rows ++ more)
    (placed : IsPlaced c k p (record { before = start; lines = printed_lines p.rows; after = end })) where
  abbrev document : PrintedDocument
  document = record { before = start; lines = printed_lines p.rows; after = end }

  abbrev before : ℕ → List ℕ
  before n = start ++ print_lines (take n (printed_lines p.rows)) []

  beside_span : (n : ℕ) (l : PrintedLine) (rest : List ℕ) → slice_get (printed_lines p.rows) n ≡ Some l →
      option_map piece_span (content_comment (before n ++ (line_front l ++ l.mark)) l.content rest) ≡ option_map piece_span (row_line n p.rows >>= λ q. line_comment_in (k + q.before) q c)
  beside_span n l rest el =
      let a = row_line_there c p more k document there placed refl n l el in
      go a.0 a.1 a.2 a.3 (eqb a.0.line (length a.0.row.dashes)) refl ∙ sym (ap (λ (o : Option RowLine). option_map piece_span (o >>= λ q. line_comment_in (k + q.before) q c)) a.1)
    where
      go : (q : RowLine) → row_line n p.rows ≡ Some q → (d : IsPrintedLine p.rows n q) → d.line ≡ l → (b : Bool) → eqb q.line (length q.row.dashes) ≡ b →
          option_map piece_span (content_comment (before n ++ (line_front l ++ l.mark)) l.content rest) ≡
          option_map piece_span (cond (eqb q.line (length q.row.dashes)) (tail_comment (before_tail (k + q.before) q.row c) (slices q.row).tail ((slices q.row).raw ++ after_row (k + q.before) c)) None)
      go q is d line true e =
          let at : q.line ≡ length q.row.dashes = eqb-true q.line (length q.row.dashes) e in
          let x = content_cut q.row.content in
          let content : l.content ≡ q.row.content = ap (λ (y : PrintedLine). y.content) (sym line) ∙ (d.last at).0 in
          let front : List ℕ = before n ++ (line_front l ++ l.mark) in
          let size : length (front ++ (x.0 ++ (x.1 ++ (x.2 ++ x.3)))) ≡ length (before_tail (k + q.before) q.row c) =
          omega (
            arith,
            content_size c p more k document there placed refl n q d is at,
            ap (λ (y : PrintedLine). length (line_front y)) line,
            ap (λ (y : PrintedLine). length y.mark) line,
            length-append {A = ℕ},
          ) in
          search (rules, tail_same, x, content, front)
      go q is d line false e = search (rules, eqb-false, no_comment)

  above_span : (n : ℕ) (l : PrintedLine) (rest : List ℕ) → slice_get (printed_lines p.rows) n ≡ Some l →
      option_map piece_span (gap_comment (before n) l.gap rest) ≡ option_map piece_span (row_line n p.rows >>= λ q. head_comment_in (k + q.before) q c)
  above_span n l rest el =
      let a = row_line_there c p more k document there placed refl n l el in
      go a.0 a.1 a.2 a.3 (eqb a.0.line 0) refl ∙ sym (ap (λ (o : Option RowLine). option_map piece_span (o >>= λ q. head_comment_in (k + q.before) q c)) a.1)
    where
      go : (q : RowLine) → row_line n p.rows ≡ Some q → (d : IsPrintedLine p.rows n q) → d.line ≡ l → (b : Bool) → eqb q.line 0 ≡ b →
          option_map piece_span (gap_comment (before n) l.gap rest) ≡ option_map piece_span (cond (eqb q.line 0) (gap_comment (before_row (k + q.before) c) q.row.gap (following_gap q.row (after_row (k + q.before) c))) None)
      go q is d line true e =
          let at : q.line ≡ 0 = eqb-true q.line 0 e in
          let gap : l.gap ≡ q.row.gap = ap (λ (y : PrintedLine). y.gap) (sym line) ∙ (d.first at).0 in
          let size : length (before n) ≡ length (before_row (k + q.before) c) =
          omega (
            arith,
            ap length (begin_is c p more k document there placed refl n q d),
            ap (λ (y : PrintedLine). length (print_lines (take n (printed_lines p.rows)) (line_front y))) line,
            length-append {A = ℕ},
            ap (λ j. length (dashes_text (take j q.row.dashes) [])) at,
            ap length (lines_then (take n (printed_lines p.rows)) [] (line_front d.line)),
            ap length (d.first at).0,
            ap length (d.first at).1,
          ) in
          cc (gap_same (before n) (before_row (k + q.before) c) q.row.gap rest (following_gap q.row (after_row (k + q.before) c)) size)
      go q is d line false e = search (rules, eqb-false, no_gap)

  pub beside_spans : (steps : List Step) → option_map piece_span (piece_in parts.LineComment steps document) ≡ option_map piece_span (row_line_of steps p.rows >>= λ q. line_comment_in (k + q.before) q c)
  beside_spans [] = refl
  beside_spans (y ∷ ys) = go (find y ys (group (map line_in (printed_lines p.rows)))) refl
      ∙ ap (λ ls. option_map piece_span ((line_at_steps (y ∷ ys) ls >>= λ n. row_line n p.rows) >>= λ q. line_comment_in (k + q.before) q c))
      (lines_are p.rows)
    where
      go : (o : Option (FoundLine × List Step)) → find y ys (group (map line_in (printed_lines p.rows))) ≡ o →
          option_map piece_span (o >>= λ f. found_entry document f.0 >>= piece_in_entry parts.LineComment f.1) ≡
          option_map piece_span ((option_and_then (λ x. found_line x.0 x.1) o >>= λ n. row_line n p.rows) >>= λ q. line_comment_in (k + q.before) q c)
      go None is = refl
      go (Some (f, [])) is =
          let l = line_there document y ys [] f is in
          ap (λ o. option_map piece_span (o >>= piece_in_entry parts.LineComment [])) (entry_is document f l.0 l.1) ∙ beside_span (length (lines_before f.place)) l.0 _ l.1
      go (Some (f, t ∷ ts)) is = search (rules, line_there, entry_is)

  pub above_spans : (steps : List Step) → option_map piece_span (piece_in parts.HeadComment steps document) ≡ option_map piece_span (row_line_of steps p.rows >>= λ q. head_comment_in (k + q.before) q c)
  above_spans [] = refl
  above_spans (y ∷ ys) = go (find y ys (group (map line_in (printed_lines p.rows)))) refl
      ∙ ap (λ ls. option_map piece_span ((line_at_steps (y ∷ ys) ls >>= λ n. row_line n p.rows) >>= λ q. head_comment_in (k + q.before) q c))
      (lines_are p.rows)
    where
      go : (o : Option (FoundLine × List Step)) → find y ys (group (map line_in (printed_lines p.rows))) ≡ o →
          option_map piece_span (o >>= λ f. found_entry document f.0 >>= piece_in_entry parts.HeadComment f.1) ≡
          option_map piece_span ((option_and_then (λ x. found_line x.0 x.1) o >>= λ n. row_line n p.rows) >>= λ q. head_comment_in (k + q.before) q c)
      go None is = refl
      go (Some (f, [])) is =
          let l = line_there document y ys [] f is in
          ap (λ o. option_map piece_span (o >>= piece_in_entry parts.HeadComment [])) (entry_is document f l.0 l.1) ∙ above_span (length (lines_before f.place)) l.0 _ l.1
      go (Some (f, t ∷ ts)) is = search (rules, line_there, entry_is)

-- the lines of a document of any cut
document_lines : (n : ℕ) (c : Cut) (s : PrintedDocument) → printed_document n c ≡ Some s → (p : Part) × (slice_get (document_parts c) n ≡ Some p) × (s.lines ≡ printed_lines p.rows)
document_lines n c s e =
    let d = map_some (placed_document n c) e in
    (d.0.part, (part_is_there n c d.0 d.1).there, ap (λ (y : PrintedDocument). y.lines) (sym d.2))

-- Where the comments at a path are, by their row lines.
pub record AreSpans (path : Path) (c : Cut) : Type 0 where
  pub line : option_map piece_span (path_piece path parts.LineComment c) ≡ option_map piece_span (row_line_at path c >>= λ q. line_comment_in (document_row path.doc c + q.before) q c)
  pub head : option_map piece_span (path_piece path parts.HeadComment c) ≡ option_map piece_span (row_line_at path c >>= λ q. head_comment_in (document_row path.doc c + q.before) q c)

pub comment_spans : (path : Path) (c : Cut) → AreSpans path c
comment_spans path c = record { line = beside (printed_document path.doc c) refl; head = above (printed_document path.doc c) refl }
  where
    beside : (o : Option PrintedDocument) → printed_document path.doc c ≡ o →
        option_map piece_span (o >>= piece_in parts.LineComment (steps_of path)) ≡ option_map piece_span (row_line_at path c >>= λ q. line_comment_in (document_row path.doc c + q.before) q c)
    beside None is = sym (ap (λ (d : Option Part). option_map piece_span ((d >>= λ d. row_line_of (steps_of path) d.rows) >>= λ q. line_comment_in (document_row path.doc c + q.before) q c)) (no_part path.doc c is))
    beside (Some s) is =
        let q = document_lines path.doc c s is in
        let b = part_begins c path.doc q.0 q.1 in
        let own : s ≡ record { before = s.before; lines = printed_lines q.0.rows; after = s.after } = (λ i. record { before = s.before; lines = q.2 i; after = s.after }) in
        ap (λ x. option_map piece_span (piece_in parts.LineComment (steps_of path) x)) own
        ∙ (beside_spans c q.0 b.0 (document_row path.doc c) s.before s.after b.1 (subst (IsPlaced c (document_row path.doc c) q.0) own (document_placed path.doc c q.0 s q.1 is)) (steps_of path)
        ∙ sym (ap (λ (d : Option Part). option_map piece_span ((d >>= λ d. row_line_of (steps_of path) d.rows) >>= λ q. line_comment_in (document_row path.doc c + q.before) q c)) q.1))

    above : (o : Option PrintedDocument) → printed_document path.doc c ≡ o →
        option_map piece_span (o >>= piece_in parts.HeadComment (steps_of path)) ≡ option_map piece_span (row_line_at path c >>= λ q. head_comment_in (document_row path.doc c + q.before) q c)
    above None is = sym (ap (λ (d : Option Part). option_map piece_span ((d >>= λ d. row_line_of (steps_of path) d.rows) >>= λ q. head_comment_in (document_row path.doc c + q.before) q c)) (no_part path.doc c is))
    above (Some s) is =
        let q = document_lines path.doc c s is in
        let b = part_begins c path.doc q.0 q.1 in
        let own : s ≡ record { before = s.before; lines = printed_lines q.0.rows; after = s.after } = (λ i. record { before = s.before; lines = q.2 i; after = s.after }) in
        ap (λ x. option_map piece_span (piece_in parts.HeadComment (steps_of path) x)) own
        ∙ (above_spans c q.0 b.0 (document_row path.doc c) s.before s.after b.1 (subst (IsPlaced c (document_row path.doc c) q.0) own (document_placed path.doc c q.0 s q.1 is)) (steps_of path)
        ∙ sym (ap (λ (d : Option Part). option_map piece_span ((d >>= λ d. row_line_of (steps_of path) d.rows) >>= λ q. head_comment_in (document_row path.doc c + q.before) q c)) q.1))
