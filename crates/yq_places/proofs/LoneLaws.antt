-- Nodes alone on their lines, and collections after dashes, by the rows that the code has found.
use Rattle.std.proofs.Common.{◌≡◌, ℕ, ◌+◌, ◌<◌, ◌≤◌, true, List, [], ◌∷◌, ◌++◌, length, length-append, take, drop, replicate, Some, refl}
use Rattle.std.{proofs.Common.{sym, ap, ◌∙◌, subst, arith, append_assoc}, proofs.Math.Seq.{drop-append_seam, take-append_seam}}
use Rattle.std.{proofs.lemmas.Bool.{and_parts, false≢true}, proofs.lemmas.Option.same_Some, proofs.lemmas.Str.IsCharBoundary-at_seam}
use Rattle.std.{specs.List.slice_get, specs.Str.{IsUtf8, IsCharBoundary}}
use Rattle.yq_text.specs.Limit.{text_limit}
use Rattle.yq_core.specs.Text.{is_empty}
use Rattle.yq_outline.{specs.Positions.has_no_mark, specs.Lines.line_mark, specs.Extents.{head_place, row_start}}
use Rattle.yq_row_table.{specs.Exchange.row_front, specs.Grammar.IsMark}
use Rattle.yq_row_table.specs.Rows.{Content, Block, Row, dashes_text, parent_indent, print_row, rows_text, Cut}
use Rattle.yq_row_table.specs.View.{Slices, slices, content_cut, rows_of, RowsView, rows_view}
use Rattle.yq_row_table.proofs.NodePieces.{before_ascii, following_ascii, tail_ascii}
use Rattle.yq_documents.{specs.Pieces.TextPiece, specs.Reading.cut_of}
use Rattle.yq_places.{specs.CommentPlaces.text_to_line_end, specs.RowPieces.upto_dash, specs.EntryReading.line_begin}
use Rattle.yq_places.specs.Placements.{RowsOfEntry, before_entry, after_entry, dash_text, is_alone, lone}
use Rattle.yq_places.{specs.PlacementReading.{AreRowsOf, EndsRows}, proofs.CommentEndLaws.row_text_parts}
use Rattle.yq_places.proofs.DashLaws.{front_is, row_cut}
use Rattle.yq_places.{proofs.EntryRowLaws.{cut_in_two, first_at, head_ends, pieces_at, row_valid, text}, proofs.LineEndLaws.line_tail}
use Rattle.yq_places.proofs.StartLaws.{line_begins}
use Rattle.yq_row_table.specs.Rows as rows

raw_none : (m : rows.RowMark) (x : Content) (rest : List ℕ) → IsMark m x rest → has_no_mark (line_mark m) ≡ true → (content_cut x).5 ≡ []
raw_none rows.Bare (Block space anchor b) rest h bare = absurd (false≢true h)
raw_none rows.Dash x rest h bare = absurd (false≢true bare)
raw_none (rows.Key key colon) x rest h bare = absurd (false≢true bare)
raw_none rows.Bare _ rest h bare = refl

-- ---- a node alone on its line

module _ (t : List ℕ) (s : RowsView) (e : RowsOfEntry) (row end : ℕ) (h : AreRowsOf t s e row end) (place : ℕ × ℕ) (agrees : (c : Cut) → s ≡ rows_view c → (r : Row) → slice_get (rows_of c) row ≡ Some r → place ≡ head_place row c r)
    (y : Slices) (there : slice_get s.rows row ≡ Some y) where
  same : slices e.row ≡ y
  same = same_Some _ _ (sym (pieces_at t s e row end h) ∙ there)

  abbrev before : List ℕ
  before = before_entry e ++ (row_front e.row ++ ((slices e.row).space ++ ((slices e.row).anchor ++ (slices e.row).apart)))

  abbrev after : List ℕ
  after = (slices e.row).tail ++ ((slices e.row).raw ++ rows_text e.under (after_entry e))

  line : before_entry e ++ text_to_line_end e.row ≡ before ++ (slices e.row).head
  line = let x : Slices = slices e.row in let parts : before_entry e ++ (row_front e.row ++ (x.space ++ (x.anchor ++ (x.apart ++ x.head)))) ≡ before ++ x.head = simp append_assoc refl in parts

  whole : t ≡ (before ++ (slices e.row).head) ++ after
  whole =
      text t s e row end h
      ∙ (ap (λ (u : List ℕ). before_entry e ++ u) (row_text_parts e.row (rows_text e.under (after_entry e)))
      ∙ (sym (append_assoc (before_entry e) (text_to_line_end e.row) after) ∙ ap (λ (u : List ℕ). u ++ after) line))

  stop : place.1 ≡ length (before ++ (slices e.row).head)
  stop = head_ends t s e row end h place agrees ∙ ap length line

  start : place.0 ≡ length before
  start =
      let at : place ≡ head_place row (cut_of t) e.row = agrees (cut_of t) h.rows_view_is e.row (first_at t s e row end h).there in
      omega (arith, stop, ap (λ (p : ℕ × ℕ). p.0) at, ap (λ (p : ℕ × ℕ). p.1) at, length-append before (slices e.row).head)

  pub end_boundary : (u : List ℕ) → u ≡ t → IsCharBoundary u place.1
  end_boundary u is =
      let x : Slices = slices e.row in
      let tail = line_tail (parent_indent e.row) e.row.content (rows_text e.under (after_entry e)) (row_valid t s e row end h).row.content in
      subst (λ (z : List ℕ). IsCharBoundary z place.1) (sym (is ∙ whole))
      (subst (IsCharBoundary ((before ++ x.head) ++ after)) (sym stop) (before_ascii (before ++ x.head) after (tail_ascii x.tail (x.raw ++ rows_text e.under (after_entry e)) tail)))

  front_is_text : (u front : List ℕ) → u ≡ t → front ≡ take place.1 u → front ≡ before ++ (slices e.row).head
  front_is_text u front is cut = cut ∙ ((λ i. take (stop i) ((is ∙ whole) i)) ∙ take-append_seam (before ++ (slices e.row).head) after)

  pub start_boundary : (u front : List ℕ) → u ≡ t → front ≡ take place.1 u → (head : List ℕ) → head ≡ y.head → IsUtf8 head → IsCharBoundary front place.0
  start_boundary u front is cut head head_is utf8 =
      let own : (slices e.row).head ≡ head = ap (λ (z : Slices). z.head) same ∙ sym head_is in
      subst (IsCharBoundary front) (sym start) (IsCharBoundary-at_seam front before head (front_is_text u front is cut ∙ ap (λ (z : List ℕ). before ++ z) own) utf8)

  pub lone_is : (u front first last head : List ℕ) → u ≡ t → front ≡ take place.1 u → last ≡ drop place.1 u → first ≡ take place.0 front → head ≡ y.head → is_alone e.row ≡ true →
      ◌≡◌ {A = TextPiece} (record { before = first; text = head; after = last }) (lone (before_entry e) e.row (rows_text e.under (after_entry e)))
  lone_is u front first last head is cut rest before_cut head_is a =
      let x : Slices = slices e.row in
      let b : first ≡ before = before_cut ∙ ((λ i. take (start i) (front_is_text u front is cut i)) ∙ take-append_seam before x.head) in
      let none : x.raw ≡ [] = raw_none e.row.mark e.row.content (rows_text e.under (after_entry e)) (row_valid t s e row end h).row.mark (and_parts (is_empty e.row.dashes) (has_no_mark (line_mark e.row.mark)) a).1 in
      let l : last ≡ x.tail ++ rows_text e.under (after_entry e) =
      rest ∙ (((λ i. drop (stop i) ((is ∙ whole) i)) ∙ drop-append_seam (before ++ x.head) after) ∙ ap (λ (z : List ℕ). x.tail ++ (z ++ rows_text e.under (after_entry e))) none) in
      let own : head ≡ x.head = head_is ∙ ap (λ (z : Slices). z.head) (sym same) in
      λ i. record { before = b i; text = own i; after = l i }

-- ---- a collection after a dash

module _ (t : List ℕ) (s : RowsView) (e : RowsOfEntry) (row end : ℕ) (h : AreRowsOf t s e row end) (u : IsUtf8 t) (line : ℕ)
    (line_is : line ≡ e.line) (less : e.line < length e.row.dashes) (y : Slices) (there : slice_get s.rows row ≡ Some y) (start : ℕ)
    (start_agrees : (x : Slices) → slice_get s.rows row ≡ Some x → start ≡ line_begin (row_start row s) x line) where
  abbrev front : List ℕ
  front = before_entry e ++ row_front (upto_dash e.line e.row)

  pub through : before_entry e ++ print_row e.row (rows_text e.under []) ≡ front ++ dash_text e
  through = ap (λ (z : List ℕ). before_entry e ++ z) (row_cut e.line e.row (rows_text e.under []) less) ∙ sym (append_assoc (before_entry e) (row_front (upto_dash e.line e.row)) (dash_text e))

  pub cut : t ≡ front ++ (dash_text e ++ after_entry e)
  cut = cut_in_two t s e row end h ∙ (ap (λ (z : List ℕ). z ++ after_entry e) through ∙ append_assoc front (dash_text e) (after_entry e))

  abbrev upto : List ℕ
  upto = before_entry e ++ (e.row.gap ++ (replicate e.row.column 32 ++ dashes_text (take e.line e.row.dashes) []))

  pub dash_is : front ≡ upto ++ 45 ∷ []
  dash_is = ap (λ (z : List ℕ). before_entry e ++ z) (front_is e.line e.row) ∙ sym (append_assoc (before_entry e) (e.row.gap ++ (replicate e.row.column 32 ++ dashes_text (take e.line e.row.dashes) [])) (45 ∷ []))

  pub size : start + 1 ≡ length front
  size =
      let c : Cut = cut_of t in
      let at = first_at t s e row end h in
      let own : List ℕ = e.row.gap ++ (replicate e.row.column 32 ++ dashes_text (take e.line e.row.dashes) []) in
      let begins : start ≡ length (before_entry e ++ own) =
      start_agrees (slices e.row) (pieces_at t s e row end h)
      ∙ ((λ i. line_begin (row_start row (h.rows_view_is i)) (slices e.row) (line_is i))
      ∙ (line_begins c row e.line e.row at.there (omega (arith, less)) ∙ ap (λ (z : List ℕ). length (z ++ own)) at.before_is)) in
      omega (arith, begins, ap length dash_is, length-append upto (45 ∷ []))

  pub dash_fits : start + 1 ≤ text_limit
  dash_fits = omega (arith, size, ap length cut, length-append front (dash_text e ++ after_entry e), h.cut.size)

  abbrev pub dash_ends : EndsRows t s (start + 1) end
  dash_ends = record {
    entry = e;
    row = row;
    rows = h;
    front = front;
    own = dash_text e;
    text = through;
    from_is = size;
    starts = subst (λ (z : List ℕ). IsCharBoundary z (start + 1)) (sym cut)
        (subst (IsCharBoundary (front ++ (dash_text e ++ after_entry e))) (sym size)
        (following_ascii front (dash_text e ++ after_entry e) (subst IsUtf8 cut u) (record { front = upto; last = 45; is = dash_is; ascii = omega arith })));
  }
