-- What the code answers for a content, an entry or an item is the span of its piece.
use Rattle.std.proofs.Common.{◌≡◌, ◌⊎◌, ℕ, zero, suc, ◌+◌, ◌<◌, ◌≤◌, List, [], ◌∷◌, ◌++◌, length, take, drop, Option, Some, option_map}
use Rattle.std.{proofs.Common.{true, refl, sym, ap, ◌∙◌, arith, append_assoc, length-append, replicate, rules}, proofs.Math.Seq.take-add}
use Rattle.std.{proofs.lemmas.Bool.cases_lt, proofs.lemmas.Option.{slice_get-map, slice_get_within, none-some, same_Some}}
use Rattle.std.specs.List.{slice_get}
use Rattle.yq_core.{specs.Answers.◌>>=◌, specs.Nodes.{FlowNode, empty, scalar, coll, anchored, node_text, takes_anchor, IsFlowNode}}
use Rattle.yq_core.specs.Trees.{node_head}
use Rattle.yq_row_table.specs.Exchange.{row_front, before_content}
use Rattle.yq_row_table.specs.Rows.{Content, Nothing, Inline, Block, dashes_text, mark_text, anchor_text, Row, rows_text, Part, Cut}
use Rattle.yq_row_table.{specs.View.{anchor_cut, anchor_with_sign, apart_of, content_cut, rows_of}, proofs.PlaceLaws.part_then}
use Rattle.yq_outline.{proofs.KnownLaws.get_dropped, specs.Lines.{head_of, lines_of_rows}}
use Rattle.yq_places.specs.EntryReading.{before_line, through_row, lines_place, head_end, head_extent, line_head}
use Rattle.yq_places.{specs.CommentReading.before_row, proofs.EntryPlaceLaws.row_there, proofs.DashLineLaws.row_line_found}
use Rattle.yq_places.proofs.StartLaws.{front_in}
use Rattle.yq_places.specs.PrintedLines.{line_front, less_end, PrintedLine, print_line, print_lines, printed_lines, line_in, run_text}
use Rattle.yq_places.{specs.PrintedLines.run_piece, specs.PathPieces.PrintedDocument, proofs.PrintedTexts.{lines_then, lines_append}}
use Rattle.yq_places.proofs.PrintedLaws.{IsValid, IsWritten, IsPrinted, lines_are}
use Rattle.yq_places.proofs.PrintedRowLines.{row_begin, IsPrintedLine, printed_line, IsPlaced}
use Rattle.yq_documents.{specs.LinesInRows.{RowLine, row_line}, specs.Pieces.{TextPiece, piece_span, node_piece, head_piece}}
use Rattle.yq_core.specs.Tree as tree
use Rattle.yq_row_table.specs.Rows as rows

-- an anchor with the white space after it, and what is after that
abbrev front_of : FlowNode → List ℕ
front_of node = (anchor_cut node).0 ++ (anchor_cut node).1

abbrev Spans : ℕ → ℕ → Option TextPiece → Type 0
Spans from to o = (x : TextPiece) × (o ≡ Some x) × (length x.before ≡ from) × (length x.before + length x.text ≡ to)

pub spans_is : (from to : ℕ) (o : Option TextPiece) → Spans from to o → option_map piece_span o ≡ Some (from, to)
spans_is from to o h = ap (option_map piece_span) h.1 ∙ (λ i. Some (h.2 i, h.3 i))

core_size : (before : List ℕ) (node : FlowNode) (rest : List ℕ) (h : tree.Node) → takes_anchor node ≡ true → node_head node ≡ Some h → Spans (length before) (length before + length (node_text node [])) (node_piece before node rest)
core_size before empty rest h t e = absurd (none-some _ e)
core_size before (scalar p) rest h t e = (_, refl, refl, refl)
core_size before (coll k g is) rest h t e = (_, refl, refl, refl)
core_size before x rest h t e = cc

node_size : (before : List ℕ) (node : FlowNode) (rest : List ℕ) (h : tree.Node) → IsValid node rest → node_head node ≡ Some h →
    Spans (length before + length (front_of node)) (length before + length (front_of node) + length (anchor_cut node).2) (node_piece before node rest)
unfolding IsFlowNode
node_size before empty rest h v e = absurd (none-some _ e)
node_size before (anchored n g node) rest h v e =
    let k = core_size (before ++ 38 ∷ (n ++ g)) node rest h v.3.3 e in
    (k.0, k.1, omega (arith, k.2, length-append before (38 ∷ (n ++ g))), omega (arith, k.3, length-append before (38 ∷ (n ++ g))))
node_size before x rest h v e = (_, refl, omega arith, omega arith)

anchor_size : (a : Option rows.Anchor) → length (anchor_text a []) ≡ length (anchor_with_sign a) + length (apart_of a)
anchor_size a = search (rules, length-append)

-- what comes before the head of a content
abbrev pub head_front : Content → List ℕ
head_front c = let x = content_cut c in x.0 ++ (x.1 ++ x.2)

pub head_size : (before : List ℕ) (c : Content) (rest : List ℕ) (h : tree.Node) → IsWritten c rest → head_of c ≡ Some h →
    Spans (length before + length (head_front c)) (head_end (length before + length (head_front c) + length (content_cut c).3) c) (head_piece before c rest)
head_size before (Nothing tail) rest h w e = absurd (none-some _ e)
head_size before (Inline space node tail) rest h w e =
    let k = node_size (before ++ space) node (tail ++ rest) h w e in
    (k.0, k.1, omega (arith, k.2, length-append before space, length-append space (front_of node)), omega (arith, k.3, length-append before space, length-append space (front_of node)))
head_size before (Block space anchor block) rest h w e = search (rules, anchor_size, length-append)

-- texts of rows and dashes, before a text
pub rows_then : (rs : List Row) (t : List ℕ) → rows_text rs t ≡ rows_text rs [] ++ t
rows_then rs t = part_then (record { rows = rs; end = [] }) [] t

dashes_then : (ns t : List ℕ) → dashes_text ns t ≡ dashes_text ns [] ++ t
dashes_then [] t = refl
dashes_then (n ∷ ns) t = ap (λ l. 45 ∷ l) (ap (λ l. replicate n 32 ++ l) (dashes_then ns t) ∙ sym (append_assoc (replicate n 32) (dashes_text ns []) t))

take_all : (ns : List ℕ) (k : ℕ) → k ≡ length ns → take k ns ≡ ns
take_all [] zero e = refl
take_all (n ∷ ns) (suc k) e = ap (λ l. n ∷ l) (take_all ns k (omega (arith, e)))
take_all _ _ e = absurd (omega (arith, e))

-- a row's front, where the line in a row line is the last of its row
pub front_is : (q : RowLine) → q.line ≡ length q.row.dashes → row_front q.row ≡ row_begin q ++ mark_text q.row.mark []
front_is q e = search (rules, dashes_then, take_all, append_assoc)

-- lists
pub get_some : {A : Type 0} (xs : List A) (n : ℕ) (x : A) → slice_get xs n ≡ Some x → drop n xs ≡ x ∷ drop (suc n) xs
get_some [] n x e = absurd (none-some _ e)
get_some (y ∷ xs) zero x e = ap (λ z. z ∷ xs) (same_Some _ _ e)
get_some (y ∷ xs) (suc n) x e = get_some xs n x e

-- the text of a line up to its last break
abbrev pub line_less : PrintedLine → List ℕ
line_less z = line_front z ++ (z.mark ++ less_end z.content)

run_last : (m : ℕ) (l z : PrintedLine) (more : List PrintedLine) → slice_get (l ∷ more) m ≡ Some z → (line_front l) ++ run_text l (take m more) ≡ print_lines (take m (l ∷ more)) (line_less z)
run_last zero l z more e = ap line_less (same_Some _ _ e)
run_last (suc m) l z [] e = absurd (none-some _ e)
run_last (suc m) l z (k ∷ more) e = ap (print_line l) (run_last m k z more e)

-- the lines of a document among those of a cut
module _ (c : Cut) (p : Part) (more : List Row) (k : ℕ) (s : PrintedDocument) (there : drop k (rows_of c) ≡ p.rows ++ more) (placed : IsPlaced c k p s) (lines : s.lines ≡ printed_lines p.rows) where
  -- the text before a line
  pub begin_is : (n : ℕ) (q : RowLine) (d : IsPrintedLine p.rows n q) → before_line (k + q.before) q.line q.row c ≡ s.before ++ print_lines (take n (printed_lines p.rows)) (line_front d.line)
  begin_is n q d = search (rules, row_begin, slice_get_within, append_assoc, rows_then)

  -- how long the text before a line's content is
  pub content_size : (n : ℕ) (q : RowLine) (d : IsPrintedLine p.rows n q) → row_line n p.rows ≡ Some q → q.line ≡ length q.row.dashes →
      length (before_content (k + q.before) c) ≡ length s.before + (length (print_lines (take n (printed_lines p.rows)) []) + (length (line_front d.line) + length d.line.mark))
  content_size n q d is e =
      let front = front_in (k + q.before) c q.row (row_there c p.rows more k n q there is) in
      let begin : length (before_row (k + q.before) c ++ row_begin q) ≡ length (s.before ++ print_lines (take n (printed_lines p.rows)) (line_front d.line)) = ap length (begin_is n q d) in
      omega (
        arith,
        ap length (front_is q e),
        length-append {A = ℕ},
        ap length (lines_then (take n (printed_lines p.rows)) [] (line_front d.line)),
        ap length (d.last e).1,
      )

  -- where a row ends
  end_size : (n : ℕ) (q : RowLine) (d : IsPrintedLine p.rows n q) → row_line n p.rows ≡ Some q → q.line ≡ length q.row.dashes →
      length (through_row (k + q.before) q.row c) ≡ length s.before + length (print_lines (take n (printed_lines p.rows)) (line_less d.line))
  end_size n q d is e =
      let less : less_end d.line.content ≡ less_end q.row.content = ap less_end (d.last e).0 in
      omega (
        arith,
        content_size n q d is e,
        ap length less,
        length-append {A = ℕ},
        ap length (lines_then (take n (printed_lines p.rows)) [] (line_less d.line)),
      )

  -- a line that is there is in its row line
  pub row_line_at : (n : ℕ) (l : PrintedLine) → slice_get (printed_lines p.rows) n ≡ Some l → (q : RowLine) × (row_line n p.rows ≡ Some q) × (d : IsPrintedLine p.rows n q) × (d.line ≡ l)
  row_line_at n l e =
      let line : slice_get (lines_of_rows p.rows) n ≡ Some l.line = ap (λ x. slice_get x n) (sym (lines_are p.rows)) ∙ (slice_get-map line_in (printed_lines p.rows) n ∙ ap (option_map line_in) e) in
      let q = row_line_found p.rows n l.line line in
      let d = printed_line p.rows n q.0 q.1 in
      (q.0, q.1, d, same_Some _ _ (sym d.there ∙ e))

  -- a run of lines, of which the last is the last of its row
  pub run_span : (n m : ℕ) (l z : PrintedLine) (after : List ℕ) (b : RowLine) → slice_get (printed_lines p.rows) n ≡ Some l →
      slice_get (printed_lines p.rows) (n + m) ≡ Some z → row_line (n + m) p.rows ≡ Some b → b.line ≡ length b.row.dashes →
      Some (piece_span (run_piece (s.before ++ print_lines (take n (printed_lines p.rows)) []) l (take m (drop (suc n) (printed_lines p.rows))) after)) ≡ lines_place k c p.rows n (n + m)
  run_span n m l z after b el ez is e =
      let a = row_line_at n l el in
      let d = printed_line p.rows (n + m) b is in
      let last : d.line ≡ z = same_Some _ _ (sym d.there ∙ ez) in
      let rest : List PrintedLine = drop (suc n) (printed_lines p.rows) in
      let from : drop n (printed_lines p.rows) ≡ l ∷ rest = get_some (printed_lines p.rows) n l el in
      let run : (line_front l) ++ run_text l (take m rest) ≡ print_lines (take m (l ∷ rest)) (line_less z) =
      run_last m l z rest (ap (λ x. slice_get x m) (sym from) ∙ (get_dropped (printed_lines p.rows) n m ∙ ez)) in
      let whole : print_lines (take (n + m) (printed_lines p.rows)) (line_less z) ≡ print_lines (take n (printed_lines p.rows)) (line_front l ++ run_text l (take m rest)) =
      ap (λ x. print_lines x (line_less z)) (take-add n m (printed_lines p.rows) ∙ ap (λ x. take n (printed_lines p.rows) ++ take m x) from)
      ∙ (lines_append (take n (printed_lines p.rows)) (take m (l ∷ rest)) (line_less z) ∙ ap (print_lines (take n (printed_lines p.rows))) (sym run)) in
      let start : length (before_line (k + a.0.before) a.0.line a.0.row c) ≡ length ((s.before ++ print_lines (take n (printed_lines p.rows)) []) ++ line_front l) =
      ap length (begin_is n a.0 a.2 ∙ (ap (λ x. s.before ++ x) (ap (λ (y : PrintedLine). print_lines (take n (printed_lines p.rows)) (line_front y)) a.3 ∙ lines_then (take n (printed_lines p.rows)) [] (line_front l))
      ∙ sym (append_assoc s.before (print_lines (take n (printed_lines p.rows)) []) (line_front l)))) in
      let stop : length (through_row (k + b.before) b.row c) ≡ length ((s.before ++ print_lines (take n (printed_lines p.rows)) []) ++ line_front l) + length (run_text l (take m rest)) =
      omega (
        arith,
        end_size (n + m) b d is e,
        ap (λ (y : PrintedLine). length (print_lines (take (n + m) (printed_lines p.rows)) (line_less y))) last,
        ap length whole,
        ap length (lines_then (take n (printed_lines p.rows)) [] (line_front l ++ run_text l (take m rest))),
        length-append {A = ℕ},
      ) in
      search (rules, a, start, stop)

  -- the head of a line
  pub head_span : (n : ℕ) (l : PrintedLine) (h : tree.Node) (rest : List ℕ) → slice_get (printed_lines p.rows) n ≡ Some l → l.line.head ≡ Some h → IsPrinted l rest →
      option_map piece_span (head_piece ((s.before ++ print_lines (take n (printed_lines p.rows)) []) ++ (line_front l ++ l.mark)) l.content rest) ≡ line_head k c p.rows n
  head_span n l h rest el head as_printed =
      let a = row_line_at n l el in
      let at : a.0.line ≡ length a.0.row.dashes = mark_line a.0 a.2 a.3 (cases_lt a.0.line (length a.0.row.dashes)) in
      let x = content_cut a.0.row.content in
      let content : l.content ≡ a.0.row.content = ap (λ (y : PrintedLine). y.content) (sym a.3) ∙ (a.2.last at).0 in
      let before : List ℕ = (s.before ++ print_lines (take n (printed_lines p.rows)) []) ++ (line_front l ++ l.mark) in
      let size : length before ≡ length (before_content (k + a.0.before) c) = search (rules, content_size, length-append, a, at) in
      let start : length before + length (head_front l.content) ≡ length (before_content (k + a.0.before) c ++ (x.0 ++ (x.1 ++ x.2))) =
      omega (arith, size, ap (λ y. length (head_front y)) content, length-append (before_content (k + a.0.before) c) (x.0 ++ (x.1 ++ x.2))) in
      spans_is _ _ (head_piece before l.content rest) (head_size before l.content rest h as_printed.written (sym as_printed.head ∙ head))
      ∙ ((λ i. Some (start i, head_end (start i + length (content_cut (content i)).3) (content i)))
      ∙ sym (ap (λ (o : Option RowLine). o >>= λ y. Some (head_extent (k + y.before) y.row c)) a.1))
    where
      mark_line : (q : RowLine) (d : IsPrintedLine p.rows n q) → d.line ≡ l → (q.line < length q.row.dashes) ⊎ (length q.row.dashes ≤ q.line) → q.line ≡ length q.row.dashes
      mark_line q d h1 h2 = search (rules, none-some)
