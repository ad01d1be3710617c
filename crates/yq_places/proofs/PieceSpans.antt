-- What the code answers for a part of a node is the span of its piece.
use Rattle.std.proofs.Common.{◌≡◌, ◌⊎◌, ℕ, zero, suc, ◌+◌, ◌-◌, ◌<◌, ◌≤◌, eqb, List, [], ◌∷◌, ◌++◌, length, take, drop, map, Option, Some}
use Rattle.std.proofs.Common.{None, is_some, option_map, option_and_then, Bool, true, false, cond, refl, sym, ap, ◌∙◌, subst, arith}
use Rattle.std.{proofs.Common.{append_assoc, append-nil, length-append, rules}, proofs.Math.Seq.drop-append_seam}
use Rattle.std.{proofs.lemmas.Bool.{cases_lt, eq-eqb, eqb-true, cond-true, cond-false}, proofs.lemmas.List.append_cancel_left}
use Rattle.std.{proofs.lemmas.Option.{slice_get-map, slice_get_within, none-some, same_Some}, specs.List.slice_get}
use Rattle.yq_core.{specs.Answers.◌>>=◌, specs.Paths.Step}
use Rattle.yq_core.{specs.Entries.{PlacedEntry, placed_entry_at, entry_place, content_place, locate_entry}, specs.Nodes.{bare, node_text}}
use Rattle.yq_core.{specs.Places.locate, proofs.PathLaws.path_places}
use Rattle.yq_row_table.specs.Exchange.{before_content, after_row}
use Rattle.yq_row_table.{specs.Rows.{Content, Nothing, Inline, Block, content_text, Row, Part, Cut, cut_text}, specs.View.rows_of}
use Rattle.yq_row_table.proofs.PlaceLaws.{place, content_then}
use Rattle.yq_outline.{proofs.KnownLaws.get_dropped, specs.Ends.{deeper_count, lines_end, reached}, specs.Group.{group, level_or, is_fine}}
use Rattle.yq_outline.specs.Lines.{head_of, tail_of, lines_of_rows}
use Rattle.yq_outline.specs.Outline.{Line, level, Outline, end, row, flatten, IsEven, IsWhole}
use Rattle.yq_outline.{specs.Places.{lines_before, lines_after, FoundLine, find}, specs.Positions.has_no_mark}
use Rattle.yq_outline.proofs.Decides.{flatten-group, even_from}
use Rattle.yq_places.specs.EntryReading.{lines_place, line_head, lines_content, line_content, line_entry, inline_node, placed_inline}
use Rattle.yq_places.{specs.EntryReading.{flow_entry, entry_from, content_from}, proofs.EntryPlaceLaws.{by_line, row_there}}
use Rattle.yq_places.proofs.RowPathLaws.{found_lines, found_place}
use Rattle.yq_places.specs.PrintedLines.{line_front, PrintedLine, print_line, print_lines, printed_lines, line_in, run_piece, lines_piece}
use Rattle.yq_places.specs.PathPieces.{BlockEntry, entry_piece, content_piece, FlowEntry, flow_at, content_inline, line_inline, flow_piece}
use Rattle.yq_places.specs.PathPieces.{flow_content, PrintedDocument, found_entry, piece_in_entry, piece_in}
use Rattle.yq_places.{proofs.PrintedTexts.lines_then, proofs.PieceTexts.{entry_text, item_text, entry_whole, at_whole}}
use Rattle.yq_places.proofs.PrintedLaws.{IsPrinted, ArePrinted, lines_are}
use Rattle.yq_places.proofs.FoundEntries.{lines_count, within_some, IsFound, entry_found, line_there, entry_is}
use Rattle.yq_places.{proofs.FlowPieces.{pieces, at_pieces, head_there}, proofs.PrintedRowLines.{IsPrintedLine, IsPlaced}}
use Rattle.yq_places.proofs.RunSpans.{get_some, content_size, row_line_at, run_span, head_span}
use Rattle.yq_places.{proofs.UnderCounts.{count_stops, count_holds, end_is}, proofs.FlowSpans.{item_place, value_place}}
use Rattle.yq_places.proofs.PieceSpelling.{bare_is}
use Rattle.yq_documents.{specs.LinesInRows.{RowLine, row_line}, specs.Pieces.{piece_span, head_piece}}
use Rattle.yq_core.specs.Tree as tree
use Rattle.yq_documents.specs.declared.path.Part.TheVariants as parts
use Rattle.yq_places.specs.EntryReading as places
use Rattle.yq_outline.specs.Outline as outlines

-- lists
pub line_more : (ls : List PrintedLine) (n : ℕ) (l : PrintedLine) → slice_get ls n ≡ Some l → print_lines (take (suc n) ls) [] ≡ print_lines (take n ls) (print_line l [])
line_more [] n l e = absurd (none-some _ e)
line_more (k ∷ ls) zero l e = ap (λ (x : PrintedLine). print_line x []) (same_Some _ _ e)
line_more (k ∷ ls) (suc n) l e = ap (print_line k) (line_more ls n l e)

whole_head : (h : Option tree.Node) (a : Outline) → IsWhole outlines.Bare h a → (n : tree.Node) × (h ≡ Some n)
whole_head h a h1 = search rules

-- a line of its own spells a node
pub bare_head : (e : ℕ) (l : PrintedLine) (us : List PrintedLine) (o : Outline) → IsEven e o → map line_in (l ∷ us) ≡ flatten o → has_no_mark l.line.mark ≡ true → (n : tree.Node) × (l.line.head ≡ Some n)
bare_head e l us end even lines t = cc
bare_head e l us (row x u a) even lines t = search (rules, bare_is, whole_head)

-- the lines of a document among those of a cut
module _ (c : Cut) (p : Part) (more : List Row) (k : ℕ) (before following : List ℕ) (there : drop k (rows_of c) ≡ p.rows ++ more) (placed_in : IsPlaced c k p (record { before = before; lines = printed_lines p.rows; after = following }))
    (as_printed : ArePrinted (printed_lines p.rows) following) (text : before ++ print_lines (printed_lines p.rows) following ≡ cut_text c) (fine : is_fine (group (map line_in (printed_lines p.rows))) ≡ true) where
  abbrev document : PrintedDocument
  document = record { before = before; lines = printed_lines p.rows; after = following }

  line_at : (n : ℕ) (l : PrintedLine) → slice_get (printed_lines p.rows) n ≡ Some l → slice_get (lines_of_rows p.rows) n ≡ Some l.line
  line_at n l e = ap (λ x. slice_get x n) (sym (lines_are p.rows)) ∙ (slice_get-map line_in (printed_lines p.rows) n ∙ ap (option_map line_in) e)

  -- the last line of a node is the last of its row
  pub last_line : (n : ℕ) (l : PrintedLine) → slice_get (printed_lines p.rows) n ≡ Some l → ((x : PrintedLine) → slice_get (printed_lines p.rows) (suc n) ≡ Some x → level x.line ≤ level l.line) →
      (b : RowLine) × (row_line n p.rows ≡ Some b) × (b.line ≡ length b.row.dashes)
  last_line n l e none_deeper = search (rules, row_line_at, cases_lt)

  -- the node that lines mean
  block_span : (from m : ℕ) (o : Outline) (e : ℕ) (rest : List ℕ) → from + m ≤ length (printed_lines p.rows) → IsEven e o → map line_in (take m (drop from (printed_lines p.rows))) ≡ flatten o →
      ArePrinted (take m (drop from (printed_lines p.rows))) rest →
      ((j : ℕ) → m ≡ suc j → (l x : PrintedLine) → slice_get (printed_lines p.rows) (from + j) ≡ Some l → slice_get (printed_lines p.rows) (suc (from + j)) ≡ Some x → level x.line ≤ level l.line) →
      option_map piece_span (lines_piece (before ++ print_lines (take from (printed_lines p.rows)) []) (take m (drop from (printed_lines p.rows))) rest) ≡ lines_content k c p.rows from (from + m)
  block_span from zero o e rest within even lines agrees_in last = sym (cond-true _ _ _ (eq-eqb from (from + 0) (omega arith)))
  block_span from (suc j) o e rest within even lines agrees_in last =
      let l = within_some (printed_lines p.rows) from (omega (arith, within)) in
      let us : List PrintedLine = take j (drop (suc from) (printed_lines p.rows)) in
      let split : take (suc j) (drop from (printed_lines p.rows)) ≡ l.0 ∷ us = ap (take (suc j)) (get_some (printed_lines p.rows) from l.0 l.1) in
      ap (λ x. option_map piece_span (lines_piece (before ++ print_lines (take from (printed_lines p.rows)) []) x rest)) split
      ∙ (go l.0 l.1 o even (ap (map line_in) (sym split) ∙ lines) (subst (λ x. ArePrinted x rest) split agrees_in) (has_no_mark l.0.line.mark) refl
      ∙ sym (cond-false _ _ _ (apart (eqb from (from + suc j)) refl) ∙ ap (λ (x : Option Line). x >>= λ y. cond (has_no_mark y.mark) (line_head k c p.rows from) (lines_place k c p.rows from (from + suc j - 1))) (line_at from l.0 l.1)))
    where
      apart : (b : Bool) → eqb from (from + suc j) ≡ b → b ≡ false
      apart b h1 = search (rules, eqb-true)

      go : (l : PrintedLine) → slice_get (printed_lines p.rows) from ≡ Some l → (o : Outline) → IsEven e o → map line_in (l ∷ take j (drop (suc from) (printed_lines p.rows))) ≡ flatten o →
          ArePrinted (l ∷ take j (drop (suc from) (printed_lines p.rows))) rest → (b : Bool) → has_no_mark l.line.mark ≡ b →
          option_map piece_span (cond b (head_piece ((before ++ print_lines (take from (printed_lines p.rows)) []) ++ (line_front l ++ l.mark)) l.content (print_lines (take j (drop (suc from) (printed_lines p.rows))) rest))
          (Some (run_piece (before ++ print_lines (take from (printed_lines p.rows)) []) l (take j (drop (suc from) (printed_lines p.rows))) rest))) ≡
          cond b (line_head k c p.rows from) (lines_place k c p.rows from (from + suc j - 1))
      go l el o even lines agrees_in true t =
          let h = bare_head e l (take j (drop (suc from) (printed_lines p.rows))) o even lines t in
          head_span c p more k document there placed_in refl from l h.0 (print_lines (take j (drop (suc from) (printed_lines p.rows))) rest) el h.1 agrees_in.0
      go l el o even lines agrees_in false t =
          let z = within_some (printed_lines p.rows) (from + j) (omega (arith, within)) in
          let b = last_line (from + j) z.0 z.1 (λ x ex. last j refl z.0 x z.1 ex) in
          run_span c p more k document there placed_in refl from j l z.0 rest b.0 el z.1 b.1 b.2 ∙ ap (lines_place k c p.rows from) (omega arith)

  -- the lines under a line end before one that is no deeper
  pub last_under : (n m : ℕ) (l z x : PrintedLine) → slice_get (printed_lines p.rows) n ≡ Some l → m ≡ deeper_count (level l.line) (drop (suc n) (map line_in (printed_lines p.rows))) →
      slice_get (printed_lines p.rows) (n + m) ≡ Some z → slice_get (printed_lines p.rows) (suc (n + m)) ≡ Some x → level x.line ≤ level z.line
  last_under n m l z x el count ez ex = omega (arith, first, deep m refl)
    where
      line : (j : ℕ) (w : PrintedLine) → slice_get (printed_lines p.rows) (suc n + j) ≡ Some w → slice_get (drop (suc n) (map line_in (printed_lines p.rows))) j ≡ Some w.line
      line j w ew = get_dropped (map line_in (printed_lines p.rows)) (suc n) j ∙ (slice_get-map line_in (printed_lines p.rows) (suc n + j) ∙ ap (option_map line_in) ew)

      first : level x.line ≤ level l.line
      first =
          count_stops (level l.line) (drop (suc n) (map line_in (printed_lines p.rows))) x.line
          (ap (slice_get (drop (suc n) (map line_in (printed_lines p.rows)))) (sym count) ∙ line m x (let same_at : suc n + m ≡ suc (n + m) = omega arith in ap (slice_get (printed_lines p.rows)) same_at ∙ ex))

      deep : (k : ℕ) → m ≡ k → level l.line ≤ level z.line
      deep zero is = search (rules, same_Some)
      deep (suc j) is =
          let there_is : suc n + j ≡ n + m = omega (arith, is) in
          omega (arith, count_holds (level l.line) (drop (suc n) (map line_in (printed_lines p.rows))) j z.line (omega (arith, is, count)) (line j z (ap (slice_get (printed_lines p.rows)) there_is ∙ ez)))

  -- An entry of the document, by the number of its line and how many are under it.
  pub record IsEntryAt (f : FoundLine) (n m : ℕ) (l : PrintedLine) (e : BlockEntry) : Type 0 where
    pub line : slice_get (printed_lines p.rows) n ≡ Some l
    pub line_is : l.line ≡ f.line
    pub before_is : e.before ≡ before ++ print_lines (take n (printed_lines p.rows)) []
    pub line_in_it : e.line ≡ l
    pub under_is : e.under ≡ take m (drop (suc n) (printed_lines p.rows))
    pub count : m ≡ deeper_count (level l.line) (drop (suc n) (map line_in (printed_lines p.rows)))
    pub ends : lines_end n (lines_of_rows p.rows) ≡ suc n + m
    pub fits : suc n + m ≤ length (printed_lines p.rows)
    pub found : IsFound document e f
    pub even : (d : ℕ) × IsEven d f.under
    pub all : entry_text e ≡ cut_text c

  pub entry_at_line : (y : Step) (ys rest : List Step) (f : FoundLine) → find y ys (group (map line_in (printed_lines p.rows))) ≡ Some (f, rest) →
      (e : BlockEntry) × (found_entry document f ≡ Some e) × (l : PrintedLine) × IsEntryAt f (length (lines_before f.place)) (length (flatten f.under)) l e
  entry_at_line y ys rest f is =
      let n : ℕ = length (lines_before f.place) in
      let m : ℕ = length (flatten f.under) in
      let whole_is : length (map line_in (printed_lines p.rows)) ≡ length (lines_before f.place ++ (f.line ∷ (flatten f.under ++ (flatten f.after ++ lines_after f.place)))) =
      ap length (found_lines (map line_in (printed_lines p.rows)) y ys rest f is) in
      let size : suc n + m ≤ length (printed_lines p.rows) = search (rules, lines_count, length-append, whole_is) in
      let l = line_there document y ys rest f is in
      let there_is = entry_is document f l.0 l.1 in
      let found = entry_found document y ys rest f _ is as_printed there_is in
      let ends = end_is (map line_in (printed_lines p.rows)) y ys rest f is fine in
      let even = (found_place (map line_in (printed_lines p.rows)) y ys rest f is fine).1.3 in (
        _,
        there_is,
        l.0,
        record {
          line = l.1;
          line_is = found.line;
          before_is = refl;
          line_in_it = refl;
          under_is = refl;
          count = sym ends.0 ∙ ap (λ (x : Line). deeper_count (level x) (drop (suc n) (map line_in (printed_lines p.rows)))) (sym found.line);
          ends = ap (lines_end n) (sym (lines_are p.rows)) ∙ ends.1;
          fits = size;
          found = found;
          even = (even.0, even.2);
          all = entry_whole document n m _ there_is ∙ text;
        },
      )

  entry_span : (f : FoundLine) (n m : ℕ) (l : PrintedLine) (e : BlockEntry) → IsEntryAt f n m l e → Some (piece_span (entry_piece e)) ≡ line_entry k c p.rows n
  entry_span f n m l e h =
      let z = within_some (printed_lines p.rows) (n + m) (omega (arith, h.fits)) in
      let b = last_line (n + m) z.0 z.1 (λ x ex. last_under n m l z.0 x h.line h.count z.1 ex) in
      (λ i. Some (piece_span (run_piece (h.before_is i) (h.line_in_it i) (h.under_is i) e.after)))
      ∙ (run_span c p more k document there placed_in refl n m l z.0 e.after b.0 h.line z.1 b.1 b.2 ∙ ap (lines_place k c p.rows n) (omega (arith, h.ends)))

  content_span : (f : FoundLine) (n m : ℕ) (l : PrintedLine) (e : BlockEntry) → IsEntryAt f n m l e → option_map piece_span (content_piece e) ≡ line_content k c p.rows n
  content_span f n m l e h =
      go l.line.head refl
      ∙ sym (ap (λ (o : Option Line). o >>= λ x. cond (is_some x.head) (line_head k c p.rows n) (lines_content k c p.rows (suc n) (lines_end n (lines_of_rows p.rows)))) (line_at n l h.line))
    where
      head_is : e.line.line.head ≡ l.line.head
      head_is = ap (λ (x : PrintedLine). x.line.head) h.line_in_it

      go : (o : Option tree.Node) → l.line.head ≡ o → option_map piece_span (content_piece e) ≡ cond (is_some l.line.head) (line_head k c p.rows n) (lines_content k c p.rows (suc n) (lines_end n (lines_of_rows p.rows)))
      go (Some x) head =
          ap (option_map piece_span) (cond-true _ _ _ (ap is_some (head_is ∙ head)))
          ∙ ((λ i. option_map piece_span (head_piece (h.before_is i ++ (line_front (h.line_in_it i) ++ (h.line_in_it i).mark)) (h.line_in_it i).content (print_lines e.under e.after)))
          ∙ (head_span c p more k document there placed_in refl n l x (print_lines e.under e.after) h.line head (subst (λ w. IsPrinted w (print_lines e.under e.after)) h.line_in_it h.found.as_printed.0)
          ∙ sym (cond-true _ _ _ (ap is_some head))))
      go None head =
          let start : (before ++ print_lines (take n (printed_lines p.rows)) []) ++ print_line l [] ≡ before ++ print_lines (take (suc n) (printed_lines p.rows)) [] =
          append_assoc before (print_lines (take n (printed_lines p.rows)) []) (print_line l [])
          ∙ ap (λ x. before ++ x) (sym (lines_then (take n (printed_lines p.rows)) [] (print_line l [])) ∙ sym (line_more (printed_lines p.rows) n l h.line)) in
          ap (option_map piece_span) (cond-false _ _ _ (ap is_some (head_is ∙ head)))
          ∙ ((λ i. option_map piece_span (lines_piece (h.before_is i ++ print_line (h.line_in_it i) []) (h.under_is i) e.after))
          ∙ (ap (λ x. option_map piece_span (lines_piece x (take m (drop (suc n) (printed_lines p.rows))) e.after)) start
          ∙ (block_span (suc n) m f.under h.even.0 e.after h.fits h.even.1 (ap (map line_in) (sym h.under_is) ∙ h.found.lines) (subst (λ x. ArePrinted x e.after) h.under_is h.found.as_printed.1)
          (λ j is w x ew ex.
          let here_is : suc n + j ≡ n + m = omega (arith, is) in
          let next_is : suc (suc n + j) ≡ suc (n + m) = omega (arith, is) in
          last_under n m l w x h.line h.count (ap (slice_get (printed_lines p.rows)) (sym here_is) ∙ ew) (ap (slice_get (printed_lines p.rows)) (sym next_is) ∙ ex))
          ∙ (ap (lines_content k c p.rows (suc n)) (sym h.ends)
          ∙ sym (cond-false _ _ _ (ap is_some head))))))

  -- an item in a line's head, by the places of the code
  cancel : (a b x y : List ℕ) → a ++ x ≡ b ++ y → length a ≡ length b → x ≡ y
  cancel a b x y e size = sym (drop-append_seam a x) ∙ (ap (drop (length a)) e ∙ (ap (λ j. drop j (b ++ y)) size ∙ drop-append_seam b y))

  items_agree : (o : Option FlowEntry) → ((w : FlowEntry) → o ≡ Some w → length (cut_text c) ≡ length (item_text w)) →
      (option_map entry_place (option_map (locate_entry (length (cut_text c))) (option_map pieces o)) ≡ option_map piece_span (option_map flow_piece o)) ×
      (option_and_then (λ (x : PlacedEntry). content_place x.1) (option_map (locate_entry (length (cut_text c))) (option_map pieces o)) ≡ option_map piece_span (o >>= flow_content))
  items_agree o h1 = search (rules, item_place, value_place)

  in_content : (t : Step) (ts : List Step) (x : tree.Node) (start : List ℕ) (y : Content) (rest : List ℕ) → Some x ≡ head_of y → cut_text c ≡ start ++ content_text y rest →
      (option_map piece_span (content_inline start y rest >>= λ w. option_map flow_piece (flow_at (t ∷ ts) w)) ≡ option_map entry_place (placed_entry_at (t ∷ ts) (None, locate (length (cut_text c)) (inline_node y) (tail_of y ++ rest)))) ×
      (option_map piece_span (content_inline start y rest >>= λ w. flow_at (t ∷ ts) w >>= flow_content) ≡
      option_and_then (λ (z : PlacedEntry). content_place z.1) (placed_entry_at (t ∷ ts) (None, locate (length (cut_text c)) (inline_node y) (tail_of y ++ rest))))
  unfolding locate
  in_content t ts x start (Nothing tail) rest some all = absurd (none-some _ (sym some))
  in_content t ts x start (Block space anchor block) rest some all = (refl, refl)
  in_content t ts x start (Inline space node tail) rest some all =
      let z : FlowEntry = record { before = start ++ space; key = bare; node = node; after = tail ++ rest } in
      let own_text : cut_text c ≡ item_text z = all ∙ sym (append_assoc start space (node_text node (tail ++ rest))) in
      let places_are : placed_entry_at (t ∷ ts) (locate_entry (length (cut_text c)) (pieces z)) ≡ option_map (locate_entry (length (cut_text c))) (option_map pieces (flow_at (t ∷ ts) z)) =
      path_places (length (cut_text c)) (t ∷ ts) (pieces z) ∙ ap (option_map (locate_entry (length (cut_text c)))) (sym (at_pieces (t ∷ ts) z)) in
      let r = items_agree (flow_at (t ∷ ts) z) (λ w at_w. ap length (own_text ∙ sym (at_whole (t ∷ ts) z w at_w))) in
      (sym r.0 ∙ ap (option_map entry_place) (sym places_are), sym r.1 ∙ ap (option_and_then (λ (w : PlacedEntry). content_place w.1)) (sym places_are))

  flow_span : (f : FoundLine) (n m : ℕ) (l : PrintedLine) (e : BlockEntry) (t : Step) (ts : List Step) → IsEntryAt f n m l e → (h : tree.Node) → f.line.head ≡ Some h →
      (option_map piece_span (line_inline e >>= λ x. option_map flow_piece (flow_at (t ∷ ts) x)) ≡ option_map entry_place (flow_entry k c p.rows n (t ∷ ts))) ×
      (option_map piece_span (line_inline e >>= λ x. flow_at (t ∷ ts) x >>= flow_content) ≡ option_and_then (λ (x : PlacedEntry). content_place x.1) (flow_entry k c p.rows n (t ∷ ts)))
  flow_span f n m l e t ts h x head =
      let q = row_line_at c p more k document there placed_in refl n l h.line in
      let row_line_is : flow_entry k c p.rows n (t ∷ ts) ≡ placed_entry_at (t ∷ ts) (None, placed_inline (k + q.0.before) q.0.row c) = cc (q.1) in
      let r = go q.0 q.1 q.2 q.3 (mark_last q.0 q.2 q.3 (cases_lt q.0.line (length q.0.row.dashes))) q.0.row.content refl in
      (r.0 ∙ ap (option_map entry_place) (sym row_line_is), r.1 ∙ ap (option_and_then (λ (z : PlacedEntry). content_place z.1)) (sym row_line_is))
    where
      line_head_is : l.line.head ≡ Some x
      line_head_is = ap (λ (w : Line). w.head) h.line_is ∙ head

      mark_last : (q : RowLine) (d : IsPrintedLine p.rows n q) → d.line ≡ l → (q.line < length q.row.dashes) ⊎ (length q.row.dashes ≤ q.line) → q.line ≡ length q.row.dashes
      mark_last q d h1 h2 = search (rules, none-some)

      go : (q : RowLine) → row_line n p.rows ≡ Some q → (d : IsPrintedLine p.rows n q) → d.line ≡ l → q.line ≡ length q.row.dashes → (y : Content) → q.row.content ≡ y →
          (option_map piece_span (line_inline e >>= λ w. option_map flow_piece (flow_at (t ∷ ts) w)) ≡ option_map entry_place (placed_entry_at (t ∷ ts) (None, placed_inline (k + q.before) q.row c))) ×
          (option_map piece_span (line_inline e >>= λ w. flow_at (t ∷ ts) w >>= flow_content) ≡ option_and_then (λ (z : PlacedEntry). content_place z.1) (placed_entry_at (t ∷ ts) (None, placed_inline (k + q.before) q.row c)))
      go q is d line_is last y content =
          let own : e.line.content ≡ y = ap (λ (w : PrintedLine). w.content) h.line_in_it ∙ (sym (ap (λ (w : PrintedLine). w.content) line_is) ∙ ((d.last last).0 ∙ content)) in
          let item : line_inline e ≡ content_inline (e.before ++ (line_front e.line ++ e.line.mark)) y (print_lines e.under e.after) = cc in
          let code : placed_entry_at (t ∷ ts) (None, placed_inline (k + q.before) q.row c) ≡ placed_entry_at (t ∷ ts) (None, locate (length (cut_text c)) (inline_node y) (tail_of y ++ after_row (k + q.before) c)) =
          ap (λ w. placed_entry_at (t ∷ ts) (None, locate (length (cut_text c)) (inline_node w) (tail_of w ++ after_row (k + q.before) c))) content in
          let size : length (before_content (k + q.before) c) ≡ length (e.before ++ (line_front e.line ++ e.line.mark)) =
          omega (
            arith,
            content_size c p more k document there placed_in refl n q d is last,
            ap length h.before_is,
            ap (λ (w : PrintedLine). length (line_front w)) (line_is ∙ sym h.line_in_it),
            ap (λ (w : PrintedLine). length w.mark) (line_is ∙ sym h.line_in_it),
            length-append {A = ℕ},
          ) in
          let split : before_content (k + q.before) c ++ content_text y (after_row (k + q.before) c) ≡ (e.before ++ (line_front e.line ++ e.line.mark)) ++ content_text y (print_lines e.under e.after) =
          ap (λ w. before_content (k + q.before) c ++ content_text w (after_row (k + q.before) c)) (sym content)
          ∙ (sym (place c (k + q.before) q.row (row_there c p.rows more k n q there is))
          ∙ (sym h.all
          ∙ (ap (λ w. e.before ++ (line_front e.line ++ (e.line.mark ++ content_text w (print_lines e.under e.after)))) own
          ∙ (ap (λ w. e.before ++ w) (sym (append_assoc (line_front e.line) e.line.mark (content_text y (print_lines e.under e.after))))
          ∙ sym (append_assoc e.before (line_front e.line ++ e.line.mark) (content_text y (print_lines e.under e.after))))))) in
          let after : after_row (k + q.before) c ≡ print_lines e.under e.after =
          append_cancel_left (content_text y []) (after_row (k + q.before) c) (print_lines e.under e.after)
          (sym (content_then y [] (after_row (k + q.before) c)) ∙ (cancel (before_content (k + q.before) c) (e.before ++ (line_front e.line ++ e.line.mark)) _ _ split size ∙ content_then y [] (print_lines e.under e.after))) in
          let all : cut_text c ≡ (e.before ++ (line_front e.line ++ e.line.mark)) ++ content_text y (print_lines e.under e.after) =
          place c (k + q.before) q.row (row_there c p.rows more k n q there is) ∙ (ap (λ w. before_content (k + q.before) c ++ content_text w (after_row (k + q.before) c)) content ∙ split) in
          let r = in_content t ts x (e.before ++ (line_front e.line ++ e.line.mark)) y (print_lines e.under e.after) (sym own_head ∙ ap head_of own) all in
          let placed_is : placed_entry_at (t ∷ ts) (None, placed_inline (k + q.before) q.row c) ≡ placed_entry_at (t ∷ ts) (None, locate (length (cut_text c)) (inline_node y) (tail_of y ++ print_lines e.under e.after)) =
          code ∙ ap (λ w. placed_entry_at (t ∷ ts) (None, locate (length (cut_text c)) (inline_node y) (tail_of y ++ w))) after in (
            ap (λ o. option_map piece_span (o >>= λ w. option_map flow_piece (flow_at (t ∷ ts) w))) item ∙ (r.0 ∙ ap (option_map entry_place) (sym placed_is)),
            ap (λ o. option_map piece_span (o >>= λ w. flow_at (t ∷ ts) w >>= flow_content)) item ∙ (r.1 ∙ ap (option_and_then (λ (z : PlacedEntry). content_place z.1)) (sym placed_is)),
          )
        where
          own_head : head_of e.line.content ≡ Some x
          own_head = sym h.found.as_printed.0.head ∙ (ap (λ (w : PrintedLine). w.line.head) h.line_in_it ∙ line_head_is)

  -- the parts of the node to which steps lead
  content_from_span : (y : Step) (ys rest : List Step) (f : FoundLine) → find y ys (group (map line_in (printed_lines p.rows))) ≡ Some (f, rest) →
      option_map piece_span (found_entry document f >>= piece_in_entry parts.Content rest) ≡ content_from k c p.rows (length (lines_before f.place)) rest
  content_from_span y ys [] f is =
      let e = entry_at_line y ys [] f is in
      ap (λ o. option_map piece_span (o >>= piece_in_entry parts.Content [])) e.1 ∙ content_span f (length (lines_before f.place)) (length (flatten f.under)) e.2 e.0 e.3
  content_from_span y ys (t ∷ ts) f is =
      let e = entry_at_line y ys (t ∷ ts) f is in
      let h = head_there (map line_in (printed_lines p.rows)) y ys t ts f is fine in
      ap (λ o. option_map piece_span (o >>= piece_in_entry parts.Content (t ∷ ts))) e.1 ∙ (flow_span f (length (lines_before f.place)) (length (flatten f.under)) e.2 e.0 t ts e.3 h.0 h.1).1

  entry_from_span : (y : Step) (ys rest : List Step) (f : FoundLine) → find y ys (group (map line_in (printed_lines p.rows))) ≡ Some (f, rest) →
      option_map piece_span (found_entry document f >>= piece_in_entry parts.Entry rest) ≡ entry_from k c p.rows (length (lines_before f.place)) rest
  entry_from_span y ys [] f is =
      let e = entry_at_line y ys [] f is in
      ap (λ o. option_map piece_span (o >>= piece_in_entry parts.Entry [])) e.1 ∙ entry_span f (length (lines_before f.place)) (length (flatten f.under)) e.2 e.0 e.3
  entry_from_span y ys (t ∷ ts) f is =
      let e = entry_at_line y ys (t ∷ ts) f is in
      let h = head_there (map line_in (printed_lines p.rows)) y ys t ts f is fine in
      ap (λ o. option_map piece_span (o >>= piece_in_entry parts.Entry (t ∷ ts))) e.1 ∙ (flow_span f (length (lines_before f.place)) (length (flatten f.under)) e.2 e.0 t ts e.3 h.0 h.1).0

  pub contents_span : (steps : List Step) → option_map piece_span (piece_in parts.Content steps document) ≡ places.node_place_of k c p.rows steps
  contents_span [] =
      let whole_list : take (length (printed_lines p.rows)) (printed_lines p.rows) ≡ printed_lines p.rows = take_whole (printed_lines p.rows) in
      ap (λ x. option_map piece_span (lines_piece x (printed_lines p.rows) following)) (sym (append-nil before))
      ∙ (ap (λ x. option_map piece_span (lines_piece (before ++ []) x following)) (sym whole_list)
      ∙ (block_span 0 (length (printed_lines p.rows)) (group (map line_in (printed_lines p.rows))) (level_or 0 (group (map line_in (printed_lines p.rows)))) following (omega arith)
      (even_from (level_or 0 (group (map line_in (printed_lines p.rows)))) (group (map line_in (printed_lines p.rows))) fine)
      (ap (map line_in) whole_list ∙ sym (flatten-group (map line_in (printed_lines p.rows)))) (subst (λ x. ArePrinted x following) (sym whole_list) as_printed)
      (λ j is l x el ex. absurd (omega (arith, is, slice_get_within (printed_lines p.rows) (suc (0 + j)) x ex)))
      ∙ ap (lines_content k c p.rows 0) (sym (omega (arith, ap length (lines_are p.rows), lines_count (printed_lines p.rows))))))
    where
      take_whole : {A : Type 0} (xs : List A) → take (length xs) xs ≡ xs
      take_whole [] = refl
      take_whole (x ∷ xs) = ap (λ l. x ∷ l) (take_whole xs)
  contents_span (y ∷ ys) = go (find y ys (group (map line_in (printed_lines p.rows)))) refl ∙ ap (λ ls. reached (y ∷ ys) ls >>= λ x. content_from k c p.rows x.0 x.1) (lines_are p.rows)
    where
      go : (o : Option (FoundLine × List Step)) → find y ys (group (map line_in (printed_lines p.rows))) ≡ o →
          option_map piece_span (o >>= λ f. found_entry document f.0 >>= piece_in_entry parts.Content f.1) ≡ (by_line o >>= λ x. content_from k c p.rows x.0 x.1)
      go o h1 = search (rules, content_from_span)

  pub entries_span : (steps : List Step) → option_map piece_span (piece_in parts.Entry steps document) ≡ places.entry_of k c p.rows steps
  entries_span steps = search (rules, lines_are, by_line, entry_from_span)
