-- From paths to the rows in which flow collections are, and the text outside them.
use Rattle.std.proofs.Common.{◌≡◌, ℕ, zero, suc, ◌+◌, ◌-◌, List, [], ◌∷◌, ◌++◌, length, Some, refl, sym, ap, ◌∙◌, subst, arith}
use Rattle.std.{proofs.Common.{append_assoc, length-append, rules}, proofs.lemmas.Bool.{lt-ltb, le-ltb, cond-true, cond-false}}
use Rattle.std.{proofs.lemmas.Option.none-some, specs.List.slice_get}
use Rattle.yq_core.{specs.Paths.Step, proofs.Bools.bind_some, specs.Collections.{CollPieces, coll_along}, specs.Nodes.{FlowNode, node_text}}
use Rattle.yq_outline.{specs.Group.level_or, specs.Outline.{Line, Outline, flatten}, specs.Places.{lines_before, lines_after, FoundLine}}
use Rattle.yq_outline.{proofs.Decides.flatten-group, proofs.PlaceLaws.placed, specs.Lines.lines_of_rows}
use Rattle.yq_row_table.specs.Exchange.{before_content, text_after_row, after_row, exchange, with_content, with_content_at}
use Rattle.yq_row_table.specs.Rows.{Content, Inline, Row, content_text, rows_text, Part, Cut, last, marked, cut_text}
use Rattle.yq_row_table.{specs.Splices.{after_part, nth_part}, specs.View.rows_of, proofs.PlaceLaws.{place, new_place}}
use Rattle.yq_row_table.proofs.splices.SpliceTexts.{own_gap, own_end}
use Rattle.yq_documents.{specs.Documents.document_parts, specs.Reading.part_outline, specs.LinesInRows.{row_line, document_row}}
use Rattle.yq_documents.{specs.PartNumbers.{part_number, rows_to}, proofs.PartNumberLaws.part_there}
use Rattle.yq_places.{specs.FlowNodes.{content_flow, find_head}, proofs.FlowPlaceLaws.mark_row_line, proofs.FoundEntries.middle}
use Rattle.yq_edit_rules.{specs.Appends.inserted, specs.Changed.put_part, specs.DocumentRows.after_document}
use Rattle.yq_edit_rules.{specs.FlowRows.{InlineRow, FlowFound, RowTexts}, proofs.FlowLineLaws.{head_takes, head_whole}}
use Rattle.yq_edit_rules.{proofs.LineLaws.row_line_splits, proofs.PartLaws.document_known}

-- ---- a row among rows

row_there : (front : List Row) (r : Row) (back more : List Row) → slice_get ((front ++ (r ∷ back)) ++ more) (length front) ≡ Some r
row_there [] r back more = refl
row_there (x ∷ front) r back more = row_there front r back more

after_there : (front : List Row) (r : Row) (back : List Row) (rest : List ℕ) → text_after_row (length front) (front ++ (r ∷ back)) rest ≡ rows_text back rest
after_there [] r back rest = refl
after_there (x ∷ front) r back rest = after_there front r back rest

content_there : (front : List Row) (r : Row) (back : List Row) (x : Content) → with_content_at (length front) x (front ++ (r ∷ back)) ≡ front ++ (with_content x r ∷ back)
content_there [] r back x = refl
content_there (y ∷ front) r back x = ap (λ (rs : List Row). y ∷ rs) (content_there front r back x)

more_there : (xs ys : List Row) (a b : ℕ) → slice_get (xs ++ ys) ((length xs + a) + b) ≡ slice_get ys (a + b)
more_there [] ys a b = let same : (length {A = Row} [] + a) + b ≡ a + b = omega arith in ap (slice_get ys) same
more_there (x ∷ xs) ys a b = let same : (length (x ∷ xs) + a) + b ≡ suc ((length xs + a) + b) = omega arith in ap (slice_get (x ∷ (xs ++ ys))) same ∙ more_there xs ys a b

-- ---- the same row of a document, counted through all rows

pub record InCut (i : ℕ) (c : Cut) (p : Part) (front : List Row) (r : Row) (back : List Row) : Type 0 where
  pub there : slice_get (rows_of c) (rows_to i c + length front) ≡ Some r
  pub after : after_row (rows_to i c + length front) c ≡ rows_text back (p.end ++ after_part i c)
  pub exchanged : (x : Content) → exchange (rows_to i c + length front) x c ≡ put_part i (inserted front (with_content x r ∷ []) back p) c

part_content : (front : List Row) (r : Row) (back : List Row) (end : List ℕ) (x : Content) →
    record { rows = with_content_at (length front) x (front ++ (r ∷ back)); end = end } ≡ inserted front (with_content x r ∷ []) back (record { rows = front ++ (r ∷ back); end = end })
part_content front r back end x = simp (content_there, own_gap, own_end)

last_row : (i : ℕ) (front : List Row) (r : Row) (back : List Row) (end : List ℕ) → InCut i (last (record { rows = front ++ (r ∷ back); end = end })) (record { rows = front ++ (r ∷ back); end = end }) front r back
last_row i front r back end =
    let j : 0 + length front ≡ length front = omega arith in
    record {
      there = ap (slice_get (front ++ (r ∷ back))) j ∙ (ap (λ (rs : List Row). slice_get rs (length front)) (sym (Rattle.std.proofs.Common.append-nil (front ++ (r ∷ back)))) ∙ row_there front r back []);
      after = ap (λ n. text_after_row n (front ++ (r ∷ back)) (end ++ [])) j ∙ after_there front r back (end ++ []);
      exchanged = λ x. ap (λ n. exchange n x (last (record { rows = front ++ (r ∷ back); end = end }))) j ∙ ap last (part_content front r back end x);
    }

first_row : (front : List Row) (r : Row) (back : List Row) (end marker : List ℕ) (c : Cut) →
    InCut zero (marked (record { rows = front ++ (r ∷ back); end = end }) marker c) (record { rows = front ++ (r ∷ back); end = end }) front r back
first_row front r back end marker c =
    let j : 0 + length front ≡ length front = omega arith in
    let p : Part = record { rows = front ++ (r ∷ back); end = end } in
    let less = lt-ltb (length front) (length (front ++ (r ∷ back))) (omega (arith, length-append front (r ∷ back))) in
    record {
      there = ap (slice_get ((front ++ (r ∷ back)) ++ rows_of c)) j ∙ row_there front r back (rows_of c);
      after = ap (λ n. after_row n (marked p marker c)) j ∙ (cond-true _ _ _ less ∙ after_there front r back (end ++ (marker ++ cut_text c)));
      exchanged = λ x. ap (λ n. exchange n x (marked p marker c)) j ∙ (cond-true _ _ _ less ∙ ap (λ (q : Part). marked q marker c) (part_content front r back end x));
    }

in_cut : (i : ℕ) (c : Cut) (front : List Row) (r : Row) (back : List Row) (end : List ℕ) → record { rows = front ++ (r ∷ back); end = end } ≡ nth_part i c →
    InCut i c (record { rows = front ++ (r ∷ back); end = end }) front r back
in_cut i (last q) front r back end same = subst (λ (x : Part). InCut i (last x) (record { rows = front ++ (r ∷ back); end = end }) front r back) same (last_row i front r back end)
in_cut zero (marked q marker c) front r back end same =
    subst (λ (x : Part). InCut zero (marked x marker c) (record { rows = front ++ (r ∷ back); end = end }) front r back) same (first_row front r back end marker c)
in_cut (suc i) (marked q marker c) front r back end e = search (rules, arith, le-ltb, more_there, cond-false, in_cut i c front r back end e)

pub row_in_cut : (c : Cut) (k : ℕ) (p : Part) (front : List Row) (r : Row) (back : List Row) → slice_get (document_parts c) k ≡ Some p → p.rows ≡ front ++ (r ∷ back) → InCut (part_number k c) c p front r back
row_in_cut c k p front r back there rows =
    let same : record { rows = front ++ (r ∷ back); end = p.end } ≡ p = ap (λ (rs : List Row). record { rows = rs; end = p.end }) (sym rows) in
    subst (λ (x : Part). InCut (part_number k c) c x front r back) same (in_cut (part_number k c) c front r back p.end (same ∙ sym (part_there c k p there)))

-- ---- texts

pub row_texts : RowTexts
row_texts c k p i there rows content =
    let h = row_in_cut c k p i.front i.row i.back there rows in
    let n : ℕ = document_row k c + length i.front in
    let u : List ℕ = rows_text i.back (p.end ++ after_document k c) in
    let split : (m : FlowNode) → before_content n c ++ content_text (Inline i.space m i.tail) (after_row n c) ≡ (before_content n c ++ i.space) ++ node_text m (i.tail ++ u) =
    λ m. ap (λ (x : List ℕ). before_content n c ++ content_text (Inline i.space m i.tail) x) h.after ∙ sym (append_assoc (before_content n c) i.space (node_text m (i.tail ++ u))) in
    record {
      before = before_content n c ++ i.space;
      old = place c n i.row h.there ∙ (ap (λ (x : Content). before_content n c ++ content_text x (after_row n c)) content ∙ split i.node);
      new = λ m. ap cut_text (sym (h.exchanged (Inline i.space m i.tail))) ∙ (new_place c n i.row (Inline i.space m i.tail) h.there ∙ split m);
    }

-- ---- paths

-- The content of a row holds a collection in an inline node.
record InContent (steps : List Step) (x : Content) (rest : List ℕ) (w : CollPieces) : Type 0 where
  space : List ℕ
  node : FlowNode
  tail : List ℕ
  is : x ≡ Inline space node tail
  along : coll_along steps node (tail ++ rest) ≡ Some w

in_content : (steps : List Step) (x : Content) (rest : List ℕ) (w : CollPieces) → content_flow steps x rest ≡ Some w → InContent steps x rest w
in_content steps x rest w h1 = search (rules, none-some)

pub flow_found : FlowFound
flow_found t c k steps w read e =
    let d = bind_some (slice_get (document_parts c) k) e in
    let p : Part = d.0 in
    let known = document_known t c k p (record { read = read; there = d.1 }) in
    let o : Outline = part_outline p in
    let x = bind_some (find_head steps o) d.2 in
    let f : FoundLine = x.0.0 in
    let rest : List Step = x.0.1 in
    let n : ℕ = length (lines_before f.place) in
    let s = bind_some (row_line n p.rows) x.2 in
    let a = row_line_splits n p.rows s.0 s.1 in
    let y = in_content rest s.0.row.content (after_row (document_row k c + s.0.before) c) w s.2 in
    let i : InlineRow = record { front = a.front; row = s.0.row; back = a.back; space = y.space; node = y.node; tail = y.tail } in
    let h = row_in_cut c k p a.front s.0.row a.back d.1 a.rows_are in
    let lines : lines_of_rows p.rows ≡ lines_before f.place ++ (f.line ∷ (flatten f.under ++ (flatten f.after ++ lines_after f.place))) =
    sym (flatten-group (lines_of_rows p.rows)) ∙ (ap flatten (sym (head_whole (level_or 0 o) o steps f rest known.even x.1)) ∙ placed f f.line f.under) in
    let m = mark_row_line p.rows n f.line (ap (λ (ls : List Line). slice_get ls n) lines ∙ middle (lines_before f.place) _ f.line) (head_takes (level_or 0 o) o steps f rest known.even x.1) in
    record {
      part = p;
      there = d.1;
      line = f;
      rest = rest;
      row = i;
      at = search (rules, arith);
    }
