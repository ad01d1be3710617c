-- Comments of items and entries, put and taken away.
use Rattle.std.proofs.Common.{◌≡◌, ℕ, ◌+◌, ◌≤◌, List, [], ◌∷◌, ◌++◌, length, Option, refl, sym, ap, ◌∙◌, subst, append_assoc, length-append}
use Rattle.std.{proofs.Common.{arith, rules}, proofs.lemmas.Bool.false≢true}
use mathlib.Core.List.{head-eq_of_cons-eq}
use Rattle.yq_core.specs.Characters.{is_text}
use Rattle.yq_text.specs.Limit.{text_limit}
use Rattle.yq_outline.{specs.Comments.{head_comment, line_comment}, specs.Group.level_or, specs.Laws.with_lines}
use Rattle.yq_outline.{specs.Lines.{tail_of, mark_line, lines_of_rows}, specs.Outline.{Line, level, flatten, label}}
use Rattle.yq_outline.{specs.Places.{lines_before, lines_after, FoundLine}, proofs.Decides.flatten-group}
use Rattle.yq_row_table.{specs.Grammar.IsCut, specs.Rows.{Content, Row, mark_column, parent_indent, rows_text, Part, Cut, cut_text}}
use Rattle.yq_row_table.{specs.Seams.{TailFits, retail, with_tail}, specs.Splices.{first_gap, nth_part, splice}}
use Rattle.yq_row_table.{proofs.splices.RowReplaced.tail_replaced, proofs.splices.SpliceTexts.own_gap}
use Rattle.yq_documents.{specs.Documents.{HaveFitKeys, HasShortRoot, lead_of}, specs.Reading.part_outline, specs.PartNumbers.part_number}
use Rattle.yq_documents.specs.TreeEdits.{with_line_comment}
use Rattle.yq_places.{specs.RowPaths.IsReadable, proofs.RemovalLines.front_some, proofs.UnderExchange.lines_append}
use Rattle.yq_edit_rules.{specs.Changed.put_document, specs.Moved.dash_lines, specs.Siblings.{IsEntryAt, NodeLines, put_lines}}
use Rattle.yq_edit_rules.{proofs.AnchorLaws.{fit_parts, fit_from}, proofs.CollectionLaws.relabelled, proofs.EditedLaws.led_as}
use Rattle.yq_edit_rules.{proofs.BlockChangeLaws.entry_relabelled, proofs.PlacedLaws.{around, same_parts}}
use Rattle.yq_edit_rules.{specs.LineRows.lines_before_entry, specs.DocumentRows.{IsDocumentPart, Known, after_document}}
use Rattle.yq_edit_rules.{specs.LineComments.{retailed, LineCommented}, proofs.LineLaws.{above_mark, mark_after, dashes_count}}
use Rattle.yq_edit_rules.proofs.PartLaws.{part_numbered, rows_put, document_known, is_put}

-- The line of an item or entry, and the lines with another in its place.
pub record OneLine (p : Part) (h : NodeLines) (f : FoundLine) (a : List Line) (x : Line) (z : List Line) : Type 0 where
  pub is : x ≡ f.line
  pub put : (l : Line) → put_lines h (with_lines f (l ∷ flatten f.under)) ≡ a ++ (l ∷ z)

pub one_line : (t : List ℕ) (c : Cut) (p : Part) (steps : List Rattle.yq_core.specs.Paths.Step) (s : Rattle.yq_core.specs.Paths.Step) (h : NodeLines) (f : FoundLine) (a : List Line) (x : Line) (z : List Line) →
    Known t c p → IsEntryAt steps s (part_outline p) h f →
    lines_of_rows p.rows ≡ a ++ (x ∷ z) → length a ≡ lines_before_entry h f → OneLine p h f a x z
one_line t c p steps s h f a x z old e lines size =
    let b : List Line = lines_before h.place ++ lines_before f.place in
    let w : List Line = flatten f.under ++ ((flatten f.after ++ lines_after f.place) ++ lines_after h.place) in
    let place : (l : Line) → put_lines h (with_lines f (l ∷ flatten f.under)) ≡ b ++ (l ∷ w) = search (rules, around) in
    let olds = (relabelled (level_or 0 (part_outline p)) (part_outline p) steps h s f (λ y. y) f.line old.even e (record { level_is = refl; head_is = refl; anchor_is = refl; label_is = refl })).0 in
    let parts =
    same_parts a (x ∷ []) z b (f.line ∷ []) w (sym lines ∙ (sym (flatten-group (lines_of_rows p.rows)) ∙ (olds ∙ place f.line))) (size ∙ sym (length-append (lines_before h.place) (lines_before f.place))) refl in
    record { is = head-eq_of_cons-eq parts.1; put = λ l. place l ∙ (λ i. sym parts.0 i ++ (l ∷ sym parts.2 i)) }

-- a row with another tail
pub fit_retail : (front : List Row) (r : Row) (back : List Row) (tail : List ℕ) → HaveFitKeys (front ++ (r ∷ back)) → HaveFitKeys (front ++ (retail tail r ∷ back))
fit_retail front r back tail h = search (rules, fit_parts front (r ∷ back) h, fit_from)

pub short_retail : (front : List Row) (r : Row) (back : List Row) (tail : List ℕ) → HasShortRoot (front ++ (r ∷ back)) → HasShortRoot (front ++ (retail tail r ∷ back))
short_retail [] r back tail h = (search rules) ∙ h
short_retail (q ∷ front) r back tail h = h

pub lead_retail : (front : List Row) (r : Row) (back : List Row) (tail : List ℕ) (p q : Part) → p.rows ≡ front ++ (r ∷ back) → q.rows ≡ front ++ (retail tail r ∷ back) → lead_of q ≡ lead_of p
lead_retail [] r back tail p q e n = ap (λ (rs : List Row). head_comment (Rattle.yq_row_table.specs.Splices.first_gap rs q.end)) n ∙ ap (λ (rs : List Row). head_comment (Rattle.yq_row_table.specs.Splices.first_gap rs p.end)) (sym e)
lead_retail (x ∷ front) r back tail p q e n = ap (λ (rs : List Row). head_comment (Rattle.yq_row_table.specs.Splices.first_gap rs q.end)) n
    ∙ ap (λ (rs : List Row). head_comment (Rattle.yq_row_table.specs.Splices.first_gap rs p.end)) (sym e)

-- the lines of rows, of which one has another tail
pub last_lines : (front : List Row) (r : Row) (back : List Row) (c : Content) →
    lines_of_rows (front ++ (record r { content = c } ∷ back)) ≡ (lines_of_rows front ++ dash_lines (head_comment r.gap) r.column r.dashes)
    ++ (mark_line (above_mark (head_comment r.gap) r.dashes) (mark_column r) r.mark c ∷ lines_of_rows back)
last_lines front r back c = simp (above_mark, lines_append, mark_after, append_assoc)

-- the cut
tail_cut : (t : List ℕ) (c : Cut) (k : ℕ) (p : Part) (front back : List Row) (r : Row) (tail : List ℕ) → IsDocumentPart t c k p → IsCut t c → p.rows ≡ front ++ (r ∷ back) →
    TailFits (parent_indent r) tail r.content (rows_text back (p.end ++ after_document k c)) → IsReadable (cut_text (put_document k (retailed front r back tail p) c)) →
    IsCut (cut_text (put_document k (retailed front r back tail p) c)) (put_document k (retailed front r back tail p) c)
tail_cut t c k p front back r tail old cut rows fits new =
    let j = part_number k c in
    let is : nth_part j c ≡ p = (part_numbered c k p old.there).0 in
    let whole_is : splice j (length front) (length front + 1) (retail tail r ∷ []) (first_gap back p.end) c ≡ put_document k (retailed front r back tail p) c =
    rows_put c k p front (r ∷ []) back (retail tail r ∷ []) (first_gap back p.end) old.there rows in
    let one : length front + 1 ≡ Rattle.std.proofs.Common.suc (length front) = omega arith in
    let same : splice j (length front) (Rattle.std.proofs.Common.suc (length front)) (retail tail r ∷ []) (first_gap back (nth_part j c).end) c ≡ put_document k (retailed front r back tail p) c =
    (λ i. splice j (length front) (sym one i) (retail tail r ∷ []) (first_gap back (is i).end) c) ∙ whole_is in
    subst (λ (x : Cut). IsCut (cut_text x) x) same
    (tail_replaced t c j front r back tail cut (ap (λ (x : Part). x.rows) is ∙ rows) (subst (λ (x : Part). TailFits (parent_indent r) tail r.content (rows_text back (x.end ++ after_document k c))) (sym is) fits)
    (ap (λ (x : Cut). is_text (cut_text x)) same ∙ new.characters) (subst (λ (x : Cut). length (cut_text x) ≤ text_limit) (sym same) new.size))

pub line_commented : LineCommented
unfolding level
line_commented t c k p steps s h f front back r tail old at takes number new =
    let is = document_known t c k p old in
    let q : Part = retailed front r back tail p in
    let there : q.rows ≡ front ++ (retail tail r ∷ back) = ap (λ (rs : List Row). front ++ (retail tail r ∷ rs)) (own_gap back p.end) in
    let put =
    is_put t c k p q old (ap Rattle.yq_row_table.specs.Grammar.no_rows there ∙ front_some front (retail tail r) back) new (tail_cut t c k p front back r tail old is.cut takes.rows_are takes.fits new)
    (subst HaveFitKeys (sym there) (fit_retail front r back tail (subst HaveFitKeys takes.rows_are is.document.keys)))
    (subst HasShortRoot (sym there) (short_retail front r back tail (subst HasShortRoot takes.rows_are is.document.short))) in
    let a : List Line = lines_of_rows front ++ dash_lines (head_comment r.gap) r.column r.dashes in
    let x : Line = mark_line (above_mark (head_comment r.gap) r.dashes) (mark_column r) r.mark r.content in
    let l : Line = mark_line (above_mark (head_comment r.gap) r.dashes) (mark_column r) r.mark (with_tail tail r.content) in
    let size : length a ≡ lines_before_entry h f = search (rules, length-append, dashes_count) in
    let one = one_line t c p steps s h f a x (lines_of_rows back) is at (ap lines_of_rows takes.rows_are ∙ last_lines front r back r.content) size in
    let lines : lines_of_rows q.rows ≡ put_lines h (with_lines f (l ∷ flatten f.under)) = ap lines_of_rows there ∙ (last_lines front r back (with_tail tail r.content) ∙ sym (one.put l)) in
    let comment : line_comment (tail_of (with_tail tail r.content)) ≡ line_comment tail = ap line_comment (search (rules, false≢true, takes.inline)) in
    let agrees : label l ≡ with_line_comment (line_comment tail) (label x) = ap (λ (y : Option (List ℕ)). with_line_comment y (label x)) comment in
    led_as c (put_document k q c) k _ _ _ (lead_retail front r back tail p q takes.rows_are there)
    (entry_relabelled t c k p q steps h s f (with_line_comment (line_comment tail)) l put at (record {
      level_is = ap level one.is;
      head_is = (search rules) ∙ ap (λ (y : Line). y.head) one.is;
      anchor_is = (search rules) ∙ ap (λ (y : Line). y.anchor) one.is;
      label_is = agrees ∙ ap (λ (y : Line). with_line_comment (line_comment tail) (label y)) one.is;
    }) (λ y. refl) lines)
