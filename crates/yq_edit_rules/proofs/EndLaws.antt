-- One item or entry more at the end of a text without a final break.
use Rattle.std.proofs.Common.{◌≡◌, inl, inr, ℕ, suc, ◌+◌, ◌≤◌, List, [], ◌∷◌, ◌++◌, length, drop, ◌&&◌, Option, Some, None, true, false}
use Rattle.std.proofs.Common.{cond, refl, sym, ap, ◌∙◌, subst, rules, arith, ⊎_elim, append_assoc, append-nil, length-append}
use Rattle.std.proofs.lemmas.Bool.{false≢true, cond-true, cond-false, and_parts}
use Rattle.yq_core.{specs.Characters.{is_text, pairs_returns}, specs.Lines.is_hash}
use Rattle.yq_core.{specs.Text.{cut, ends_line, is_break, is_line, no_white, past_white}, proofs.Upto.cut-append}
use Rattle.yq_text.specs.Limit.{text_limit}
use Rattle.yq_outline.{specs.Comments.{comment_text, less_space, line_comment}, specs.Group.level_or, specs.Lines.lines_of_rows}
use Rattle.yq_outline.{specs.Outline.{Line, flatten}, specs.Places.{lines_before, lines_after}, proofs.Decides.flatten-group}
use Rattle.yq_outline.proofs.HeadLaws.{end_no_hash}
use Rattle.yq_row_table.{specs.Exchange.row_front, specs.Gap.{IsBreak, IsComment, IsWhite}}
use Rattle.yq_row_table.specs.Grammar.{Limit, IsTail, unlimited, AreRows, IsCut, no_rows}
use Rattle.yq_row_table.specs.Rows.{Row, content_text, parent_indent, print_row, rows_text, Part, Cut, cut_text}
use Rattle.yq_row_table.{specs.Splices.{before_rows, after_part, nth_part, splice}, specs.Appending.closed_by, specs.Seams.tail_after}
use Rattle.yq_row_table.{proofs.splices.AppendLaws.end_appended, proofs.splices.SpliceTexts.front_text, proofs.CharacterLaws.pairs_back}
use Rattle.yq_row_table.{proofs.LineEnds.{after_comment, white_again}, proofs.PlaceLaws.row_front-append}
use Rattle.yq_row_table.{proofs.seams.ScalarSeams.ends_return, proofs.seams.SeamLaws.{line_by_break, rows_drop}}
use Rattle.yq_row_table.{proofs.splices.PartPlaces.part_in, proofs.seams.TailLaws.{comment_closed, no_end_return, content_tail, tail_pairs}}
use Rattle.yq_documents.{specs.Documents.{HaveFitKeys, HasShortRoot}, specs.Reading.part_outline, specs.PartNumbers.part_number}
use Rattle.yq_places.{specs.RowPaths.IsReadable, proofs.RemovalLines.front_some, proofs.UnderExchange.lines_append}
use Rattle.yq_edit_rules.{specs.Changed.put_document, specs.Siblings.put_lines, proofs.AnchorLaws.{fit_parts, fit_from}}
use Rattle.yq_edit_rules.{proofs.CollectionLaws.appended, proofs.BlockChangeLaws.entry_appended, proofs.PlacedLaws.same_parts}
use Rattle.yq_edit_rules.{specs.Ends.{TakesRowsLast, closed_with, EndAppended}, specs.DocumentRows.{IsDocumentPart, after_document}}
use Rattle.yq_edit_rules.{proofs.AppendLaws.around, proofs.PartLaws.{part_numbered, rows_put, document_known, is_put, drop_front}}
use Rattle.yq_edit_rules.proofs.CommentPutLaws.{fit_retail, short_retail, last_lines}

-- the comment of a line's end
abbrev pub after_hash : List ℕ → Option (List ℕ)
after_hash [] = None
after_hash (b ∷ cs) = Some (less_space cs)

break_ends : (break : List ℕ) → IsBreak break [] → ends_line break ≡ true
break_ends break e = ap ends_line (sym (append-nil break)) ∙ (after_comment [] break [] tt e).2

pub comment_is : (white comment break : List ℕ) → IsWhite white → IsComment comment break → IsBreak break [] → comment_text (white ++ (comment ++ break)) ≡ after_hash comment
comment_is white comment break w c e =
    let parts = after_comment comment break [] c e in
    let first : no_white (comment ++ break) ≡ true = ap (λ (x : List ℕ). no_white (comment ++ x)) (sym (append-nil break)) ∙ parts.0 in
    let past : past_white (white ++ (comment ++ break)) ≡ comment ++ break = ap (λ (y : List ℕ × List ℕ). y.1) (white_again white (comment ++ break) w first) in
    ap (λ (x : List ℕ). cond (is_hash x) (Some (less_space (cut ends_line (drop 1 x)).0)) None) past ∙ go comment c
  where
    go : (comment : List ℕ) → IsComment comment break → cond (is_hash (comment ++ break)) (Some (less_space (cut ends_line (drop 1 (comment ++ break))).0)) None ≡ after_hash comment
    go comment c = search (rules, cond-false, end_no_hash, break_ends, cut-append, cond-true)

-- A tail that gets a break has the same comment.
pub comment_stays : (tail break : List ℕ) → (is_break break && is_line break) ≡ true → is_line tail ≡ false → pairs_returns tail ≡ true → IsTail tail [] →
    line_comment (tail ++ break) ≡ line_comment tail
comment_stays tail break b bare pairs h = ⊎_elim {0, 0, 0}
    (λ e. absurd (false≢true (sym bare ∙ (line_by_break h.white h.comment tail [] h.line ∙ (and_parts (is_break h.line.break) (is_line h.line.break) e).1))))
    (λ e.
    let is : tail ≡ h.white ++ h.comment = h.line.spelled ∙ (ap (λ l. h.white ++ (h.comment ++ l)) e.0 ∙ ap (λ l. h.white ++ l) (append-nil h.comment)) in
    let none : ends_return h.comment ≡ false = no_end_return h.comment (pairs_back h.white h.comment (ap pairs_returns (sym is) ∙ pairs)) in
    let as_comment : IsComment h.comment [] = subst (IsComment h.comment) e.0 h.line.as_comment in
    ap comment_text (ap (λ l. l ++ break) is ∙ append_assoc h.white h.comment break)
    ∙ (comment_is h.white h.comment break h.line.blank (comment_closed h.comment break as_comment none) (inl b)
    ∙ sym (ap comment_text (is ∙ ap (λ l. h.white ++ l) (sym (append-nil h.comment))) ∙ comment_is h.white h.comment [] h.line.blank as_comment (inr (refl, refl)))))
    h.line.ends

-- the cut
end_cut : (t : List ℕ) (c : Cut) (k : ℕ) (p : Part) (front new : List Row) (r : Row) (break : List ℕ) → IsDocumentPart t c k p → IsCut t c → TakesRowsLast p front r break new (after_document k c) →
    IsReadable (cut_text (put_document k (closed_with front r break new p) c)) →
    IsCut (cut_text (put_document k (closed_with front r break new p) c)) (put_document k (closed_with front r break new p) c)
end_cut t c k p front new r break old cut takes text =
    let j = part_number k c in
    let here : nth_part j c ≡ p = (part_numbered c k p old.there).0 in
    let one : suc (length front) ≡ length front + 1 = omega arith in
    let same : splice j (length front) (suc (length front)) (closed_by break r ∷ new) [] c ≡ put_document k (closed_with front r break new p) c =
    ap (λ (i : ℕ). splice j (length front) i (closed_by break r ∷ new) [] c) one ∙ rows_put c k p front (r ∷ []) [] (closed_by break r ∷ new) [] old.there takes.rows_are in
    subst (λ (x : Cut). IsCut (cut_text x) x) same
    (end_appended t c j front r break new [] cut (record { row = ap (λ (x : Part). x.rows) here ∙ takes.rows_are; end = ap (λ (x : Part). x.end) here ∙ takes.end_is; nothing = takes.rest_is }) takes.takes takes.new_are
    (ap (λ (x : Cut). is_text (cut_text x)) same ∙ text.characters) (subst (λ (x : Cut). length (cut_text x) ≤ text_limit) (sym same) text.size))

-- the comment of the last row
last_comment : (t : List ℕ) (c : Cut) (k : ℕ) (p : Part) (front new : List Row) (r : Row) (break : List ℕ) → IsDocumentPart t c k p → IsCut t c →
    TakesRowsLast p front r break new (after_document k c) →
    line_comment (tail_after r.content ++ break) ≡ line_comment (tail_after r.content)
last_comment t c k p front new r break old cut takes =
    let j = part_number k c in
    let i : ℕ = length front in
    let here : nth_part j c ≡ p = (part_numbered c k p old.there).0 in
    let end_is : drop i p.rows ≡ r ∷ [] = drop_front p front (r ∷ []) takes.rows_are in
    let place : rows_text (drop i (nth_part j c).rows) ((nth_part j c).end ++ after_part j c) ≡ print_row r [] = search (rules, i, j, here, end_is) in
    let whole : cut_text c ≡ before_rows j i c ++ print_row r [] = front_text c j i ∙ ap (λ (x : List ℕ). before_rows j i c ++ x) place in
    let pairs : pairs_returns (print_row r []) ≡ true = search (rules, pairs_back, and_parts, whole, i, j) in
    let content : pairs_returns (content_text r.content []) ≡ true = pairs_back (row_front r) (content_text r.content []) (ap pairs_returns (sym (row_front-append r [])) ∙ pairs) in
    let tail : pairs_returns (tail_after r.content) ≡ true = ap pairs_returns (sym (append-nil (tail_after r.content))) ∙ tail_pairs r.content [] takes.takes.inline content in
    let own = rows_drop i p.rows unlimited p.end (after_part j c) (subst (λ (x : Part). AreRows unlimited x.rows x.end (after_part j c)) here (part_in c j true cut.parts).rows) in
    let asked : Limit = Rattle.yq_row_table.specs.Exchange.asked_after unlimited (Rattle.std.specs.Prelude.take i p.rows) in
    let row : AreRows asked (r ∷ []) [] [] = search rules in
    comment_stays (tail_after r.content) break takes.takes.break_is takes.takes.bare tail (content_tail (parent_indent r) r.content [] takes.takes.inline row.0.content)

pub end_of_text_appended : EndAppended
end_of_text_appended t c k p steps h front new r break m l u old there_is size w takes text =
    let known = document_known t c k p old in
    let o = part_outline p in
    let q : Part = closed_with front r break new p in
    let cut = end_cut t c k p front new r break old known.cut takes text in
    let comment = last_comment t c k p front new r break old known.cut takes in
    let tail : List ℕ = tail_after r.content ++ break in
    let there : q.rows ≡ front ++ (closed_by break r ∷ new) = ap (λ (rs : List Row). front ++ (closed_by break r ∷ rs)) (append-nil new) in
    let stays : (back : List Row) → lines_of_rows (front ++ (closed_by break r ∷ back)) ≡ lines_of_rows (front ++ (r ∷ back)) =
    λ back. search (rules, last_lines, false≢true) in
    let olds : flatten o ≡ put_lines h (flatten h.lines) = (appended (level_or 0 o) m o u l steps h known.even there_is w.fits).0 in
    let whole : lines_of_rows p.rows ++ ([] ++ []) ≡ (lines_before h.place ++ flatten h.lines) ++ ([] ++ lines_after h.place) =
    append-nil (lines_of_rows p.rows) ∙ (sym (flatten-group (lines_of_rows p.rows)) ∙ (olds ∙ sym (append_assoc (lines_before h.place) (flatten h.lines) (lines_after h.place)))) in
    let parts =
    same_parts (lines_of_rows p.rows) [] [] (lines_before h.place ++ flatten h.lines) [] (lines_after h.place) whole (size ∙ sym (length-append (lines_before h.place) (flatten h.lines))) refl in
    let split : lines_of_rows (front ++ (r ∷ new)) ≡ lines_of_rows p.rows ++ lines_of_rows new = search (rules, append_assoc, lines_append) in
    let lines : lines_of_rows q.rows ≡ put_lines h (flatten h.lines ++ (l ∷ flatten u)) =
    ap lines_of_rows there ∙ (stays new ∙ (split ∙ ((λ i. parts.0 i ++ w.lines i)
    ∙ (ap (λ (x : List Line). (lines_before h.place ++ flatten h.lines) ++ x) (sym (append-nil (l ∷ flatten u)) ∙ ap (λ (x : List Line). (l ∷ flatten u) ++ x) parts.2)
    ∙ around (lines_before h.place) (flatten h.lines) (l ∷ flatten u) (lines_after h.place))))) in
    let keys =
    fit_parts (front ++ (closed_by break r ∷ [])) [] (subst HaveFitKeys (sym (append-nil (front ++ (closed_by break r ∷ [])))) (fit_retail front r [] tail (subst HaveFitKeys takes.rows_are known.document.keys))) in
    let fit : HaveFitKeys q.rows = subst HaveFitKeys (append_assoc front (closed_by break r ∷ []) new ∙ sym there) (fit_from (front ++ (closed_by break r ∷ [])) new keys.0 w.keys) in
    let short : HasShortRoot q.rows = subst HasShortRoot (sym there) (first front (short_retail front r [] tail (subst HasShortRoot takes.rows_are known.document.short))) in
    let put = is_put t c k p q old (ap no_rows there ∙ front_some front (closed_by break r) new) text cut fit short in
    entry_appended t c k p q steps h m l u put there_is w.fits w.anchors lines w.value_is w.key
  where
    first : (front : List Row) → HasShortRoot (front ++ (closed_by break r ∷ [])) → HasShortRoot (front ++ (closed_by break r ∷ new))
    first [] h = h
    first (q ∷ front) h = h
