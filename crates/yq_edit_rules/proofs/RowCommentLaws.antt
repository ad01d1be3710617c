-- One row in the place of another one, and line comments that are in a row's content.
use Rattle.std.proofs.Common.{◌≡◌, ℕ, List, [], ◌∷◌, ◌++◌, length, Some, false, refl, sym, ap, ◌∙◌, subst, length-append, rules}
use Rattle.yq_outline.{specs.Comments.{head_comment, line_comment}, specs.Laws.with_lines, specs.Outline.{Line, level, flatten, label}}
use Rattle.yq_outline.specs.Lines.{mark_line, tail_of, lines_of_rows}
use Rattle.yq_core.specs.Alike.{Alike}
use Rattle.yq_row_table.{specs.Exchange.{asked_after, with_content}, specs.Gap.IsGap, specs.Grammar.{unlimited, AreRows, IsRow, no_rows}}
use Rattle.yq_row_table.{specs.Rows.{Content, Row, mark_column, print_row, rows_text, Part}, specs.Splices.{after_first, first_gap}}
use Rattle.yq_row_table.{proofs.seams.SeamLaws.rows_drop, proofs.splices.SpliceTexts.{first_is, first_text, own_gap}}
use Rattle.yq_documents.{specs.Documents.{HaveFitKeys, HasShortRoot, lead_of}, specs.TreeEdits.with_line_comment}
use Rattle.yq_edit_rules.{specs.Appends.inserted, specs.Changed.put_document, specs.DocumentRows.after_document}
use Rattle.yq_edit_rules.{specs.LineRows.lines_before_entry, specs.Moved.dash_lines}
use Rattle.yq_edit_rules.{specs.RowComments.{RowReplaces, ContentCommented, BlockCommented, with_header_tail}, specs.Siblings.put_lines}
use Rattle.yq_edit_rules.{proofs.AnchorLaws.{fit_parts, fit_from}, proofs.BlockChangeLaws.entry_relabelled, proofs.EditedLaws.led_as}
use Rattle.yq_edit_rules.{proofs.FirstRowLaws.short_first, proofs.LineLaws.{above_mark, dashes_count}}
use Rattle.yq_edit_rules.{proofs.PartLaws.{document_known, drop_front, is_put, part_rows}, proofs.CommentPutLaws.{last_lines, one_line}}
use Rattle.yq_edit_rules.proofs.ReplaceLaws.{document_replaced, rows_before_some}

-- rows after rows
pub following_rows : (front back : List Row) (end rest : List ℕ) (p : Part) → p.rows ≡ front ++ back → AreRows unlimited p.rows end rest → (P : List Row → Type 0) →
    ((a : List Row) → AreRows (asked_after unlimited a) back end rest → P back) → P back
following_rows front back end rest p e h P f =
    f (Rattle.std.specs.Prelude.take (length front) p.rows) (subst (λ (rs : List Row). AreRows (asked_after unlimited (Rattle.std.specs.Prelude.take (length front) p.rows)) rs end rest) (drop_front p front back e)
    (rows_drop (length front) p.rows unlimited end rest h))

pub row_replaces : RowReplaces
row_replaces t c k p front back r new old takes =
    let known = document_known t c k p old in
    let rest : List ℕ = after_document k c in
    let gap : List ℕ = first_gap back p.end in
    let after : List ℕ = after_first back p.end rest in
    let text : rows_text back (p.end ++ rest) ≡ gap ++ after = first_text back p.end rest in
    let is_gap : IsGap gap after =
    following_rows front (r ∷ back) p.end rest p takes.rows_are (part_rows t c k p old known.cut) (λ rs. IsGap gap after) (λ a h. first_is _ back p.end rest h.1) in
    record {
      rows_are = takes.rows_are;
      some = refl;
      new_are = (subst (λ (u : List ℕ). IsRow (asked_after unlimited front) new u) text takes.takes.row, is_gap);
      next = takes.next;
      alike = subst (λ (u : List ℕ). Alike (Some false) (print_row r (rows_text back (p.end ++ rest))) (print_row new u)) text takes.takes.alike;
    }

-- the lead stays with the gap of the first row
pub lead_content : (front : List Row) (r : Row) (new : Content) (back : List Row) (p q : Part) → p.rows ≡ front ++ (r ∷ back) → q.rows ≡ front ++ (with_content new r ∷ back) → lead_of q ≡ lead_of p
lead_content [] r new back p q e n = search rules
lead_content (x ∷ front) r new back p q e n = search rules

pub content_commented : ContentCommented
unfolding level
content_commented t c k p steps s h f front back r new old at takes alike number text =
    let known = document_known t c k p old in
    let b : Row = with_content new r in
    let q : Part = inserted front (b ∷ []) back p in
    let there : q.rows ≡ front ++ (b ∷ back) = ap (λ (rs : List Row). front ++ (b ∷ rs)) (own_gap back p.end) in
    let cut = document_replaced t c k p front (r ∷ []) back (b ∷ []) (first_gap back p.end) old (row_replaces t c k p front back r b old takes) text in
    let keys = fit_parts front (r ∷ back) (subst HaveFitKeys takes.rows_are known.document.keys) in
    let fit : HaveFitKeys (front ++ (b ∷ back)) = fit_from front (b ∷ back) keys.0 (keys.1.0, alike.keys, keys.1.2) in
    let short : HasShortRoot (front ++ (b ∷ back)) = short_first front back (r ∷ back) b (subst HasShortRoot takes.rows_are known.document.short) alike.short in
    let put = is_put t c k p q old (ap no_rows there ∙ rows_before_some front (b ∷ back) refl) text cut (subst HaveFitKeys (sym there) fit) (subst HasShortRoot (sym there) short) in
    let above : List (List ℕ) = above_mark (head_comment r.gap) r.dashes in
    let a : List Line = lines_of_rows front ++ dash_lines (head_comment r.gap) r.column r.dashes in
    let x : Line = mark_line above (mark_column r) r.mark r.content in
    let l : Line = mark_line above (mark_column r) r.mark new in
    let size : length a ≡ lines_before_entry h f = search (rules, length-append, dashes_count) in
    let one = one_line t c p steps s h f a x (lines_of_rows back) known at (ap lines_of_rows takes.rows_are ∙ last_lines front r back r.content) size in
    let lines : lines_of_rows q.rows ≡ put_lines h (with_lines f (l ∷ flatten f.under)) = ap lines_of_rows there ∙ (last_lines front r back new ∙ sym (one.put l)) in
    led_as c (put_document k q c) k _ _ _ (lead_content front r new back p q takes.rows_are there)
    (entry_relabelled t c k p q steps h s f (with_line_comment (line_comment (tail_of new))) l put at (record {
      level_is = ap level one.is;
      head_is = alike.head_is ∙ ap (λ (y : Line). y.head) one.is;
      anchor_is = alike.anchor_is ∙ ap (λ (y : Line). y.anchor) one.is;
      label_is = ap (λ (y : Line). with_line_comment (line_comment (tail_of new)) (label y)) one.is;
    }) (λ y. refl) lines)

pub block_commented : BlockCommented
block_commented t c k p steps s h f front back r space anchor block tail old at is takes number text =
    let new : Content = with_header_tail tail space anchor block in
    content_commented t c k p steps s h f front back r new old at takes (record {
      head_is = ap Rattle.yq_outline.specs.Lines.head_of (sym is);
      anchor_is = ap Rattle.yq_outline.specs.Lines.content_anchor (sym is);
      keys = tt;
      short = search rules;
    }) number text
