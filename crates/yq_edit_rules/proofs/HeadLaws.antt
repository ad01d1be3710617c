-- Head comments of items and entries, put and taken away.
use Rattle.std.proofs.Common.{◌≡◌, ℕ, zero, suc, ◌+◌, ◌<◌, List, [], ◌∷◌, ◌++◌, length, take, Option, Some, None, true, false, refl, sym}
use Rattle.std.{proofs.Common.{ap, ◌∙◌, subst, rules, append_assoc, replicate}, proofs.lemmas.Bool.{lt-ltb, and_from, cases_Bool}}
use Rattle.yq_core.{specs.Block.{BlockText, RawLines, ends_block, keeps}, specs.BlockRepair.comes_later}
use Rattle.yq_core.{specs.declared.block_lines.TextIndent.TextIndent, specs.Text.{is_empty, joined, put_byte, text_lines}}
use Rattle.yq_core.{proofs.BlockRepairLaws.following_ends, proofs.SpaceLaws.{prefix_none, spaces_front, drop_front as spaces_drop}}
use Rattle.yq_outline.{specs.Comments.{head_comment, last_comments}, specs.Group.level_or, specs.Laws.with_lines}
use Rattle.yq_outline.{specs.Lines.{mark_line, dash_line, lines_from, lines_of_rows}, specs.Outline.{Line, level, flatten, label}}
use Rattle.yq_outline.proofs.Decides.{flatten-group}
use Rattle.yq_row_table.{specs.Exchange.asked_after, specs.Gap.{AreGapLines, IsGap}, specs.Grammar.{Limit, unlimited, AreRows, no_rows}}
use Rattle.yq_row_table.{specs.Rows.{Row, following_gap, rows_text, Part}, specs.Seams.are_seamed, specs.Removal.last_block}
use Rattle.yq_row_table.{proofs.AlikeBlocks.put_first, proofs.seams.GapSeams.{gap_lines_of, lines_before}}
use Rattle.yq_row_table.{proofs.seams.GapFronts.{ends_blank, ends_comment, gap_joined}, proofs.seams.LessLaws.starts_less}
use Rattle.yq_row_table.{proofs.NothingLaws.some_after, proofs.seams.BlockFronts.{gap_front, last_none}, proofs.RowAgain.row_starts}
use Rattle.yq_row_table.{proofs.seams.SeamLaws.rows_drop, proofs.seams.FrontSeams.{after_row_some, seams_any, seams_were}}
use Rattle.yq_row_table.proofs.splices.PartPlaces.{part_in}
use Rattle.yq_edit_rules.{proofs.GapLaws.{head_joined, none_before}, specs.Siblings.put_lines, proofs.BlockChangeLaws.entry_relabelled}
use Rattle.yq_edit_rules.{specs.Heads.{IsHeadCommentRun, with_run, rerun, HeadCommented}, specs.LineRows.{AreApartLines, AreClosed}}
use Rattle.yq_edit_rules.{specs.DocumentRows.{after_document, RowsFit}, proofs.ApartLaws.even_closed, proofs.AppendLaws.block_seam}
use Rattle.yq_edit_rules.proofs.ColumnLaws.{apart_first, block_is_deeper, last_closed}
use Rattle.yq_edit_rules.proofs.PartLaws.{part_numbered, document_known, document_spliced, is_put, take_front, drop_front}
use Rattle.yq_edit_rules.proofs.CommentPutLaws.{one_line}
use Rattle.yq_documents.{specs.Pieces.{before_run, last_run}, specs.Documents.{HaveFitKeys, HasShortRoot}, specs.Reading.part_outline}
use Rattle.yq_documents.{specs.PartNumbers.part_number, specs.TreeEdits.with_head_comment}
use Rattle.yq_places.{proofs.RemovalTexts.run_parts, proofs.RemovalLines.front_some, proofs.UnderExchange.lines_append}

-- a comment that begins in a column is less deep than the text of a block scalar that is deeper
record First (n b : ℕ) (t : List ℕ) : Type 0 where
  line : List ℕ
  lines : List (List ℕ)
  is : text_lines (replicate n 32 ++ (b ∷ t)) ≡ (replicate n 32 ++ (b ∷ line)) ∷ lines

first : (n : ℕ) (t : List ℕ) → First n 35 t
unfolding text_lines
first zero t = let p = put_first 35 t in record { line = p.line; lines = p.lines; is = p.is }
first (suc n) t = let p = first n t in record { line = p.line; lines = p.lines; is = ap (put_byte 32) p.is }

hash_less : (f : TextIndent) (n : ℕ) (t : List ℕ) → n < f.columns → comes_later f (text_lines (replicate n 32 ++ (35 ∷ t))) ≡ true
hash_less f n t less = let p = first n t in ap (comes_later f) p.is ∙ (search (rules, prefix_none, spaces_front, spaces_drop, lt-ltb, and_from, less))

block_was : (front : List Row) (b : BlockText) (u : List ℕ) → last_block front ≡ Some b → are_seamed front u ≡ true → ends_block (keeps b.chomping) b.indent (text_lines u) ≡ true
block_was [] b u e h = absurd (cc)
block_was (r ∷ []) b u e h = search (rules, e)
block_was (r ∷ (q ∷ front)) b u e h = block_was (q ∷ front) b u e h

-- the seam before a row with another run
run_seam : (front back : List Row) (r : Row) (run last rest : List ℕ) (l : Line) → AreRows unlimited (front ++ (r ∷ back)) last rest → (limit : Limit) → AreRows limit (r ∷ back) last rest →
    IsHeadCommentRun r.column run (following_gap r (rows_text back (last ++ rest))) → l.column ≡ r.column → ((b : BlockText) → last_block front ≡ Some b → AreApartLines (lines_of_rows front) (l ∷ [])) →
    are_seamed front (with_run r run ++ following_gap r (rows_text back (last ++ rest))) ≡ true
run_seam front back r run last rest l old limit own is column apart = go (last_block front) refl
  where
    x : List ℕ
    x = following_gap r (rows_text back (last ++ rest))

    ks : RawLines
    ks = before_run (text_lines r.gap)

    y : List ℕ
    y = joined (last_run (text_lines r.gap)) ++ x

    y_some : is_empty y ≡ false
    y_some = some_after (joined (last_run (text_lines r.gap))) x (after_row_some limit r (rows_text back (last ++ rest)) own.0)

    kept : AreGapLines ks y
    kept = gap_front r.gap x ks (last_run (text_lines r.gap)) own.0.gap (run_parts (text_lines r.gap))

    gap_is : r.gap ++ x ≡ joined ks ++ y
    gap_is =
        let lines : joined (text_lines r.gap) ≡ r.gap = Rattle.yq_core.proofs.LineLaws.joined_lines r.gap in
        ap (λ (g : List ℕ). g ++ x) (sym lines ∙ (ap joined (run_parts (text_lines r.gap)) ∙ Rattle.yq_core.proofs.LineLaws.joined-append ks (last_run (text_lines r.gap))))
        ∙ append_assoc (joined ks) (joined (last_run (text_lines r.gap))) x

    new : (b : BlockText) → r.column < b.indent.columns → comes_later b.indent (text_lines (run ++ x)) ≡ true
    new b less = search (rules, starts_less, row_starts, append_assoc, hash_less)

    go : (o : Option BlockText) → last_block front ≡ o → are_seamed front (with_run r run ++ x) ≡ true
    go None e = seams_any front (r ∷ back) unlimited last rest (with_run r run ++ x) old refl (last_none front e)
    go (Some b) e =
        let deep = block_is_deeper unlimited front (r ∷ back) last rest b l old e (apart b e) in
        let was = block_was front b (r.gap ++ x) e (seams_were front (r ∷ back) unlimited last rest old) in
        let split : text_lines (r.gap ++ x) ≡ ks ++ text_lines y = ap text_lines gap_is ∙ lines_before ks y y y_some kept in
        let text : text_lines (with_run r run ++ x) ≡ ks ++ text_lines (run ++ x) = ap text_lines (append_assoc (joined ks) run x) ∙ lines_before ks y (run ++ x) y_some kept in
        let whole_is : ends_block (keeps b.chomping) b.indent (ks ++ text_lines (run ++ x)) ≡ true =
        search (rules, ends_comment, ks, ends_blank, following_ends, new, cases_Bool) in
        block_seam front b (with_run r run ++ x) e (ap (ends_block (keeps b.chomping) b.indent) text ∙ whole_is)

-- the first line of a row, and those after it
abbrev first_line : List (List ℕ) → Row → List ℕ → Line
first_line above r [] = mark_line above r.column r.mark r.content
first_line above r (n ∷ ns) = dash_line above r.column

abbrev further_lines : Row → List ℕ → List Line
further_lines r [] = []
further_lines r (n ∷ ns) = lines_from [] (suc (r.column + n)) ns r.mark r.content

first_split : (above : List (List ℕ)) (r : Row) (ns : List ℕ) → lines_from above r.column ns r.mark r.content ≡ first_line above r ns ∷ further_lines r ns
first_split above r ns = search rules

same_level : (a b : List (List ℕ)) (r : Row) (ns : List ℕ) → level (first_line a r ns) ≡ level (first_line b r ns)
unfolding level
same_level a b r ns = search rules

same_head : (a b : List (List ℕ)) (r : Row) (ns : List ℕ) → (first_line a r ns).head ≡ (first_line b r ns).head
same_head a b r ns = search rules

same_anchor : (a b : List (List ℕ)) (r : Row) (ns : List ℕ) → (first_line a r ns).anchor ≡ (first_line b r ns).anchor
same_anchor a b r ns = search rules

same_label : (a b : List (List ℕ)) (r : Row) (ns : List ℕ) → label (first_line a r ns) ≡ with_head_comment a (label (first_line b r ns))
same_label a b r ns = search rules

in_column : (a : List (List ℕ)) (r : Row) (ns : List ℕ) → (first_line a r ns).column ≡ r.column
in_column a r ns = search rules

row_after : (front : List Row) (r : Row) (back : List Row) (gap : List ℕ) →
    lines_of_rows (front ++ (record r { gap = gap } ∷ back)) ≡ lines_of_rows front ++ (first_line (head_comment gap) r r.dashes ∷ (further_lines r r.dashes ++ lines_of_rows back))
row_after front r back gap = lines_append front (record r { gap = gap } ∷ back) ∙ ap (λ (x : List Line). lines_of_rows front ++ (x ++ lines_of_rows back)) (first_split (head_comment gap) r r.dashes)

short_same : (front : List Row) (r : Row) (back : List Row) (gap : List ℕ) → HasShortRoot (front ++ (r ∷ back)) → HasShortRoot (front ++ (record r { gap = gap } ∷ back))
short_same [] r back gap h = h
short_same (q ∷ front) r back gap h = h

fit_same : (front : List Row) (r : Row) (back : List Row) (gap : List ℕ) → HaveFitKeys (front ++ (r ∷ back)) → HaveFitKeys (front ++ (record r { gap = gap } ∷ back))
fit_same [] r back gap h = h
fit_same (q ∷ front) r back gap h = (h.0, h.1, fit_same front r back gap h.2)

pub head_commented : HeadCommented
head_commented t c k p steps s h f front back r run old at takes size text =
    let known = document_known t c k p old in
    let o = part_outline p in
    let q : Part = rerun front r back run p in
    let gap : List ℕ = with_run r run in
    let rest : List ℕ = after_document k c in
    let x : List ℕ = following_gap r (rows_text back (p.end ++ rest)) in
    let part : AreRows unlimited (front ++ (r ∷ back)) p.end rest =
    subst (λ (rs : List Row). AreRows unlimited rs p.end rest) takes.rows_are (subst (λ (y : Part). AreRows unlimited y.rows y.end rest) (part_numbered c k p old.there).0 (part_in c (part_number k c) true known.cut.parts).rows) in
    let asked : Limit = asked_after unlimited front in
    let own : AreRows asked (r ∷ back) p.end rest =
    subst (λ (a : List Row). AreRows (asked_after unlimited a) (r ∷ back) p.end rest) (take_front p front (r ∷ back) takes.rows_are)
    (subst (λ (rs : List Row). AreRows (asked_after unlimited (take (length front) p.rows)) rs p.end rest) (drop_front p front (r ∷ back) takes.rows_are)
    (rows_drop (length front) p.rows unlimited p.end rest (subst (λ (rs : List Row). AreRows unlimited rs p.end rest) (sym takes.rows_are) part))) in
    let ks = before_run (text_lines r.gap) in
    let y : List ℕ = joined (last_run (text_lines r.gap)) ++ x in
    let y_some : is_empty y ≡ false = some_after (joined (last_run (text_lines r.gap))) x (after_row_some asked r (rows_text back (p.end ++ rest)) own.0) in
    let kept : AreGapLines ks y = gap_front r.gap x ks (last_run (text_lines r.gap)) own.0.gap (run_parts (text_lines r.gap)) in
    let front_gap : IsGap (joined ks) y = record { lines = ks; spelled = refl; each = kept } in
    let head : head_comment gap ≡ head_comment run = head_joined (joined ks) run y front_gap y_some (ap last_comments (gap_lines_of ks y kept) ∙ none_before (text_lines r.gap)) in
    let a = first_line (head_comment r.gap) r r.dashes in
    let z : List Line = further_lines r r.dashes ++ lines_of_rows back in
    let olds : lines_of_rows p.rows ≡ lines_of_rows front ++ (a ∷ z) = ap lines_of_rows takes.rows_are ∙ row_after front r back r.gap in
    let closed : AreClosed (lines_of_rows front ++ (a ∷ z)) = subst AreClosed (flatten-group (lines_of_rows p.rows) ∙ olds) (even_closed (level_or 0 o) o known.even) in
    let fits : RowsFit front [] (r ∷ back) gap p rest = record {
      rows = gap_joined (joined ks) run y x y_some front_gap takes.run_is.gap;
      next = own.0.allowed;
      seam = run_seam front back r run p.end rest a part asked own takes.run_is (in_column (head_comment r.gap) r r.dashes) (λ b e. apart_first (lines_of_rows front) a z (last_closed front b (a ∷ z) e closed));
    } in
    let cut = document_spliced t c k p front [] (r ∷ back) [] gap old known.cut takes.rows_are (ap no_rows takes.rows_are ∙ front_some front r back) fits text in
    let put =
    is_put t c k p q old (front_some front (record r { gap = gap }) back) text cut (fit_same front r back gap (subst HaveFitKeys takes.rows_are known.document.keys))
    (short_same front r back gap (subst HasShortRoot takes.rows_are known.document.short)) in
    let l = first_line (head_comment gap) r r.dashes in
    let one = one_line t c p steps s h f (lines_of_rows front) a z known at olds size in
    let lines : lines_of_rows q.rows ≡ put_lines h (with_lines f (l ∷ flatten f.under)) = row_after front r back gap ∙ sym (one.put l) in
    let texts : label l ≡ with_head_comment (head_comment run) (label f.line) = same_label (head_comment gap) (head_comment r.gap) r r.dashes ∙ (λ i. with_head_comment (head i) (label (one.is i))) in
    entry_relabelled t c k p q steps h s f (with_head_comment (head_comment run)) l put at (record {
      level_is = same_level (head_comment gap) (head_comment r.gap) r r.dashes ∙ ap level one.is;
      head_is = same_head (head_comment gap) (head_comment r.gap) r r.dashes ∙ ap (λ (v : Line). v.head) one.is;
      anchor_is = same_anchor (head_comment gap) (head_comment r.gap) r r.dashes ∙ ap (λ (v : Line). v.anchor) one.is;
      label_is = texts;
    }) (λ v. refl) lines
