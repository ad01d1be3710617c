-- Rows that are written after a key or dash of a text.
use Rattle.yq_edit_rules.{proofs.FirstReplaceLaws.rows_after, proofs.AppendEntryLaws.none_uncommented}
use Rattle.yq_edit_rules.specs.BlockPlaces.{compact_rows, IsUpto, at_mark, at_dash, IsAbove, Replaces, BeginsUpto}
use Rattle.yq_edit_rules.{specs.BlockRows.item_column, proofs.LaidRows.{AreLaid, IsLaid, rows_append}, proofs.BlockLineLaws.BeginAt}
use Rattle.std.proofs.Common.{◌≡◌, ℕ, suc, ◌+◌, true, false, ◌&&◌, eqb, List, [], ◌∷◌, ◌++◌, None, refl, sym, ap, ◌∙◌, subst, arith}
use Rattle.std.{proofs.Common.{append_assoc, replicate, Some, rules}, proofs.lemmas.Bool.false≢true}
use Rattle.yq_core.{specs.Text.{separates, upto}, specs.Alike.{Alike, byte}, proofs.Alikes.{alike_append, alike_marker}}
use Rattle.yq_outline.{proofs.RowLaws.no_comments, specs.Lines.{dash_line, lines_from, row_lines, lines_of_rows}}
use Rattle.yq_row_table.specs.Exchange.{asked_after, with_content}
use Rattle.yq_row_table.specs.Grammar.{IsContent, IsMark, is_entry, AreDashes, Limit, unlimited, limit_after, limit_after_content, IsRow}
use Rattle.yq_row_table.specs.Grammar.{AreRows}
use Rattle.yq_row_table.specs.Rows.{RowMark, Dash, Content, Nothing, dashes_text, mark_text, content_text, after_dashes, after_indent}
use Rattle.yq_row_table.specs.Rows.{following_gap, Row, after_columns, mark_column, parent_of, parent_indent, print_row, rows_text}
use Rattle.yq_row_table.{proofs.AlikeRows.{row_gap_alike, dashes_text_alike}, proofs.ExchangeLaws.{one_row, relimit, chain}}
use Rattle.yq_row_table.{proofs.NodeExchange.mark_apart, specs.Joined.{dashed_row, compact_row}}
use Rattle.yq_row_table.proofs.seams.JoinLaws.{space_apart, dashes_text-append, after_columns-append}
use Rattle.yq_row_table.proofs.seams.SeamLaws.{rows_text-append}
use Rattle.yq_outline.specs.Outline as outline

-- dashes in front of dashes
are_dashes : (ns ms : List ℕ) (old new : RowMark) → is_entry new ≡ true → AreDashes ns old → AreDashes (1 ∷ ms) new → AreDashes (ns ++ 1 ∷ ms) new
are_dashes [] ms old new entry h k = k
are_dashes (n ∷ ns) ms old new entry h k = (h.0, entry, are_dashes ns ms old new entry h.2 k)

first_dashes : (ns ms : List ℕ) (mark : RowMark) → AreDashes (ns ++ ms) mark → AreDashes ns Dash × AreDashes ms mark
first_dashes [] ms mark h = (tt, h)
first_dashes (n ∷ ns) ms mark h = let more = first_dashes ns ms mark h.2 in ((h.0, refl, more.0), more.1)

-- after a dash of a row something else may be
dash_seam : {limit : Limit} {r s : Row} {old : List ℕ} (u : List ℕ) → IsRow limit r old → IsUpto s r → s.mark ≡ Dash → separates u ≡ true → Alike (Some false) (after_indent r old) (dashes_text s.dashes (45 ∷ u)) × AreDashes s.dashes Dash
dash_seam {limit} {old} u h (at_mark {r} entry) last apart =
    let here : separates (content_text r.content old) ≡ true = mark_apart r.mark r.content old entry h.mark in
    let seam : Alike (Some false) (mark_text r.mark (content_text r.content old)) (45 ∷ u) = subst (λ (m : RowMark). Alike (Some false) (mark_text m (content_text r.content old)) (45 ∷ u)) (sym last) (byte refl refl here apart) in
    (dashes_text_alike r.dashes _ _ seam, subst (AreDashes r.dashes) last h.dashes)
dash_seam {limit} {old} u h (at_dash {r} {ns} n ms is) last apart =
    let t : List ℕ = dashes_text ms (after_dashes r old) in
    let split = first_dashes ns (n ∷ ms) r.mark (subst (λ (ks : List ℕ). AreDashes ks r.mark) is h.dashes) in
    let seam : Alike (Some false) (45 ∷ (replicate n 32 ++ t)) (45 ∷ u) = byte refl refl (space_apart n t split.1.0) apart in
    search (rules, dashes_text-append, dashes_text_alike, split, seam, t)

-- a row that begins where another one does
abbrev lined : Row → List ℕ → RowMark → Content → Row
lined r ns m x = record { gap = r.gap; column = r.column; dashes = ns; mark = m; content = x }

like_row : (limit : Limit) (r : Row) (old ns : List ℕ) (m : RowMark) (x : Content) (t : List ℕ) → IsRow limit r old → Alike (Some false) (after_indent r old) (after_indent (lined r ns m x) t) →
    AreDashes ns m → IsMark m x t → IsContent (parent_indent (lined r ns m x)) x t → IsRow limit (lined r ns m x) t × Alike (Some false) (print_row r old) (print_row (lined r ns m x) t)
like_row limit r old ns m x t h a dashes mark content =
    let u : List ℕ = after_indent (lined r ns m x) t in
    let indent = alike_append (Some false) (replicate r.column 32) _ _ a in (
      record {
        gap = row_gap_alike r.gap (following_gap r old) (replicate r.column 32 ++ u) indent h.gap;
        allowed = h.allowed;
        unmarked = ap (λ b. eqb r.column 0 && b) (sym (alike_marker (Some false) (after_indent r old) u a)) ∙ h.unmarked;
        dashes = dashes;
        mark = mark;
        content = content;
      },
      alike_append (Some false) r.gap _ _ indent,
    )

pub upto_row : {limit : Limit} {r s : Row} {old : List ℕ} (x : Content) (t : List ℕ) → IsRow limit r old → IsUpto s r → IsContent (parent_indent s) x t → separates (content_text x t) ≡ true →
    IsRow limit (with_content x s) t × Alike (Some false) (print_row r old) (print_row (with_content x s) t)
upto_row {limit} {old} x t h (at_mark {r} entry) content apart =
    let placed = one_row limit r x old t h entry content apart in (placed.row, placed.alike)
upto_row {limit} {old} x t h (at_dash {r} {ns} n ms is) content apart =
    let seam = dash_seam (content_text x t) h (at_dash n ms is) refl apart in like_row limit r old ns Dash x t h seam.0 seam.1 apart content

pub under_laid : (limit : Limit) (r s : Row) (old : List ℕ) (x : Content) (below : ℕ) (rs : List Row) (rest : List ℕ) → IsAbove limit r old s x below (rows_text rs rest) →
    AreLaid below rs rest → Replaces limit (mark_column s) r old (with_content x s ∷ rs) rest
under_laid limit r s old x below rs rest h laid =
    let first = upto_row x (rows_text rs rest) h.row h.upto h.content h.apart in
    search (rules, false≢true, first)

-- rows on the line of a dash
on_line : (limit : Limit) (r : Row) (old ds : List ℕ) (q : Row) (rs : List Row) (rest : List ℕ) → IsRow limit r old →
    ((u : List ℕ) → separates u ≡ true → Alike (Some false) (after_indent r old) (dashes_text ds (45 ∷ u)) × AreDashes ds Dash) →
    IsLaid (item_column (after_columns r.column ds)) q rs rest → Replaces limit (after_columns r.column ds) r old (lined r (ds ++ 1 ∷ q.dashes) q.mark q.content ∷ rs) rest
on_line limit r old ds q rs rest h seams laid =
    let new : Row = lined r (ds ++ 1 ∷ q.dashes) q.mark q.content in
    let t : List ℕ = rows_text rs rest in
    let inner : List ℕ = dashes_text q.dashes (after_dashes q t) in
    let seam = seams (32 ∷ inner) refl in
    let joined : dashes_text ds (45 ∷ 32 ∷ inner) ≡ after_indent new t = sym (dashes_text-append ds (1 ∷ q.dashes) (after_dashes q t)) in
    let columns : mark_column q ≡ mark_column new = ap (λ (k : ℕ). after_columns k q.dashes) laid.at ∙ sym (after_columns-append r.column ds (1 ∷ q.dashes)) in
    let same : parent_indent q ≡ parent_indent new = ap (λ (k : ℕ). parent_of q.mark k) columns in
    let limits : limit_after q ≡ limit_after new = ap (λ n. limit_after_content n q.content) same in
    let alone = laid.laid unlimited refl in
    let dashes = are_dashes ds q.dashes Dash q.mark laid.entry seam.1 (omega arith, laid.entry, alone.0.dashes) in
    let first = like_row limit r old (ds ++ 1 ∷ q.dashes) q.mark q.content t h
    (subst (λ (l : List ℕ). Alike (Some false) (after_indent r old) l) joined seam.0) dashes alone.0.mark
    (subst (λ n. IsContent n q.content t) same alone.0.content) in
    search (rules, first, limits, alone)

upto_line : {limit : Limit} {r s : Row} {old : List ℕ} (q : Row) (rs : List Row) (rest : List ℕ) → IsRow limit r old → IsUpto s r → s.mark ≡ Dash →
    IsLaid (item_column (mark_column s)) q rs rest → Replaces limit (mark_column s) r old (compact_row 1 s q ∷ rs) rest
upto_line {limit} {old} q rs rest h (at_mark {r} entry) last laid = on_line limit r old r.dashes q rs rest h (λ u apart. dash_seam u h (at_mark entry) last apart) laid
upto_line {limit} {old} q rs rest h (at_dash {r} {ns} n ms is) last laid = on_line limit r old ns q rs rest h (λ u apart. dash_seam u h (at_dash n ms is) last apart) laid

pub after_laid : (limit : Limit) (r s : Row) (old : List ℕ) (rs : List Row) (rest : List ℕ) → IsRow limit r old → IsUpto s r → s.mark ≡ Dash →
    AreLaid (item_column (mark_column s)) rs rest → Replaces limit (mark_column s) r old (compact_rows s rs) rest
after_laid limit r s old [] rest h upto last laid = absurd laid
after_laid limit r s old (q ∷ rs) rest h upto last laid = upto_line q rs rest h upto last laid

following_lines : (above : List (List ℕ)) (column : ℕ) (ns ms : List ℕ) (m : RowMark) (c : Content) →
    lines_from above column (ns ++ 1 ∷ ms) m c ≡ lines_from above column ns Dash (Nothing []) ++ lines_from [] (item_column (after_columns column ns)) ms m c
following_lines above column [] ms m c = λ i. record { column = column; mark = outline.Dash; anchor = None; head = None; head_comment = above; line_comment = sym none_uncommented i } ∷ lines_from [] (suc (column + 1)) ms m c
following_lines above column (n ∷ ns) ms m c = ap (λ ls. dash_line above column ∷ ls) (following_lines [] (suc (column + n)) ns ms m c)

pub compact_lines : (s : Row) (rs : List Row) → BeginAt (item_column (mark_column s)) rs → lines_of_rows (compact_rows s rs) ≡ row_lines (dashed_row s.dashes (Nothing []) s) ++ lines_of_rows rs
compact_lines s rs h1 = search (rules, following_lines, append_assoc, no_comments)

pub rows_replaced : (limit : Limit) (column : ℕ) (before under after new : List Row) (r : Row) (end rest : List ℕ) → AreRows limit (before ++ (r ∷ (under ++ after))) end rest → BeginsUpto column after →
    Replaces (asked_after limit before) column r (rows_text (under ++ after) (end ++ rest)) new (rows_text after (end ++ rest)) → AreRows limit (before ++ (new ++ after)) end rest
rows_replaced limit column before under after new r end rest h upto by =
    let asked : Limit = asked_after limit before in
    let tail : AreRows (limit_after r) (under ++ after) end rest = (rows_after limit before (r ∷ (under ++ after)) end rest h).1 in
    let left : AreRows (asked_after (limit_after r) under) after end rest = rows_after (limit_after r) under after end rest tail in
    let again : AreRows (asked_after asked new) after end rest = relimit _ (asked_after asked new) after end rest (search (rules, by.follow, upto)) left in
    search (rules, rows_text-append, chain, rows_append, asked, again)
