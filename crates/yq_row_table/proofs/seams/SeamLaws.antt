-- Rows before rows that are in the place of others.
use Rattle.std.proofs.Common.{◌≡◌, ◌⊎◌, inl, inr, ℕ, suc, ℤ, Bool, true, false, ◌||◌, if◌then◌else◌, List, [], ◌∷◌, ◌++◌, Some, take, drop}
use Rattle.std.proofs.Common.{refl, sym, ap, ◌∙◌, subst, ⊎_elim, append_assoc, rules}
use Rattle.std.{proofs.lemmas.Bool.{false≢true, or_cases, and_parts}, proofs.lemmas.List.take-append-drop}
use Rattle.yq_core.{specs.Piece.deeper, specs.Plain.ends_plain, specs.Text.{is_empty, front, is_break, is_line, is_marker}}
use Rattle.yq_core.specs.Alike.{Alike}
use Rattle.yq_row_table.{specs.Exchange.{allows_first, asked_after, with_content}, specs.Gap.{IsBreak, IsLineEnd}}
use Rattle.yq_row_table.specs.Grammar.{IsTail, IsContent, is_plain_content, IsRow, Limit, unlimited, limit_after, limit_after_content}
use Rattle.yq_row_table.specs.Grammar.{AreRows, no_rows, ends_part}
use Rattle.yq_row_table.specs.Rows.{Content, Nothing, Inline, Block, Row, parent_indent, print_row, rows_text}
use Rattle.yq_row_table.specs.Seams.{is_closed, is_seam, MayFollowRows, TakesPlace, tail_after, TailFits}
use Rattle.yq_row_table.{specs.Splices.{with_first_gap, end_gap, after_first}, proofs.AlikeRows.{row_alike, row_text_alike}}
use Rattle.yq_row_table.{proofs.EmptyTexts.{empty_is, empty_or}, proofs.LineEnds.{text_line, white_none, comment_none}}
use Rattle.yq_row_table.{proofs.NothingLaws.no_tail, proofs.PlaceLaws.first_allowed}
use Rattle.yq_row_table.{proofs.PlainEnds.{AtLine, tail_ends, rows_line, marker_line, end_line}, proofs.seams.NodeSeams.plain_text}
use Rattle.yq_row_table.{proofs.seams.ScalarSeams.Joint, proofs.seams.RowSeams.row_tail}

-- tails
no_line : is_line [] ≡ false
unfolding is_line
no_line = refl

-- the end of a line by its break
pub line_by_break : (white comment tail t : List ℕ) (h : IsLineEnd white comment tail t) → is_line tail ≡ is_line h.break
line_by_break white comment tail t h =
    ap is_line (h.spelled ∙ sym (append_assoc white comment h.break)) ∙ text_line (white ++ comment) h.break (white_none white comment h.break h.blank (comment_none comment h.break h.as_comment))

-- a tail without a break is at the end of the text
pub tail_line : (tail t : List ℕ) → IsTail tail t → (is_line tail ≡ true) ⊎ (t ≡ [])
tail_line tail t h = ⊎_elim {0, 0, 0}
    (λ e. inl (line_by_break h.white h.comment tail t h.line ∙ (and_parts (is_break h.line.break) (is_line h.line.break) e).1))
    (λ e. inr e.1)
    h.line.ends

tail_no_line : (tail t : List ℕ) (h : IsTail tail t) → h.line.break ≡ [] → is_line tail ≡ false
tail_no_line tail t h e = line_by_break h.white h.comment tail t h.line ∙ (ap is_line e ∙ no_line)

closed_end : (b : Bool) (u : List ℕ) → (b || is_empty u) ≡ true → b ≡ false → u ≡ []
closed_end b u h e = search (rules, false≢true, empty_is)

pub tail_kept : (tail t u : List ℕ) → is_closed tail u ≡ true → IsTail tail t → IsTail tail u
tail_kept tail t u c h =
    let ends : IsBreak h.line.break u = ⊎_elim {0, 0, 0} (λ e. inl e) (λ e. inr (e.0, closed_end (is_line tail) u c (tail_no_line tail t h e.0))) h.line.ends in
    record { white = h.white; comment = h.comment; line = record { break = h.line.break; spelled = h.line.spelled; blank = h.line.blank; as_comment = h.line.as_comment; ends = ends }; apart = h.apart }

joint_tail : (p tail t u : List ℕ) → is_closed tail u ≡ true → IsTail tail t → Joint p (tail ++ t) (tail ++ u)
joint_tail p tail t u h1 h2 = search (rules, closed_end, no_line, ⊎_elim, no_tail, empty_or)

-- after a plain scalar the lines are not deep
abbrev pub PlainEnds : ℤ → Content → List ℕ → Type 0
PlainEnds n (Nothing tail) u = Unit {0}
PlainEnds n (Inline space node tail) u = is_plain_content node ≡ true → IsTail tail u → ends_plain false (Some (deeper n)) (tail ++ u) ≡ true
PlainEnds n (Block space anchor block) u = Unit {0}

own_fits : (n : ℤ) (c : Content) (t u : List ℕ) → IsContent n c t → is_seam c u ≡ true → PlainEnds n c u → TailFits n (tail_after c) c u
own_fits n (Nothing tail) t u h s e = tail_kept tail t u s h
own_fits n (Inline space node tail) t u h s e = let kept = tail_kept tail t u s h.2 in (kept, λ plain. e plain kept)
own_fits n (Block space anchor block) t u h s e = s

-- a row before another text
pub row_seam : (limit : Limit) (r : Row) (t u : List ℕ) → IsRow limit r t → is_seam r.content u ≡ true → PlainEnds (parent_indent r) r.content u → TakesPlace limit r t r u
row_seam limit r t u h s e =
    let n = parent_indent r in
    let kept = row_tail limit r t (tail_after r.content) u h (own_fits n r.content t u h.content s e) (search (rules, joint_tail, plain_text)) in
    subst (λ (c : Content). TakesPlace limit r t (with_content c r) u) (search rules) kept

-- where the next row is
pub part_line : (d : ℕ) (t : List ℕ) → ends_part t ≡ true → AtLine d t
part_line d t h = ⊎_elim {0, 0, 0} (λ e. subst (AtLine d) (sym (empty_is t e)) (end_line d)) (λ e. marker_line d t e) (or_cases (is_empty t) (is_marker t) h)

pub plain_before : (n : ℤ) (c : Content) (rs : List Row) (end rest : List ℕ) → AreRows (limit_after_content n c) rs end rest → ends_part rest ≡ true → PlainEnds n c (rows_text rs (end ++ rest))
plain_before n (Inline space node tail) rs end rest h e = λ plain last.
    let d = deeper n in
    let asked : Limit = if is_plain_content node then record { column = Some d } else unlimited in
    let allowed : allows_first asked rs ≡ true = first_allowed asked rs end rest h in
    let next : allows_first (record { column = Some d }) rs ≡ true = rw plain at allowed in
    tail_ends d last.white last.comment tail (rows_text rs (end ++ rest)) last.line last.apart (rows_line d rs asked end rest h next (part_line d rest e))
plain_before n _ rs end rest h e = tt

-- The text after rows and the rows before it.
abbrev pub RowsKept : Limit → List Row → List Row → List Row → List ℕ → List ℕ → List ℕ → List ℕ → Type 0
RowsKept limit front rows new end rest other_end other =
    AreRows limit (front ++ new) other_end other
    × ((no_rows front ≡ true) ⊎ Alike (Some false) (rows_text (front ++ rows) (end ++ rest)) (rows_text (front ++ new) (other_end ++ other)))

pub rows_seam : (front rows new : List Row) (limit : Limit) (end rest other_end other : List ℕ) → AreRows limit (front ++ rows) end rest →
    MayFollowRows limit front new other_end other → RowsKept limit front rows new end rest other_end other
rows_seam [] rows new limit end rest other_end other h f = (f.rows, inl refl)
rows_seam (r ∷ []) rows new limit end rest other_end other h f =
    let kept = row_seam limit r (rows_text rows (end ++ rest)) (rows_text new (other_end ++ other)) h.0 f.seam (plain_before (parent_indent r) r.content new other_end other f.rows f.ends) in
    ((kept.row, f.rows), inr kept.alike)
rows_seam (r ∷ (q ∷ front)) rows new limit end rest other_end other h f =
    let again = rows_seam (q ∷ front) rows new (limit_after r) end rest other_end other h.1 (record { rows = f.rows; seam = f.seam; ends = f.ends }) in
    let t = rows_text ((q ∷ front) ++ rows) (end ++ rest) in
    let u = rows_text ((q ∷ front) ++ new) (other_end ++ other) in
    let alike : Alike (Some false) t u = ⊎_elim {0, 0, 0} (λ x. absurd (false≢true x)) (λ x. x) again.1 in
    ((row_alike limit r t u alike h.0, again.0), inr (row_text_alike r t u alike))

pub row_before : (limit : Limit) (r : Row) (t : List ℕ) (rs : List Row) (end rest : List ℕ) → IsRow limit r t → MayFollowRows limit (r ∷ []) rs end rest → IsRow limit r (rows_text rs (end ++ rest))
row_before limit r t rs end rest h f = (row_seam limit r t (rows_text rs (end ++ rest)) h f.seam (plain_before (parent_indent r) r.content rs end rest f.rows f.ends)).row

-- rows after the new ones
pub rows_text-append : (a b : List Row) (t : List ℕ) → rows_text (a ++ b) t ≡ rows_text a (rows_text b t)
rows_text-append [] b t = refl
rows_text-append (r ∷ a) b t = ap (print_row r) (rows_text-append a b t)

pub gap_text : (gap : List ℕ) (rs : List Row) (end rest : List ℕ) → rows_text (with_first_gap gap rs) (end_gap gap rs end ++ rest) ≡ gap ++ after_first rs end rest
gap_text gap rs end rest = search rules

pub spliced_text : (new : List Row) (gap : List ℕ) (rs : List Row) (end rest : List ℕ) → rows_text (new ++ with_first_gap gap rs) (end_gap gap rs end ++ rest) ≡ rows_text new (gap ++ after_first rs end rest)
spliced_text new gap rs end rest = rows_text-append new (with_first_gap gap rs) (end_gap gap rs end ++ rest) ∙ ap (rows_text new) (gap_text gap rs end rest)

pub rows_join : (new : List Row) (limit was : Limit) (gap : List ℕ) (rs : List Row) (end rest : List ℕ) →
    AreRows limit new gap (after_first rs end rest) → AreRows was rs end rest → allows_first (asked_after limit new) rs ≡ true →
    AreRows limit (new ++ with_first_gap gap rs) (end_gap gap rs end) rest
rows_join [] limit was gap [] end rest h k a = h
rows_join [] limit was gap (r ∷ rs) end rest h k a = (record { gap = h; allowed = a; unmarked = k.0.unmarked; dashes = k.0.dashes; mark = k.0.mark; content = k.0.content }, k.1)
rows_join (x ∷ new) limit was gap rs end rest h k a = search (rules, spliced_text, rows_join new (limit_after x) was gap rs end rest h.1 k a)

pub rows_drop : (j : ℕ) (rs : List Row) (limit : Limit) (end rest : List ℕ) → AreRows limit rs end rest → AreRows (asked_after limit (take j rs)) (drop j rs) end rest
rows_drop (suc j) (r ∷ rs) limit end rest h = rows_drop j rs (limit_after r) end rest h.1
rows_drop _ _ limit end rest h = h

-- rows, cut in two
pub rows_parted : (i : ℕ) (rs : List Row) (limit : Limit) (end rest : List ℕ) → AreRows limit rs end rest → AreRows limit (take i rs ++ drop i rs) end rest
rows_parted i rs limit end rest h = subst (λ (all : List Row). AreRows limit all end rest) (sym (take-append-drop i rs)) h
