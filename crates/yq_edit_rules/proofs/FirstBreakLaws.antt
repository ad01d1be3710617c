-- The break after the lines of an item or entry.
use Rattle.std.proofs.Common.{◌≡◌, ◌⊎◌, inl, inr, ℕ, ℤ, ◌<◌, Bool, true, false, cond, List, [], ◌∷◌, ◌++◌, length, drop, None, refl, sym}
use Rattle.std.{proofs.Common.{ap, ◌∙◌, subst, arith, append-nil, rules}, proofs.lemmas.Bool.{false≢true, eqb-true, and_parts}}
use Rattle.std.{proofs.lemmas.Str.IsUtf8-from_ascii, proofs.lemmas.Str.Ascii.{IsAscii-nil, IsAscii-cons}, specs.Str.IsUtf8}
use Rattle.yq_core.{specs.Text.{cut_line, is_empty, separates, is_line}, proofs.BlockPieceLaws.{IsLf, line_lf, raw_lf}}
use Rattle.yq_outline.{specs.Comments.line_comment, specs.Group.group, specs.Outline.Line, specs.Lines.{lines_from, lines_of_rows}}
use Rattle.yq_row_table.specs.Grammar.{IsContent, IsTail, AreRows, Limit, limit_after}
use Rattle.yq_row_table.{specs.Rows.{Content, Nothing, Inline, Block, Row, rows_text}, proofs.NothingLaws.some_after}
use Rattle.yq_row_table.proofs.NodePieces.{BeginsAscii}
use Rattle.yq_places.specs.PrintedLines.{is_last_break, less_break, last_break, end_break, PrintedLine, printed_from, printed_row}
use Rattle.yq_places.{specs.PrintedLines.{printed_lines, run_break}, proofs.CommentPieceLaws.{Ended, tail_end}, proofs.FinishLaws.lf_after}
use Rattle.yq_edit_rules.{proofs.RemovalChangeLaws.FirstEntry, specs.Siblings.HasEntries}
use Rattle.yq_row_table.specs.Rows as rows

-- LF, or CR LF (5.4)
abbrev pub IsOneBreak : List ℕ → Type 0
IsOneBreak t = (t ≡ 10 ∷ []) ⊎ (t ≡ 13 ∷ (10 ∷ []))

-- ---- the break that ends a text

no_lf : IsLf [] → ⊥
no_lf h = go h.0 h.1
  where
    go : (t : List ℕ) → [] ≡ t ++ 10 ∷ [] → ⊥
    go [] e = cc
    go (x ∷ t) e = cc

last_lf : (t : List ℕ) → IsLf t → IsOneBreak (last_break t)
unfolding less_break
last_lf [] h = absurd (no_lf h)
last_lf (b ∷ bs) h = go (is_last_break (b ∷ bs)) refl (λ lf. last_lf bs lf)
  where
    go : (c : Bool) → is_last_break (b ∷ bs) ≡ c → (IsLf bs → IsOneBreak (last_break bs)) → IsOneBreak (drop (length (cond c [] (b ∷ less_break bs))) (b ∷ bs))
    go true e again = search (rules, eqb-true, and_parts, false≢true, e)
    go false e again = again (lf_after b bs e h)

content_break : (n : ℤ) (x : Content) (rest : List ℕ) → IsContent n x rest → is_empty rest ≡ false → IsOneBreak (end_break x)
content_break n (Nothing tail) rest h some = go (tail_end tail rest h)
  where
    go : Ended tail rest → IsOneBreak (last_break tail)
    go (inl lf) = last_lf tail lf
    go (inr none) = absurd (false≢true (sym some ∙ ap is_empty none))
content_break n (Inline space node tail) rest h some = go (tail_end tail rest h.2)
  where
    go : Ended tail rest → IsOneBreak (last_break tail)
    go (inl lf) = last_lf tail lf
    go (inr none) = absurd (false≢true (sym some ∙ ap is_empty none))
content_break n (Block space anchor block) rest h some = search (rules, raw_lf, line_lf, and_parts, last_lf, some_after)

-- ---- the break after lines

-- the break of the last of these lines
abbrev pub lines_break : List PrintedLine → List ℕ
lines_break [] = []
lines_break (l ∷ ls) = run_break l ls

break_after : (xs : List PrintedLine) (y : PrintedLine) (ys : List PrintedLine) → lines_break (xs ++ (y ∷ ys)) ≡ lines_break (y ∷ ys)
break_after (x ∷ (z ∷ xs)) y ys = break_after (z ∷ xs) y ys
break_after _ y ys = refl

break_last : (xs ys : List PrintedLine) → (ys ≡ [] → ⊥) → lines_break (xs ++ ys) ≡ lines_break ys
break_last xs [] some = absurd (some refl)
break_last xs (y ∷ ys) some = break_after xs y ys

from_break : (gap spaces : List ℕ) (column : ℕ) (ns : List ℕ) (m : rows.RowMark) (c : Content) → lines_break (printed_from gap spaces column ns m c) ≡ end_break c
from_break gap spaces column (n ∷ (k ∷ ns)) m c = from_break [] [] _ (k ∷ ns) m c
from_break gap spaces column _ m c = refl

from_some : (gap spaces : List ℕ) (column : ℕ) (ns : List ℕ) (m : rows.RowMark) (c : Content) (z : List PrintedLine) → printed_from gap spaces column ns m c ++ z ≡ [] → ⊥
from_some gap spaces column [] m c z e = cc
from_some gap spaces column (n ∷ ns) m c z e = cc

pub rows_break : (limit : Limit) (r : Row) (gone more : List Row) (end rest gap spaces : List ℕ) (column : ℕ) (es : List ℕ) → AreRows limit (r ∷ (gone ++ more)) end rest →
    is_empty (rows_text more (end ++ rest)) ≡ false →
    IsOneBreak (lines_break (printed_from gap spaces column es r.mark r.content ++ printed_lines gone))
rows_break limit r [] more end rest gap spaces column es h some = search (rules, append-nil, from_break, content_break)
rows_break limit r (g ∷ gone) more end rest gap spaces column es h some =
    subst IsOneBreak (sym (break_last (printed_from gap spaces column es r.mark r.content) (printed_row g ++ printed_lines gone)
    (from_some g.gap _ g.column g.dashes g.mark g.content (printed_lines gone))))
    (rows_break (limit_after r) g gone more end rest g.gap _ g.column g.dashes h.1 some)

-- ---- what a break is

pub break_cut : (b rest : List ℕ) → IsOneBreak b → cut_line (b ++ rest) ≡ (b, rest)
unfolding Rattle.yq_core.specs.Text.line_len
break_cut b rest e = search rules

pub break_tail : (b rest : List ℕ) → IsOneBreak b → IsTail b rest
unfolding is_line
break_tail b rest (inl e) = subst (λ (x : List ℕ). IsTail x rest) (sym e) (record {
  white = [];
  comment = [];
  line = record { break = 10 ∷ []; spelled = refl; blank = tt; as_comment = tt; ends = inl refl };
  apart = refl;
})
break_tail b rest (inr e) = subst (λ (x : List ℕ). IsTail x rest) (sym e) (record {
  white = [];
  comment = [];
  line = record { break = 13 ∷ (10 ∷ []); spelled = refl; blank = tt; as_comment = tt; ends = inl refl };
  apart = refl;
})

pub break_apart : (b rest : List ℕ) → IsOneBreak b → separates (b ++ rest) ≡ true
break_apart b rest e = search rules

pub break_bare : (b : List ℕ) → IsOneBreak b → line_comment b ≡ None
unfolding Rattle.yq_core.specs.Text.upto
break_bare b e = search rules

pub break_ascii : (b rest : List ℕ) → IsOneBreak b → BeginsAscii (b ++ rest)
break_ascii b rest (inl e) = subst (λ (x : List ℕ). BeginsAscii (x ++ rest)) (sym e) (let less : 10 < 128 = omega arith in less)
break_ascii b rest (inr e) = subst (λ (x : List ℕ). BeginsAscii (x ++ rest)) (sym e) (let less : 13 < 128 = omega arith in less)

-- ---- first lines of rows, and the last one of dashes

pub entries_first : (ls : List Line) → HasEntries (group ls) → FirstEntry ls
entries_first ls h = search rules

from_first : (above : List (List ℕ)) (column : ℕ) (ns : List ℕ) (m : rows.RowMark) (c : Content) (x y : List Line) → FirstEntry (lines_from above column ns m c ++ x) →
    FirstEntry (lines_from above column ns m c ++ y)
from_first above column [] m c x y h = h
from_first above column (n ∷ ns) m c x y h = h

pub first_stays : (front old new : List Row) → FirstEntry (lines_of_rows (front ++ old)) → FirstEntry (lines_of_rows new) → FirstEntry (lines_of_rows (front ++ new))
first_stays [] old new h k = k
first_stays (r ∷ front) old new h k = from_first _ r.column r.dashes r.mark r.content (lines_of_rows (front ++ old)) (lines_of_rows (front ++ new)) h

pub dashes_first : (above : List (List ℕ)) (column : ℕ) (ns ms : List ℕ) (m : rows.RowMark) (c : Content) (x : List Line) → 0 < length ns → FirstEntry (lines_from above column (ns ++ ms) m c ++ x)
dashes_first above column [] ms m c x h = absurd (omega (arith, h))
dashes_first above column (n ∷ ns) ms m c x h = tt

pub dash_first : (above : List (List ℕ)) (column : ℕ) (ns : List ℕ) (c : Content) (x : List Line) → FirstEntry (lines_from above column ns rows.Dash c ++ x)
dash_first above column [] c x = tt
dash_first above column (n ∷ ns) c x = tt

-- the last of some dashes
pub last_dash : (ns : List ℕ) → 0 < length ns → (init : List ℕ) × (n : ℕ) × (ns ≡ init ++ (n ∷ []))
last_dash [] h = absurd (omega (arith, h))
last_dash (n ∷ []) h = ([], n, refl)
last_dash (n ∷ (k ∷ ns)) h = let x = last_dash (k ∷ ns) (omega arith) in (n ∷ x.0, x.1, ap (λ (ms : List ℕ). n ∷ ms) x.2)

pub ascii_break : (b : List ℕ) → IsOneBreak b → IsUtf8 b
ascii_break b (inl e) = subst IsUtf8 (sym e) (IsUtf8-from_ascii (10 ∷ []) (IsAscii-cons 10 [] (omega arith) IsAscii-nil))
ascii_break b (inr e) = subst IsUtf8 (sym e) (IsUtf8-from_ascii (13 ∷ (10 ∷ [])) (IsAscii-cons 13 (10 ∷ []) (omega arith) (IsAscii-cons 10 [] (omega arith) IsAscii-nil)))
