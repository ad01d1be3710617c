-- Gaps, tails, and what holds nothing but an anchor: before one text that isn't empty as before another.
use Rattle.std.proofs.Common.{◌≡◌, inl, inr, ℕ, Bool, true, false, List, [], ◌∷◌, ◌++◌, length, refl, sym, ap, ◌∙◌, ⊎_elim, length-append}
use Rattle.std.{proofs.Common.rules, proofs.lemmas.Bool.{false≢true, false_from_ne_true, or_right, or_parts}}
use Rattle.yq_core.specs.Text.{is_empty, unless, ends_line, separates, NoneIn}
use Rattle.yq_core.specs.Nodes.{begins_with, begins_content, begins_node, IsLead}
use Rattle.yq_row_table.{specs.Gap.{IsWhite, IsBreak, IsLineEnd, AreGapLines, IsGap}, specs.Grammar.IsTail}
use Rattle.yq_row_table.{proofs.Fronts.{node_starts, stops_by}, proofs.LineEnds.{none_in_white, following_line_end}}

pub some_after : (p t : List ℕ) → is_empty t ≡ false → is_empty (p ++ t) ≡ false
some_after [] t some = some
some_after (b ∷ p) t some = refl

-- ends of lines
break_other : (p t u : List ℕ) → is_empty t ≡ false → IsBreak p t → IsBreak p u
break_other p t u some h = ⊎_elim {0, 0, 0} (λ e. inl e) (λ e. absurd (false≢true (sym some ∙ ap is_empty e.1))) h

pub line_end_other : (white comment p t u : List ℕ) → is_empty t ≡ false → IsLineEnd white comment p t → IsLineEnd white comment p u
line_end_other white comment p t u some h = record { break = h.break; spelled = h.spelled; blank = h.blank; as_comment = h.as_comment; ends = break_other h.break t u some h.ends }

lines_other : (lines : List (List ℕ)) (t u : List ℕ) → is_empty t ≡ false → AreGapLines lines t → AreGapLines lines u
lines_other [] t u some h = tt
lines_other (l ∷ ls) t u some h = search (rules, line_end_other, some_after, lines_other ls t u some h.1)

pub gap_other : (p t u : List ℕ) → is_empty t ≡ false → IsGap p t → IsGap p u
gap_other p t u some h = record { lines = h.lines; spelled = h.spelled; each = lines_other h.lines t u some h.each }

-- a tail isn't empty where something is after it
no_break : (p t : List ℕ) → length p ≡ 0 → is_empty t ≡ false → IsBreak p t → ⊥
no_break p t h1 h2 h3 = search (rules, false≢true)

pub no_tail : (t : List ℕ) → is_empty t ≡ false → IsTail [] t → ⊥
no_tail t some h = search (rules, no_break, length-append)

-- no node begins in front of a tail
white_no_node : (white after : List ℕ) → IsWhite white → begins_node false after ≡ false → begins_node false (white ++ after) ≡ false
white_no_node [] after blank none = none
white_no_node (b ∷ white) after blank none = search (rules, false_from_ne_true, false≢true, node_starts)

pub tail_no_node : (tail rest : List ℕ) → IsTail tail rest → begins_node false (tail ++ rest) ≡ false
tail_no_node tail rest h =
    let f = following_line_end h.white h.comment tail rest h.line in
    ap (begins_node false) f.1 ∙ white_no_node h.white f.0 h.line.blank (stops_by f.0 f.3).no_node

-- an anchor before a tail
pub name_again : (q : ℕ → Bool) (p t u : List ℕ) → NoneIn (unless q) p t → NoneIn (unless q) p u
name_again q [] t u h = tt
name_again q (b ∷ p) t u h = (h.0, name_again q p t u h.1)

pub tail_lead : (tail rest : List ℕ) → IsTail tail rest → IsLead false (begins_content false) [] (tail ++ rest)
tail_lead tail rest h =
    let f = following_line_end h.white h.comment tail rest h.line in
    let none = or_parts (begins_with 38 f.0) _ (stops_by f.0 f.3).no_node in
    inr (refl, (h.white, f.0, f.1, (none_in_white h.white f.0 h.line.blank, f.2), none.1))

-- white space, a break or the end is in front of a tail
line_apart : (t : List ℕ) → ends_line t ≡ true → separates t ≡ true
line_apart t h = search (rules, or_right)

pub tail_apart : (tail rest : List ℕ) → IsTail tail rest → separates (tail ++ rest) ≡ true
tail_apart tail rest h = search (rules, following_line_end, line_apart, false≢true)
