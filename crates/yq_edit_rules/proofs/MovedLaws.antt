-- Rows whose first dashes are those of another.
use Rattle.std.proofs.Common.{◌≡◌, ℕ, suc, ◌+◌, List, [], ◌∷◌, ◌++◌, None, refl, sym, ap, ◌∙◌, append_assoc, rules}
use Rattle.yq_outline.{specs.Comments.{head_comment, line_comment}, specs.Lines.{dash_line, lines_from, row_lines, lines_of_rows}}
use Rattle.yq_outline.specs.Outline.{Line}
use Rattle.yq_row_table.specs.Rows.{Content, Nothing, after_columns}
use Rattle.yq_places.proofs.UnderExchange.{lines_append}
use Rattle.yq_edit_rules.specs.Moved.{dash_lines, moved_up, DashesFirst, FirstMoved, FirstEmptied}
use Rattle.yq_row_table.specs.Rows as rows

-- the lines of dashes, and those after them
pub from_dashes : DashesFirst
from_dashes above column n [] es mark c = refl
from_dashes above column n (k ∷ ns) es mark c = ap (λ ls. dash_line above column ∷ ls) (from_dashes [] (suc (column + n)) k ns es mark c)

-- lines before, between and after
three : (a d x g z : List Line) → a ++ ((d ++ x) ++ (g ++ z)) ≡ (a ++ d) ++ ((x ++ g) ++ z)
three a d x g z = ap (λ y. a ++ y) (append_assoc d x (g ++ z) ∙ ap (λ y. d ++ y) (sym (append_assoc x g z))) ∙ sym (append_assoc a d ((x ++ g) ++ z))

two : (a d z y : List Line) → a ++ ((d ++ y) ++ z) ≡ (a ++ d) ++ (y ++ z)
two a d z y = ap (λ x. a ++ x) (append_assoc d y z) ∙ sym (append_assoc a d (y ++ z))

pub first_moved : FirstMoved
first_moved before gone after r b n ns es dashes column bare =
    let d : List Line = dash_lines (head_comment r.gap) r.column (n ∷ ns) in
    let old : row_lines r ≡ d ++ lines_from [] b.column es r.mark r.content =
    ap (λ ds. lines_from (head_comment r.gap) r.column ds r.mark r.content) dashes
    ∙ (from_dashes (head_comment r.gap) r.column n ns es r.mark r.content ∙ ap (λ k. d ++ lines_from [] k es r.mark r.content) (sym column)) in
    let new : row_lines (moved_up r (n ∷ ns) b) ≡ d ++ row_lines b =
    from_dashes (head_comment r.gap) r.column n ns b.dashes b.mark b.content
    ∙ (λ i. d ++ lines_from (sym bare i) (sym column i) b.dashes b.mark b.content) in (
      lines_append before (r ∷ (gone ++ (b ∷ after)))
          ∙ ((λ i. lines_of_rows before ++ (old i ++ lines_append gone (b ∷ after) i))
          ∙ three (lines_of_rows before) d (lines_from [] b.column es r.mark r.content) (lines_of_rows gone) (lines_of_rows (b ∷ after))),
      lines_append before (moved_up r (n ∷ ns) b ∷ after)
          ∙ ((λ i. lines_of_rows before ++ (new i ++ lines_of_rows after)) ∙ two (lines_of_rows before) d (lines_of_rows after) (row_lines b)),
    )

-- a row with nothing after its last dash has the lines of its dashes
from_last : (above : List (List ℕ)) (column n : ℕ) (ns tail : List ℕ) → line_comment tail ≡ None → lines_from above column ns rows.Dash (Nothing tail) ≡ dash_lines above column (ns ++ (n ∷ []))
from_last above column n [] tail e = search rules
from_last above column n (k ∷ ns) tail e = ap (λ ls. dash_line above column ∷ ls) (from_last [] (suc (column + k)) n ns tail e)

split_dashes : (above : List (List ℕ)) (column n : ℕ) (ns es : List ℕ) (mark : rows.RowMark) (c : Content) →
    lines_from above column ((ns ++ (n ∷ [])) ++ es) mark c ≡ dash_lines above column (ns ++ (n ∷ [])) ++ lines_from [] (after_columns column (ns ++ (n ∷ []))) es mark c
split_dashes above column n [] es mark c = refl
split_dashes above column n (k ∷ ns) es mark c = ap (λ ls. dash_line above column ∷ ls) (split_dashes [] (suc (column + k)) n ns es mark c)

pub first_emptied : FirstEmptied
first_emptied before gone after r n ns es tail dashes bare = search (rules, split_dashes, from_last, lines_append, three, append_assoc)
