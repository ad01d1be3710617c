-- Rows that end in one, lists of lines, and what a text of rows ends in.
use Rattle.std.proofs.Common.{rules, ◌≡◌, ℕ, suc, ◌+◌, false, not, List, [], ◌∷◌, ◌++◌, length, refl, sym, ap, ◌∙◌, subst, arith}
use Rattle.std.{proofs.Common.{append_assoc, length-append}, proofs.lemmas.Bool.false≢true, proofs.lemmas.List.length-replicate}
use Rattle.std.specs.List.{slice_get}
use Rattle.yq_core.specs.Text.{is_empty}
use Rattle.yq_outline.{specs.Outline.Line, specs.Positions.has_no_mark, proofs.WalkLevels.{RowsAgree, RowAgrees}}
use Rattle.yq_row_table.{specs.Grammar.{AreRows, unlimited}, specs.Rows.{Row, after_columns, dashes_text, print_row, rows_text}}
use Rattle.yq_row_table.proofs.seams.SeamLaws.{rows_text-append}
use Rattle.yq_places.{specs.CollectionEnds.is_broken, specs.PrintedLines.last_break, proofs.RunSpans.rows_then}
use Rattle.yq_edit_rules.{specs.Siblings.IsEntry, proofs.EndedRowLaws.row_there}
use Rattle.yq_edit_laws.proofs.FinalBreaks.{broken_is}
use Rattle.yq_outline.specs.Outline as outlines

pub get_after : (a b : List Line) (j : ℕ) → slice_get (a ++ b) (length a + j) ≡ slice_get b j
get_after [] b j = let same : 0 + j ≡ j = omega arith in ap (slice_get b) same
get_after (x ∷ a) b j = let same : suc (length a) + j ≡ suc (length a + j) = omega arith in ap (slice_get (x ∷ (a ++ b))) same ∙ get_after a b j

-- rows that are not none end in one
pub record EndIn (rs : List Row) : Type 0 where
  pub others : List Row
  pub last : Row
  pub is : rs ≡ others ++ (last ∷ [])

last_row : (r : Row) (rs : List Row) → EndIn (r ∷ rs)
last_row r [] = record { others = []; last = r; is = refl }
last_row r (q ∷ rs) = let h = last_row q rs in record { others = r ∷ h.others; last = h.last; is = ap (λ x. r ∷ x) h.is }

pub past_front : (front : List Row) (r : Row) (rs : List Row) → EndIn (front ++ (r ∷ rs))
past_front front r rs = let h = last_row r rs in record { others = front ++ h.others; last = h.last; is = ap (λ x. front ++ x) h.is ∙ sym (append_assoc front h.others (h.last ∷ [])) }

pub row_agrees_in : (a b : List Row) (r : Row) → RowsAgree (a ++ (r ∷ b)) → RowAgrees r
row_agrees_in [] b r h = h.0
row_agrees_in (x ∷ a) b r h = row_agrees_in a b r h.1

pub columns_are : (column : ℕ) (ns : List ℕ) → after_columns column ns ≡ column + length (dashes_text ns [])
columns_are column [] = omega arith
columns_are column (n ∷ ns) = search (rules, arith, length-replicate {A = ℕ} n 32, length-append, columns_are (suc (column + n)) ns)

pub no_bare : (m : outlines.LineMark) → has_no_mark m ≡ false → IsEntry m
no_bare outlines.Bare e = absurd (false≢true (sym e))
no_bare _ e = tt

-- what a text of rows ends in, by the last of them
pub text_broken : (front back : List Row) (gap rest : List ℕ) (h : EndIn front) → AreRows unlimited (front ++ back) gap rest → (a t : List ℕ) →
    rows_text front [] ≡ a ++ t → is_empty t ≡ false → not (is_empty (last_break t)) ≡ is_broken h.last.content
text_broken front back gap rest h rows a t is some =
    let all : AreRows unlimited (h.others ++ (h.last ∷ back)) gap rest = subst (λ rs. AreRows unlimited rs gap rest) (ap (λ rs. rs ++ back) h.is ∙ append_assoc h.others (h.last ∷ []) back) rows in
    let at = row_there unlimited h.others h.last back gap rest all in
    let text : rows_text h.others [] ++ print_row h.last [] ≡ a ++ t = sym (ap (λ rs. rows_text rs []) h.is ∙ (rows_text-append h.others (h.last ∷ []) [] ∙ rows_then h.others (print_row h.last []))) ∙ is in
    broken_is at.0 h.last _ at.1 (rows_text h.others []) a t text some
