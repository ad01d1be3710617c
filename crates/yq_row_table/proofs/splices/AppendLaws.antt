-- Rows after the last one of a text without a final break, in a cut.
use Rattle.std.proofs.Common.{rules, ◌≡◌, ℕ, suc, true, List, [], ◌∷◌, ◌++◌, length, ap, ◌∙◌}
use Rattle.yq_row_table.{specs.Exchange.allows_first, specs.Grammar.{Limit, limit_after, AreRows, IsCut}}
use Rattle.yq_row_table.{specs.Rows.{Row, print_row, rows_text, Cut}, specs.Appending.{closed_by, TakesBreak, IsLastRow}}
use Rattle.yq_row_table.specs.Splices.{after_first, nth_part, after_part, back_rows, asked_at, after_rows, replace_row, CutsItsText}
use Rattle.yq_row_table.{proofs.splices.PartPlaces.{row_is_there, rows_after, rows_from}, proofs.splices.SpliceCases.replaced}
use Rattle.yq_row_table.{proofs.splices.SpliceTexts.row_pairs, proofs.seams.TailLaws.{row_closed, limit_closed}}

-- nothing is after the last row
nothing_after : (rs : List Row) (end rest : List ℕ) → rs ≡ [] → rest ≡ [] → after_first rs end rest ≡ []
nothing_after rs end rest e f = ap (λ (x : List Row). after_first x end rest) e ∙ f

last_text : (rs : List Row) (r : Row) (end rest : List ℕ) → rs ≡ r ∷ [] → end ≡ [] → rest ≡ [] → rows_text rs (end ++ rest) ≡ print_row r []
last_text rs r end rest a b c = ap (λ (x : List Row). rows_text x (end ++ rest)) a ∙ (ap (λ (x : List ℕ). print_row r (x ++ rest)) b ∙ ap (print_row r) c)

no_bound : (limit : Limit) (rs : List Row) → rs ≡ [] → allows_first limit rs ≡ true
no_bound limit rs e = ap (allows_first limit) e

pub end_appended : (t : List ℕ) (c : Cut) (k : ℕ) (front : List Row) (r : Row) (break : List ℕ) (new : List Row) (gap : List ℕ) → IsCut t c → IsLastRow k front r c → TakesBreak r break → AreRows (limit_after r) new gap [] →
    CutsItsText (replace_row k front (closed_by break r ∷ new) gap c)
end_appended t c k front r break new gap h f takes n =
    let p = nth_part k c in
    let rest = after_part k c in
    let i = length front in
    let asked = asked_at k i c in
    let all : List Row = closed_by break r ∷ new in
    let last : back_rows k i c ≡ r ∷ [] = rows_from k front r [] c f.row in
    let none : back_rows k (suc i) c ≡ [] = rows_after k front r [] c f.row in
    let nothing : after_rows k (suc i) c ≡ [] = nothing_after (back_rows k (suc i) c) p.end rest none f.nothing in
    let text : rows_text (back_rows k i c) (p.end ++ rest) ≡ print_row r [] = last_text (back_rows k i c) r p.end rest last f.end f.nothing in
    let own : AreRows asked (r ∷ []) p.end rest = row_is_there t c k front r [] h f.row in
    search (rules, row_pairs, row_closed, limit_closed, replaced, no_bound)
