-- The text of a document, by rows that are taken out of it.
use Rattle.std.proofs.Common.{◌≡◌, Bool, false, cond, ℕ, List, [], ◌∷◌, ◌++◌, refl, sym, ap, ◌∙◌, append_assoc, rules}
use Rattle.std.proofs.lemmas.Bool.{false≢true}
use Rattle.yq_core.{specs.Block.RawLines, specs.Text.{joined, text_lines}, proofs.LineLaws.joined_lines}
use Rattle.yq_outline.specs.Comments.{are_comments}
use Rattle.yq_row_table.{specs.Grammar.no_rows, specs.Rows.{Row, print_row, rows_text, part_text}}
use Rattle.yq_row_table.{specs.Splices.{after_first, first_gap, with_row_gap}, proofs.PlaceLaws.row_then}
use Rattle.yq_row_table.{proofs.seams.SeamLaws.rows_text-append, proofs.splices.SpliceTexts.first_text}
use Rattle.yq_documents.{specs.Pieces.{before_run, last_run}, proofs.RunLaws.run_split}
use Rattle.yq_places.{specs.PlacedRows.PlacedPart, specs.RemovalPlaces.{OwnRows, kept_gap, comment_above, rows_out}}

pub texts_then : (rs : List Row) (t u : List ℕ) → rows_text rs (t ++ u) ≡ rows_text rs t ++ u
texts_then [] t u = refl
texts_then (r ∷ rs) t u = ap (λ (x : List ℕ). print_row r x) (texts_then rs t u) ∙ row_then r (rows_text rs t) u

-- rows after their gap, before a rest
pub first_then : (rs : List Row) (end rest : List ℕ) → no_rows rs ≡ false → rows_text rs rest ≡ first_gap rs end ++ (after_first rs [] [] ++ rest)
first_then [] end rest some = absurd (false≢true (sym some))
first_then (r ∷ rs) end rest some = cc (texts_then rs [] rest, row_then (with_row_gap [] r) (rows_text rs []) rest)

-- what stays of a gap, and the comment that ends it
pub gap_parts : (gap : List ℕ) → joined (before_run (text_lines gap)) ++ joined (last_run (text_lines gap)) ≡ gap
gap_parts gap = run_split (text_lines gap) ∙ joined_lines gap

-- the same by lines
pub run_parts : (ls : RawLines) → ls ≡ before_run ls ++ last_run ls
run_parts [] = refl
run_parts (l ∷ ls) = go (are_comments (l ∷ ls)) (run_parts ls)
  where
    go : (b : Bool) → ls ≡ before_run ls ++ last_run ls → l ∷ ls ≡ cond b [] (l ∷ before_run ls) ++ cond b (l ∷ ls) (last_run ls)
    go b h1 = search rules

pub old_text : (d : PlacedPart) (x : OwnRows) → d.part.rows ≡ x.front ++ (x.own ++ x.back) → no_rows x.own ≡ false →
    d.before ++ part_text d.part d.after ≡ (rows_out d x).before ++ ((rows_out d x).gone ++ ((rows_out d x).gap ++ (rows_out d x).after))
old_text d x rows some =
    let end : List ℕ = d.part.end in
    let kept : List ℕ = kept_gap x.own end in
    let run : List ℕ = comment_above x.own end in
    let body : List ℕ = after_first x.own [] [] in
    let gap : List ℕ = first_gap x.back end in
    let after : List ℕ = after_first x.back end d.after in
    ap (λ (t : List ℕ). d.before ++ t)
    (ap (λ (rs : List Row). rows_text rs (end ++ d.after)) rows
    ∙ (rows_text-append x.front (x.own ++ x.back) (end ++ d.after)
    ∙ (ap (rows_text x.front)
    (rows_text-append x.own x.back (end ++ d.after)
    ∙ (ap (rows_text x.own) (first_text x.back end d.after)
    ∙ (first_then x.own end (gap ++ after) some
    ∙ (ap (λ (t : List ℕ). t ++ (body ++ (gap ++ after))) (sym (gap_parts (first_gap x.own end)))
    ∙ append_assoc kept run (body ++ (gap ++ after))))))
    ∙ texts_then x.front kept (run ++ (body ++ (gap ++ after))))))
    ∙ (sym (append_assoc d.before (rows_text x.front kept) (run ++ (body ++ (gap ++ after))))
    ∙ ap (λ (t : List ℕ). (d.before ++ rows_text x.front kept) ++ t) (sym (append_assoc run body (gap ++ after))))
