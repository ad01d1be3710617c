-- Another root for a document, also where it had none written.
use Rattle.std.proofs.Common.{◌≡◌, ℕ, ◌+◌, ◌≤◌, List, [], ◌++◌, length, true, refl, sym, ap, ◌∙◌, subst, append-nil, ⊎_elim, rules}
use Rattle.std.proofs.lemmas.Bool.{cases_Bool}
use Rattle.yq_core.specs.Characters.{is_text}
use Rattle.yq_text.specs.Limit.{text_limit}
use Rattle.yq_row_table.{specs.Grammar.{IsCut, no_rows}, specs.Rows.{rows_text, Part, Cut, cut_text}}
use Rattle.yq_row_table.{specs.SpliceFits.{SpliceFits, is_after}, specs.Splices.{after_part, is_started, marker_before, nth_part}}
use Rattle.yq_row_table.{proofs.splices.PartPlaces.part_after, proofs.splices.SpliceLaws.spliced}
use Rattle.yq_documents.{specs.Documents.{HaveFitKeys, HasShortRoot}, specs.PartNumbers.part_number}
use Rattle.yq_outline.specs.Lines.{lines_of_rows}
use Rattle.yq_edit_rules.{specs.DocumentRows.RowsFit, specs.Replaces.{DocumentRooted, RootRowsReplaced, rooted}}
use Rattle.yq_edit_rules.proofs.BlockChangeLaws.{root_replaced}
use Rattle.yq_edit_rules.proofs.PartLaws.{document_known, document_started, fits, is_put, part_numbered, rows_put}

pub document_rooted : DocumentRooted
document_rooted t c k p new gap old takes text =
    let cut : IsCut t c = (document_known t c k p old).cut in
    let j : ℕ = part_number k c in
    let n : ℕ = length p.rows in
    let rest : List ℕ = after_part j c in
    let is : nth_part j c ≡ p = (part_numbered c k p old.there).0 in
    let all : p.rows ≡ [] ++ (p.rows ++ []) = sym (append-nil p.rows) in
    let same = rows_put c k p [] p.rows [] new gap old.there all in
    let after : is_after (marker_before [] j c) (rows_text new (gap ++ rest)) ≡ true = search (rules, ⊎_elim, part_after, cases_Bool, is, cut, j, rest) in
    let fit : RowsFit [] new [] gap p rest = record { rows = takes.new_are; next = refl; seam = refl } in
    let splice_fits = fits (marker_before [] j c) (is_started true j c) [] p.rows [] new gap p rest all fit after (document_started c k p old.there) in
    subst (λ (x : Cut). IsCut (cut_text x) x) same
    (spliced t c j 0 (0 + n) new gap cut (subst (λ (x : Part). SpliceFits (marker_before [] j c) (is_started true j c) 0 (0 + n) new gap x rest) (sym is) splice_fits)
    (ap (λ (x : Cut). is_text (cut_text x)) same ∙ text.characters) (subst (λ (x : Cut). length (cut_text x) ≤ text_limit) (sym same) text.size))

-- the new part, with these rows
pub root_rows_replaced : RootRowsReplaced
root_rows_replaced t c k p v new gap m u old takes fit lines may text =
    let there : new ++ [] ≡ new = append-nil new in
    let put = is_put t c k p (rooted new gap p) old (ap no_rows there ∙ takes.some) text (document_rooted t c k p new gap old takes text)
    (subst HaveFitKeys (sym there) takes.keys) (subst HasShortRoot (sym there) takes.short) in
    root_replaced t c k p (rooted new gap p) v m u put fit (ap lines_of_rows there ∙ lines) may
