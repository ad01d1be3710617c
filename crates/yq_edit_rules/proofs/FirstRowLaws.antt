-- The first item or entry of a compact collection taken out, by its rows.
use Rattle.std.proofs.Common.{◌≡◌, List, [], ◌∷◌, ◌++◌, false, refl, sym, ap, ◌∙◌, subst, append_assoc, rules}
use Rattle.std.proofs.lemmas.Bool.{false≢true}
use Rattle.yq_row_table.{specs.Grammar.no_rows, specs.Rows.{Row, Part}, specs.Splices.first_gap, proofs.splices.SpliceTexts.own_gap}
use Rattle.yq_documents.specs.Documents.{HaveFitKeys, HasShortRoot, is_long_plain}
use Rattle.yq_edit_rules.{specs.Appends.inserted, specs.Moved.{emptied_row, moved_up}, specs.Replaces.{FirstRowDropped, FirstRowMoved}}
use Rattle.yq_edit_rules.{proofs.AnchorLaws.{fit_parts, fit_from}, proofs.BlockChangeLaws.{first_dropped, first_removed}}
use Rattle.yq_edit_rules.{proofs.PartLaws.{document_known, is_put}, proofs.ReplaceLaws.{document_replaced, rows_before_some}}

pub short_first : (front back old : List Row) (q : Row) → HasShortRoot (front ++ old) → is_long_plain q.mark q.content ≡ false → HasShortRoot (front ++ (q ∷ back))
short_first [] back old q h e = e
short_first (x ∷ front) back old q h e = h

pub first_row_moved : FirstRowMoved
first_row_moved t c k p steps s h f front gone back r b n ns es old entry left replaces moves counts spared text =
    let known = document_known t c k p old in
    let new : Row = moved_up r (n ∷ ns) b in
    let q : Part = inserted front (new ∷ []) back p in
    let there : q.rows ≡ front ++ (new ∷ back) = ap (λ (rs : List Row). front ++ (new ∷ rs)) (own_gap back p.end) in
    let was : p.rows ≡ front ++ (r ∷ (gone ++ (b ∷ back))) =
    replaces.rows_are ∙ ap (λ (rs : List Row). front ++ rs) (ap (λ (rs : List Row). r ∷ rs) (append_assoc gone (b ∷ []) back)) in
    let cut = document_replaced t c k p front (r ∷ (gone ++ (b ∷ []))) back (new ∷ []) (first_gap back p.end) old replaces text in
    let keys = fit_parts front (r ∷ (gone ++ (b ∷ back))) (subst HaveFitKeys was known.document.keys) in
    let last = (fit_parts (r ∷ gone) (b ∷ back) keys.1).1 in
    let fit : HaveFitKeys (front ++ (new ∷ back)) = fit_from front (new ∷ back) keys.0 last in
    let short : HasShortRoot (front ++ (new ∷ back)) =
    short_first front back (r ∷ (gone ++ (b ∷ back))) new (subst HasShortRoot was known.document.short) (search (rules, false≢true)) in
    let put = is_put t c k p q old (ap no_rows there ∙ rows_before_some front (new ∷ back) refl) text cut (subst HaveFitKeys (sym there) fit) (subst HasShortRoot (sym there) short) in
    first_removed t c k p q steps h s f front gone back r b n ns es put entry left was there moves counts spared

pub first_row_dropped : FirstRowDropped
first_row_dropped t c k p steps s h f front gone back r n ns es tail old entry left replaces stays counts spared text =
    let known = document_known t c k p old in
    let new : Row = emptied_row r ns tail in
    let q : Part = inserted front (new ∷ []) back p in
    let there : q.rows ≡ front ++ (new ∷ back) = ap (λ (rs : List Row). front ++ (new ∷ rs)) (own_gap back p.end) in
    let cut = document_replaced t c k p front (r ∷ gone) back (new ∷ []) (first_gap back p.end) old replaces text in
    let keys = fit_parts front (r ∷ (gone ++ back)) (subst HaveFitKeys replaces.rows_are known.document.keys) in
    let fit : HaveFitKeys (front ++ (new ∷ back)) = fit_from front (new ∷ back) keys.0 ((tt, tt, (fit_parts gone back keys.1.2).1)) in
    let short : HasShortRoot (front ++ (new ∷ back)) = short_first front back (r ∷ (gone ++ back)) new (subst HasShortRoot replaces.rows_are known.document.short) refl in
    let put = is_put t c k p q old (ap no_rows there ∙ rows_before_some front (new ∷ back) refl) text cut (subst HaveFitKeys (sym there) fit) (subst HasShortRoot (sym there) short) in
    first_dropped t c k p q steps h s f front gone back r n ns es tail put entry left replaces.rows_are there stays counts spared
