-- Rows of one document exchanged in a cut.
use Rattle.std.proofs.Common.{rules, ◌≡◌, ℕ, zero, suc, ◌+◌, ◌≤◌, List, [], ◌∷◌, ◌++◌, length, take, drop, Bool, true, false, not, ◌||◌}
use Rattle.std.{proofs.Common.{Some, refl, sym, ap, ◌∙◌, subst, arith}, proofs.lemmas.Bool.{false≢true, or_right}}
use Rattle.std.{proofs.Math.Seq.{take-append_seam, drop-append_seam}, specs.List.slice_get}
use Rattle.yq_core.{proofs.Bools.guard_then, specs.Characters.is_text}
use Rattle.yq_row_table.specs.Grammar.{unlimited, AreRows, IsCut, no_rows, begins_document}
use Rattle.yq_row_table.{proofs.splices.PartPlaces.{part_in, part_after}, proofs.splices.SpliceLaws.spliced}
use Rattle.yq_row_table.specs.Rows.{Row, rows_text, Part, Cut, last, marked, cut_text}
use Rattle.yq_row_table.specs.Splices.{with_first_gap, end_gap, after_first, splice_part, splice, nth_part, after_part, is_started}
use Rattle.yq_row_table.{specs.Splices.marker_before, specs.SpliceFits.{is_after, SpliceFits}, proofs.splices.SpliceCases.open_part}
use Rattle.yq_text.specs.Limit.{text_limit}
use Rattle.yq_documents.proofs.PartRows.{each}
use Rattle.yq_documents.specs.Documents.{HaveFitKeys, HasShortRoot, begins_bare, document_parts, has_begin, parts_from}
use Rattle.yq_documents.{specs.Reading.{is_document, read_at}, proofs.DocumentLaws.document_is, proofs.ReadLaws.text_takes}
use Rattle.yq_documents.{specs.PartNumbers.{number_from, part_number}, proofs.PartNumberLaws.part_there}
use Rattle.yq_places.{specs.RowPaths.IsReadable, proofs.RowPathLaws.document_fine}
use Rattle.yq_outline.proofs.Decides.{even_from}
use Rattle.yq_edit_rules.{specs.Changed.{put_part, put_document}, specs.Edited.IsPut}
use Rattle.yq_edit_rules.specs.DocumentRows.{IsDocumentPart, after_document, PartNumbered, RowsPut, DocumentKnown, RowsFit, DocumentSpliced}

splice_put : (m i j : ℕ) (new : List Row) (gap : List ℕ) (c : Cut) → splice m i j new gap c ≡ put_part m (splice_part i j new gap (nth_part m c)) c
splice_put m i j new gap (last p) = refl
splice_put zero i j new gap (marked p marker c) = refl
splice_put (suc m) i j new gap (marked p marker c) = ap (marked p marker) (splice_put m i j new gap c)

pub part_numbered : PartNumbered
part_numbered c k p e =
    (part_there c k p e, λ i j new gap. splice_put (part_number k c) i j new gap c ∙ ap (λ (x : Part). put_document k (splice_part i j new gap x) c) (part_there c k p e))

-- rows after others
pub drop_both : (front gone back : List Row) → drop (length front + length gone) (front ++ (gone ++ back)) ≡ back
drop_both [] gone back = let same : 0 + length gone ≡ length gone = omega arith in ap (λ (n : ℕ). drop n (gone ++ back)) same ∙ drop-append_seam gone back
drop_both (r ∷ front) gone back =
    let more : suc (length front) + length gone ≡ suc (length front + length gone) = omega arith in
    ap (λ (n : ℕ). drop n (r ∷ (front ++ (gone ++ back)))) more ∙ drop_both front gone back

pub take_front : (p : Part) (front back : List Row) → p.rows ≡ front ++ back → take (length front) p.rows ≡ front
take_front p front back e = ap (take (length front)) e ∙ take-append_seam front back

pub drop_front : (p : Part) (front back : List Row) → p.rows ≡ front ++ back → drop (length front) p.rows ≡ back
drop_front p front back e = ap (drop (length front)) e ∙ drop-append_seam front back

pub drop_gone : (p : Part) (front gone back : List Row) → p.rows ≡ front ++ (gone ++ back) → drop (length front + length gone) p.rows ≡ back
drop_gone p front gone back e = ap (drop (length front + length gone)) e ∙ drop_both front gone back

pub rows_put : RowsPut
rows_put c k p front gone back new gap there rows =
    (part_numbered c k p there).1 (length front) (length front + length gone) new gap
    ∙ (λ i. put_document k (record { rows = take_front p front (gone ++ back) rows i ++ (new ++ with_first_gap gap (drop_gone p front gone back rows i)); end = end_gap gap (drop_gone p front gone back rows i) p.end }) c)

-- a document that is read
pub document_known : DocumentKnown
unfolding read_at
document_known t c k p h =
    let old = text_takes t c (guard_then _ h.read).1 in
    let doc : is_document p ≡ true = each (document_parts c) old.1 k p h.there in
    record { cut = old.0; document = document_is p doc; even = even_from _ _ (document_fine p doc) }

-- A new part with rows for a document, where its text may be read and has that cut.
pub is_put : (t : List ℕ) (c : Cut) (k : ℕ) (p q : Part) → IsDocumentPart t c k p → no_rows q.rows ≡ false → IsReadable (cut_text (put_document k q c)) →
    IsCut (cut_text (put_document k q c)) (put_document k q c) → HaveFitKeys q.rows → HasShortRoot q.rows → IsPut t c k p q
is_put t c k p q old some new cut keys short = record { read = old.read; there = old.there; rows = λ e. absurd (false≢true (sym some ∙ e)); utf8 = new.utf8; cut = cut; keys = keys; short = short }

-- the root is as short after the same first row
pub short_stays : (front a b : List Row) → no_rows front ≡ false → HasShortRoot (front ++ a) → HasShortRoot (front ++ b)
short_stays [] a b n h = absurd (false≢true (sym n))
short_stays (r ∷ front) a b n h = h

-- rows that fit, in a document
pub fits : (marker : List ℕ) (started : Bool) (front gone back new : List Row) (gap : List ℕ) (p : Part) (rest : List ℕ) → p.rows ≡ front ++ (gone ++ back) → RowsFit front new back gap p rest →
    is_after marker (rows_text new (gap ++ after_first back p.end rest)) ≡ true → started ≡ true →
    SpliceFits marker started (length front) (length front + length gone) new gap p rest
fits marker started front gone back new gap p rest rows h after begun = search (rules, take_front, drop_gone, or_right)

-- a document is open in its part
started_is : (is started : Bool) (k : ℕ) (c : Cut) (p : Part) → slice_get (parts_from is c) k ≡ Some p → (is ≡ true → started ≡ true) → is_started started (number_from is k c) c ≡ true
started_is true started zero (last x) p e h = h refl
started_is true started zero (marked x marker c) p e h = h refl
started_is true started (suc k) (marked x marker c) p e h = started_is (begins_document marker) (begins_document marker) k c p e (λ i. i)
started_is false started k (marked x marker c) p e h = started_is (begins_document marker) (begins_document marker) k c p e (λ i. i)
started_is _ started _ (last x) p e h = absurd (cc)

pub document_started : (c : Cut) (k : ℕ) (p : Part) → slice_get (document_parts c) k ≡ Some p → is_started true (part_number k c) c ≡ true
document_started c k p e = started_is (begins_bare c || not (has_begin c)) true k c p e (λ i. refl)

-- the rows of a document
pub part_rows : (t : List ℕ) (c : Cut) (k : ℕ) (p : Part) → IsDocumentPart t c k p → IsCut t c → AreRows unlimited p.rows p.end (after_document k c)
part_rows t c k p old cut = subst (λ (x : Part). AreRows unlimited x.rows x.end (after_document k c)) (part_numbered c k p old.there).0 (part_in c (part_number k c) true cut.parts).rows

pub document_spliced : DocumentSpliced
document_spliced t c k p front gone back new gap old cut rows some h text =
    let j = part_number k c in
    let is : nth_part j c ≡ p = (part_numbered c k p old.there).0 in
    let same = rows_put c k p front gone back new gap old.there rows in
    let here : no_rows (nth_part j c).rows ≡ false = ap (λ (x : Part). no_rows x.rows) is ∙ some in
    let u : List ℕ = rows_text new (gap ++ after_first back p.end (after_part j c)) in
    let part = part_in c j true cut.parts in
    let begun : is_started true j c ≡ true = open_part (is_started true j c) (no_rows (nth_part j c).rows) part.inside here in
    let all = fits (marker_before [] j c) (is_started true j c) front gone back new gap p (after_part j c) rows h (part_after c j true u cut.parts here) begun in
    subst (λ (x : Cut). IsCut (cut_text x) x) same
    (spliced t c j (length front) (length front + length gone) new gap cut (subst
    (λ (x : Part). SpliceFits (marker_before [] j c) (is_started true j c) (length front) (length front + length gone) new gap x (after_part j c)) (sym is) all)
    (ap (λ (x : Cut). is_text (cut_text x)) same ∙ text.characters) (subst (λ (x : Cut). length (cut_text x) ≤ text_limit) (sym same) text.size))
