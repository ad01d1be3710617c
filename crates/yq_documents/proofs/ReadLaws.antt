-- Reading bytes as documents, both ways.
use Rattle.std.{proofs.Common.{◌≡◌, ℕ, List, true, Option, Some, None, refl, sym, ap, ◌∙◌, subst, ◌↔◌, rules}, proofs.lemmas.Bool.cond-true}
use Rattle.std.{proofs.lemmas.Option.{cond_some, none-some, same_Some}, specs.Str.is_utf8}
use Rattle.yq_core.{specs.Answers.{◌>>=◌, ReadFails, ReadError}, proofs.Bools.{bind_some, guard_then}}
use Rattle.yq_row_table.{specs.Grammar.IsCut, specs.Slicing.read_view, specs.Reading.scan_at, specs.Rows.Cut}
use Rattle.yq_row_table.proofs.ScanLaws.{scan_takes, scan_again}
use Rattle.yq_documents.specs.Documents.{Document, document_parts, ReadsDocuments}
use Rattle.yq_documents.specs.Reading.{documents, all_documents, checked, checked_at, read_at, cut_or, cut_of}
use Rattle.yq_documents.proofs.DocumentLaws.{documents_take, documents_again}

-- a text and its cut, whose parts mean documents
pub text_takes : (t : List ℕ) (c : Cut) → checked_at t ≡ Some c → IsCut t c × (all_documents c ≡ true)
unfolding checked_at
text_takes t c e =
    let q = bind_some (scan_at t) e in
    let g = cond_some (all_documents q.0) _ _ q.2 in
    (subst (IsCut t) g.1 (scan_takes t q.0 q.1), ap all_documents (sym g.1) ∙ g.0)

pub text_again : (t : List ℕ) (c : Cut) → IsCut t c → all_documents c ≡ true → checked_at t ≡ Some c
unfolding checked_at
text_again t c h e = ap (λ o. o >>= checked) (scan_again t c h) ∙ cond-true _ _ _ e

-- the cut of a text that has one
pub cut_is : (t : List ℕ) (c : Cut) → IsCut t c → cut_of t ≡ c
unfolding cut_of
cut_is t c h = ap cut_or (scan_again t c h)

-- a text that is read has its own cut
pub text_read : (t : List ℕ) (c : Cut) → IsCut t c → all_documents c ≡ true → checked_at t ≡ Some (cut_of t)
text_read t c h e = text_again t c h e ∙ ap Some (sym (cut_is t c h))

pub scan_fails : (t : List ℕ) (e : ReadError) → ReadFails e (read_view (scan_at t)) → ReadFails e (checked_at t)
unfolding checked_at
scan_fails t e h1 = search (rules)

pub read_takes : (bytes : List ℕ) (c : Cut) → read_at bytes ≡ Some c → ReadsDocuments bytes (documents c)
unfolding read_at
read_takes bytes c e =
    let p = guard_then (is_utf8 bytes) e in
    let q = text_takes bytes c p.1 in
    record { utf8 = p.0; parts = c; cut = q.0; documents = documents_take (document_parts c) q.1 }

pub read_again : (bytes : List ℕ) (docs : List Document) → ReadsDocuments bytes docs → (c : Cut) × (read_at bytes ≡ Some c) × (documents c ≡ docs)
unfolding read_at
read_again bytes docs h = search (rules, documents_again, cond-true, text_again)

pub one_reading : (bytes : List ℕ) (docs others : List Document) → ReadsDocuments bytes docs → ReadsDocuments bytes others → docs ≡ others
one_reading bytes docs others h k =
    let a = read_again bytes docs h in
    let b = read_again bytes others k in
    sym a.2 ∙ (ap documents (same_Some _ _ (sym a.1 ∙ b.1)) ∙ b.2)

-- bytes read as the text that they are
pub read_as_text : (bytes text : List ℕ) (read : Option Cut) → (is_utf8 bytes ≡ true) × (text ≡ bytes) → checked_at text ≡ read → read_at bytes ≡ read
unfolding read_at
read_as_text bytes text read is e = cond-true _ _ _ is.0 ∙ (ap checked_at (sym is.1) ∙ e)

pub only_by : (bytes : List ℕ) (c : Cut) → read_at bytes ≡ Some c → (docs : List Document) → ReadsDocuments bytes docs → Some docs ≡ Some (documents c)
only_by bytes c e docs h = let a = read_again bytes docs h in ap Some (sym a.2 ∙ ap documents (same_Some _ _ (sym a.1 ∙ e)))

pub none_by : (bytes : List ℕ) → read_at bytes ≡ None → (docs : List Document) → ReadsDocuments bytes docs → Some docs ≡ None
none_by bytes e docs h = let a = read_again bytes docs h in absurd (none-some _ (sym e ∙ a.1))

-- ---- reading gives a cut exactly where the grammar reads the bytes by it

-- the cut that is read is that of the grammar
read_parts : (bytes : List ℕ) (c : Cut) → read_at bytes ≡ Some c → (reads : ReadsDocuments bytes (documents c)) × (reads.parts ≡ c)
unfolding read_at
read_parts bytes c e =
    let p = guard_then (is_utf8 bytes) e in
    let q = text_takes bytes c p.1 in
    (record { utf8 = p.0; parts = c; cut = q.0; documents = documents_take (document_parts c) q.1 }, refl)

-- the cut of the grammar is read
pub parts_read : (bytes : List ℕ) (docs : List Document) (h : ReadsDocuments bytes docs) → (read_at bytes ≡ Some h.parts) × (documents h.parts ≡ docs)
unfolding read_at
parts_read bytes docs h = search (rules, documents_again, cond-true, text_again)

pub exact_reading : (bytes : List ℕ) (c : Cut) → (read_at bytes ≡ Some c) ↔ ((reads : ReadsDocuments bytes (documents c)) × (reads.parts ≡ c))
exact_reading bytes c = (read_parts bytes c, λ h. (parts_read bytes (documents c) h.0).0 ∙ ap Some h.1)
