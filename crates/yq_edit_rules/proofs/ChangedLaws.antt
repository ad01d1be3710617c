-- Texts in which one document has another part.
use Rattle.std.proofs.Common.{◌≡◌, ℕ, zero, suc, List, [], ◌∷◌, ◌++◌, map, Bool, true, false, not, ◌||◌, Some, refl, sym, ap, ◌∙◌, rules}
use Rattle.std.{proofs.lemmas.Bool.{and_parts, and_from, cond-true}, proofs.lemmas.Option.same_Some, specs.List.{slice_get, list_all}}
use Rattle.yq_outline.{specs.Comments.head_comment, specs.Lines.{lines_from, lines_of_rows}, specs.Outline.Line, proofs.ByRules.rules_from}
use Rattle.yq_row_table.{specs.Grammar.begins_document, specs.Rows.{Row, Part, Cut, last, marked, cut_text}, specs.Splices.first_gap}
use Rattle.yq_documents.specs.Documents.{Document, parts_from, has_begin, begins_bare, document_parts, lead_of}
use Rattle.yq_documents.{specs.PartNumbers.number_from, specs.Reading.{root_of, part_document, is_document, all_documents, read_at}}
use Rattle.yq_documents.{proofs.DocumentLaws.is_document_of, proofs.ReadLaws.{text_takes, text_again}, specs.TreeEdits.change_nth}
use Rattle.yq_core.proofs.Bools.{guard_then}
use Rattle.yq_edit_rules.specs.Changed.{put_part, put_document, KeepsRows, DocumentPut, changed, PartIsThere, DocumentChanged}
use Rattle.yq_edit_rules.specs.Changed.{first_comment, LeadIsFirst}

-- parts
from_put : (is : Bool) (k : ℕ) (p q : Part) (c : Cut) → slice_get (parts_from is c) k ≡ Some p → parts_from is (put_part (number_from is k c) q c) ≡ change_nth k (λ x. q) (parts_from is c)
from_put true zero p q (last x) e = refl
from_put true zero p q (marked x marker c) e = refl
from_put true (suc k) p q (marked x marker c) e = ap (λ ps. x ∷ ps) (from_put (begins_document marker) k p q c e)
from_put false k p q (marked x marker c) e = from_put (begins_document marker) k p q c e
from_put _ _ p q (last x) e = absurd (cc)

pub nth_changed : (k : ℕ) (p q : Part) (ps : List Part) → slice_get ps k ≡ Some p → slice_get (change_nth k (λ x. q) ps) k ≡ Some q
nth_changed k p q [] e = absurd (cc)
nth_changed zero p q (x ∷ ps) e = refl
nth_changed (suc k) p q (x ∷ ps) e = nth_changed k p q ps e

begin_stays : (i : ℕ) (q : Part) (c : Cut) → has_begin (put_part i q c) ≡ has_begin c
begin_stays i q (last p) = refl
begin_stays zero q (marked p marker c) = refl
begin_stays (suc i) q (marked p marker c) = ap (λ b. begins_document marker || b) (begin_stays i q c)

pub first_stays : (c : Cut) (k : ℕ) (p q : Part) → slice_get (document_parts c) k ≡ Some p → KeepsRows p q → (begins_bare (put_document k q c) || not (has_begin (put_document k q c))) ≡ (begins_bare c || not (has_begin c))
first_stays c k p q there keeps = search (rules, same_Some, begin_stays)

pub document_put : DocumentPut
document_put c k p q there keeps = ap (λ b. parts_from b (put_document k q c)) (first_stays c k p q there keeps) ∙ from_put (begins_bare c || not (has_begin c)) k p q c there

pub part_is_there : PartIsThere
part_is_there q root h = search (rules, rules_from)

-- members of lists
all_with : (test : Part → Bool) (k : ℕ) (q : Part) (ps : List Part) → test q ≡ true → list_all test ps ≡ true → list_all test (change_nth k (λ x. q) ps) ≡ true
all_with test k q [] e h = h
all_with test zero q (p ∷ ps) e h = and_from (test q) (list_all test ps) e (and_parts (test p) (list_all test ps) h).1
all_with test (suc k) q (p ∷ ps) e h = let r = and_parts (test p) (list_all test ps) h in and_from (test p) _ r.0 (all_with test k q ps e r.1)

map_with : (k : ℕ) (p q : Part) (f : Document → Document) (ps : List Part) → slice_get ps k ≡ Some p → part_document q ≡ f (part_document p) →
    map part_document (change_nth k (λ x. q) ps) ≡ change_nth k f (map part_document ps)
map_with k p q f [] e is = refl
map_with zero p q f (x ∷ ps) e is = ap (λ d. d ∷ map part_document ps) (is ∙ ap (λ y. f (part_document y)) (sym (same_Some _ _ e)))
map_with (suc k) p q f (x ∷ ps) e is = ap (λ ds. part_document x ∷ ds) (map_with k p q f ps e is)

pub document_changed : DocumentChanged
unfolding read_at
document_changed t c k p q f read there keeps utf8 cut root =
    let new : Cut = put_document k q c in
    let old = text_takes t c (guard_then _ read).1 in
    let doc = is_document_of q (record { lead = lead_of q; root = f (root_of p) }) (part_is_there q (f (root_of p)) root) in
    let parts = document_put c k p q there keeps in
    let all : all_documents new ≡ true = ap (list_all is_document) parts ∙ all_with is_document k q (document_parts c) doc.0 old.1 in
    record {
      read = cond-true _ _ _ utf8 ∙ text_again (cut_text new) new cut all;
      documents_are = ap (map part_document) parts ∙ map_with k p q (changed (lead_of q) f) (document_parts c) there doc.1;
    }

pub lead_is_first : LeadIsFirst
lead_is_first p = go p.rows
  where
    first : (r : Row) (dashes : List ℕ) → head_comment r.gap ≡ first_comment (head_comment p.end) (lines_from (head_comment r.gap) r.column dashes r.mark r.content)
    first r [] = refl
    first r (n ∷ ns) = refl

    front : (ls ks : List Line) (above none : List (List ℕ)) → above ≡ first_comment none ls → (ls ≡ [] → ⊥) → above ≡ first_comment none (ls ++ ks)
    front ls ks above none e h = search rules

    some : (r : Row) (dashes : List ℕ) → lines_from (head_comment r.gap) r.column dashes r.mark r.content ≡ [] → ⊥
    some r [] e = cc
    some r (n ∷ ns) e = cc

    go : (rows : List Row) → head_comment (first_gap rows p.end) ≡ first_comment (head_comment p.end) (lines_of_rows rows)
    go [] = refl
    go (r ∷ rs) = front _ (lines_of_rows rs) (head_comment r.gap) (head_comment p.end) (first r r.dashes) (some r r.dashes)
