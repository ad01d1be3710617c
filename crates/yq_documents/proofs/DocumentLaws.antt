-- Documents, read from parts and given by them.
use Rattle.std.proofs.Common.{◌≡◌, List, [], ◌∷◌, map, true, refl, sym, rules}
use Rattle.std.{proofs.lemmas.Bool.{and_parts, and_from, leb-true, le-leb, cond-true}, proofs.lemmas.Option.cond_some, specs.List.list_all}
use Rattle.yq_core.specs.Tree.{Node}
use Rattle.yq_row_table.specs.Rows.{Part}
use Rattle.yq_documents.{specs.Documents.{Document, IsRoot, IsDocument, AreDocuments}, specs.Reading.{part_document, is_document}}
use Rattle.yq_documents.proofs.Conditions.{keys_are, are_keys, short_is, is_short}
use Rattle.yq_outline.{specs.Group.{group, is_fine}, specs.Outline.{Line, value}, proofs.ByRules.{rules_from, rules_give}}
use Rattle.yq_outline.proofs.NameConditions.{anchors_are, are_anchors, bound_are, are_bound_of}
use Rattle.yq_outline.{proofs.Decides.{are_there-sound, are_there-complete}, proofs.KeyLaws.{unique_is, is_unique}}

-- the root of lines, as a test and as a fact
root_is : (ls : List Line) → is_fine (group ls) ≡ true → IsRoot ls (value (group ls))
root_is [] e = refl
root_is (l ∷ ls) e =
    let s = are_there-sound (l ∷ ls) (value (group (l ∷ ls))) (cond-true _ _ _ e) in (s.0, rules_from s.0 (l ∷ ls) (value (group (l ∷ ls))) s.1 l ls refl)

is_root : (ls : List Line) (node : Node) → IsRoot ls node → (is_fine (group ls) ≡ true) × (value (group ls) ≡ node)
is_root [] node h = (refl, sym h)
is_root (l ∷ ls) node h = cond_some (is_fine (group (l ∷ ls))) (value (group (l ∷ ls))) node (are_there-complete (l ∷ ls) node h.0 (rules_give h.0 (l ∷ ls) node h.1))

pub document_is : (p : Part) → is_document p ≡ true → IsDocument p (part_document p)
document_is p e = search (rules, and_parts, root_is, keys_are, unique_is, leb-true, anchors_are, bound_are, short_is)

pub is_document_of : (p : Part) (d : Document) → IsDocument p d → (is_document p ≡ true) × (part_document p ≡ d)
is_document_of p d h = search (rules, is_root, le-leb, is_unique, are_bound_of, and_from, are_keys, is_short, are_anchors)

pub documents_take : (ps : List Part) → list_all is_document ps ≡ true → AreDocuments ps (map part_document ps)
documents_take [] e = tt
documents_take (p ∷ ps) e = let t = and_parts (is_document p) (list_all is_document ps) e in (document_is p t.0, documents_take ps t.1)

pub documents_again : (ps : List Part) (ds : List Document) → AreDocuments ps ds → (list_all is_document ps ≡ true) × (map part_document ps ≡ ds)
documents_again [] [] h = (refl, refl)
documents_again [] (d ∷ ds) h = absurd h
documents_again (p ∷ ps) [] h = absurd h
documents_again (p ∷ ps) (d ∷ ds) h = search (rules, is_document_of, and_from, documents_again ps ds h.1)
