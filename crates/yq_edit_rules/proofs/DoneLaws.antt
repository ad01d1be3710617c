-- One document of a text in the place of another, as an operation makes it: the text reads as the documents after that, and leaves the room that it has to.
use Rattle.std.proofs.Common.{◌≡◌, ℕ, zero, suc, List, [], ◌∷◌, map, Option, Some, refl, sym, ap, ◌∙◌, subst, rules}
use Rattle.std.{proofs.lemmas.Option.same_Some, specs.List.slice_get}
use Rattle.yq_core.{specs.Tree.{Node, children_of}, proofs.Bools.guard_then}
use Rattle.yq_row_table.specs.Rows.{Part, Cut, cut_text}
use Rattle.yq_documents.{specs.Documents.{Document, document_parts, lead_of}, specs.Reading.{documents, read_at, cut_of, root_of}}
use Rattle.yq_documents.{specs.Ready.part_is_block, specs.TreeEdits.{change_nth, lead_by}, proofs.ReadLaws.{text_takes, cut_is}}
use Rattle.yq_edit_rules.{specs.Changed.{changed, put_document}, proofs.AfterLaws.{nth_is, nth_same}, proofs.ChangedLaws.document_put}
use Rattle.yq_edit_rules.{specs.Rooms.is_block_root, specs.Done.{IsDone, DocumentDone}, specs.ReadsAfter.RoomStays}
use Rattle.yq_semantics.{specs.After.{op_document, root_after, done_to, after_op}, specs.Operations.Operation, specs.Rooms.room_of}
use Rattle.yq_semantics.specs.RoomsKept.{KeepsBlock}
use Rattle.yq_documents.specs.Reading as reading

-- the cut of a text that reads
pub read_cut : (t : List ℕ) (c : Cut) → read_at t ≡ Some c → cut_of t ≡ c
unfolding read_at
read_cut t c h = cut_is t c (text_takes t c (guard_then _ h).1).0

-- ---- elements of a list of which one is exchanged

nth_put : {A : Type 0} (k : ℕ) (x y : A) (xs : List A) → slice_get xs k ≡ Some x → slice_get (change_nth k (λ z. y) xs) k ≡ Some y
nth_put k x y [] h = absurd (cc)
nth_put zero x y (z ∷ xs) h = refl
nth_put (suc k) x y (z ∷ xs) h = nth_put k x y xs h

nth_stays : {A : Type 0} (k i : ℕ) (f : A → A) (xs : List A) → (i ≡ k → ⊥) → slice_get (change_nth k f xs) i ≡ slice_get xs i
nth_stays k i f [] h = refl
nth_stays zero zero f (x ∷ xs) h = absurd (h refl)
nth_stays (suc k) (suc i) f (x ∷ xs) h = nth_stays k i f xs (λ e. h (ap suc e))
nth_stays _ _ f _ h = refl

pub nth_map : {A B : Type 0} (k : ℕ) (x : A) (f : A → B) (xs : List A) → slice_get xs k ≡ Some x → slice_get (map f xs) k ≡ Some (f x)
nth_map k x f [] h = absurd (cc)
nth_map zero x f (y ∷ xs) h = let same : y ≡ x = cc in ap (λ z. Some (f z)) same
nth_map (suc k) x f (y ∷ xs) h = nth_map k x f xs h

-- the part of a document
pub part_of : (ps : List Part) (n : ℕ) (d : Document) → slice_get (map reading.part_document ps) n ≡ Some d → (p : Part) × (slice_get ps n ≡ Some p) × (reading.part_document p ≡ d)
part_of [] n d e = absurd (cc)
part_of (p ∷ ps) zero d e = (p, refl, same_Some _ _ e)
part_of (p ∷ ps) (suc n) d e = part_of ps n d e

-- ---- rooms by parts

-- part i of a text that is a document
abbrev part_in : List ℕ → ℕ → Option Part
part_in t i = slice_get (document_parts (cut_of t)) i

module _ (op : Operation) (c : Cut) (p q : Part) (lead : List (List ℕ)) (f : Node → Node) (h : IsDone op c p q lead f) where
  abbrev k : ℕ
  k = op_document op

  abbrev new : Cut
  new = put_document k q c

  abbrev t : List ℕ
  t = cut_text c

  abbrev u : List ℕ
  u = cut_text new

  parts_are : document_parts new ≡ change_nth k (λ x. q) (document_parts c)
  parts_are = document_put c k p q h.there h.rows

  old_cut : cut_of t ≡ c
  old_cut = read_cut t c h.read

  new_cut : cut_of u ≡ new
  new_cut = read_cut u new h.changed.read

  old_part : part_in t k ≡ Some p
  old_part = ap (λ x. slice_get (document_parts x) k) old_cut ∙ h.there

  new_part : part_in u k ≡ Some q
  new_part = ap (λ x. slice_get (document_parts x) k) new_cut ∙ (ap (λ ps. slice_get ps k) parts_are ∙ nth_put k p q (document_parts c) h.there)

  other_part : (i : ℕ) → (i ≡ k → ⊥) → part_in u i ≡ part_in t i
  other_part i apart = simp (new_cut, parts_are, nth_stays, old_cut)

  document_is : reading.part_document q ≡ changed lead f (reading.part_document p)
  document_is = nth_is k p q (changed lead f) (document_parts c) h.there (sym (ap (map reading.part_document) parts_are) ∙ h.changed.documents_are)

  root_is : root_of q ≡ root_after (is_block_root p) (lead_of p) op (root_of p)
  root_is = ap (λ (d : Document). d.root) document_is ∙ h.root

  lead_is : lead ≡ lead_by (is_block_root p) (children_of (root_after (is_block_root p) (lead_of p) op (root_of p))) (lead_of p)
  lead_is = sym (ap (λ (d : Document). d.lead) document_is) ∙ (h.lead_goes ∙ ap (λ n. lead_by (is_block_root p) (children_of n) (lead_of p)) root_is)

  same : changed lead f (reading.part_document p) ≡ done_to (is_block_root p) op (reading.part_document p)
  same = λ i. record { lead = lead_is i; root = h.root i }

  block_is : (room_of t k).block ≡ is_block_root p
  block_is = ap part_is_block old_part

  documents_are : documents new ≡ after_op (room_of t) op (documents c)
  documents_are = search (rules, nth_same, same, block_is)

  block_stays : KeepsBlock op (root_of q) → (room_of u k).block ≡ (room_of t k).block
  block_stays keeps = ap part_is_block new_part ∙ (h.block keeps ∙ sym block_is)

  room_stays : RoomStays op t u
  room_stays = record {
    others = λ i apart. (search (rules, other_part i apart));
    comments = search (rules, block_stays, new_part, old_part);
    block = λ d at keeps.
        let is : reading.part_document q ≡ d = same_Some _ _ (sym (nth_map k q reading.part_document (document_parts (cut_of u)) new_part) ∙ at) in
        block_stays (subst (λ (e : Document). KeepsBlock op e.root) (sym is) keeps);
  }

pub document_done : DocumentDone
document_done op c p q lead f h = search (rules, documents_are, room_stays)
