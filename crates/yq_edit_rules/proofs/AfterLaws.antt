-- A changed text, given as a tree with the lead that goes with it.
use Rattle.std.proofs.Common.{rules, ◌≡◌, ℕ, zero, suc, List, [], ◌∷◌, map, Bool, true, Some, refl, sym, ap, ◌∙◌}
use Rattle.std.{proofs.lemmas.Option.same_Some, specs.List.slice_get}
use mathlib.Core.List.{head-eq_of_cons-eq, tail-eq_of_cons-eq}
use Rattle.yq_core.{specs.Paths.{change_child, within}, specs.Tree.{Node, Children, none}}
use Rattle.yq_row_table.specs.Rows.{Part}
use Rattle.yq_documents.{specs.Documents.Document, specs.Reading.part_document, specs.TreeEdits.{change_nth, lead_by}}
use Rattle.yq_edit_rules.{specs.After.EndIsChange, specs.Edited.first_above}

pub end_is_change : EndIsChange
end_is_change g (t ∷ (u ∷ path)) s n = ap (λ (h : Node → Node). within (change_child t h) n) (λ i m. end_is_change g (u ∷ path) s m i)
end_is_change g _ s n = refl

-- document k of a changed list
pub nth_is : (k : ℕ) (p q : Part) (f : Document → Document) (ps : List Part) → slice_get ps k ≡ Some p → map part_document (change_nth k (λ x. q) ps) ≡ change_nth k f (map part_document ps) →
    part_document q ≡ f (part_document p)
nth_is k p q f [] e same = absurd (cc)
nth_is zero p q f (x ∷ ps) e same = head-eq_of_cons-eq same ∙ ap (λ y. f (part_document y)) (same_Some _ _ e)
nth_is (suc k) p q f (x ∷ ps) e same = nth_is k p q f ps e (tail-eq_of_cons-eq same)

-- two changes that do the same to document k
pub nth_same : (k : ℕ) (p : Part) (f g : Document → Document) (ps : List Part) → slice_get ps k ≡ Some p → f (part_document p) ≡ g (part_document p) →
    change_nth k f (map part_document ps) ≡ change_nth k g (map part_document ps)
nth_same k p f g [] e same = refl
nth_same zero p f g (x ∷ ps) e same = ap (λ d. d ∷ map part_document ps) (ap (λ y. f (part_document y)) (same_Some _ _ e) ∙ (same ∙ ap (λ y. g (part_document y)) (sym (same_Some _ _ e))))
nth_same (suc k) p f g (x ∷ ps) e same = ap (λ ds. part_document x ∷ ds) (nth_same k p f g ps e same)

-- the lead of a block root goes with it
pub by_first : (cs : Children) (lead other : List (List ℕ)) → first_above cs ≡ Some lead → lead_by true cs other ≡ lead
by_first cs lead other e = search rules

pub none_kept : (block : Bool) (cs : Children) (lead : List (List ℕ)) → (block ≡ true → cs ≡ none) → lead_by block cs lead ≡ lead
none_kept block cs lead h = search rules
