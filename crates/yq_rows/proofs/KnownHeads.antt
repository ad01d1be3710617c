-- Heads of rows that were passed.
use Rattle.std.proofs.Common.{◌≡◌, ℕ, ◌-◌, Bool, true, false, eqb, List, [], ◌∷◌, length, take, refl, sym, ap, ◌∙◌, subst}
use Rattle.std.proofs.lemmas.Bool.{cond_both}
use Rattle.yq_core.{specs.Borrowed.IsWholeCollection, specs.Nodes.opening_bracket, specs.Text.upto}
use Rattle.yq_inline.{specs.Passed.MayBePassed, proofs.WholeCollections.passed_whole}
use Rattle.yq_row_table.{specs.Slicing.{cut_anchor, cut_lead}, specs.WordRows.KnowsHead}

-- a collection has no anchor, and no white space is in front of it
opened : (k : ℕ) (after : List ℕ) (nothing : Bool) → cut_lead nothing (cut_anchor (opening_bracket k ∷ after)).1 ≡ ([], opening_bracket k ∷ after)
unfolding upto
opened k after true = cond_both (eqb k 125) 123 91 (λ (b : ℕ). cut_lead true (cut_anchor (b ∷ after)).1 ≡ ([], b ∷ after)) (λ _. refl) (λ _. refl)
opened k after false = cond_both (eqb k 125) 123 91 (λ (b : ℕ). cut_lead false (cut_anchor (b ∷ after)).1 ≡ ([], b ∷ after)) (λ _. refl) (λ _. refl)

pub head_known : (d : ℕ) (t rest lead head : List ℕ) (nothing : Bool) → MayBePassed d t rest → lead ≡ (cut_lead nothing (cut_anchor t).1).1 → head ≡ take (length lead - length rest) lead → KnowsHead d head
head_known d t rest lead head nothing may lead_is head_is more =
    let p = may more in
    let front : (cut_lead nothing (cut_anchor t).1).1 ≡ t =
    subst (λ (u : List ℕ). (cut_lead nothing (cut_anchor u).1).1 ≡ u) (sym p.1.is_located) (ap (λ (y : List ℕ × List ℕ). y.1) (opened p.1.close p.1.after nothing)) in
    (p.0, subst (IsWholeCollection d) (sym (head_is ∙ ap (λ (l : List ℕ). take (length l - length rest) l) (lead_is ∙ front))) (passed_whole d t rest p.1))
