-- Whether a text lends what a key or scalar means, by its breaks and escapes.
use Rattle.std.proofs.Common.{rules, ◌≡◌, ℕ, zero, suc, eqb, Bool, true, false, cond, not, ◌||◌, ◌&&◌, List, [], ◌∷◌, drop, refl, sym, ap}
use Rattle.std.{proofs.Common.◌∙◌, proofs.Math.Bool.or-true, proofs.lemmas.Bool.false≢true, specs.List.list_any}
use Rattle.yq_core.{specs.Nodes.begins_with, specs.Plain.holds_break, specs.Scalars.is_quoted}
use Rattle.yq_core.specs.Borrowed.{borrowed_text, borrows_text, holds_escape}

-- one in quotes, by what is between them
pub borrows_quoted : (t inner : List ℕ) (escaped : Bool) → holds_break t ≡ false → is_quoted t ≡ true → inner ≡ borrowed_text t → escaped ≡ list_any (λ b. eqb b (cond (begins_with 34 t) 92 39)) inner → not escaped ≡ borrows_text t
borrows_quoted t inner escaped broken quoted is e = rw (broken, quoted) (ap not (e ∙ ap (list_any (λ b. eqb b (cond (begins_with 34 t) 92 39))) (rw quoted at is)))

-- a backslash after so many bytes
pub slash_there : (t : List ℕ) (n : ℕ) → begins_with 92 (drop n t) ≡ true → list_any (λ b. eqb b 92) t ≡ true
slash_there [] zero h = h
slash_there [] (suc n) h = h
slash_there (b ∷ bs) zero h = ap (λ (x : Bool). x || list_any (λ c. eqb c 92) bs) h
slash_there (b ∷ bs) (suc n) h = ap (λ (x : Bool). eqb b 92 || x) (slash_there bs n h) ∙ or-true (eqb b 92)

inside : (bs inner : List ℕ) → inner ≡ borrowed_text (34 ∷ bs) → list_any (λ b. eqb b 92) inner ≡ true → holds_escape (34 ∷ bs) ≡ true
inside bs inner is h = ap (list_any (λ (b : ℕ). eqb b 92)) (sym is) ∙ h

and_false : (x : Bool) → (x && false) ≡ false
and_false true = refl
and_false false = refl

pub escaped_inside : (t inner : List ℕ) → begins_with 34 t ≡ true → inner ≡ borrowed_text t → list_any (λ b. eqb b 92) inner ≡ true → borrows_text t ≡ false
escaped_inside t inner q is h = search (rules, false≢true, inside, and_false)
