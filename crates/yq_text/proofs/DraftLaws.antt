-- Bytes and splices that are added to what is made so far.
use Rattle.std.proofs.Common.{rules, ◌≡◌, ℕ, Bool, true, List, ◌++◌, length, nat_eq, Result, sym, ap, ◌∙◌, append_assoc, append-nil}
use Rattle.std.{proofs.lemmas.Bool.eqb-true, proofs.lemmas.Result.on_ok_weaker, specs.Result.OnOk, specs.Str.bytes_eq}
use Rattle.yq_text.{specs.Splice.Splice, proofs.FirstSegment.none_long}

-- what holds however it ends holds where it ends well
pub on_ok : {T E P : Type 0} (r : Result T E) → P → OnOk r P
on_ok r p = search rules

-- nothing is added where there are no bytes
pub nothing_more : (t more : List ℕ) (b : Bool) → b ≡ nat_eq (length more) 0 → b ≡ true → t ≡ t ++ more
nothing_more t more b is none = sym (ap (λ u. t ++ u) (none_long more (eqb-true (length more) 0 (sym is ∙ none))) ∙ append-nil t)

-- two halves added one after the other
pub in_halves : {T E : Type 0} (r : Result T E) (x a b t u t2 u2 : List ℕ) → a ≡ b ++ t2 → t2 ≡ t → u2 ≡ u → OnOk r (x ≡ a ++ u2) → OnOk r (x ≡ b ++ (t ++ u))
in_halves r x a b t u t2 u2 is first second = on_ok_weaker r (λ h. h ∙ ((λ i. is i ++ second i) ∙ (ap (λ y. (b ++ y) ++ u) first ∙ append_assoc b t u)))

-- a splice is added where the bytes differ
module _ (ss : List Splice) (n : ℕ) (o w x y : List ℕ) (b : Bool) (compared : b ≡ bytes_eq x y) (old : x ≡ o) (new : y ≡ w) where
  told : bytes_eq o w ≡ b
  told = (λ i. bytes_eq (sym old i) (sym new i)) ∙ sym compared
