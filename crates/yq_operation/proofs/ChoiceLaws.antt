-- What is answered by the first of two, or else by the second; and what a value is put in the place of.
use Rattle.std.proofs.Common.{◌≡◌, Bool, true, false, cond, ℕ, List, [], ◌∷◌, Option, Some, None, option_map, Result, sym, ap, ◌∙◌, subst}
use Rattle.std.{proofs.lemmas.Option.none-some, specs.Option.option_or}
use Rattle.yq_text.specs.Script.{Segment, keep}
use Rattle.yq_core.specs.Tree.{Node}
use Rattle.yq_places.specs.Placements.{FlowPart}
use Rattle.yq_edit_rules.{specs.FlowParts.flow_put, specs.Answers.GivesSegments}
use Rattle.yq_edit_laws.specs.PartPuts.{part_put}

-- the first one answers
pub first_is : (ss : List Segment) (x y : Option (List Segment)) → x ≡ Some ss → option_or x y ≡ Some ss
first_is ss x y h = ap (λ (z : Option (List Segment)). option_or z y) h

-- it doesn't
pub second_is : {E : Type 0} (r : Result (Option (List Segment)) E) (x y : Option (List Segment)) → x ≡ None → GivesSegments r y → GivesSegments r (option_or x y)
second_is r x y none h = subst (λ (z : Option (List Segment)). GivesSegments r (option_or z y)) (sym none) h

-- a choice that is known
pub chosen : {E : Type 0} (r : Result (Option (List Segment)) E) (b : Bool) (x y : Option (List Segment)) → b ≡ true → GivesSegments r x → GivesSegments r (cond b x y)
chosen r b x y is h = subst (λ (c : Bool). GivesSegments r (cond c x y)) (sym is) h

pub not_chosen : {E : Type 0} (r : Result (Option (List Segment)) E) (b : Bool) (x y : Option (List Segment)) → b ≡ false → GivesSegments r y → GivesSegments r (cond b x y)
not_chosen r b x y is h = subst (λ (c : Bool). GivesSegments r (cond c x y)) (sym is) h

-- ---- a value, outside flow collections or in one

-- something is outside
pub put_outside : {E : Type 0} (r : Result (Option (List Segment)) E) (k : List Segment) (b : Bool) (ss : List Segment)
    (block y : Option (List Segment)) → block ≡ Some ss → GivesSegments r (cond b (Some k) (Some ss)) →
    GivesSegments r (cond b (Some k) (option_or block y))
put_outside r k b ss block y is h = subst (λ (z : Option (List Segment)). GivesSegments r (cond b (Some k) z)) (sym (ap (λ (z : Option (List Segment)). option_or z y) is)) h

-- a part of a flow collection is there
pub put_inside : (t : List ℕ) (v : Node) (b : Bool) (block : Option (List Segment)) (x : Option FlowPart) (ss : List Segment) → block ≡ None →
    option_map (part_put t b v) x ≡ Some ss → cond b (Some (keep t ∷ [])) (option_or block (option_map (flow_put t v) x)) ≡ Some ss
put_inside t v b block None ss is e = absurd (none-some _ e)
put_inside t v true block (Some x) ss is e = e
put_inside t v false block (Some x) ss is e = ap (λ (z : Option (List Segment)). option_or z (Some (flow_put t v x))) is ∙ e

-- neither
pub put_nowhere : {E : Type 0} (r : Result (Option (List Segment)) E) (t : List ℕ) (v : Node) (b : Bool) (block : Option (List Segment))
    (x : Option FlowPart) → block ≡ None → option_map (part_put t b v) x ≡ None → GivesSegments r (cond b (Some (keep t ∷ [])) None) →
    GivesSegments r (cond b (Some (keep t ∷ [])) (option_or block (option_map (flow_put t v) x)))
put_nowhere r t v b block (Some x) is e h = absurd (none-some _ (sym e))
put_nowhere r t v b block None is e h = subst (λ (z : Option (List Segment)). GivesSegments r (cond b (Some (keep t ∷ [])) z)) (sym (ap (λ (z : Option (List Segment)). option_or z None) is)) h
