-- What is changed at the items or values of a node, one after the other.
use Rattle.std.proofs.Common.{rules, ◌≡◌, ℕ, suc, ◌+◌, List, [], ◌∷◌, map, refl, sym, ap, ◌∙◌, add-one, arith}
use Rattle.yq_core.specs.Tree.{Label, Node, Children, none, child}
use Rattle.yq_eval.{specs.PlaceView.put_after, proofs.EachLaws.{each_more, each_fails}}
use Rattle.yq_semantics.specs.Judgement.{MatchFails, Judgement, gives, ExprError}
use Rattle.yq_semantics.specs.Places.{FoundPlace, child_place, for_each, step_by, stepped}

-- the places of items or entries, the first one apart
pub first_child : (p : FoundPlace) (b : ℕ) (cs rest : Children) (label : Label) (n : Node) → cs ≡ child label n rest →
    map (child_place p) (stepped b cs) ≡ child_place p (step_by b label.key, n) ∷ map (child_place p) (stepped (b + 1) rest)
first_child p b cs rest label n is = search rules

module _ {B : Type 0} (f : FoundPlace → Judgement (List B)) (p : FoundPlace) (b : ℕ) (cs rest : Children) (label : Label) (n : Node) where
  -- one item or entry more
  pub child_more : (before after : List B) (all : Judgement (List B)) → cs ≡ child label n rest → put_after before (f (child_place p (step_by b label.key, n))) ≡ gives after →
      put_after before (for_each f (map (child_place p) (stepped b cs))) ≡ all → put_after after (for_each f (map (child_place p) (stepped (b + 1) rest))) ≡ all
  child_more before after all is h so_far =
      ap (λ (i : ℕ). put_after after (for_each f (map (child_place p) (stepped i rest)))) (add-one b)
      ∙ each_more (child_place p) f before after ((step_by b label.key, n) ∷ stepped (suc b) rest) 0 (step_by b label.key, n) all (omega arith) refl h
      (ap (λ (ds : Children). put_after before (for_each f (map (child_place p) (stepped b ds)))) (sym is) ∙ so_far)

  -- an error at one is one of all
  pub child_fails : (before : List B) (all : Judgement (List B)) (e : ExprError) → cs ≡ child label n rest → MatchFails e (put_after before (f (child_place p (step_by b label.key, n)))) →
      put_after before (for_each f (map (child_place p) (stepped b cs))) ≡ all → MatchFails e all
  child_fails before all e is h so_far =
      each_fails (child_place p) f before ((step_by b label.key, n) ∷ stepped (suc b) rest) 0 (step_by b label.key, n) all e (omega arith) refl h
      (ap (λ (ds : Children). put_after before (for_each f (map (child_place p) (stepped b ds)))) (sym is) ∙ so_far)

-- after the last one nothing more comes
pub children_done : {B : Type 0} (f : FoundPlace → Judgement (List B)) (p : FoundPlace) (b : ℕ) (cs : Children) (before : List B) (all : Judgement (List B)) → cs ≡ none →
    put_after before (for_each f (map (child_place p) (stepped b cs))) ≡ all → all ≡ gives before
children_done f p b cs before all is so_far = search rules

-- after nothing comes what comes
pub nothing_before : {B : Type 0} (j : Judgement (List B)) → put_after [] j ≡ j
nothing_before j = search rules
