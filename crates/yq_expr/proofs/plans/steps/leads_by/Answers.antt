use Rattle.std.proofs.Common.{◌≡◌, ◌≤◌, rules, arith, List, [], ◌∷◌, ap, sym, ◌++◌, ◌∙◌, length, map, take, get_or, ◌-◌, ℕ, Bool}
use Rattle.std.{proofs.lemmas.List.{length-append, length-take, map_push}, specs.Prelude.{IsTrue, ◌==◌}}
use Rattle.yq_core.{specs.Entries.tree_step, specs.Paths.Step}
use Rattle.yq_eval.{specs.PlaceView.{node_step_of, path_of}, specs.declared.matching.place.NodePath.{Root, the_lemmas}}
use Rattle.yq_semantics.proofs.UnderLaws.{none_there}
use Rattle.yq_expr.proofs.ChangeLaws.{split_last}
use Rattle.yq_core.specs.declared.path.Step as declared
use Rattle.yq_expr.proofs.plans.steps.leads_by.Goals as goal

ends : path_of Root ≡ []
ends = search (rules, the_lemmas)

-- one step more, the last that is left
one_more : (front : List Step) (s : Step) (xs : List declared.Step) (x : declared.Step) → 1 ≤ length xs → x ≡ get_or xs (length xs - 1) x → s ≡ tree_step x → front ≡ map tree_step (take (length xs - 1) xs) →
    front ++ s ∷ [] ≡ map tree_step xs
one_more front s xs x some is same before =
    (λ i. before i ++ same i ∷ []) ∙ (sym (map_push tree_step (take (length xs - 1) xs) x) ∙ ap (map tree_step) (sym (split_last xs x some is)))

shorter : (xs : List declared.Step) (n m : ℕ) → length xs ≤ m → length (take n xs) ≤ m
shorter xs n m h = omega (arith, length-take n xs, h)

nothing_left : (xs : List declared.Step) (b : Bool) → b ≡ (length xs == 0) → IsTrue b → map tree_step xs ≡ []
nothing_left xs b is empty = ap (map tree_step) (none_there xs (search rules))

pub steps-preserved : goal.steps-preserved
steps-preserved c =
    let linked : path_of c.steps.rest ≡ path_of c.in-Below.front.now ++ node_step_of c.in-Below.step ∷ [] = ap path_of c.in-Below.is ∙ search (rules, the_lemmas) in
    record {
      bound = shorter c.steps.left.now _ _ c.steps.invariant.bound;
      same = λ before.
          c.steps.invariant.same (linked ∙ one_more _ _ c.steps.left.now c.other-item.result c.in-len1-up.len_at_least c.other-item.is (c.is_step.ensures c.if-not-is_step.false) before);
    }

pub steps-smaller : goal.steps-smaller
steps-smaller c =
    let linked : path_of c.steps.rest ≡ path_of c.in-Below.front.now ++ node_step_of c.in-Below.step ∷ [] = ap path_of c.in-Below.is ∙ search (rules, the_lemmas) in
    search (rules, length-append)

pub returns : goal.returns
returns c = λ empty. c.steps.invariant.same (ap path_of c.in_default.is ∙ (ends ∙ sym (nothing_left c.steps.left.now c.is_empty.result c.is_empty.ensures empty)))
