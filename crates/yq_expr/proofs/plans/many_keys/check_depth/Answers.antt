use Rattle.std.proofs.Common.{rules, ◌≡◌, List, false, map, sym, ap, ◌∙◌, subst}
use Rattle.yq_core.specs.Values.{value_node}
use Rattle.yq_eval.specs.PlaceView.{place_of}
use Rattle.yq_semantics.{specs.Changes.{Changed, all_allowed, put_with_path}, specs.Judgement.{Judgement, MatchFails, and_then}}
use Rattle.yq_semantics.{specs.Program.PathStep, specs.RightValues.is_null, specs.View.program_step}
use Rattle.yq_expr.{specs.EffectView.effect_at, specs.ManyKeys.AreManyKeys, proofs.ManyKeysLaws.{deep_added, each_refusal}}
use Rattle.yq_expr.specs.declared.plans.effect.Action as effect
use Rattle.yq_expr.proofs.plans.many_keys.check_depth.Goals as goal

pub returns-in-Put : goal.returns-in-Put
returns-in-Put c =
    each_refusal c.refuse.result
    (λ e h root room. subst (λ (a : effect.Action). MatchFails e (and_then (all_allowed root) (effect_at c.args.doc room a (place_of c.args.place.now)))) (sym c.in-Put.is) (h root))
    c.refuse.ensures

pub returns-in-Add : goal.returns-in-Add
returns-in-Add c =
    let p = place_of c.args.place.now in
    let v = value_node c.in-Add.value.now in
    let ms : List PathStep = map (λ s. program_step s.now) c.deref-in-Add.result.now in
    let many : AreManyKeys ms = search rules in
    let same : ms ≡ p.missing = search rules in
    let null : is_null v ≡ false = sym c.is_null.ensures ∙ c.if-is_null.false in
    each_refusal c.refuse-in-Add.result
    (λ e h root room. subst (λ (a : effect.Action). MatchFails e (and_then (all_allowed root) (effect_at c.args.doc room a p))) (sym c.in-Add.is)
    (subst (λ (j : Judgement (List Changed)). MatchFails e (and_then (all_allowed root) j)) (sym (deep_added ms p v many same null)) (h root)))
    c.refuse-in-Add.ensures

pub returns-in-Modify : goal.returns-in-Modify
returns-in-Modify c =
    let p = place_of c.args.place.now in
    each_refusal c.refuse-in-Modify.result
    (λ e h root room. subst (λ (a : effect.Action). MatchFails e (and_then (all_allowed root) (effect_at c.args.doc room a p))) (sym c.in-Modify.is)
    (subst (λ (j : Judgement (List Changed)). MatchFails e (and_then (all_allowed root) j)) (sym (ap (and_then (put_with_path p)) c.in_ok-value-in-Modify.ensures)) (h root)))
    c.refuse-in-Modify.ensures
