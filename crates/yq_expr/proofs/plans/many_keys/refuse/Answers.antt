use Rattle.std.proofs.Common.{true, sym, ◌∙◌, rules}
use Rattle.yq_core.specs.Values.{value_node}
use Rattle.yq_eval.specs.PlaceView.{place_of}
use Rattle.yq_semantics.specs.View.{program_step}
use Rattle.yq_expr.proofs.ManyKeysLaws.{deep_refusal}
use Rattle.yq_expr.proofs.plans.many_keys.refuse.Goals as goal

pub returns-then-branch : goal.returns-then-branch
returns-then-branch c = λ root.
    rw c.error.ensures
    (deep_refusal (λ s. program_step s.now) c.args.missing.now (place_of c.args.place.now) (value_node c.args.value.now) true c.requires.many c.requires.steps
    (sym c.if-branch.true ∙ c.in_ok-some_key_is_long.ensures) root)

pub returns : goal.returns
returns c = search (rules, deep_refusal)
