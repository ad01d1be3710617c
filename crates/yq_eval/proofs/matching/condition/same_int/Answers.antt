use Rattle.std.proofs.Common.{rules, ◌≡◌, Option, None, ℤ, ap, ◌∙◌}
use Rattle.yq_core.specs.SchemaReading.{int_value}
use Rattle.yq_semantics.specs.Conditions.{same_int as same}
use Rattle.yq_eval.proofs.matching.condition.same_int.Goals as goal

pub returns-in-Some-None : goal.returns-in-Some-None
returns-in-Some-None c =
    c.eq.ensures
    ∙ (ap (λ (m : Option ℤ). same m None c.args.one.now c.args.other.now) c.in-Some-None.ensures.exact
    ∙ ap (λ (n : Option ℤ). same (int_value c.args.one.now) n c.args.one.now c.args.other.now) c.in-Some-None.ensures'.exact)

pub returns-in-None-default : goal.returns-in-None-default
returns-in-None-default c =
    let none : None ≡ int_value c.args.one.now = search rules in
    c.eq-in-None-default.ensures ∙ ap (λ (m : Option ℤ). same m (int_value c.args.other.now) c.args.one.now c.args.other.now) none
