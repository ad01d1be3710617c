use Rattle.std.proofs.Common.{rules, ◌≡◌, ◌++◌, None, string_bytes, sym, ap, ◌∙◌}
use Rattle.yq_core.{specs.Scalar.ScalarText, specs.Tree.scalar, specs.declared.kind.Kind.TheVariants.Text}
use Rattle.yq_planner.{specs.Repeated.text_times, proofs.RepeatedLaws.texts_times, proofs.ScalarValues.scalar_value}
use Rattle.yq_semantics.specs.Judgement.{gives}
use Rattle.yq_planner.proofs.updating.repeated.text_times.Goals as goal

pub returns : goal.returns
returns c =
    let full : string_bytes c.push_times.new.text ≡ c.args.one.now ++ text_times c.args.times c.args.other.now = search rules in
    texts_times c.args.times c.args.one.now c.args.other.now
    ∙ ap gives (sym (scalar_value c.string.result
    ∙ (ap (λ (s : ScalarText). scalar None s.kind s.text) c.string.ensures ∙ ap (scalar None Text) full)))
