use Rattle.std.proofs.Common.{ap, refl, sym, ◌∙◌}
use Rattle.yq_core.specs.PlacedReading.{past_sep}
use Rattle.yq_inline.proofs.FirstParts.{node_there, others_there, passed, sep_there}
use Rattle.yq_inline.proofs.passing.pass.Goals as goal

pub unreachable-requires : goal.unreachable-requires
unreachable-requires c = node_there c.args.parts c.args.node.now c.requires c.in-Err.ensures.read

pub unreachable-requires-in-Err-read_sep : goal.unreachable-requires-in-Err-read_sep
unreachable-requires-in-Err-read_sep c =
    sep_there c.args.parts c.args.node.now c.requires _ c.in-Ok.value.rest.now c.in-Ok.ensures.read (ap (λ k. past_sep k c.in-Ok.value.rest.now) (sym c.closing_bracket.ensures) ∙ c.in-Err-read_sep.ensures.read)

pub invariant_of-others : goal.invariant_of-others
invariant_of-others c = record {
  parts = λ none. (let e = sym (others_there c.args.parts c.args.node.now c.requires _ c.in-Ok.value.rest.now c.in-Ok.ensures.read c.in-Ok-read_sep.text.now
      (ap (λ k. past_sep k c.in-Ok.value.rest.now) (sym c.closing_bracket.ensures) ∙ c.in-Ok-read_sep.ensures.read)) ∙ none in cc);
}

pub returns : goal.returns
returns c = λ f.
    passed c.args.parts c.args.node.now f _ c.in-Ok.value.rest.now c.in-Ok.ensures.read c.in-Ok-read_sep.text.now
    (ap (λ k. past_sep k c.in-Ok.value.rest.now) (sym c.closing_bracket.ensures) ∙ c.in-Ok-read_sep.ensures.read) _ refl refl refl refl refl
