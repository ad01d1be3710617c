use Rattle.std.{proofs.Common.{rules, eqb, refl, sym, ◌∙◌}, proofs.lemmas.Str.IsUtf8-append}
use Rattle.yq_text.specs.Halves.{whole}
use Rattle.yq_core.{proofs.Boundaries.boundary_spaces, proofs.Upto.upto_unless}
use Rattle.yq_places.proofs.places.halves.split_spaces.Goals as goal

pub split_at-requires : goal.split_at-requires
split_at-requires c = boundary_spaces (whole c.args.text) c.front_spaces.result c.front_spaces.ensures (IsUtf8-append c.args.text.front.now c.args.text.back.now (search rules) (search rules))

pub returns : goal.returns
returns c = rw (c.split_at.ensures.front, c.split_at.ensures.back, c.front_spaces.ensures ∙ sym (upto_unless (λ b. eqb b 32) (whole c.args.text))) refl
