use Rattle.std.proofs.Common.{drop, ap, ◌∙◌}
use Rattle.yq_text.specs.Halves.{whole}
use Rattle.yq_places.proofs.FirstLaws.{front_less, spaces_boundary}
use Rattle.yq_places.proofs.places.halves.split_end_spaces.Goals as goal

pub split_at-requires : goal.split_at-requires
split_at-requires c = spaces_boundary (whole c.args.text) c.less_spaces_len.result c.less_spaces_len.ensures.value

pub returns-clause-front : goal.returns-clause-front
returns-clause-front c = c.split_at.ensures.front ∙ front_less (whole c.args.text) c.less_spaces_len.result c.less_spaces_len.ensures.value

pub returns-clause-spaces : goal.returns-clause-spaces
returns-clause-spaces c = c.split_at.ensures.back ∙ ap (λ n. drop n (whole c.args.text)) c.less_spaces_len.ensures.value
