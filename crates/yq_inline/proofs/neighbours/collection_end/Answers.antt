use Rattle.std.proofs.Common.{option_map, Some, sym, ap, ◌∙◌}
use Rattle.yq_inline.{specs.Neighbours.coll_end, proofs.AlongLaws.end_is}
use Rattle.yq_inline.proofs.neighbours.collection_end.Goals as goal

pub returns : goal.returns
returns c =
    let h = c.in-Some.ensures in
    (λ i. Some (c.in-Some.parts.keyed, c.is_some.ensures i, c.past_last.ensures i))
    ∙ (ap Some (end_is h.0 (c.in-Some.inside, c.in-Some.parts) h.2 c.last_part-last.result c.last_part-last.ensures) ∙ ap (option_map coll_end) (sym h.1))
