use Rattle.std.proofs.Common.{ap, sym, ◌∙◌}
use Rattle.yq_core.{specs.Answers.◌>>=◌, specs.Entries.tree_step}
use Rattle.yq_inline.{specs.Neighbours.coll_around, proofs.AlongLaws.{around_found, no_around}}
use Rattle.yq_inline.proofs.neighbours.part_neighbours.Goals as goal

pub returns-in_default : goal.returns-in_default
returns-in_default c = sym (ap (λ o. o >>= coll_around (tree_step c.args.last.now)) c.in_default.ensures)

pub returns-in_default-find_part : goal.returns-in_default-find_part
returns-in_default-find_part c =
    let h = c.in-Some.ensures in
    let s = tree_step c.args.last.now in
    sym (ap (λ o. o >>= coll_around s) h.1 ∙ no_around s h.0 _ h.2 c.in_default-find_part.ensures)

pub pass-requires : goal.pass-requires
pass-requires c = c.in-Some-find_part.ensures.first

pub returns : goal.returns
returns c =
    let h = c.in-Some.ensures in
    let s = tree_step c.args.last.now in
    let f = c.in-Some-find_part.ensures in
    around_found s h.0 _ h.2 c.in-Some-find_part.found f c.pass.result (c.pass.ensures f.first) _ c.first_text-next.ensures
    ∙ sym (ap (λ o. o >>= coll_around s) h.1)
