use Rattle.std.proofs.Common.{sym, ◌∙◌}
use Rattle.yq_core.specs.Entries.{tree_step}
use Rattle.yq_inline.{specs.Along.front_read, proofs.AlongLaws.{no_coll, no_node, node_found}}
use Rattle.yq_inline.proofs.along.part_along.Goals as goal

pub returns-in_default : goal.returns-in_default
returns-in_default c = sym (no_coll (tree_step c.args.step.now) (front_read c.args.node) c.in_default.ensures)

pub returns-in_default-find_part : goal.returns-in_default-find_part
returns-in_default-find_part c =
    let h = c.in-Some.ensures in sym (no_node (tree_step c.args.step.now) h.0 _ h.2 (front_read c.args.node) h.1 c.in_default-find_part.ensures)

pub invariant_of-result : goal.invariant_of-result
invariant_of-result c = record { node = λ none. (let e = sym c.in-Some-find_part.ensures.first.read ∙ none in cc) }

pub returns : goal.returns
returns c =
    let h = c.in-Some.ensures in
    node_found (tree_step c.args.step.now) h.0 _ h.2 c.in-Some-find_part.found c.in-Some-find_part.ensures (front_read c.args.node) h.1
