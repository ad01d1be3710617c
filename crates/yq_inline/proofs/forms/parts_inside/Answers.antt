use Rattle.std.proofs.Common.{arith}
use Rattle.yq_inline.{specs.Measured.closing_byte, proofs.NodeForms.{gap_found, inside, inside_found}, proofs.PartSteps.close_is}
use Rattle.yq_inline.proofs.forms.parts_inside.Goals as goal

pub overflow_sub-result : goal.overflow_sub-result
overflow_sub-result c =
    let n = c.args.node in
    let x = inside n.total n.depth (closing_byte c.args.keyed) n.text.now (close_is c.args.keyed) c.requires.opens n.borrowed in
    omega (arith, x.room)

pub unreachable-requires : goal.unreachable-requires
unreachable-requires c =
    let n = c.args.node in
    gap_found n.total n.depth (closing_byte c.args.keyed) n.text.now c.args.text.now (close_is c.args.keyed) c.requires.opens n.borrowed c.requires.text c.in-Err.ensures.read

pub invariant_of-result-clause-borrowed : goal.invariant_of-result-clause-borrowed
invariant_of-result-clause-borrowed c =
    let n = c.args.node in
    (inside_found n.total n.depth (closing_byte c.args.keyed) n.text.now c.args.text.now _ c.in-Ok.rest.now (close_is c.args.keyed) c.requires.opens n.borrowed c.requires.text c.in-Ok.ensures.read).borrowed

pub returns-clause-inside : goal.returns-clause-inside
returns-clause-inside c =
    let n = c.args.node in
    let x = inside_found n.total n.depth (closing_byte c.args.keyed) n.text.now c.args.text.now _ c.in-Ok.rest.now (close_is c.args.keyed) c.requires.opens n.borrowed c.requires.text c.in-Ok.ensures.read in
    record { tree = x.tree; parts = x.parts }
