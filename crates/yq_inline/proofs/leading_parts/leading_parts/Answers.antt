use Rattle.std.proofs.Common.{refl, sym, arith}
use Rattle.yq_inline.proofs.CollectionFronts.{collection_there, depth_is, gap_there, none_anchored, none_opened, parts_there}
use Rattle.yq_inline.proofs.leading_parts.leading_parts.Goals as goal

pub returns-in_default : goal.returns-in_default
returns-in_default c = none_anchored c.args.node (sym c.in_default.ensures)

pub returns-in_default-split_opening : goal.returns-in_default-split_opening
returns-in_default-split_opening c = none_opened c.args.node c.in-Some.content.now (sym c.in-Some.ensures) c.in_default-split_opening.ensures

pub returns-in_default-read_gap : goal.returns-in_default-read_gap
returns-in_default-read_gap c =
    absurd (gap_there c.args.node c.in-Some.content.now (sym c.in-Some.ensures) c.in-Some-split_opening.keyed c.in-Some-split_opening.inside.now c.in-Some-split_opening.ensures c.in_default-read_gap.ensures.read)

pub returns-then-node-eq0 : goal.returns-then-node-eq0
returns-then-node-eq0 c =
    absurd (omega (
      arith,
      depth_is c.args.node c.in-Some.content.now (sym c.in-Some.ensures) c.in-Some-split_opening.keyed c.in-Some-split_opening.inside.now
          c.in-Some-split_opening.ensures _ c.in-Ok.text.now c.in-Ok.ensures.read,
      c.if-node-eq0.true,
    ))

pub invariant_of-parts : goal.invariant_of-parts
invariant_of-parts c = record {
  parts = parts_there c.args.node c.in-Some.content.now (sym c.in-Some.ensures) c.in-Some-split_opening.keyed c.in-Some-split_opening.inside.now
      c.in-Some-split_opening.ensures _ c.in-Ok.text.now c.in-Ok.ensures.read;
}

pub returns : goal.returns
returns c =
    collection_there c.args.node c.in-Some.content.now (sym c.in-Some.ensures) c.in-Some-split_opening.keyed c.in-Some-split_opening.inside.now
    c.in-Some-split_opening.ensures _ c.in-Ok.text.now c.in-Ok.ensures.read _ refl refl refl refl
