use Rattle.std.proofs.Common.{◌++◌, length, length-append, ap, arith, rules}
use Rattle.yq_text.specs.Halves.{whole}
use Rattle.yq_places.proofs.CommentEndLaws.{above_fits, above_boundary, above_is}
use Rattle.yq_places.proofs.places.lines_above.above.Goals as goal

pub overflow_sub-end : goal.overflow_sub-end
overflow_sub-end c = above_fits (whole c.args.text) c.args.start c.args.gap.now c.last_run-run.result.now c.requires.gap c.last_run-run.ensures

pub split_at-requires-2 : goal.split_at-requires-2
split_at-requires-2 c = above_boundary (whole c.args.text) c.args.start c.args.gap.now c.last_run-run.result.now c.requires.gap c.last_run-run.ensures (whole c.split_at.result.0) c.split_at.ensures.front

pub returns : goal.returns
returns c = search (rules, above_is)

pub overflow_add-end : goal.overflow_add-end
overflow_add-end c =
    let h = c.requires.gap in
    omega (
      arith,
      ap length h.text,
      h.start_is,
      length-append c.args.text.front.now c.args.text.back.now,
      length-append h.before (c.args.gap.now ++ h.rest),
      length-append c.args.gap.now h.rest,
    )
