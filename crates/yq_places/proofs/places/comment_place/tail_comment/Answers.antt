use Rattle.std.proofs.Common.{arith}
use Rattle.yq_places.proofs.CommentPlaceLaws.{tail_fits}
use Rattle.yq_places.proofs.places.comment_place.tail_comment.Goals as goal

pub overflow_add-end : goal.overflow_add-end
overflow_add-end c =
    let fits = tail_fits c.args.start c.args.tail.now c.split_white.result.0.now c.split_white.result.1.now c.split_at_break.result.0.now c.split_at_break.result.1.now c.split_white.ensures c.split_at_break.ensures c.requires in
    omega (arith, fits)
