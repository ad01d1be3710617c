use Rattle.std.{proofs.Common.{ap, ◌∙◌, arith}, proofs.lemmas.Simd.{length-chunk, first_set_mask_l}}
use lib.Lanes.{chunk}
use Rattle.yq_core.specs.Runs.{first_set, is_stop}
use Rattle.yq_core.proofs.runs.lanes_len.Goals as goal

pub returns : goal.returns
returns c =
    let v = chunk c.args.at 16 c.args.text.now in
    c.first_set.ensures ∙ ap first_set c.stops.ensures ∙ first_set_mask_l (is_stop c.args.run) v 16 (length-chunk c.args.at 16 c.args.text.now c.requires) (omega arith)
