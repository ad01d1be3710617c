use Rattle.std.{proofs.Common.{◌≡◌, arith, eqb-true, map, sym, ◌∙◌}, proofs.lemmas.Simd.{length-chunk, leading_from_mask_l}}
use lib.Lanes.{chunk, mask_l}
use Rattle.yq_core.specs.Runs.{is_other_byte}
use Rattle.yq_core.proofs.ascii.is_ascii_block.Goals as goal

pub returns : goal.returns
returns c = λ yes.
    let v = chunk c.args.at 64 c.args.text.now in
    let none : mask_l (map is_other_byte v) ≡ 0 = sym c.other_lanes.ensures ∙ eqb-true _ 0 yes in
    omega (arith, leading_from_mask_l is_other_byte v none, length-chunk c.args.at 64 c.args.text.now c.requires)
