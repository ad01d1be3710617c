use Rattle.std.{proofs.Common.{ℕ, arith, cond, ltb, refl}, proofs.lemmas.Simd.{zip2_splat, zip2_splat_left, zip2_of_maps}}
use lib.Bits.{bit_and, bit_or}
use Rattle.yq_core.{specs.Runs.is_other_byte, proofs.RunLaws.{each_byte, each_mask}}
use Rattle.yq_core.proofs.ascii.other_lanes.Goals as goal

pub returns : goal.returns
returns c =
    let v = c.args.v in
    let long = c.fits-v.0 in
    each_mask 64 _ is_other_byte v _ (omega arith) long
    (zip2_of_maps bit_or _ _ v (zip2_of_maps bit_and _ _ v (zip2_splat _ v 64 32 long) (zip2_splat _ v 64 10 long)) (zip2_splat_left {X = ℕ} (λ (a b : ℕ). cond (ltb a b) 255 0) 126 64 v long))
    (each_byte _ is_other_byte refl v c.fits-v.1)
