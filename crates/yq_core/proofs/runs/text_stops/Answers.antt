use Rattle.std.{proofs.Common.refl, proofs.lemmas.Simd.{zip2_splat, zip2_of_maps}}
use lib.Bits.{bit_and, bit_or}
use Rattle.yq_core.{specs.Runs.is_stop, specs.declared.runs.Run.TheVariants.Text, proofs.RunLaws.{lanes_mask, each_byte}}
use Rattle.yq_core.proofs.runs.text_stops.Goals as goal

pub returns : goal.returns
returns c =
    let v = c.args.v in
    let long = c.fits-v.0 in
    lanes_mask _ (is_stop Text) v _ long
    (zip2_of_maps bit_or _ _ v
    (zip2_of_maps bit_or _ _ v
    (zip2_of_maps bit_or _ _ v
    (zip2_of_maps bit_and _ _ v
    (zip2_of_maps bit_and _ _ v (zip2_of_maps bit_and _ _ v (zip2_splat _ v 16 32 long) (zip2_splat _ v 16 9 long)) (zip2_splat _ v 16 10 long))
    (zip2_splat _ v 16 13 long)) (zip2_splat _ v 16 127 long)) (zip2_splat _ v 16 194 long)) (zip2_splat _ v 16 239 long))
    (each_byte _ (is_stop Text) refl v c.fits-v.1)
