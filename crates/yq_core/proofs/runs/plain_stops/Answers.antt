use Rattle.std.{proofs.Common.refl, proofs.lemmas.Simd.{zip2_splat, zip2_of_maps, splat_is_map}}
use lib.Bits.{bit_or}
use Rattle.yq_core.{specs.Runs.is_stop, specs.declared.runs.Run.TheVariants.Plain, proofs.RunLaws.{lanes_mask, each_byte}}
use Rattle.yq_core.proofs.runs.plain_stops.Goals as goal

pub returns : goal.returns
returns c =
    let v = c.args.v in
    let long = c.fits-v.0 in
    lanes_mask _ (is_stop Plain) v _ long
    (zip2_of_maps bit_or _ _ v
    (zip2_of_maps bit_or _ _ v
    (zip2_of_maps bit_or _ _ v (zip2_of_maps bit_or _ _ v (zip2_splat _ v 16 32 long) (zip2_splat _ v 16 58 long)) (zip2_splat _ v 16 44 long))
    (zip2_of_maps _ _ _ v (zip2_splat bit_or v 16 32 long) (splat_is_map v 16 123 long)))
    (zip2_of_maps _ _ _ v (zip2_splat bit_or v 16 32 long) (splat_is_map v 16 125 long)))
    (each_byte _ (is_stop Plain) refl v c.fits-v.1)
