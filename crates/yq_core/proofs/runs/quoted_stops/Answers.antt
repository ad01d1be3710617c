use Rattle.std.proofs.lemmas.Simd.{zip2_splat, zip2_of_maps}
use lib.Bits.{bit_or}
use Rattle.yq_core.{specs.Runs.is_stop, specs.declared.runs.Run.TheVariants.Quoted, proofs.RunLaws.{lanes_mask, any_byte}}
use Rattle.yq_core.proofs.runs.quoted_stops.Goals as goal

pub returns : goal.returns
returns c =
    let v = c.args.v in
    let long = c.fits-v.0 in
    lanes_mask _ (is_stop (Quoted c.args.quote)) v _ long
    (zip2_of_maps bit_or _ _ v (zip2_of_maps bit_or _ _ v (zip2_splat _ v 16 c.args.quote long) (zip2_splat _ v 16 92 long)) (zip2_splat _ v 16 10 long))
    (any_byte c.args.quote 92 10 v)
