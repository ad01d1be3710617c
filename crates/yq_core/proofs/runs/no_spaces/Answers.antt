use Rattle.std.{proofs.Common.refl, proofs.lemmas.Simd.zip2_splat}
use Rattle.yq_core.{specs.Runs.is_stop, specs.declared.runs.Run.TheVariants.Spaces, proofs.RunLaws.{lanes_mask, each_byte}}
use Rattle.yq_core.proofs.runs.no_spaces.Goals as goal

pub returns : goal.returns
returns c =
    let v = c.args.v in
    let long = c.fits-v.0 in
    lanes_mask _ (is_stop Spaces) v _ long (zip2_splat _ v 16 32 long) (each_byte _ (is_stop Spaces) refl v c.fits-v.1)
