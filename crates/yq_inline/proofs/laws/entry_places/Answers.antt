use Rattle.yq_core.proofs.PathLaws.{path_places, path_is_there, path_holds}
use Rattle.yq_inline.proofs.laws.entry_places.Goals as goal

pub returns : goal.returns
returns c = record {
  places = path_places;
  text = path_is_there;
  node = λ flow spaces d s ss x y h at.
      let k = path_holds flow spaces d s ss x y h at in
      record { left = k.0; depth_is = k.1; node = k.2 };
}
