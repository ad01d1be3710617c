use Rattle.std.proofs.Common.{ap, ◌∙◌, subst}
use Rattle.yq_documents.specs.Reading.{cut_of, read_at}
use Rattle.yq_row_table.specs.Kept.{IsPlaced}
use Rattle.yq_splice.proofs.carrying.session_on.Goals as goal

pub of-requires : goal.of-requires
of-requires c = record {
  cut = cut_of c.args.text.now;
  read = ap read_at c.in_ok-kept.ensures.ok ∙ c.requires.read;
  placed = subst (IsPlaced c.into_places-places.result) c.requires.rows c.into_places-places.ensures;
}
