use Rattle.std.proofs.Common.{map, ap, ◌∙◌}
use Rattle.yq_core.specs.Entries.{tree_step}
use Rattle.yq_documents.specs.Reading.{cut_of}
use Rattle.yq_places.specs.PlacementReading.{numbers_at}
use Rattle.yq_lookup.proofs.cut_text.CutText.entry.Goals as goal

pub returns : goal.returns
returns c = c.entry_at.ensures ∙ ap (λ xs. numbers_at c.args.path.now.doc (map tree_step xs) (cut_of c.args.self.now)) c.deref.ensures.value
