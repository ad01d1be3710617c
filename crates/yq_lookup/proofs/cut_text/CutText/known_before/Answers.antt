use Rattle.std.{proofs.Common.{◌∙◌, List, ℕ, subst}, proofs.lemmas.Option.IfSome_then}
use Rattle.yq_documents.specs.Reading.{cut_of}
use Rattle.yq_places.specs.RowWalk.{StayKnown}
use Rattle.yq_lookup.proofs.cut_text.CutText.known_before.Goals as goal

pub returns-clause-known : goal.returns-clause-known
returns-clause-known c =
    let same = c.take_items-items.ensures.same ∙ c.above_before-above.ensures.same in
    let items = subst (λ (x : List ℕ). StayKnown c.args.front (cut_of x) c.items_before_offset.new.known.items) same c.items_before_offset.ensures in
    λ new back touched. record {
      items = λ i k less. items i k less new back touched;
      documents = c.documents_before-documents.ensures new back touched;
      steps = c.steps_before-steps.ensures new back touched;
      above = IfSome_then c.above_before-above.result c.above_before-above.ensures.still (λ k still. still new back touched);
    }
