use Rattle.std.{proofs.Common.{◌≡◌, ℕ, List, ◌++◌, append-nil, sym, ◌∙◌, subst}, specs.String.string_bytes}
use Rattle.yq_text.specs.TextGapBuffer.{buffer_text}
use Rattle.yq_row_table.specs.View.{rows_view}
use Rattle.yq_documents.specs.Reading.{cut_of}
use Rattle.yq_splice.specs.Session.{HasPlaces}
use Rattle.yq_splice.proofs.session.Session.of.Goals as goal

pub invariant_of-result : goal.invariant_of-result
invariant_of-result c =
    let text : buffer_text c.of.result ≡ string_bytes c.args.text = (λ i. c.of.ensures.front i ++ c.of.ensures.back i) ∙ append-nil (string_bytes c.args.text) in (
      subst (λ (x : List ℕ). HasPlaces x c.args.places) (sym text) c.requires,
      c.none.ensures (rows_view (cut_of (buffer_text c.of.result))),
    )
