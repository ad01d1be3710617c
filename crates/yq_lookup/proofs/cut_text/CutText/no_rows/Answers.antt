use Rattle.std.{proofs.Common.{List, ℕ, take, drop, sym, ap, ◌∙◌, subst}, specs.Str.{IsUtf8, IsCharBoundary}}
use Rattle.yq_text.specs.Halves.{whole}
use Rattle.yq_documents.specs.Reading.{cut_of}
use Rattle.yq_places.{proofs.RootPlaceLaws.{unwritten_boundary, rowless_agrees}, proofs.RootPlacementLaws.no_bare}
use Rattle.yq_lookup.proofs.cut_text.CutText.no_rows.Goals as goal

pub returns-in_err-end : goal.returns-in_err-end
returns-in_err-end c = rw c.from_residual.ensures (no_bare c.args.doc (cut_of c.args.self.now) c.in_err-end.ensures)

pub split_at-requires : goal.split_at-requires
split_at-requires c =
    let u : IsUtf8 c.args.self.now = c.whole-whole.ensures.utf8 in
    subst (λ (t : List ℕ). IsCharBoundary t c.in_ok-end.end) (sym c.whole-whole.ensures.text) (unwritten_boundary c.args.self.now c.args.doc c.in_ok-end.end c.whole-whole.ensures.cut u c.in_ok-end.ensures)

pub returns : goal.returns
returns c =
    rowless_agrees c.args.self.now c.args.doc c.in_ok-end.end (whole c.split_at.result.0) (whole c.split_at.result.1) c.whole-whole.ensures.cut c.in_ok-end.ensures
    (c.split_at.ensures.front ∙ ap (take c.in_ok-end.end) c.whole-whole.ensures.text) (c.split_at.ensures.back ∙ ap (drop c.in_ok-end.end) c.whole-whole.ensures.text)
