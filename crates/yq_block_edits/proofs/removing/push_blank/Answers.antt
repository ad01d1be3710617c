use Rattle.std.{proofs.Common.{◌≡◌, ◌++◌, List, sym, ap, ◌∙◌, subst}, specs.Prelude.OnOk}
use Rattle.yq_core.specs.BlockRepair.{is_short}
use Rattle.yq_places.specs.RemovalReading.{seam_view}
use Rattle.yq_text.specs.Script.{Segment}
use Rattle.yq_block_edits.proofs.PushedLaws.{long_blank}
use Rattle.yq_block_edits.proofs.removing.push_blank.Goals as goal

pub returns : goal.returns
returns c =
    let long = ap (is_short c.args.seam.indent) (sym c.as_bytes.ensures.value) ∙ (sym c.is_short.ensures ∙ c.if-is_short.false) in
    subst (λ (x : List Segment). OnOk c.push_indented.result (c.push_indented.new.segments ≡ c.args.segments.now ++ x))
    (sym (long_blank (seam_view c.args.seam) c.args.line.now c.if-seam.false long)) c.push_indented.ensures
