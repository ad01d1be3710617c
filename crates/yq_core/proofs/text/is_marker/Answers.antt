use Rattle.std.proofs.Common.{◌&&◌, drop, ap, sym, ◌∙◌}
use Rattle.yq_core.{specs.Text.separates, proofs.MarkerLaws.{marker_is, marker_long}}
use Rattle.yq_core.proofs.text.is_marker.Goals as goal

pub returns-then-not-begins_marker : goal.returns-then-not-begins_marker
returns-then-not-begins_marker c =
    let t = c.args.text.now in
    sym (marker_is t ∙ ap (λ b. b && separates (drop 3 t)) (sym c.begins_marker.ensures ∙ c.if-not-begins_marker.true))

pub split_at-requires : goal.split_at-requires
split_at-requires c = marker_long c.args.text.now (sym c.begins_marker.ensures ∙ c.if-not-begins_marker.false)

pub returns : goal.returns
returns c =
    let t = c.args.text.now in
    c.separates.ensures ∙ (ap separates c.split_at.ensures.back ∙ sym (marker_is t ∙ ap (λ b. b && separates (drop 3 t)) (sym c.begins_marker.ensures ∙ c.if-not-begins_marker.false)))
