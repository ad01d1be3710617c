use Rattle.std.proofs.Common.{ap, slice_get, ◌∙◌}
use Rattle.yq_row_table.{specs.Offsets.before_head, specs.View.RowsView, proofs.KeptPlaces.kept_lengths, proofs.KeptReads.kept_within}
use Rattle.yq_row_table.proofs.rows.Rows.before_head.Goals as goal

pub returns : goal.returns
returns c s there =
    let own = ap (λ (v : RowsView). slice_get v.rows c.args.i) c.self.view_is ∙ there in
    c.before_head.ensures ∙ ap before_head (kept_lengths c.self.inside.text c.self.inside.places c.args.i c.kept.result.now s c.self.invariant.0 own c.kept.ensures)

pub kept-requires : goal.kept-requires
kept-requires c = kept_within c.self.inside.text c.self.inside.places c.args.i c.args.self.now c.self.view_is c.requires
