use Rattle.std.{proofs.Common.{ap, get_or, slice_get, sym, ◌∙◌, ◌++◌}, proofs.lemmas.Option.get_or_from_slice_get, specs.Prelude.List}
use Rattle.yq_row_table.{specs.RowStarts.part_end, specs.View.RowsView, specs.declared.ends.EndPlace.EndPlace, proofs.EndsNear.part_ends}
use Rattle.yq_row_table.{proofs.HalfLaws.have_view, proofs.KeptPlaces.end_within}
use Rattle.yq_row_table.proofs.rows.Rows.part_end.Goals as goal

pub at-requires : goal.at-requires
at-requires c = end_within c.self.inside.text c.self.inside.places c.args.i c.args.self.now c.self.view_is c.requires

pub returns : goal.returns
returns c = λ b there.
    let h = c.self.invariant.0 in
    let e = c.at.result in
    let same = sym c.self.view_is ∙ have_view c.self.inside.text c.self.inside.places h in
    let at = ap (λ (v : RowsView). slice_get v.bounds c.args.i) (sym same) ∙ there in
    let index = sym (get_or_from_slice_get c.self.inside.places.ends c.args.i e e c.at.ensures)
    ∙ ap (λ (l : List EndPlace). get_or l c.args.i e) h.placed.ends_are in
    c.stop.ensures ∙ (part_ends (h.before ++ h.after) c.args.i b e at index ∙ ap (part_end c.args.i b) (sym same))
