use Rattle.std.proofs.Common.{List, ℕ, subst, ap}
use Rattle.yq_text.specs.Halves.{whole}
use Rattle.yq_row_table.specs.View.{row_view, rows_of}
use Rattle.yq_documents.specs.Reading.{cut_of}
use Rattle.yq_places.{specs.RowWalk.HasCut, proofs.FoundEntries.within_some, proofs.HeldLaws.cut_view}
use Rattle.yq_places.proofs.RowHeads.{has_head, pieces_from, slices_are}
use Rattle.yq_lookup.proofs.CutRows.{row_within}
use Rattle.yq_lookup.proofs.cut_text.CutText.row_head.Goals as goal

pub row-row-requires : goal.row-row-requires
row-row-requires c =
    let h : HasCut c.args.self.now c.self.inside.rows.now = subst (λ (x : List ℕ). HasCut x c.self.inside.rows.now) c.self.view_is c.self.invariant.0 in
    row_within c.args.self.now c.self.inside.rows.now c.args.i h.rows c.requires.within

pub head_place-start-requires-clause-within : goal.head_place-start-requires-clause-within
head_place-start-requires-clause-within c =
    let h : HasCut c.args.self.now c.self.inside.rows.now = subst (λ (x : List ℕ). HasCut x c.self.inside.rows.now) c.self.view_is c.self.invariant.0 in
    row_within c.args.self.now c.self.inside.rows.now c.args.i h.rows c.requires.within

pub head_place-start-requires-clause-rows_view : goal.head_place-start-requires-clause-rows_view
head_place-start-requires-clause-rows_view c = cut_view (whole c.self.inside.text) c.self.inside.rows.now c.self.invariant.0

pub from_head-text-requires : goal.from_head-text-requires
from_head-text-requires c =
    let h : HasCut c.args.self.now c.self.inside.rows.now = subst (λ (x : List ℕ). HasCut x c.self.inside.rows.now) c.self.view_is c.self.invariant.0 in
    row_within c.args.self.now c.self.inside.rows.now c.args.i h.rows c.requires.within

pub row_head-requires-clause-row : goal.row_head-requires-clause-row
row_head-requires-clause-row c =
    let t : List ℕ = c.args.self.now in
    let h : HasCut t c.self.inside.rows.now = subst (λ (x : List ℕ). HasCut x c.self.inside.rows.now) c.self.view_is c.self.invariant.0 in
    let r = within_some (rows_of (cut_of t)) c.args.i c.requires.within in
    let pieces = slices_are (cut_of t) c.self.inside.rows.now c.args.i (row_view c.row-row.result) r.0 h.rows c.row-row.ensures r.1 in
    let own = pieces_from c.from_head-text.result.now (row_view c.row-row.result) r.0 pieces (c.from_head-text.ensures (row_view c.row-row.result) c.row-row.ensures) in
    has_head t (cut_of t) c.args.i r.0 h.cut r.1 (row_view c.row-row.result) c.from_head-text.result.now pieces own (c.requires.fit r.0 r.1)

pub returns : goal.returns
returns c = λ r is.
    let t : List ℕ = c.args.self.now in
    let h : HasCut t c.self.inside.rows.now = subst (λ (x : List ℕ). HasCut x c.self.inside.rows.now) c.self.view_is c.self.invariant.0 in
    let at = ap (λ (x : ℕ × ℕ). x.0) (c.head_place-start.ensures (cut_of t) h.rows r is) in
    let pieces = slices_are (cut_of t) c.self.inside.rows.now c.args.i (row_view c.row-row.result) r h.rows c.row-row.ensures is in
    let own = pieces_from c.from_head-text.result.now (row_view c.row-row.result) r pieces (c.from_head-text.ensures (row_view c.row-row.result) c.row-row.ensures) in
    let alone = has_head t (cut_of t) c.args.i r h.cut is (row_view c.row-row.result) c.from_head-text.result.now pieces own (c.requires.fit r is) in
    record { view = c.in_ok-row_head.ensures.view alone; flow = c.in_ok-row_head.ensures.flow alone; text_is = own; before_is = at }
