use Rattle.std.{proofs.Common.{◌-◌, ◌∷◌, ◌∙◌, [], List, Some, ap, arith, drop, length, slice_get, subst, sym, ℕ}, specs.Str.IsCharBoundary}
use Rattle.yq_row_table.{specs.Ends.bound_at, specs.Offsets.AreCuts, specs.View.{Bound, RowsView}}
use Rattle.yq_row_table.proofs.KeptPlaces.{end_at_index, end_cuts, end_within, from_back, from_front}
use Rattle.yq_row_table.proofs.rows.Rows.part.Goals as goal

pub at-end-requires : goal.at-end-requires
at-end-requires c = end_within c.self.inside.text c.self.inside.places c.args.i c.args.self.now c.self.view_is c.requires

pub split_at-requires : goal.split_at-requires
split_at-requires c =
    let e = c.at-end.result in
    let half = end_at_index c.self.inside.text c.self.inside.places c.args.i e c.self.invariant.0 c.at-end.ensures in
    subst (IsCharBoundary c.self.inside.text.front.now) (sym c.start-start.ensures) (end_cuts c.self.inside.text.front.now e (half.0.front (omega arith))).0

pub bound-requires : goal.bound-requires
bound-requires c =
    let e = c.at-end.result in
    let half = end_at_index c.self.inside.text c.self.inside.places c.args.i e c.self.invariant.0 c.at-end.ensures in
    subst (λ (t : List ℕ). AreCuts t (e.gap ∷ e.marker ∷ [])) (ap (λ (n : ℕ). drop n c.self.inside.text.front.now) (sym c.start-start.ensures) ∙ sym c.split_at.ensures.back)
    (end_cuts c.self.inside.text.front.now e (half.0.front (omega arith))).1

pub returns-then-start-split : goal.returns-then-start-split
returns-then-start-split c =
    let e = c.at-end.result in
    let front = c.self.inside.text.front.now in
    let half = end_at_index c.self.inside.text c.self.inside.places c.args.i e c.self.invariant.0 c.at-end.ensures in
    ap (λ (v : RowsView). slice_get v.bounds c.args.i) (sym c.self.view_is)
    ∙ (half.1
    ∙ ap (λ (b : Bound). Some b) (from_front c.self.inside.text e (omega arith) ∙ (ap (λ (t : List ℕ). bound_at t e) (ap (λ (n : ℕ). drop n front) (sym c.start-start.ensures) ∙ sym c.split_at.ensures.back) ∙ sym c.bound.ensures)))

pub split_at-requires-2 : goal.split_at-requires-2
split_at-requires-2 c =
    let e = c.at-end.result in
    let n = length c.self.inside.text.front.now in
    let half = end_at_index c.self.inside.text c.self.inside.places c.args.i e c.self.invariant.0 c.at-end.ensures in
    subst (λ (s : ℕ). IsCharBoundary c.self.inside.text.back.now (s - n)) (sym c.start-start.ensures) (end_cuts c.self.inside.text.back.now (record e { start = e.start - n }) (half.0.back (omega arith))).0

pub bound-requires-2 : goal.bound-requires-2
bound-requires-2 c =
    let e = c.at-end.result in
    let n = length c.self.inside.text.front.now in
    let half = end_at_index c.self.inside.text c.self.inside.places c.args.i e c.self.invariant.0 c.at-end.ensures in
    subst (λ (t : List ℕ). AreCuts t (e.gap ∷ e.marker ∷ [])) (ap (λ (s : ℕ). drop (s - n) c.self.inside.text.back.now) (sym c.start-start.ensures) ∙ sym c.split_at-2.ensures.back)
    (end_cuts c.self.inside.text.back.now (record e { start = e.start - n }) (half.0.back (omega arith))).1

pub returns : goal.returns
returns c =
    let e = c.at-end.result in
    let n = length c.self.inside.text.front.now in
    let back = c.self.inside.text.back.now in
    let half = end_at_index c.self.inside.text c.self.inside.places c.args.i e c.self.invariant.0 c.at-end.ensures in
    ap (λ (v : RowsView). slice_get v.bounds c.args.i) (sym c.self.view_is)
    ∙ (half.1
    ∙ ap (λ (b : Bound). Some b) (from_back c.self.inside.text e (omega arith) ∙ (ap (λ (t : List ℕ). bound_at t e) (ap (λ (s : ℕ). drop (s - n) back) (sym c.start-start.ensures) ∙ sym c.split_at-2.ensures.back) ∙ sym c.bound-2.ensures)))
