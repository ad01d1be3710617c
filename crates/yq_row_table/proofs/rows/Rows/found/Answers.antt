use Rattle.std.{proofs.Common.{rules, arith, ◌-◌, List, ℕ, ap, drop, length, subst, sym, ◌∙◌}, specs.Str.IsCharBoundary}
use Rattle.yq_row_table.{proofs.KeptReads.kept_within, specs.Offsets.{AreCuts, lengths}}
use Rattle.yq_row_table.proofs.KeptPlaces.{back_found, back_within, front_found, row_back, row_front}
use Rattle.yq_row_table.proofs.rows.Rows.found.Goals as goal

pub split_at-requires : goal.split_at-requires
split_at-requires c =
    let is_located = front_found c.self.inside.text c.self.inside.places c.args.i c.kept-row.result.now c.self.invariant.0 c.kept-row.ensures (omega (arith, c.self.inside.places.front.ok.0)) in
    subst (IsCharBoundary c.self.inside.text.front.now) (sym c.start.ensures) is_located.0

pub returns-then-i-len-clause-cuts : goal.returns-then-i-len-clause-cuts
returns-then-i-len-clause-cuts c =
    let is_located = front_found c.self.inside.text c.self.inside.places c.args.i c.kept-row.result.now c.self.invariant.0 c.kept-row.ensures (omega (arith, c.self.inside.places.front.ok.0)) in
    subst (λ (t : List ℕ). AreCuts t (lengths c.kept-row.result.now)) (ap (λ (n : ℕ). drop n c.self.inside.text.front.now) (sym c.start.ensures) ∙ sym c.split_at.ensures.back) is_located.1

pub returns-then-i-len-clause-row : goal.returns-then-i-len-clause-row
returns-then-i-len-clause-row c = search (rules, row_front)

pub overflow_sub-back : goal.overflow_sub-back
overflow_sub-back c = rw c.start-2.ensures (back_within c.self.inside.text c.self.inside.places c.args.i c.kept-row.result.now c.self.invariant.0 c.kept-row.ensures (omega (arith, c.self.inside.places.front.ok.0)))

pub split_at-requires-2 : goal.split_at-requires-2
split_at-requires-2 c =
    let is_located = back_found c.self.inside.text c.self.inside.places c.args.i c.kept-row.result.now c.self.invariant.0 c.kept-row.ensures (omega (arith, c.self.inside.places.front.ok.0)) in
    subst (λ (n : ℕ). IsCharBoundary c.self.inside.text.back.now (length c.self.inside.text.back.now - n)) (sym c.start-2.ensures) is_located.0

pub returns-clause-cuts : goal.returns-clause-cuts
returns-clause-cuts c =
    let back = c.self.inside.text.back.now in
    let is_located = back_found c.self.inside.text c.self.inside.places c.args.i c.kept-row.result.now c.self.invariant.0 c.kept-row.ensures (omega (arith, c.self.inside.places.front.ok.0)) in
    subst (λ (t : List ℕ). AreCuts t (lengths c.kept-row.result.now)) (ap (λ (n : ℕ). drop (length back - n) back) (sym c.start-2.ensures) ∙ sym c.split_at-2.ensures.back) is_located.1

pub returns-clause-row : goal.returns-clause-row
returns-clause-row c = search (rules, row_back)

pub kept-row-requires : goal.kept-row-requires
kept-row-requires c = kept_within c.self.inside.text c.self.inside.places c.args.i c.args.self.now c.self.view_is c.requires
