use Rattle.std.proofs.Common.{inl, refl}
use Rattle.yq_outline.proofs.WalkPositions.{located, stop_agrees}
use Rattle.yq_places.proofs.places.known_end.after_all.Goals as goal

pub returns-clause-number : goal.returns-clause-number
returns-clause-number c = λ h.
    let l = located c.args.walk.now.rows.now c.args.walk.now.document h c.args.from c.requires.from in
    stop_agrees c.args.walk.now.rows.now c.args.walk.now.document h c.args.from (record { row = c.row_after.result; line = 0 }) c.args.floor c.requires.from (c.requires.deeper h l.line l.is) c.row_after.ensures.value refl

pub row_after-requires-clause-first : goal.row_after-requires-clause-first
row_after-requires-clause-first c = inl refl
