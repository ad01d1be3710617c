use Rattle.std.{proofs.Common.arith, proofs.lemmas.Bool.ltb-true}
use Rattle.yq_places.proofs.KnownFronts.{view_stays}
use Rattle.yq_places.proofs.places.known_at.is_before_offset.Goals as goal

pub returns-then-known-len : goal.returns-then-known-len
returns-then-known-len c = λ less.
    view_stays c.args.rows.now c.args.known c.args.front c.requires.known (omega (arith, c.if-known-len.true, c.len.ensures)) (omega (arith, c.start.ensures, ltb-true _ _ less))
