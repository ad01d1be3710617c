use Rattle.std.specs.Prelude.{IfSome}
use Rattle.yq_outline.specs.RowWalk.{IsKnownIn}
use Rattle.yq_row_walk.proofs.known_key.key_near.Given as goal

-- the next entries on both sides are known
abbrev pub invariant-entries : goal.invariant-entries
invariant-entries l = record {
  ahead : IfSome l.ahead (IsKnownIn l.walk.rows.now.rows l.under l.floor l.walk.document.end);
  back : IfSome l.back (IsKnownIn l.walk.rows.now.rows l.under l.floor l.walk.document.end);
}
