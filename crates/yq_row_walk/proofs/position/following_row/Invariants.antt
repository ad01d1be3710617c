use Rattle.std.proofs.Common.{◌≡◌, ◌+◌, ◌-◌, drop, take}
use Rattle.yq_outline.specs.RowWalk.{deeper_rows}
use Rattle.yq_row_walk.proofs.position.following_row.Given as goal

-- the row that is looked for is looked for from here on
abbrev pub invariant-rows : goal.invariant-rows
invariant-rows l = l.from + deeper_rows l.level (take (l.end - l.from) (drop l.from l.rows.rows)) ≡ l.at + deeper_rows l.level (take (l.end - l.at) (drop l.at l.rows.rows))
