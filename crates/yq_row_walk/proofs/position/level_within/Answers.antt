use Rattle.std.proofs.Common.{length, ap, ◌∙◌, arith, rules}
use Rattle.yq_outline.{proofs.FirstLevels.{level_most, bare_level_at, dashed_level}, proofs.LengthLaws.{row_fits, view_small}}
use Rattle.yq_outline.proofs.WalkPositions.{has_row}
use Rattle.yq_row_walk.proofs.position.level_within.Goals as goal

pub returns-then-not-has_dashes : goal.returns-then-not-has_dashes
returns-then-not-has_dashes c = λ x e. c.level-first.ensures x e ∙ bare_level_at x c.args.position.line (c.if-not-has_dashes.ensures x e)

pub level_after-requires : goal.level_after-requires
level_after-requires c =
    let x = has_row c.args.rows.now.rows c.args.position.row c.requires.within in
    omega (
      arith,
      c.level-first.ensures x.0 x.1,
      level_most x.0,
      ap length (c.as_bytes-dashes.ensures.value ∙ c.dashes.ensures x.0 x.1),
      row_fits c.args.rows.now c.args.position.row x.0 x.1,
      view_small c.args.rows.now c.requires.rows_view,
    )

pub returns : goal.returns
returns c = search (rules, dashed_level)
