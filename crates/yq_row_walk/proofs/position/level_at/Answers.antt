use Rattle.std.proofs.Common.{ap, sym, ◌∙◌}
use Rattle.yq_outline.{specs.RowWalk.line_level, proofs.FirstLevels.view_level}
use Rattle.yq_row_walk.proofs.position.level_at.Goals as goal

pub returns-then-position-eq0 : goal.returns-then-position-eq0
returns-then-position-eq0 c = λ x e. c.level.ensures x e ∙ (view_level c.args.rows.now c.args.position.row x c.requires.rows_view e ∙ ap (λ k. line_level k x) (sym c.if-position-eq0.true))
