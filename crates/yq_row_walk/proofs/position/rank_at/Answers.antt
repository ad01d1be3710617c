use Rattle.std.proofs.Common.{rules, sym, ap, ◌∙◌}
use Rattle.yq_outline.{specs.RowWalk.line_rank, proofs.FirstLevels.first_rank, proofs.WalkLevels.rank_of_level}
use Rattle.yq_row_walk.proofs.position.rank_at.Goals as goal

pub returns-then-position-eq0 : goal.returns-then-position-eq0
returns-then-position-eq0 c = λ x e.
    c.first_rank.ensures
    ∙ (first_rank c.args.rows.now c.args.position.row x c.requires.rows_view e _ _ (c.has_dashes.ensures x e) (c.has_colon.ensures x e) ∙ ap (λ k. line_rank k x) (sym c.if-position-eq0.true))

pub returns-in-0 : goal.returns-in-0
returns-in-0 c = search (rules, rank_of_level)
