use Rattle.std.{proofs.Common.{◌≡◌, ap, sym, ◌∙◌, rules}, specs.Prelude.option_and_then}
use Rattle.yq_core.{specs.Entries.tree_step, specs.Inline.depth_limit, specs.Keys.{are_distinct, keys_of}}
use Rattle.yq_outline.{specs.Lines.lines_of_rows, specs.Ends.part, specs.Outline.{children, level}, specs.Positions.reach_under}
use Rattle.yq_outline.{specs.RowWalk.line_number, proofs.EntryKeys.line_keys, proofs.WalkPositions.{located, head_here, head_none}}
use Rattle.yq_row_table.specs.View.{slices}
use Rattle.yq_row_walk.proofs.position_reach.next_from.Goals as goal

pub returns-then-has_head_by-clause-found : goal.returns-then-has_head_by-clause-found
returns-then-has_head_by-clause-found c = λ h ss.
    let n = line_number c.args.walk.now.document h.are_there.rows c.args.at in
    let k = located c.args.walk.now.rows.now c.args.walk.now.document h.are_there c.args.at c.requires.at in
    ap (option_and_then (reach_under (lines_of_rows h.are_there.rows) n (tree_step c.args.step.now) ss)) k.is ∙ head_here k.line.head _ _ (c.if-has_head_by.ensures h.are_there k.line k.is)

pub next_in-requires-clause-keys : goal.next_in-requires-clause-keys
next_in-requires-clause-keys c = λ h.
    let k = located c.args.walk.now.rows.now c.args.walk.now.document h.are_there c.args.at c.requires.at in
    let floor : c.level_at.result ≡ level k.line = c.level_at.ensures (slices k.row) k.pieces ∙ sym k.level_agrees in
    (λ j. are_distinct (keys_of (children (part (lines_of_rows h.are_there.rows) (c.next_by-under.ensures.number h.are_there j) (floor j))))) ∙ line_keys depth_limit (lines_of_rows h.are_there.rows) _ k.line h.sound k.is

pub returns-clause-found : goal.returns-clause-found
returns-clause-found c = λ h ss.
    let n = line_number c.args.walk.now.document h.are_there.rows c.args.at in
    let k = located c.args.walk.now.rows.now c.args.walk.now.document h.are_there c.args.at c.requires.at in
    let floor : c.level_at.result ≡ level k.line = c.level_at.ensures (slices k.row) k.pieces ∙ sym k.level_agrees in
    search (rules, head_none, n, k, floor)
