use Rattle.std.{proofs.Common.{ℕ, List, ◌++◌, ap, rules, string_bytes, arith}, proofs.lemmas.Str.Pattern.split_parts}
use Rattle.yq_core.proofs.BlockSteps.{some_left}
use Rattle.yq_edit_rules.proofs.CommentPieceLaws.{loop_more, loop_done}
use Rattle.yq_semantics.specs.Meaning.{split_lines}
use Rattle.yq_edit_rules.specs.CommentEdits as spec
use Rattle.yq_block_edits.proofs.head_comment.head_lines.Goals as goal

pub lines-preserved : goal.lines-preserved
lines-preserved c =
    let cut = rw c.in-Some.is at (split_parts 10 c.lines.rest.now c.split_once.result c.split_once.ensures.cases (omega arith)) in (
      search rules,
      loop_more c.args.column c.args.br.now (string_bytes c.lines.out) (string_bytes c.push_line.new.out) c.args.text.now
          c.lines.rest.now c.in-Some.line.now c.in-Some.after.now cut.0 cut.1 c.lines.invariant.1 c.in_ok-push_line.ensures,
    )

pub returns : goal.returns
returns c =
    let none = rw c.in_default.is at (split_parts 10 c.lines.rest.now c.split_once.result c.split_once.ensures.cases (omega arith)) in
    loop_done c.args.column c.args.br.now (string_bytes c.lines.out) (string_bytes c.push_line-2.new.out) c.args.text.now c.lines.rest.now none
    c.lines.invariant.1 c.in_ok-push_line-2.ensures (some_left _ _ c.is_empty.ensures c.if-is_empty.false)

pub lines-init : goal.lines-init
lines-init c = (search rules, ap (λ (x : List ℕ). x ++ spec.head_lines c.args.column c.args.br.now (split_lines c.args.text.now)) c.in_ok-out.ensures.bytes)
