use Rattle.std.proofs.Common.{refl, ap, ◌∙◌, rules, sym}
use Rattle.yq_core.{proofs.BlockSteps.{at_cut, at_end}, specs.Text.text_lines}
use Rattle.yq_documents.{specs.Texts.{text_then, texts}, proofs.CommentLaws.{no_text, none_left}}
use Rattle.yq_documents.proofs.comment.CommentsIterator.next.Goals as goal

pub returns-then-is_empty-clause-steps : goal.returns-then-is_empty-clause-steps
returns-then-is_empty-clause-steps c = search (rules, none_left, at_end)

pub returns-in-Some-clause-steps : goal.returns-in-Some-clause-steps
returns-in-Some-clause-steps c =
    let cut = at_cut _ _ _ _ c.is_empty.ensures c.if-is_empty.false c.split_line.ensures in
    ap texts cut.0 ∙ (ap (λ o. text_then o (texts (text_lines c.split_line.result.1.now))) (sym c.in-Some.ensures))

pub returns-in-None-clause-steps : goal.returns-in-None-clause-steps
returns-in-None-clause-steps c =
    let cut = at_cut _ _ _ _ c.is_empty.ensures c.if-is_empty.false c.split_line.ensures in
    (ap texts cut.0 ∙ no_text c.split_line.result.0.now (text_lines c.split_line.result.1.now) c.in-None.ensures, none_left _ refl)
