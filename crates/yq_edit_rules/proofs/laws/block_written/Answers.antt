use Rattle.std.proofs.Common.{subst}
use Rattle.yq_outline.{proofs.ByRules.rules_give, specs.Lines.lines_of_rows}
use Rattle.yq_core.specs.FitKeys.{key_limit}
use Rattle.yq_edit_rules.{specs.BlockRows.node_rows, specs.BlockValues.level_at, proofs.CharacterLaws.value_sound}
use Rattle.yq_edit_rules.{proofs.FitLaws.{node_fit, keys_fit, anchors_fit}, proofs.KeyLaws.near_key}
use Rattle.yq_edit_rules.{proofs.LaidRows.{laid_rows, laid_follow}, proofs.BlockLineLaws.{node_is_there, lines_deeper}}
use Rattle.yq_edit_rules.{proofs.RowLaws.value_laid, proofs.ScalarLaws.{Heads, heads}, proofs.TextLaws.value_spelled}
use Rattle.yq_edit_rules.proofs.laws.block_written.Goals as goal

pub returns-clause-inline : goal.returns-clause-inline
returns-clause-inline c = λ v node h is. subst (Heads v) is (heads v h)

pub returns-clause-text : goal.returns-clause-text
returns-clause-text c = λ v l column end rest h. value_spelled v l column end rest h.filled h.value

pub returns-clause-rows : goal.returns-clause-rows
returns-clause-rows c = λ v l column end rest limit h allowed. laid_rows column (node_rows l column end v) rest limit (value_laid v l column end rest h) allowed

pub returns-clause-follow : goal.returns-clause-follow
returns-clause-follow c = λ v l column k end rest limit h within. laid_follow column (node_rows l column end v) rest limit k (value_laid v l column end rest h) within

pub returns-clause-lines : goal.returns-clause-lines
returns-clause-lines c = λ v l column end step h uncommented. rules_give (level_at column v) (lines_of_rows (node_rows l column end v)) v (node_is_there v l column end step h.filled h.value uncommented)

pub returns-clause-fit : goal.returns-clause-fit
returns-clause-fit c = λ v l column end h. let fit = node_fit v l column end h in (keys_fit (node_rows l column end v) fit, anchors_fit (node_rows l column end v) fit)

pub returns-clause-characters : goal.returns-clause-characters
returns-clause-characters c = λ v l column h. value_sound v l column h

pub returns-clause-deeper : goal.returns-clause-deeper
returns-clause-deeper c = λ v l column key step b. lines_deeper v l column key step b

pub returns-clause-near : goal.returns-clause-near
returns-clause-near c = λ k u h. near_key k key_limit u h
