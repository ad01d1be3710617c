use Rattle.yq_core.proofs.BlockLaws.{block_takes, block_again, one_block}
use Rattle.yq_scalar.proofs.block_laws.one_block.Goals as goal

pub returns-clause-takes : goal.returns-clause-takes
returns-clause-takes c = block_takes

pub returns-clause-again : goal.returns-clause-again
returns-clause-again c = block_again

pub returns-clause-one : goal.returns-clause-one
returns-clause-one c = one_block
