use Rattle.std.proofs.Common.{rules}
use Rattle.yq_core.{specs.Answers.ReadsAs, specs.BlockReading.block_from, proofs.BlockFound.{found_by, only_by}}
use Rattle.yq_core.proofs.ScalarPieceLaws.{block_is_piece}
use Rattle.yq_scalar.proofs.block.read_block.Goals as goal

read : (c : goal.After-read_at) → ReadsAs (λ p. p) c.read_at.result (block_from c.args.parent c.args.at c.args.text.now)
unfolding block_from
read c = search rules

pub returns : goal.returns
returns c = record {
  exact = read c;
  found = found_by c.args.parent c.args.at c.args.text.now c.read_at.result (read c);
  only = only_by c.args.parent c.args.at c.args.text.now c.read_at.result (read c);
  is_piece = block_is_piece c.args.parent c.args.at c.args.text.now c.read_at.result c.requires (read c);
  fault = c.read_at.ensures.fault;
}
