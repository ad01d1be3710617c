use Rattle.yq_block_edits.proofs.replace.held.beside_put.Goals as goal

pub returns-then-not-is_filled : goal.returns-then-not-is_filled
returns-then-not-is_filled c = c.text_put.ensures c.args.layout.now
