use Rattle.std.{proofs.Common.{rules, w64, sym, ◌∙◌}, proofs.lemmas.Int.to_z-of_z, proofs.lemmas.Str.IsCharBoundary-start}
use Rattle.std.specs.String.{string_bytes}
use Rattle.yq_documents.proofs.BlockHead.{block_refused, block_read}
use Rattle.yq_core.proofs.BlockFound.{block_of_text}
use Rattle.yq_row_heads.proofs.head.read_block_head.Goals as goal

pub read_block-requires : goal.read_block-requires
read_block-requires c = IsCharBoundary-start c.args.text.now (search rules)

pub returns-in-Err-clause-view : goal.returns-in-Err-clause-view
returns-in-Err-clause-view c = block_refused c.args.parent c.args.text.now (rw (to_z-of_z w64 c.args.parent c.ranges.parent) at c.in-Err.ensures.exact)

pub returns-in-Err-clause-fault : goal.returns-in-Err-clause-fault
returns-in-Err-clause-fault c = λ e. block_of_text c.in-Err.kind c.in-Err.ensures.fault (sym c.fault.ensures.kind ∙ e)

pub returns-clause-view : goal.returns-clause-view
returns-clause-view c = block_read c.args.parent c.args.text.now c.in-Ok.piece (string_bytes c.in_ok-text.text) (rw (to_z-of_z w64 c.args.parent c.ranges.parent) at c.in-Ok.ensures.found) c.in_ok-text.ensures.block
