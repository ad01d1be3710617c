use Rattle.yq_core.{proofs.ScalarPieceLaws.quoted_is_piece, proofs.QuotedPieceLaws.only_by}
use Rattle.yq_scalar.proofs.quoted_piece.read_quoted.Goals as goal

pub returns-clause-only : goal.returns-clause-only
returns-clause-only c = only_by c.args.at c.args.text.now c.quoted_from.result c.quoted_from.ensures.read

pub returns-clause-is_piece : goal.returns-clause-is_piece
returns-clause-is_piece c = quoted_is_piece c.args.at c.args.text.now c.quoted_from.result c.requires c.quoted_from.ensures.read
