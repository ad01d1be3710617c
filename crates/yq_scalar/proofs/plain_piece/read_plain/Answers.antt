use Rattle.std.{proofs.Common.w64, proofs.lemmas.Int.to_z-of_z}
use Rattle.yq_core.{proofs.ScalarPieceLaws.plain_is_piece, proofs.PieceLaws.{only_by, found_by}}
use Rattle.yq_scalar.proofs.plain_piece.read_plain.Goals as goal

pub returns-clause-only : goal.returns-clause-only
returns-clause-only c = only_by c.args.place c.args.indent c.args.at c.args.text.now c.plain_from.result (rw (to_z-of_z w64 c.args.indent c.ranges.indent) at c.plain_from.ensures.read)

pub returns-clause-is_piece : goal.returns-clause-is_piece
returns-clause-is_piece c = plain_is_piece c.args.place c.args.indent c.args.at c.args.text.now c.plain_from.result c.requires (rw (to_z-of_z w64 c.args.indent c.ranges.indent) at c.plain_from.ensures.read)

pub returns-clause-found : goal.returns-clause-found
returns-clause-found c =
    found_by c.args.place c.args.indent c.args.at c.args.text.now c.plain_from.result
    (rw (to_z-of_z w64 c.args.indent c.ranges.indent) at c.plain_from.ensures.read)
