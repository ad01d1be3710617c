use Rattle.std.proofs.Common.{rules}
use Rattle.yq_core.proofs.ContentLaws.{boundary_open, boundary_close, between_quotes}
use Rattle.yq_scalar_reader.proofs.folded.inside.Goals as goal

pub split_at-requires : goal.split_at-requires
split_at-requires c = boundary_open c.requires.0 c.requires.1.0 c.args.piece.now c.requires.1.1.0 c.requires.1.1.1 c.utf8.piece

pub split_at-requires-2 : goal.split_at-requires-2
split_at-requires-2 c = boundary_close c.requires.0 c.requires.1.0 c.args.piece.now c.requires.1.1.0 _ c.requires.1.1.1 c.split_at.ensures.back

pub returns : goal.returns
returns c = search (rules, between_quotes)
