use Rattle.std.proofs.Common.{◌∙◌, arith}
use Rattle.yq_row_table.{specs.Offsets.pieces_of, proofs.PieceCuts.piece_at}
use Rattle.yq_row_table.proofs.offsets.Offsets.anchor.Goals as goal

pub piece-requires : goal.piece-requires
piece-requires c =
    let p = piece_at c.args.self.now 5 c.args.text.now _ (omega arith) c.requires c.before_anchor.ensures in
    record { before = p.before; after = p.len }

pub returns : goal.returns
unfolding pieces_of
returns c = c.piece.ensures ∙ (piece_at c.args.self.now 5 c.args.text.now _ (omega arith) c.requires c.before_anchor.ensures).is
