use Rattle.std.proofs.Common.{◌∙◌, arith, ◌+◌, ap}
use Rattle.yq_row_table.{specs.Offsets.pieces_of, proofs.PieceCuts.piece_at}
use Rattle.yq_row_table.proofs.offsets.Offsets.tail.Goals as goal

pub piece-requires : goal.piece-requires
piece-requires c =
    let p = piece_at c.args.self.now 8 c.args.text.now _ (omega arith) c.requires (ap (λ n. n + c.args.self.now.head) c.before_head.ensures) in
    record { before = p.before; after = p.len }

pub returns : goal.returns
unfolding pieces_of
returns c =
    let p = piece_at c.args.self.now 8 c.args.text.now _ (omega arith) c.requires (ap (λ n. n + c.args.self.now.head) c.before_head.ensures) in
    c.piece.ensures ∙ p.is
