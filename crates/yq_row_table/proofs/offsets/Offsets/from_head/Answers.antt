use Rattle.std.proofs.Common.{◌∙◌}
use Rattle.yq_row_table.proofs.PieceCuts.{head_on}
use Rattle.yq_row_table.proofs.offsets.Offsets.from_head.Goals as goal

pub piece-requires : goal.piece-requires
piece-requires c =
    let p = head_on c.args.self.now c.args.text.now _ c.requires c.before_head.ensures in
    record { before = p.before; after = p.len }

pub returns : goal.returns
returns c = λ s is. c.piece.ensures ∙ (head_on c.args.self.now c.args.text.now _ c.requires c.before_head.ensures).is s is
