use Rattle.std.proofs.Common.{string_bytes}
use Rattle.yq_core.{proofs.ContentLaws.if_ok_same, proofs.PieceContentLaws.{plain_piece_content, quoted_piece_content, block_piece_content}}
use Rattle.yq_scalar.proofs.piece_content.content.Goals as goal

pub returns : goal.returns
returns c =
    let text = c.args.text.now in
    let piece = c.args.piece.now in
    record {
      exact = c.content_at.ensures;
      plain = λ place n at h ls is. if_ok_same c.content_at.result (λ s. string_bytes s) _ _ c.content_at.ensures (plain_piece_content place n at text piece h ls is);
      quoted = λ at h. if_ok_same c.content_at.result (λ s. string_bytes s) _ _ c.content_at.ensures (quoted_piece_content at text piece h);
      block = λ n h. if_ok_same c.content_at.result (λ s. string_bytes s) _ _ c.content_at.ensures (block_piece_content n text piece h);
    }
