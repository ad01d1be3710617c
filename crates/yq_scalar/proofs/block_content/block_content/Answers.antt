use Rattle.std.{proofs.Common.{rules, string_bytes, IfOk, ◌≡◌}, specs.Str.IsCharBoundary}
use Rattle.yq_core.{specs.BlockReading.block_piece_content, proofs.BlockPieceLaws.{is_located, content_is}, proofs.ContentLaws.if_ok_same}
use Rattle.yq_scalar.proofs.block_content.block_content.Goals as goal

pub range-raw-requires-clause-start_boundary : goal.range-raw-requires-clause-start_boundary
range-raw-requires-clause-start_boundary c = let at : IsCharBoundary c.args.text.now c.args.piece.now.raw_start = (is_located c.requires.0 c.args.text.now c.args.piece.now c.utf8.text c.requires.1).begins in search rules

pub range-raw-requires-clause-end_boundary : goal.range-raw-requires-clause-end_boundary
range-raw-requires-clause-end_boundary c = let at : IsCharBoundary c.args.text.now c.args.piece.now.end = (is_located c.requires.0 c.args.text.now c.args.piece.now c.utf8.text c.requires.1).ends in search rules

pub returns : goal.returns
unfolding block_piece_content
returns c =
    let exact : IfOk c.content_of.result (λ s. string_bytes s ≡ block_piece_content c.args.text.now c.args.piece.now) = search rules in
    record { exact = exact; found = λ n p. if_ok_same c.content_of.result (λ s. string_bytes s) _ _ exact (content_is n c.args.text.now c.args.piece.now p) }
