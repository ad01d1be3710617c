-- The head that a block scalar is.
use Rattle.std.proofs.Common.{rules, ◌≡◌, ℕ, ℤ, List, drop, Option, Some, None, sym, ap, ◌∙◌, subst}
use Rattle.yq_core.{specs.Answers.◌>>=◌, specs.Block.{BlockText, block_piece, IsBlockPiece}, specs.BlockContent.block_content}
use Rattle.yq_core.{specs.BlockReading.{block_at, block_from}, specs.Piece.deeper, specs.declared.piece.Piece.Piece}
use Rattle.yq_core.proofs.BlockLaws.{block_again}
use Rattle.yq_documents.specs.RowReading.{string_head, block_head_at}

none_then : (o : Option (BlockText × List ℕ)) → (o >>= λ x. Some (block_piece 0 x.0)) ≡ None → (o >>= λ x. Some (string_head (block_content x.0))) ≡ None
none_then o h = search rules

pub block_refused : (n : ℤ) (t : List ℕ) → block_from n 0 t ≡ None → block_head_at n t ≡ None
unfolding block_from
block_refused n t h = none_then (block_at (deeper n) t) h

pub block_read : (n : ℤ) (t : List ℕ) (p : Piece) (s : List ℕ) → IsBlockPiece n 0 t p → ((m : ℤ) (q : IsBlockPiece m p.start t p) → s ≡ block_content q.block) → block_head_at n t ≡ Some (string_head s)
block_read n t p s h content =
    let start : p.start ≡ 0 = ap (λ (x : Piece). x.start) h.piece in
    let q : IsBlockPiece n p.start t p = subst (λ (k : ℕ). IsBlockPiece n k t p) (sym start) h in
    let is_located = ap (λ k. drop k t) (sym start) ∙ q.is_located in
    ap (block_head_at n) is_located ∙ (ap (λ o. o >>= λ x. Some (string_head (block_content x.0))) (block_again (deeper n) q.block q.rest q.scalar) ∙ ap (λ l. Some (string_head l)) (sym (content n q)))
