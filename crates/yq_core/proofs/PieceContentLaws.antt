-- The scalar of a piece, and where it may be cut off the text.
use Rattle.std.proofs.lemmas.Grind.{common_steps}
use Rattle.std.proofs.Common.{◌≡◌, ℕ, ◌+◌, ◌-◌, ◌<◌, List, [], ◌∷◌, ◌++◌, length, drop, get_or, inl, inr, refl, sym, ap, ◌∙◌, subst, arith}
use Rattle.std.{proofs.Common.{append_assoc, length-append, ℤ, rules}, proofs.Math.Seq.take-append_seam}
use Rattle.std.{proofs.lemmas.Str.IsCharBoundary-after_ascii, specs.Str.{IsUtf8, IsCharBoundary}}
use Rattle.yq_core.{proofs.BlockPieceLaws.content_is, specs.BlockContent.block_content, specs.declared.piece.Piece.Piece}
use Rattle.yq_core.{specs.declared.style.Place.Place, specs.Piece.{inline_piece, further_spaces, IsPlainPiece}, specs.Plain.ends_plain}
use Rattle.yq_core.{specs.Quoted.{QuotedLines, spell_lines, IsQuoted, quoted_lines_content}, specs.PlainContent.IsPlainLines}
use Rattle.yq_core.{specs.QuotedPiece.IsQuotedPiece, specs.ScalarPiece.{IsInlineScalar, piece_string, piece_content}}
use Rattle.yq_core.{specs.Writable.in_flow, proofs.ContentLaws.quoted_content_is, proofs.PlainContentLaws.plain_content_is}
use Rattle.yq_core.{proofs.PlainLaws.boundary_plain, proofs.QuotedLaws.of_quotes, proofs.QuotedFound.at_seam, proofs.Upto.upto-append}
use Rattle.yq_core.specs.Block as block
use Rattle.yq_core.specs.declared.style.Style.TheVariants as styles

-- the scalar of a piece
pub record Scalar (text : List ℕ) (p : Piece) : Type 0 where
  pub scalar : List ℕ
  pub rest : List ℕ
  pub is_located : drop p.start text ≡ scalar ++ rest
  pub size : p.end ≡ p.start + length scalar
  pub cut : IsUtf8 (scalar ++ rest) → IsCharBoundary (scalar ++ rest) (length scalar)

plain_scalar : (place : Place) (n : ℤ) (at : ℕ) (text : List ℕ) (p : Piece) → IsPlainPiece place n at text p → Scalar text p
plain_scalar place n at text p h =
    let flow = in_flow place in
    let spaces = further_spaces place n in
    let whole : Scalar text (inline_piece styles.Plain at (at + length h.scalar)) = record {
      scalar = h.scalar;
      rest = h.rest;
      is_located = h.is_located;
      size = refl;
      cut = λ _. boundary_plain flow spaces (h.scalar ++ h.rest) (length h.scalar) (sym (upto-append (ends_plain flow spaces) h.scalar h.rest h.plain.inside h.plain.ends));
    } in
    subst (λ (q : Piece). Scalar text q) (sym h.piece) whole

after_quote : (q : ℕ) (ls : QuotedLines) (piece rest : List ℕ) → IsQuoted q ls piece rest → IsUtf8 (piece ++ rest) → IsCharBoundary (piece ++ rest) (length piece)
after_quote q ls piece rest is u =
    let front = q ∷ spell_lines ls in
    let low : q < 128 = of_quotes (λ x. x < 128) q is.quotes (omega arith) (omega arith) in
    let size : length piece ≡ length front + 1 = ap length is.spelled ∙ length-append front (q ∷ []) in
    let here : get_or (piece ++ rest) (length front) 0 ≡ q = search (rules, append_assoc, at_seam, front) in
    let within : length front < length (piece ++ rest) = omega (arith, size, length-append piece rest) in
    subst (λ (k : ℕ). IsCharBoundary (piece ++ rest) k) (sym size) (IsCharBoundary-after_ascii (piece ++ rest) (length front) u within (omega (arith, here, low)))

quoted_scalar : (at : ℕ) (text : List ℕ) (p : Piece) → IsQuotedPiece at text p → Scalar text p
quoted_scalar at text p h = search (rules, after_quote)

pub scalar_of : (text : List ℕ) (p : Piece) → IsInlineScalar text p → Scalar text p
scalar_of text p h = elim h.piece [
  | inl x ↦ plain_scalar x.0 x.1.0 x.1.1.0 text p x.1.1.1
  | inr x ↦ quoted_scalar x.0 text p x.1
]

pub boundary_end : (text rest : List ℕ) (p : Piece) (s : Scalar text p) → rest ≡ drop p.start text → IsUtf8 rest → IsCharBoundary rest (p.end - p.start)
boundary_end text rest p s e u = search rules

pub quoted_piece_content : (at : ℕ) (text : List ℕ) (p : Piece) (h : IsQuotedPiece at text p) → piece_content text p ≡ quoted_lines_content h.ls
quoted_piece_content at text p h = grind (arith, common_steps, take-append_seam, of_quotes, quoted_content_is)

pub plain_piece_content : (place : Place) (n : ℤ) (at : ℕ) (text : List ℕ) (p : Piece) (h : IsPlainPiece place n at text p) (ls : QuotedLines) → IsPlainLines ls h.scalar → piece_content text p ≡ quoted_lines_content ls
plain_piece_content place n at text p h ls is = grind (arith, common_steps, plain_content_is, take-append_seam)

pub block_piece_content : (n : ℤ) (text : List ℕ) (p : Piece) (h : block.IsBlockPiece n p.start text p) → piece_content text p ≡ block_content h.block
block_piece_content n text p h =
    ap (λ (q : Piece). piece_string q.style text p) h.piece ∙ ((search rules) ∙ content_is n text p h)
