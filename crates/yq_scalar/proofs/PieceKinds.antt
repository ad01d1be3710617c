-- The kind of a piece that was given for a text, by its style.
use Rattle.std.proofs.Common.{◌≡◌, ◌⊎◌, ⊎_elim, inl, inr, ℕ, ◌+◌, ◌-◌, ◌==◌, List, drop, length, take, refl, sym, ap, ◌∙◌, subst, arith}
use Rattle.std.{proofs.Math.Seq.take-append_seam, proofs.lemmas.Bool.cond_both}
use Rattle.yq_core.{specs.Quoted.{IsQuoted, QuotedLines}, specs.declared.piece.Piece.Piece, specs.declared.style.Style.Style}
use Rattle.yq_core.specs.ScalarPiece.{IsPlainScalar, IsQuotedScalar, IsReadPiece, piece_text}
use Rattle.yq_core.specs.declared.block_header.BlockStyle.{BlockStyle}
use Rattle.yq_core.specs.declared.style.Style.TheVariants as styles
use Rattle.yq_core.specs.Block as block
use Rattle.yq_core.specs.declared.block_header.BlockStyle.TheVariants as block_styles

-- plain, in quotes, or in a block
abbrev pub kind : Style → ℕ
kind styles.Plain = 0
kind styles.Single = 1
kind styles.Double = 1
kind styles.Literal = 2
kind styles.Folded = 2

plain_kind : (text : List ℕ) (p : Piece) → IsPlainScalar text p → kind p.style ≡ 0
plain_kind text p h = ap (λ (q : Piece). kind q.style) h.1.1.1.piece

quoted_kind : (text : List ℕ) (p : Piece) → IsQuotedScalar text p → kind p.style ≡ 1
quoted_kind text p h =
    ap (λ (q : Piece). kind q.style) h.1.piece
    ∙ cond_both (h.1.quote == 39) styles.Single styles.Double (λ (s : Style). kind s ≡ 1) (λ _. refl) (λ _. refl)

style_kind : (s : BlockStyle) → kind (block.as_style s) ≡ 2
style_kind block_styles.Literal = refl
style_kind block_styles.Folded = refl

block_kind : (text : List ℕ) (p : Piece) → block.IsBlockScalar text p → kind p.style ≡ 2
block_kind text p h = ap (λ (q : Piece). kind q.style) h.1.piece ∙ style_kind h.1.block.style

-- what the piece is, where its style is of a kind
pub is_plain : (text : List ℕ) (p : Piece) → IsReadPiece text p → kind p.style ≡ 0 → IsPlainScalar text p
is_plain text p h is = elim h.piece [
  | inl x ↦ x
  | inr x ↦ elim x [ inl q ↦ absurd (omega (arith, is, quoted_kind text p q)) | inr b ↦ absurd (omega (arith, is, block_kind text p b)) ]
]

pub is_quoted : (text : List ℕ) (p : Piece) → IsReadPiece text p → kind p.style ≡ 1 → IsQuotedScalar text p
is_quoted text p h is = elim h.piece [
  | inl x ↦ absurd (omega (arith, is, plain_kind text p x))
  | inr x ↦ elim x [ inl q ↦ q | inr b ↦ absurd (omega (arith, is, block_kind text p b)) ]
]

-- one of two styles of a kind
pub either_kind : (s a b : Style) (n : ℕ) → kind a ≡ n → kind b ≡ n → (s ≡ a) ⊎ (s ≡ b) → kind s ≡ n
either_kind s a b n first second h = ⊎_elim {0, 0, 0} (λ (e : s ≡ a). ap kind e ∙ first) (λ (e : s ≡ b). ap kind e ∙ second) h

-- what is between the ends of a quoted piece is a scalar in quotes
pub text_quoted : (text : List ℕ) (p : Piece) (t : List ℕ) → IsQuotedScalar text p → t ≡ piece_text text p
    → (q : ℕ) × ((ls : QuotedLines) × ((rest : List ℕ) × IsQuoted q ls t rest))
text_quoted text p t h e =
    let is = h.1 in
    let at = h.0 in
    let size : (at + length is.scalar) - at ≡ length is.scalar = omega arith in
    let own : piece_text text p ≡ is.scalar = ap (λ (q : Piece). piece_text text q) is.piece
    ∙ (ap (λ (n : ℕ). take n (drop at text)) size ∙ (ap (take (length is.scalar)) is.is_located ∙ take-append_seam is.scalar is.rest)) in
    (is.quote, (is.ls, (is.rest, subst (λ (u : List ℕ). IsQuoted is.quote is.ls u is.rest) (sym (e ∙ own)) is.quoted)))
