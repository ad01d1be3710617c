-- What the readers give is given for the text.
use Rattle.std.{proofs.Common.{rules, ℕ, List, inl, inr, sym, ap, subst, Result, Ok, Err, IfOk, ℤ}, specs.Str.IsCharBoundary}
use Rattle.yq_core.{proofs.BlockFound.from_takes, specs.Answers.ReadsAs, specs.BlockReading.block_from, specs.ScalarPiece.IsReadPiece}
use Rattle.yq_core.{specs.Piece.plain_from, specs.QuotedPiece.quoted_from, specs.declared.piece.Piece.Piece}
use Rattle.yq_core.specs.declared.style.Place.{Place}
use Rattle.yq_core.proofs.PieceLaws as plain
use Rattle.yq_core.proofs.QuotedPieceLaws as quoted

pub plain_is_piece : {E : Type 0} (place : Place) (n : ℤ) (at : ℕ) (text : List ℕ) (r : Result Piece E) → IsCharBoundary text at → ReadsAs (λ p. p) r (plain_from place n at text) → IfOk r (IsReadPiece text)
plain_is_piece place n at text (Ok p) b h =
    let is = plain.piece_takes place n at text p h in
    record { begins = subst (IsCharBoundary text) (sym (ap (λ (q : Piece). q.start) is.piece)) b; piece = inl (place, (n, (at, is))) }
plain_is_piece place n at text (Err e) b h = tt

pub quoted_is_piece : {E : Type 0} (at : ℕ) (text : List ℕ) (r : Result Piece E) → IsCharBoundary text at → ReadsAs (λ p. p) r (quoted_from at text) → IfOk r (IsReadPiece text)
quoted_is_piece at text (Ok p) b h =
    let is = quoted.piece_takes at text p h in
    record { begins = subst (IsCharBoundary text) (sym (ap (λ (q : Piece). q.start) is.piece)) b; piece = inr (inl (at, is)) }
quoted_is_piece at text (Err e) b h = tt

pub block_is_piece : {E : Type 0} (n : ℤ) (at : ℕ) (text : List ℕ) (r : Result Piece E) → IsCharBoundary text at → ReadsAs (λ p. p) r (block_from n at text) → IfOk r (IsReadPiece text)
block_is_piece n at text (Ok p) b h =
    let is = from_takes n at text p h in
    search rules
block_is_piece n at text (Err e) b h = tt
