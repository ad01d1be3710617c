-- The piece of a quoted scalar.
use Rattle.std.proofs.Common.{◌≡◌, ℕ, List, drop, slice_index, Some, None, Result, Ok, Err, sym, ap, ◌∙◌, IfOk, rules}
use Rattle.std.proofs.lemmas.Option.{same_Some}
use Rattle.yq_core.{specs.declared.piece.Piece.Piece, specs.Answers.ReadsAs, specs.Quoted.{QuotedLines, IsQuoted}}
use Rattle.yq_core.{specs.QuotedReading.quoted_at, specs.QuotedPiece.{IsQuotedPiece, quoted_from}, proofs.Bools.bind_some}
use Rattle.yq_core.proofs.QuotedFound.{quoted_takes, quoted_again}

first_is : (quote : ℕ) (ls : QuotedLines) (piece rest : List ℕ) → IsQuoted quote ls piece rest → slice_index piece 0 ≡ quote
first_is quote ls piece rest is = ap (λ (l : List ℕ). slice_index l 0) is.spelled

pub piece_takes : (at : ℕ) (text : List ℕ) (p : Piece) → quoted_from at text ≡ Some p → IsQuotedPiece at text p
unfolding quoted_from
piece_takes at text p h =
    let b = bind_some (quoted_at (drop at text)) h in
    let t = quoted_takes (drop at text) b.0 b.1 in
    search (rules, same_Some, first_is, t, b)

pub piece_again : (at : ℕ) (text : List ℕ) (p : Piece) → IsQuotedPiece at text p → quoted_from at text ≡ Some p
unfolding quoted_from
piece_again at text p h = search (rules, quoted_again, first_is)

pub found_by : {E : Type 0} (at : ℕ) (text : List ℕ) (r : Result Piece E) → ReadsAs (λ p. p) r (quoted_from at text) → IfOk r (IsQuotedPiece at text)
found_by at text r h = search (rules, piece_takes)

pub only_by : {E : Type 0} (at : ℕ) (text : List ℕ) (r : Result Piece E) → ReadsAs (λ p. p) r (quoted_from at text) → (p : Piece) → IsQuotedPiece at text p → r ≡ Ok p
only_by at text (Ok q) h p i = ap Ok (same_Some _ _ (sym h ∙ piece_again at text p i))
only_by at text (Err e) h p i = absurd (let no : None ≡ Some p = sym h ∙ piece_again at text p i in cc)
