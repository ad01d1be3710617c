-- The text at the end of a line, in pieces that can be read.
use Rattle.std.proofs.Common.{◌≡◌, ⊎_elim, ℕ, true, false, eqb, List, [], ◌∷◌, ◌++◌, length, refl, ap, ◌∙◌, subst, append_assoc, rules}
use Rattle.std.{proofs.Math.Seq.take-append_seam, proofs.lemmas.Bool.{false≢true, or_cases, eqb-true, and_parts, cases_Bool}}
use Rattle.std.{proofs.lemmas.Str.IsUtf8-take, specs.Str.IsUtf8}
use Rattle.yq_core.{specs.Characters.pairs_returns, specs.Text.{front, is_feed, ends_line, NoneIn}, proofs.WrittenText.is_line_ascii}
use Rattle.yq_row_table.{specs.Gap.IsWhite, specs.Grammar.{IsTail, IsRow, Limit}, specs.Rows.print_row, specs.View.slices}
use Rattle.yq_row_table.{proofs.CharacterLaws.pairs_back, proofs.LineEnds.white_none, proofs.NodePieces.{before_ascii, tail_ascii}}
use Rattle.yq_row_table.proofs.seams.ScalarSeams.{ends_return}
use Rattle.yq_places.{specs.CommentPlaces.text_to_line_end, specs.PlacedRows.PlacedRow}
use Rattle.yq_edit_rules.{specs.TextPieces.IsPiece, proofs.LineFrontLaws.{ends_more, clean_cut, line_ends_clean}}
use Rattle.yq_edit_rules.{proofs.TextPieceLaws.nothing, proofs.CommentPieceLaws.byte_then, proofs.CommentRowLaws.{line_whole, line_some}}

none_clean : (c rest : List ℕ) → NoneIn ends_line c rest → front is_feed rest ≡ true → ends_return c ≡ false
none_clean [] rest h f = refl
none_clean (b ∷ []) rest h f = search (rules, cases_Bool, false≢true)
none_clean (b ∷ (d ∷ c)) rest h f = none_clean (d ∷ c) rest h.1 f

pub white_piece : (w : List ℕ) → IsWhite w → IsPiece w
white_piece [] h = nothing
white_piece (b ∷ w) h =
    ⊎_elim {0, 0, 0} (λ (e : eqb b 32 ≡ true). byte_then b w (ap is_line_ascii (eqb-true b 32 e)) (white_piece w h.1))
    (λ e. byte_then b w (ap is_line_ascii (eqb-true b 9 e)) (white_piece w h.1)) (or_cases (eqb b 32) (eqb b 9) h.0)

-- What is known of the pieces of the text at the end of a line.
pub record HasTailPieces (w : PlacedRow) (tail more : List ℕ) (h : IsTail tail more) : Type 0 where
  pub before : IsPiece (w.before ++ text_to_line_end w.row)
  pub white : IsPiece h.white
  pub line : IsPiece (h.white ++ h.comment)
  pub after : IsPiece (h.line.break ++ more)

front_utf8 : (a b : List ℕ) → IsPiece (a ++ b) → Rattle.yq_row_table.proofs.NodePieces.BeginsAscii b → IsUtf8 a
front_utf8 a b h k = subst IsUtf8 (take-append_seam a b) (IsUtf8-take (a ++ b) (length a) h.utf8 (before_ascii a b k))

pub pieces : (w : PlacedRow) (limit : Limit) → IsRow limit w.row w.after → IsPiece (w.before ++ print_row w.row w.after) →
    (h : IsTail (slices w.row).tail ((slices w.row).raw ++ w.after)) → HasTailPieces w (slices w.row).tail ((slices w.row).raw ++ w.after) h
pieces w limit row whole h =
    let tail : List ℕ = (slices w.row).tail in
    let more : List ℕ = (slices w.row).raw ++ w.after in
    let front_text : List ℕ = w.before ++ text_to_line_end w.row in
    let line : List ℕ = h.white ++ h.comment in
    let after : List ℕ = h.line.break ++ more in
    let text : IsPiece (front_text ++ (tail ++ more)) = subst IsPiece (line_whole w) whole in
    let pairs : pairs_returns (print_row w.row w.after) ≡ true = pairs_back w.before (print_row w.row w.after) (and_parts _ (pairs_returns (w.before ++ print_row w.row w.after)) whole.characters).1 in
    let first = clean_cut front_text (tail ++ more) text (front_utf8 front_text (tail ++ more) text (tail_ascii tail more h))
    (λ f. ends_more w.before (text_to_line_end w.row) (line_some limit w.row w.after row h) ∙ line_ends_clean limit w.row w.after row pairs f) in
    let split : tail ++ more ≡ line ++ after = search (rules, append_assoc, more, line) in
    let rest : IsPiece (line ++ after) = subst IsPiece split first.1 in
    let ends : IsTail h.line.break more = record { white = []; comment = []; line = record { break = h.line.break; spelled = refl; blank = tt; as_comment = tt; ends = h.line.ends }; apart = refl } in
    let none : NoneIn ends_line line after = white_none h.white h.comment after h.line.blank (Rattle.yq_places.proofs.LineEndLaws.comment_more h.comment h.line.break more h.line.as_comment h.line.ends) in
    let second = clean_cut line after rest (front_utf8 line after rest (tail_ascii h.line.break more ends)) (λ f. none_clean line after none f) in
    record { before = first.0; white = white_piece h.white h.line.blank; line = second.0; after = second.1 }
