-- The pieces of a text from which an item or entry of a flow collection is taken out.
use Rattle.std.proofs.lemmas.Grind.{common_steps}
use Rattle.std.proofs.Common.{rules, ◌≡◌, ◌⊎◌, inl, inr, ℕ, ◌-◌, true, List, [], ◌∷◌, ◌++◌, length, take, refl, sym, ap, ◌∙◌, subst, arith}
use Rattle.std.{proofs.Common.{append_assoc, length-append}, proofs.Math.Seq.{take-append_seam, drop-append_seam}}
use Rattle.std.{proofs.lemmas.Bool.{false≢true, and_from, and_parts}, proofs.lemmas.Str.{IsUtf8-drop, IsUtf8-take}}
use Rattle.std.specs.Str.{IsUtf8, IsCharBoundary}
use Rattle.yq_core.specs.Characters.{pairs_returns}
use Rattle.yq_flow_edits.{specs.FlowEdits.FlowEdit, proofs.ReturnLaws.Whole}
use Rattle.yq_row_table.proofs.CharacterLaws.{all_text, all_join, pairs_back}
use Rattle.yq_edit_rules.{proofs.CommentPieceLaws.byte_then, proofs.TextPieceLaws.nothing, specs.TextPieces.IsPiece}

-- ---- a text cut in two

pairs_whole : (x u : List ℕ) → pairs_returns (x ++ u) ≡ true → Whole x u → pairs_returns x ≡ true
unfolding pairs_returns
pairs_whole [] u h w = refl
pairs_whole (b ∷ []) u h w = grind (arith, common_steps, false≢true, and_parts)
pairs_whole (b ∷ (c ∷ x)) u h w = grind (arith, common_steps, and_parts, and_from, pairs_whole (c ∷ x) u)

-- the text before a place
front_utf8 : (t a b : List ℕ) (n : ℕ) → t ≡ a ++ b → IsUtf8 t → IsCharBoundary t n → n ≡ length t - length b → IsUtf8 a
front_utf8 t a b n e u at size =
    let there : n ≡ length a = omega (arith, size, ap length e, length-append a b) in
    subst IsUtf8 ((λ i. take (there i) (e i)) ∙ take-append_seam a b) (IsUtf8-take t n u at)

pub piece_front : (a b : List ℕ) → IsPiece (a ++ b) → IsUtf8 a → Whole a b → IsPiece a
piece_front a b h u w = search (rules, and_parts, all_text, all_join, and_from, pairs_whole)

pub piece_after : (a b : List ℕ) → IsPiece (a ++ b) → IsUtf8 a → IsCharBoundary (a ++ b) (length a) → IsPiece b
piece_after a b h u at = search (rules, and_parts, all_text, all_join, drop-append_seam, IsUtf8-drop, and_from, pairs_back)

-- Of an edit that begins and ends at whole characters, where no CR comes before an LF, the text before and after it are pieces.
pub edit_pieces : (t before : List ℕ) (e : FlowEdit) → IsPiece t → t ≡ before ++ (e.old ++ e.after) → IsCharBoundary t (length t - length (e.old ++ e.after)) → IsCharBoundary t (length t - length e.after) →
    Whole before (e.old ++ e.after) → IsPiece before × IsPiece e.after
edit_pieces t before e piece is start ends whole =
    let u = front_utf8 t before (e.old ++ e.after) (length t - length (e.old ++ e.after)) is piece.utf8 start refl in
    let parts : t ≡ (before ++ e.old) ++ e.after = is ∙ sym (append_assoc before e.old e.after) in
    let v = front_utf8 t (before ++ e.old) e.after (length t - length e.after) parts piece.utf8 ends refl in
    let size : length t - length e.after ≡ length (before ++ e.old) = omega (arith, ap length parts, length-append (before ++ e.old) e.after) in (
      piece_front before (e.old ++ e.after) (subst IsPiece is piece) u whole,
      piece_after (before ++ e.old) e.after (subst IsPiece parts piece) v (subst (λ (n : ℕ). IsCharBoundary ((before ++ e.old) ++ e.after) n) size (subst (λ (l : List ℕ). IsCharBoundary l (length t - length e.after)) parts ends)),
    )

-- ---- what takes the place of an item or entry

pub lead_piece : (l : List ℕ) → (l ≡ []) ⊎ ((l ≡ 32 ∷ []) ⊎ (l ≡ 44 ∷ [])) → IsPiece l
lead_piece l (inl e) = subst IsPiece (sym e) nothing
lead_piece l (inr (inl e)) = subst IsPiece (sym e) (byte_then 32 [] refl nothing)
lead_piece l (inr (inr e)) = subst IsPiece (sym e) (byte_then 44 [] refl nothing)
