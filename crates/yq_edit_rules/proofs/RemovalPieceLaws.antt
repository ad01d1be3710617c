-- The text with rows taken out is joined of pieces of the old one.
use Rattle.std.proofs.Common.{◌≡◌, ◌⊎◌, inl, inr, ℕ, zero, suc, ◌<◌, Bool, true, cond, List, [], ◌∷◌, ◌++◌, replicate, Option, Some, None}
use Rattle.std.{proofs.Common.{refl, sym, ap, ◌∙◌, subst, append-nil, rules}, proofs.lemmas.Bool.{cond_both, cases_Bool}}
use Rattle.std.{proofs.lemmas.Str.{IsUtf8-from_ascii, chars-IsAscii}, proofs.lemmas.Str.Ascii.{IsAscii-nil, IsAscii-cons}}
use Rattle.std.specs.Str.{IsAscii}
use Rattle.yq_core.{specs.Block.RawLines, specs.BlockRepair.{is_short, is_outdented_comment, repaired_blank, repaired_comment, repair}}
use Rattle.yq_core.{specs.Characters.pairs_returns, specs.Lines.is_blank, specs.Text.{is_white, joined, text_lines, past_white}}
use Rattle.yq_core.{proofs.Boundaries.white_ascii, proofs.SpaceLaws.white_drop}
use Rattle.yq_row_table.{specs.Gap.{IsGap, IsGapLine, AreGapLines}, specs.Grammar.AreParts, specs.Rows.{Row, rows_text, Cut, cut_text}}
use Rattle.yq_row_table.{specs.Splices.{after_first, first_gap}, proofs.seams.GapFronts.gap_lines}
use Rattle.yq_places.{specs.PlacedRows.{PlacedPart, placed_document}, specs.RemovalPlaces.{Seam, kept_gap, rows_out}}
use Rattle.yq_places.{proofs.CommentPieceLaws.{Ended, gap_end}, proofs.PlacedPartLaws.part_is_there}
use Rattle.yq_places.{proofs.RemovalLines.{LineSeam, line_seam, lies_in, are_lines}, proofs.RemovalTexts.old_text}
use Rattle.yq_edit_rules.{specs.RemovalChanges.mended, specs.TextPieces.IsPiece}
use Rattle.yq_edit_rules.proofs.TextPieceLaws.{line_cut, piece_back, pieces_joined, nothing}

pub seam_pieces : (a b : List ℕ) → LineSeam a b → IsPiece (a ++ b) → IsPiece a × IsPiece b
seam_pieces a b h1 h2 = search (rules, nothing, line_cut, append-nil)

-- The text before what is taken out, the gap after it and the text after that are pieces.
pub record PiecesLeft (before gap after : List ℕ) : Type 0 where
  pub before_is : IsPiece before
  pub gap_is : IsPiece gap
  pub following_is : IsPiece after
  pub gap_is_there : IsGap gap after

pub pieces_left : (k : ℕ) (c : Cut) (d : PlacedPart) (front : List Row) (r : Row) (rs back : List Row) → AreParts true c → placed_document k c ≡ Some d → d.part.rows ≡ front ++ ((r ∷ rs) ++ back) → IsPiece (cut_text c) →
    PiecesLeft (d.before ++ rows_text front (kept_gap (r ∷ rs) d.part.end)) (first_gap back d.part.end) (after_first back d.part.end d.after)
pieces_left k c d front r rs back parts e rows piece =
    let x = rows_out d (record { front = front; own = r ∷ rs; back = back }) in
    let h = are_lines d front r rs back (lies_in k c d parts e) rows in
    let text : cut_text c ≡ x.before ++ (x.gone ++ (x.gap ++ x.after)) = (part_is_there k c d e).text ∙ old_text d (record { front = front; own = r ∷ rs; back = back }) rows refl in
    let first = seam_pieces x.before (x.gone ++ (x.gap ++ x.after)) (line_seam x.before (x.gone ++ (x.gap ++ x.after)) h.before) (subst IsPiece text piece) in
    let second = seam_pieces x.gone (x.gap ++ x.after) (inr h.gone) first.1 in
    let third = seam_pieces x.gap x.after (gap_end x.gap x.after h.gap) second.1 in
    record { before_is = first.0; gap_is = third.0; following_is = third.1; gap_is_there = h.gap }

-- ---- the gap that is mended

byte_ascii : (b : ℕ) → b < 128 → IsAscii (b ∷ [])
byte_ascii b h = IsAscii-cons b [] h IsAscii-nil

past_piece : (l : List ℕ) → IsPiece l → IsPiece (past_white l)
unfolding Rattle.yq_core.specs.Text.upto
past_piece [] h = h
past_piece (b ∷ l) h = elim (cases_Bool (is_white b)) [
  | inl e ↦ (let less = piece_back (b ∷ []) l (IsUtf8-from_ascii (b ∷ []) (byte_ascii b (white_ascii b e))) h in rw (white_drop b l) (rw e (past_piece l less)))
  | inr e ↦ rw (white_drop b l) (rw e h)
]

space_piece : IsPiece (32 ∷ [])
unfolding pairs_returns
space_piece = search (rules, IsUtf8-from_ascii, byte_ascii, chars-IsAscii)

pub spaces_piece : (n : ℕ) → IsPiece (replicate n 32)
spaces_piece zero = nothing
spaces_piece (suc n) = pieces_joined (32 ∷ []) (replicate n 32) space_piece (spaces_piece n)

pub front_none : (a b : List ℕ) → a ++ b ≡ [] → a ≡ []
front_none [] b e = refl
front_none (x ∷ a) b e = absurd (cc)

-- a line of a gap, before the others
gap_line_seam : (l : List ℕ) (ls : RawLines) (rest : List ℕ) → IsGapLine l (joined ls ++ rest) → LineSeam l (joined ls)
gap_line_seam l ls rest h = go (gap_end l (joined ls ++ rest) (record { lines = l ∷ []; spelled = sym (append-nil l); each = (h, tt) }))
  where
    go : (l ≡ []) ⊎ Ended l (joined ls ++ rest) → LineSeam l (joined ls)
    go (inl e) = inl e
    go (inr (inl lf)) = inr (inl lf)
    go (inr (inr e)) = inr (inr (front_none (joined ls) rest e))

repaired_piece : (keep : Bool) (m column : ℕ) (ls : RawLines) (rest : List ℕ) → AreGapLines ls rest → IsPiece (joined ls) → IsPiece (joined (repair keep m column ls))
unfolding repair
repaired_piece keep m column [] rest h p = p
repaired_piece keep m column (l ∷ ls) rest h p =
    let x = seam_pieces l (joined ls) (gap_line_seam l ls rest h.0) p in
    let again = repaired_piece keep m column ls rest h.1 x.1 in
    let blank : IsPiece (repaired_blank m l) = cond_both (is_short m l) l (past_white l) IsPiece (λ _. x.0) (λ _. past_piece l x.0) in
    let comment : IsPiece (repaired_comment m column l) =
    cond_both (is_outdented_comment m l) l (replicate column 32 ++ past_white l) IsPiece (λ _. x.0) (λ _. pieces_joined (replicate column 32) (past_white l) (spaces_piece column) (past_piece l x.0)) in
    cond_both (is_blank l) (cond keep (repair keep m column ls) (repaired_blank m l ∷ repair keep m column ls)) (repaired_comment m column l ∷ ls) (λ (y : RawLines). IsPiece (joined y))
    (λ _. cond_both keep (repair keep m column ls) (repaired_blank m l ∷ repair keep m column ls) (λ (y : RawLines). IsPiece (joined y)) (λ _. again) (λ _. pieces_joined (repaired_blank m l) (joined (repair keep m column ls)) blank again))
    (λ _. pieces_joined (repaired_comment m column l) (joined ls) comment x.1)

pub mended_piece : (s : Option Seam) (gap rest : List ℕ) → IsGap gap rest → IsPiece gap → IsPiece (mended s gap)
mended_piece None gap rest h p = p
mended_piece (Some s) gap rest h p =
    let own : text_lines gap ≡ h.lines = gap_lines gap rest h in
    repaired_piece s.keeps s.indent s.column (text_lines gap) rest (subst (λ (x : RawLines). AreGapLines x rest) (sym own) h.each) (subst IsPiece (h.spelled ∙ ap joined (sym own)) p)
