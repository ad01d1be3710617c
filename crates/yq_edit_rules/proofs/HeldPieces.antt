-- What a key or dash holds is in pieces of the text.
use Rattle.std.proofs.Common.{rules, inl, inr, ◌≡◌, ◌⊎◌, ℕ, false, cond, List, [], ◌∷◌, ◌++◌, length, replicate, Some, refl, sym, ap, ◌∙◌}
use Rattle.std.{proofs.Common.{subst, append_assoc, append-nil}, proofs.lemmas.Bool.false≢true}
use Rattle.yq_core.{specs.Paths.Step, specs.Text.is_empty, proofs.BlockPieceLaws.IsLf}
use Rattle.yq_row_table.{specs.Exchange.{asked_after, row_front}, specs.Gap.IsBreak, specs.Grammar.{IsRow, IsTail, unlimited}}
use Rattle.yq_row_table.{specs.Rows.{Cut, cut_text, mark_text, parent_indent, rows_text}, specs.View.{Slices, slices}}
use Rattle.yq_documents.specs.Reading.{read_at}
use Rattle.yq_places.{specs.CommentPlaces.{LineEnd, end_in_line, text_to_line_end}, specs.PrintedLines.{last_break, less_break}}
use Rattle.yq_places.{specs.RowPieces.space_before, specs.Placements.{RowsOfEntry, before_entry, after_entry, held, rows_of_entry}}
use Rattle.yq_places.{proofs.CommentEndLaws.row_text_parts, proofs.CommentPieceLaws.Ended, proofs.LineEndLaws.{line_tail, tail_is_end}}
use Rattle.yq_places.proofs.RunSpans.{rows_then}
use Rattle.yq_edit_rules.{proofs.OneLines.left_none, proofs.HeldLaws.{no_break, front_is, held_there}}
use Rattle.yq_edit_rules.{specs.PlacementLaws.{HeldSpells, HoldsPieces, HasItsRows}, specs.TextPieces.IsPiece}
use Rattle.yq_edit_rules.{proofs.PlacementMarks.{entry_there, row_there, rows_ended_there}, proofs.PlacementRows.rows_located}
use Rattle.yq_edit_rules.proofs.TextPieceLaws.{line_cut, piece_back, text_is_piece, nothing}
use Rattle.yq_edit_rules.{proofs.BreakLaws.{IsLfOrCrLf, break_is, last_is}, proofs.CommentRowLaws.{entry_row, cut_spelled}}
use Rattle.yq_edit_rules.proofs.HeldCuts.{EndsIn, anchor_cut, anchor_ends, break_is_piece, dashes_end, following_ends, last_of, less_piece}
use Rattle.yq_edit_rules.{proofs.HeldCuts.{low_last, mark_ends, space_white}, proofs.TailPieces.{HasTailPieces, pieces, white_piece}}

-- the end of a line, as it is cut without what is after
pub end_agrees : (tail more : List ℕ) (h : IsTail tail more) → end_in_line [] tail ≡ record { before = []; white = h.white; comment = h.comment; after = h.line.break }
end_agrees tail more h =
    let alone : IsTail tail [] = search (rules, ends) in
    ap (end_in_line []) (sym (append-nil tail)) ∙ (tail_is_end [] tail [] alone ∙ ap (λ t. record { before = []; white = h.white; comment = h.comment; after = t }) (append-nil h.line.break))
  where
    ends : IsBreak h.line.break more → IsBreak h.line.break []
    ends e = search rules

-- what is left of a text that ends in an LF ends in one
pub suffix_lf : (a b : List ℕ) → IsLf (a ++ b) → is_empty b ≡ false → IsLf b
suffix_lf [] b h some = h
suffix_lf (x ∷ a) b h some = suffix_lf a b (go h.0 h.1) some
  where
    go : (f : List ℕ) → x ∷ (a ++ b) ≡ f ++ 10 ∷ [] → IsLf (a ++ b)
    go [] e = absurd (false≢true (sym some ∙ ap is_empty (left_none a b (let rest : a ++ b ≡ [] = cc in rest))))
    go (y ∷ f) e = (f, let rest : a ++ b ≡ f ++ 10 ∷ [] = cc in rest)

pub break_cases : (b rest : List ℕ) → IsBreak b rest → (b ≡ []) ⊎ IsLfOrCrLf b
break_cases b rest (inl e) = inr (break_is b e)
break_cases b rest (inr e) = inl e.0

-- The lines below a line: each of these is a piece, and so is what comes after them.
record BelowPieces (b below z : List ℕ) : Type 0 where
  break : IsPiece (cond (is_empty below) [] b)
  lines : IsPiece (less_break below)
  last : IsPiece (cond (is_empty below) b (last_break below))
  after : IsPiece z

below_pieces : (break below after : List ℕ) → IsPiece break → IsPiece (below ++ after) → (is_empty below ≡ false → Ended below after) → BelowPieces break below after
below_pieces break [] after b all ends = record { break = nothing; lines = subst IsPiece (sym no_break) nothing; last = b; after = all }
below_pieces break (x ∷ xs) after b all ends =
    let k = cut (ends refl) in
    record { break = b; lines = less_piece (x ∷ xs) k.0; last = break_is_piece (last_break (x ∷ xs)) (last_is (x ∷ xs)); after = k.1 }
  where
    cut : Ended (x ∷ xs) after → IsPiece (x ∷ xs) × IsPiece after
    cut (inl lf) = subst (λ t. IsPiece t × IsPiece after) (sym lf.1) (line_cut lf.0 after (subst (λ t. IsPiece (t ++ after)) lf.1 all))
    cut (inr none) = (subst IsPiece (ap (λ t. (x ∷ xs) ++ t) none ∙ append-nil (x ∷ xs)) all, subst IsPiece (sym none) nothing)

-- what is below the line of a key or dash ends in a break, or nothing is after
pub below_ended : (n : ℕ) (s : Step) (ss : List Step) (c : Cut) (e : RowsOfEntry) → HasItsRows n s ss c e → is_empty ((slices e.row).raw ++ rows_text e.under []) ≡ false →
    Ended ((slices e.row).raw ++ rows_text e.under []) (after_entry e)
below_ended n s ss c e there some = go (rows_ended_there n s ss c e there)
  where
    text : rows_text (e.row ∷ e.under) [] ≡ (text_to_line_end e.row ++ (slices e.row).tail) ++ ((slices e.row).raw ++ rows_text e.under [])
    text = row_text_parts e.row (rows_text e.under []) ∙ sym (append_assoc (text_to_line_end e.row) (slices e.row).tail ((slices e.row).raw ++ rows_text e.under []))

    go : Ended (rows_text (e.row ∷ e.under) []) (after_entry e) → Ended ((slices e.row).raw ++ rows_text e.under []) (after_entry e)
    go (inl lf) = inl (suffix_lf (text_to_line_end e.row ++ (slices e.row).tail) ((slices e.row).raw ++ rows_text e.under []) (subst IsLf text lf) some)
    go (inr none) = inr none

module _ (n : ℕ) (s : Step) (ss : List Step) (c : Cut) (e : RowsOfEntry) (read : read_at (cut_text c) ≡ Some c) (at : rows_of_entry n (s ∷ ss) c ≡ Some e) where
  there : HasItsRows n s ss c e
  there = rows_located n s ss c e read at

  abbrev sl : Slices
  sl = slices e.row

  abbrev below : List ℕ
  below = sl.raw ++ rows_text e.under []

  row : IsRow (asked_after unlimited e.front) e.row (rows_text e.under (after_entry e))
  row = row_there n s ss c e there

  tail : IsTail (slices e.row).tail ((slices e.row).raw ++ rows_text e.under (after_entry e))
  tail = line_tail (parent_indent e.row) e.row.content (rows_text e.under (after_entry e)) row.content

  k : HasTailPieces (entry_row e) (slices e.row).tail ((slices e.row).raw ++ rows_text e.under (after_entry e)) tail
  k = pieces (entry_row e) (asked_after unlimited e.front) row (subst IsPiece (cut_spelled n (s ∷ ss) c e at) (text_is_piece c read)) tail

  below_there : BelowPieces tail.line.break below (after_entry e)
  below_there =
      let break : IsPiece tail.line.break = break_is_piece tail.line.break (break_cases tail.line.break _ tail.line.ends) in
      let text : tail.line.break ++ (sl.raw ++ rows_text e.under (after_entry e)) ≡ tail.line.break ++ (below ++ after_entry e) =
      ap (λ t. tail.line.break ++ t) (ap (λ t. sl.raw ++ t) (rows_then e.under (after_entry e)) ∙ sym (append_assoc sl.raw (rows_text e.under []) (after_entry e))) in
      below_pieces tail.line.break below (after_entry e) break (piece_back tail.line.break (below ++ after_entry e) break.utf8 (subst IsPiece text k.after)) (below_ended n s ss c e there)

  held_pieces : e.line ≡ length e.row.dashes → HoldsPieces (held e)
  held_pieces last =
      let m = e.row.mark in
      let base : List ℕ = before_entry e ++ row_front e.row in
      let ends : EndsIn (last_of m) base =
      following_ends (last_of m) (before_entry e) (row_front e.row)
      (following_ends (last_of m) e.row.gap _
      (following_ends (last_of m) (replicate e.row.column 32) _
      (dashes_end (last_of m) e.row.dashes (mark_text m []) (mark_ends m e.row.content _ (entry_there n s ss c e there last) row.mark)))) in
      let front = anchor_cut (last_of m) base sl ends (low_last m) (λ some. anchor_ends (parent_indent e.row) e.row.content _ some row.content) (subst IsPiece (front_is (before_entry e) e.row) k.before) in
      let space : IsPiece (space_before sl) = white_piece (space_before sl) (space_white (parent_indent e.row) e.row.content _ row.content) in
      let end : end_in_line [] sl.tail ≡ record { before = []; white = tail.white; comment = tail.comment; after = tail.line.break } = end_agrees sl.tail _ tail in
      let lines : BelowPieces (end_in_line [] sl.tail).after below (after_entry e) = subst (λ (x : LineEnd). BelowPieces x.after below (after_entry e)) (sym end) below_there in
      record {
        before = front.0;
        space = space;
        head = piece_back (space_before sl) sl.head space.utf8 front.1;
        line = subst (λ (x : LineEnd). IsPiece (x.white ++ x.comment)) (sym end) k.line;
        break = lines.break;
        lines = lines.lines;
        last = lines.last;
        after = lines.after;
      }

pub held_spells : HeldSpells
held_spells n s ss c e read at last = (held_there n (s ∷ ss) c e at, held_pieces n s ss c e read at last)
