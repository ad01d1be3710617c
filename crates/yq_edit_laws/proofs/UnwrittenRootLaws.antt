-- Where the root of a document comes that has no rows: in general, and after a text that ends in a break.
use Rattle.std.proofs.lemmas.Grind.{common_steps}
use Rattle.std.proofs.Common.{◌≡◌, ◌⊎◌, inl, inr, ℕ, zero, suc, ◌≤◌, List, [], ◌∷◌, ◌++◌, length, Some, Bool, true, false, refl, sym, ap}
use Rattle.std.proofs.Common.{◌∙◌, subst, arith, append_assoc, append-nil, ⊎_elim, length-append, rules}
use Rattle.std.{proofs.lemmas.List.nil_from_length, proofs.lemmas.Bool.{false≢true, or_right, and_parts, or_parts}}
use Rattle.yq_core.{specs.BlockWritten.break_text, specs.Text.{is_empty, is_feed, is_break, is_line, ends_line, separates, NoneIn, joined}}
use Rattle.yq_core.specs.declared.block_types.Break.{Break}
use Rattle.yq_outline.{specs.Comments.head_comment, specs.Lines.lines_of_rows}
use Rattle.yq_row_table.specs.Gap.{IsLineEnd, IsGapLine, AreGapLines, IsGap}
use Rattle.yq_row_table.specs.Grammar.{IsCut, IsMarkerLine, IsTail, unlimited, AreRows, AreParts, begins_document, ends_part}
use Rattle.yq_row_table.{specs.Rows.{rows_text, part_text, Cut, last, marked, cut_text}, specs.SpliceFits.is_after}
use Rattle.yq_row_table.{specs.Splices.{after_part, first_gap, marker_before, nth_part}, proofs.LineEnds.{white_none, comment_none}}
use Rattle.yq_row_table.{proofs.seams.SeamLaws.line_by_break, proofs.NothingLaws.{gap_other, line_end_other}, proofs.PlaceLaws.part_then}
use Rattle.yq_row_table.{proofs.seams.MarkerSeams.{marker_byte, three_lines, after_some}, proofs.splices.PartPlaces.part_ends}
use Rattle.yq_row_table.proofs.GapLaws.{some_more}
use Rattle.yq_edit_rules.{proofs.BlockEndLaws.break_tail, proofs.LaidRows.no_gap_here, specs.DocumentRows.IsDocumentPart}
use Rattle.yq_edit_rules.{specs.PlacedParts.IsDocumentAt, specs.Rooms.is_block_root, specs.TextPieces.IsPiece}
use Rattle.yq_edit_rules.{proofs.PartLaws.{document_known, part_numbered}, proofs.PlacedPartLaws.document_is_there_at}
use Rattle.yq_edit_rules.{proofs.TextPieceLaws.text_is_piece, proofs.RemovalPieceLaws.seam_pieces, proofs.BlockLineLaws.break_uncommented}
use Rattle.yq_edit_rules.{specs.ClosedTexts.is_closed_text, proofs.BreakLaws.IsLfOrCrLf}
use Rattle.yq_documents.{specs.Documents.lead_of, specs.Pieces.TextPiece, specs.Reading.read_at, specs.Ready.begins_no_node}
use Rattle.yq_documents.specs.PartNumbers.{part_number}
use Rattle.yq_places.{specs.PlacedRows.{PlacedPart, before_part, placed_document}, proofs.CommentPieceLaws.gap_end}
use Rattle.yq_places.{proofs.PlacedPartLaws.part_is_there, proofs.RemovalLines.{LineSeam, LiesIn, lies_in, seam_join}}
use Rattle.yq_edit_laws.{proofs.BlockRootLaws.empty_cases, proofs.RootReadLaws.TakesValue, proofs.RootRows.HasRoom}
use Rattle.yq_edit_laws.proofs.PlacementRoots.{IsUnwrittenRoot}
use Rattle.yq_core.specs.declared.block_types.Break.TheVariants as breaks

-- ---- texts that end in a break, and those that don't

-- the end of a text tells
pub closed_after : (a b : List ℕ) → is_empty b ≡ false → is_closed_text (a ++ b) ≡ is_closed_text b
unfolding is_closed_text
closed_after (x ∷ []) [] some = absurd (false≢true (sym some))
closed_after (x ∷ (z ∷ a)) b some = closed_after (z ∷ a) b some
closed_after _ _ some = refl

-- with a break after it a text ends in one
pub closed_end : (a b : List ℕ) → IsLfOrCrLf b → is_closed_text (a ++ b) ≡ true
unfolding is_closed_text
closed_end (x ∷ (y ∷ a)) b h = closed_end (y ∷ a) b h
closed_end a b h = search rules

-- a line with its break ends in one
pub closed_line : (m : List ℕ) → is_line m ≡ true → is_closed_text m ≡ true
unfolding is_line is_closed_text
closed_line [] h = refl
closed_line (b ∷ []) h = search (rules, false≢true)
closed_line (b ∷ (d ∷ t)) h = search (rules, false≢true, closed_line (d ∷ t))

-- a text that doesn't end in a break isn't empty
pub open_some : (t : List ℕ) → is_closed_text t ≡ false → is_empty t ≡ false
unfolding is_closed_text
open_some [] h = absurd (false≢true (sym h))
open_some (b ∷ t) h = refl

-- ---- texts that end in a break

open_end : (l : List ℕ) → is_empty l ≡ false → NoneIn ends_line l [] → is_closed_text l ≡ false
unfolding is_closed_text
open_end [] some none = absurd (false≢true (sym some))
open_end (b ∷ []) some none = (or_parts (is_feed b) _ none.0).0
open_end (b ∷ (d ∷ t)) some none = open_end (d ∷ t) refl none.1

-- white space and a comment end in none
comment_open : (white comment l rest : List ℕ) (h : IsLineEnd white comment l rest) → is_empty l ≡ false → h.break ≡ [] → is_closed_text l ≡ false
comment_open white comment l rest h some e =
    let is : l ≡ white ++ comment = h.spelled ∙ (ap (λ x. white ++ (comment ++ x)) e ∙ ap (λ x. white ++ x) (append-nil comment)) in
    let none = white_none white comment h.break h.blank (comment_none comment h.break h.as_comment) in
    open_end l some (subst (λ x. NoneIn ends_line x []) (sym is) (subst (NoneIn ends_line (white ++ comment)) e none))

-- ---- gaps that end in a break

last_line : (l x : List ℕ) → IsGapLine l [] → is_closed_text l ≡ true → IsGapLine l x
last_line l x h closed = ⊎_elim {0, 0, 0}
    (λ k. record { white = h.white; comment = h.comment; line = record { break = h.line.break; spelled = h.line.spelled; blank = h.line.blank; as_comment = h.line.as_comment; ends = inl k }; some = h.some })
    (λ e. absurd (false≢true (sym (comment_open h.white h.comment l [] h.line h.some e.0) ∙ closed)))
    h.line.ends

closed_lines : (ls : List (List ℕ)) (x : List ℕ) → AreGapLines ls [] → is_closed_text (joined ls) ≡ true → AreGapLines ls x
closed_lines [] x h e = tt
closed_lines (l ∷ []) x h e = (last_line l x h.0 (sym (ap is_closed_text (append-nil l)) ∙ e), tt)
closed_lines (l ∷ (k ∷ ls)) x h e = grind (arith, common_steps, some_more, line_end_other, closed_after, closed_lines (k ∷ ls) x h.1)

-- ---- the marker in front

marker_at : (c : Cut) (k : ℕ) (started : Bool) → AreParts started c → (marker_before [] k c ≡ []) ⊎ IsMarkerLine (marker_before [] k c) (part_text (nth_part k c) (after_part k c))
marker_at (last p) k started h = inl refl
marker_at (marked p marker c) zero started h = inl refl
marker_at (marked p marker c) (suc k) started h = inr (go c k marker (begins_document marker) h.2 h.1)
  where
    go : (c : Cut) (k : ℕ) (before : List ℕ) (started : Bool) → AreParts started c → IsMarkerLine before (cut_text c) → IsMarkerLine (marker_before before k c) (part_text (nth_part k c) (after_part k c))
    go (marked p marker c) (suc k) before started h line = go c k marker (begins_document marker) h.2 h.1
    go _ _ before started h line = line

-- the text before a document ends in it
ends_at_marker : (i : ℕ) (c : Cut) (before : List ℕ) → (pre : List ℕ) × (before ++ before_part i c ≡ pre ++ marker_before before i c)
ends_at_marker i (last p) before = ([], append-nil before)
ends_at_marker zero (marked p marker c) before = ([], append-nil before)
ends_at_marker (suc i) (marked p marker c) before =
    let w = ends_at_marker i c marker in (
      (before ++ part_text p []) ++ w.0,
      ap (λ t. before ++ (t ++ before_part i c)) (part_then p [] marker)
          ∙ (ap (λ t. before ++ t) (append_assoc (part_text p []) marker (before_part i c))
          ∙ (sym (append_assoc before (part_text p []) (marker ++ before_part i c))
          ∙ (ap (λ t. (before ++ part_text p []) ++ t) w.1 ∙ sym (append_assoc (before ++ part_text p []) w.0 (marker_before marker i c))))),
    )

ends_in_marker : (n : ℕ) (c : Cut) (d : PlacedPart) → placed_document n c ≡ Some d → (pre : List ℕ) × (d.before ≡ pre ++ marker_before [] (part_number n c) c)
ends_in_marker n c d e = let w = ends_at_marker (part_number n c) c [] in (w.0, ap (λ (y : PlacedPart). y.before) (sym (part_is_there n c d e).is) ∙ w.1)

-- a marker's line that ends in a break
open_tail : (a b c : ℕ) (p : List ℕ) (t : IsTail p []) → is_feed c ≡ false → is_closed_text (a ∷ (b ∷ (c ∷ p))) ≡ true → t.line.break ≡ [] → ⊥
unfolding is_closed_text
open_tail a b c [] t feed closed e = false≢true (sym feed ∙ closed)
open_tail a b c (x ∷ p) t feed closed e = false≢true (sym (comment_open t.white t.comment (x ∷ p) [] t.line refl e) ∙ (sym (closed_after (a ∷ (b ∷ (c ∷ []))) (x ∷ p) refl) ∙ closed))

closed_tail : (a b c : ℕ) (p : List ℕ) → is_feed c ≡ false → IsTail p [] → is_closed_text (a ∷ (b ∷ (c ∷ p))) ≡ true → is_line p ≡ true
closed_tail a b c p feed t closed = ⊎_elim {0, 0, 0}
    (λ k. line_by_break t.white t.comment p [] t.line ∙ (and_parts (is_break t.line.break) (is_line t.line.break) k).1)
    (λ e. absurd (open_tail a b c p t feed closed e.0))
    t.line.ends

closed_marker : (m : List ℕ) → IsMarkerLine m [] → is_closed_text m ≡ true → is_line m ≡ true
closed_marker m h1 h2 = search (rules, ⊎_elim, three_lines, closed_tail, marker_byte)

after_closed : (m t u : List ℕ) → IsMarkerLine m t → (t ≡ []) ⊎ (is_empty t ≡ false) → (t ≡ [] → is_closed_text m ≡ true) → is_after m u ≡ true
after_closed m t u h (inr some) closed = after_some m t u h some
after_closed m t u h (inl e) closed = let line = closed_marker m (subst (IsMarkerLine m) e h) (closed e) in rw line (or_right (is_empty m) true refl)

pub long_some : (m : List ℕ) → 3 ≤ length m → is_empty m ≡ false
long_some [] h = absurd (omega (arith, h))
long_some (b ∷ m) h = refl

-- ---- the root of a document without rows

module _ (n : ℕ) (c : Cut) (w : TextPiece) (read : read_at (cut_text c) ≡ Some c) (h : IsUnwrittenRoot n c w) where
  pub is_located : IsDocumentAt c n h.d
  is_located = document_is_there_at c n h.d h.placed

  pub there : IsDocumentPart (cut_text c) c n h.d.part
  there = record { read = read; there = is_located.there }

  pub cut : IsCut (cut_text c) c
  cut = (document_known (cut_text c) c n h.d.part there).cut

  lies : LiesIn h.d
  lies = lies_in n c h.d cut.parts h.placed

  pub gap_is : IsGap h.d.part.end h.d.after
  gap_is = subst (λ xs. AreRows unlimited xs h.d.part.end h.d.after) h.rows_are lies.rows

  pub part_is : (rest : List ℕ) → part_text h.d.part rest ≡ h.d.part.end ++ rest
  part_is rest = ap (λ xs. rows_text xs (h.d.part.end ++ rest)) h.rows_are

  -- the old text
  pub whole : w.before ++ w.after ≡ cut_text c
  whole = (λ i. h.before_is i ++ h.following_is i) ∙ (append_assoc h.d.before h.d.part.end h.d.after ∙ (ap (λ t. h.d.before ++ t) (sym (part_is h.d.after)) ∙ sym is_located.text))

  pub seam : LineSeam (h.d.before ++ h.d.part.end) h.d.after
  seam = seam_join h.d.before h.d.part.end h.d.after (subst (LineSeam h.d.before) (part_is h.d.after) lies.seam) (gap_end h.d.part.end h.d.after gap_is)

  pub pieces : IsPiece w.before × IsPiece w.after
  pieces =
      let both = seam_pieces (h.d.before ++ h.d.part.end) h.d.after seam (subst IsPiece (sym ((λ i. sym h.before_is i ++ sym h.following_is i) ∙ whole)) (text_is_piece c read)) in
      (subst IsPiece (sym h.before_is) both.0, subst IsPiece (sym h.following_is) both.1)

  -- no rows are there
  pub no_rows_there : is_block_root h.d.part ≡ true
  no_rows_there = ap (λ xs. begins_no_node (lines_of_rows xs)) h.rows_are

  pub lead_is : head_comment h.d.part.end ≡ lead_of h.d.part
  lead_is = ap (λ xs. head_comment (first_gap xs h.d.part.end)) (sym h.rows_are)

  abbrev marker : List ℕ
  marker = marker_before [] (part_number n c) c

  -- rows may come after the marker in front, where the text before them is closed or some comes after that
  pub starts_at : (h.d.part.end ++ h.d.after ≡ [] → is_closed_text (h.d.before ++ h.d.part.end) ≡ true) → (t : List ℕ) → is_after marker t ≡ true
  starts_at closed t = go (marker_at c (part_number n c) true cut.parts)
    where
      ends_closed : IsMarkerLine marker (h.d.part.end ++ h.d.after) → h.d.part.end ++ h.d.after ≡ [] → is_closed_text marker ≡ true
      ends_closed own h1 = search (rules, arith, ends_in_marker, append-nil, nil_from_length, length-append, closed_after, long_some)

      by_line : IsMarkerLine marker (h.d.part.end ++ h.d.after) → is_after marker t ≡ true
      by_line own = after_closed marker (h.d.part.end ++ h.d.after) t own (empty_cases (h.d.part.end ++ h.d.after)) (ends_closed own)

      go : (marker ≡ []) ⊎ IsMarkerLine marker (part_text (nth_part (part_number n c) c) (after_part (part_number n c) c)) → is_after marker t ≡ true
      go (inl e) = ap (λ m. is_after m t) e
      go (inr line) =
          by_line ((subst (IsMarkerLine marker) ((λ i. part_text ((part_numbered c n h.d.part is_located.there).0 i) (is_located.after i)) ∙ part_is h.d.after)) line)

  module _ (closed : is_closed_text w.before ≡ true) (br : Break) where
    all_closed : is_closed_text (h.d.before ++ h.d.part.end) ≡ true
    all_closed = ap is_closed_text (sym h.before_is) ∙ closed

    gap_closed : (h.d.part.end ≡ []) ⊎ (is_empty h.d.part.end ≡ false) → (h.d.part.end ≡ []) ⊎ (is_closed_text h.d.part.end ≡ true)
    gap_closed (inl e) = inl e
    gap_closed (inr some) = inr (sym (closed_after h.d.before h.d.part.end some) ∙ all_closed)

    room : HasRoom h.d.part.end (break_text br) [] h.d.after
    room = record {
      front = λ x some. (search (rules, no_gap_here, gap_other, closed_lines, gap_is, gap_closed (empty_cases h.d.part.end), empty_cases h.d.after));
      tail = break_tail br h.d.after;
      apart = apart br;
      uncommented = break_uncommented br;
      back_is = no_gap_here h.d.after;
      ends = subst (λ t. ends_part t ≡ true) is_located.after (part_ends c (part_number n c) true cut.parts);
    }
      where
        apart : (br : Break) → separates (break_text br ++ h.d.after) ≡ true
        apart breaks.Lf = refl
        apart breaks.CrLf = refl

    pub takes_unwritten : TakesValue n c h.d h.d.part.end (break_text br) []
    takes_unwritten = record { is_located = is_located; old = there; block = no_rows_there; room = room; lead = lead_is; starts = λ t e. starts_at (λ none. all_closed) t }
