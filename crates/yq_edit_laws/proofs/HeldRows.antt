-- What is known of what the key or dash of rows holds.
use Rattle.std.proofs.lemmas.Grind.{common_steps}
use Rattle.std.proofs.Common.{◌≡◌, inl, ℕ, ℤ, true, false, cond, ◌&&◌, List, [], ◌∷◌, ◌++◌, length, Option, Some, is_some, refl, sym, ap}
use Rattle.std.{proofs.Common.{◌∙◌, subst, arith, append_assoc, length-append, rules}, proofs.lemmas.Bool.{false≢true, and_parts}}
use Rattle.yq_core.{specs.BlockWritten.break_text, specs.Characters.pairs_returns, specs.Paths.Step}
use Rattle.yq_core.{specs.Text.{is_break, is_empty, is_line}, specs.Tree.anchor_of, specs.Nodes.{node_text, IsFlowNode}}
use Rattle.yq_outline.{specs.Comments.line_comment, specs.Outline.{IsOpen, Outline, anchored, flatten, value}, specs.Places.content_under}
use Rattle.yq_outline.specs.Lines.{content_anchor, head_of, lines_of_rows, row_lines}
use Rattle.yq_row_table.{specs.Exchange.asked_after, specs.Gap.IsBreak, specs.Grammar.{IsContent, IsRow, IsTail, unlimited}}
use Rattle.yq_row_table.{specs.Rows.{Content, Cut, Row, cut_text, parent_indent, rows_text}, specs.View.{Slices, content_cut, slices}}
use Rattle.yq_row_table.proofs.CharacterLaws.{pairs_back}
use Rattle.yq_documents.specs.Reading.{part_outline, read_at}
use Rattle.yq_places.{specs.CommentPlaces.{LineEnd, end_in_line, text_to_line_end}, specs.PrintedLines.last_break}
use Rattle.yq_places.{specs.Placements.{RowsOfEntry, before_entry, after_entry, held, rows_of_entry}, proofs.CommentPieceLaws.Ended}
use Rattle.yq_places.{proofs.LastBreakLaws.lf_last, proofs.LineEndLaws.line_tail, proofs.RunSpans.rows_then}
use Rattle.yq_edit_rules.{specs.Siblings.HasEntries, specs.PlacementLaws.HasItsRows, specs.TextPieces.IsPiece}
use Rattle.yq_edit_rules.{proofs.ContentLaws.content_named, proofs.LineLaws.row_count, proofs.NodeLineLaws.under_even}
use Rattle.yq_edit_rules.{proofs.PlacementMarks.{even_there, row_there, under_it}, proofs.TextPieceLaws.{piece_back, text_is_piece}}
use Rattle.yq_edit_rules.{proofs.UnderLaws.{line_is, under_is}, proofs.BreakLaws.{IsLfOrCrLf, last_is}}
use Rattle.yq_edit_rules.{proofs.BrokenTails.{other_comment, other_tail, uncommented_tail}, proofs.CommentReadLaws.break_is}
use Rattle.yq_edit_rules.proofs.CommentRowLaws.{cut_spelled, entry_row, line_whole}
use Rattle.yq_edit_rules.{proofs.HeldPieces.{below_ended, end_agrees, held_spells}, proofs.TailPieces.white_piece}
use Rattle.yq_edit_laws.{proofs.HeldCarried.{KnowsHeld, first_alone}, proofs.NodeRowLaws.{rest, following_is, mark_node}}

-- ---- ends of lines

break_line : (b : List ℕ) → IsLfOrCrLf b → (is_break b && is_line b) ≡ true
unfolding is_line
break_line b e = search rules

pub no_line : is_line [] ≡ false
unfolding is_line
no_line = refl

-- what ends a text that itself ends so, is a break, or nothing at the end of all
pub last_ends : (own more : List ℕ) → Ended own more → IsBreak (last_break own) more
last_ends own more h1 = search (rules, last_is, false≢true, no_line, lf_last, break_line)

-- ---- heads and anchors

-- what is written for a head is one
pub head_there : (n : ℤ) (x : Content) (more : List ℕ) → IsContent n x more → is_empty (content_cut x).3 ≡ false → is_some (head_of x) ≡ true
unfolding IsFlowNode node_text
head_there n x more h1 h2 = search (rules, false≢true)

no_rows_there : (rs : List Row) → lines_of_rows rs ≡ [] → rs ≡ []
no_rows_there [] e = refl
no_rows_there (r ∷ rs) e = absurd (omega (arith, ap length e, length-append (row_lines r) (lines_of_rows rs), row_count r))

-- a block collection has no anchor of its own
pub value_unnamed : (o : Outline) → HasEntries o → (a : Option (List ℕ)) → anchor_of (anchored a (value o)) ≡ a
value_unnamed o h1 a = search rules

-- ---- the rows

module _ (n : ℕ) (s : Step) (ss : List Step) (c : Cut) (e : RowsOfEntry) (there : HasItsRows n s ss c e) (last : e.line ≡ length e.row.dashes) where
  abbrev sl : Slices
  sl = slices e.row

  abbrev more : List ℕ
  more = sl.raw ++ rows_text e.under (after_entry e)

  abbrev below : List ℕ
  below = sl.raw ++ rows_text e.under []

  row : IsRow (asked_after unlimited e.front) e.row (rows_text e.under (after_entry e))
  row = row_there n s ss c e there

  pub mark_tail : IsTail (slices e.row).tail ((slices e.row).raw ++ rows_text e.under (after_entry e))
  mark_tail = line_tail (parent_indent e.row) e.row.content (rows_text e.under (after_entry e)) row.content

  pub mark_end : end_in_line [] (slices e.row).tail ≡ record { before = []; white = mark_tail.white; comment = mark_tail.comment; after = mark_tail.line.break }
  mark_end = end_agrees (slices e.row).tail _ mark_tail

  more_is : more ≡ below ++ after_entry e
  more_is = ap (λ t. sl.raw ++ t) (rows_then e.under (after_entry e)) ∙ sym (append_assoc sl.raw (rows_text e.under []) (after_entry e))

  -- the last line ends before what is after
  last_line_ends : IsBreak (held e).last (after_entry e)
  last_line_ends = subst (λ (x : LineEnd). IsBreak (cond (is_empty below) x.after (last_break below)) (after_entry e)) (sym mark_end)
      (go below (below_ended n s ss c e there) (subst (IsBreak mark_tail.line.break) more_is mark_tail.line.ends))
    where
      go : (b : List ℕ) → (is_empty b ≡ false → Ended b (after_entry e)) → IsBreak mark_tail.line.break (b ++ after_entry e) → IsBreak (cond (is_empty b) mark_tail.line.break (last_break b)) (after_entry e)
      go [] ended h = h
      go (x ∷ xs) ended h = last_ends (x ∷ xs) (after_entry e) (ended refl)

  open' : IsOpen there.found.line.head there.found.under
  open' = (under_even _ (part_outline there.part) s ss there.found (even_there n s ss c e there last) there.is).1.1

  line_there : Rattle.yq_edit_rules.proofs.UnderLaws.line_with e.row e.row.content ≡ there.found.line
  line_there = line_is there.part s ss e.front e.row e.under e.back (under_it n s ss c e there last) (even_there n s ss c e there last)

  lines_there : lines_of_rows e.under ≡ flatten there.found.under
  lines_there = under_is there.part s ss e.front e.row e.under e.back (under_it n s ss c e there last) (even_there n s ss c e there last)

  pub headless_there : is_empty (slices e.row).head ≡ false → e.under ≡ []
  headless_there some = search (rules, line_there, head_there, e.row.content, row.content, some, no_rows_there, lines_there, false≢true, open')

  named_there : first_alone e.under ≡ false → anchor_of (content_under there.found.line there.found.under) ≡ content_anchor e.row.content
  named_there beside = grind (arith, common_steps, line_there, content_named, row, open', false≢true, lines_there, value_unnamed)

  module _ (read : read_at (cut_text c) ≡ Some c) (at : rows_of_entry n (s ∷ ss) c ≡ Some e) where
    pairs : pairs_returns ((slices e.row).tail ++ ((slices e.row).raw ++ rows_text e.under (after_entry e))) ≡ true
    pairs =
        let text : cut_text c ≡ (before_entry e ++ text_to_line_end e.row) ++ (sl.tail ++ more) = cut_spelled n (s ∷ ss) c e at ∙ line_whole (entry_row e) in
        pairs_back (before_entry e ++ text_to_line_end e.row) (sl.tail ++ more) (ap pairs_returns (sym text) ∙ (and_parts _ (pairs_returns (cut_text c)) (text_is_piece c read).characters).1)

    abbrev OtherTail : LineEnd → List ℕ → List ℕ → Type 0
    OtherTail x break following = IsTail (x.white ++ (x.comment ++ break)) following

    other : (break following : List ℕ) → IsBreak break following → IsTail ((held e).white ++ ((held e).comment ++ break)) following
    other break following ends = subst (λ x. OtherTail x break following) (sym mark_end) (other_tail sl.tail more mark_tail pairs break following ends)

    same : (break following : List ℕ) → IsBreak break following → line_comment ((held e).white ++ ((held e).comment ++ break)) ≡ line_comment (slices e.row).tail
    same break following ends = ap (λ (x : LineEnd). line_comment (x.white ++ (x.comment ++ break))) mark_end ∙ other_comment sl.tail more mark_tail pairs break following ends

    last_there : IsBreak (held e).last (rest n s ss c (mark_node n s ss c e there last))
    last_there = subst (IsBreak (held e).last) (following_is n s ss c e there last) last_line_ends

    pub held_known : first_alone e.under ≡ false → KnowsHeld n s ss c e there last
    held_known beside =
        let spelled = held_spells n s ss c e read at last in
        let white : IsPiece (held e).white = subst (λ (x : LineEnd). IsPiece x.white) (sym mark_end) (white_piece mark_tail.white mark_tail.line.blank) in
        record {
          spells = spelled.0;
          pieces = spelled.1;
          white = white;
          comment = piece_back (held e).white (held e).comment white.utf8 spelled.1.line;
          ends = last_there;
          broken = λ br z. other (break_text br) z (inl (break_is br));
          broken_comment = λ br. same (break_text br) [] (inl (break_is br));
          ended = other (held e).last _ last_there;
          ended_comment = same (held e).last _ last_there;
          uncommented = λ none. uncommented_tail sl.tail more mark_tail (ap (λ (x : LineEnd). is_empty x.comment) (sym mark_end) ∙ none);
          headless = headless_there;
          named = named_there beside;
        }
