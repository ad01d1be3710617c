-- What a key or dash holds spells the text of its rows.
use Rattle.std.proofs.Common.{◌≡◌, ℕ, cond, List, [], ◌∷◌, ◌++◌, Some, refl, sym, ap, ◌∙◌, append_assoc, append-nil, rules}
use Rattle.std.proofs.lemmas.Bool.{false≢true}
use Rattle.yq_core.{proofs.LineLaws.is_empty_is, specs.Paths.Step, specs.Text.is_empty}
use Rattle.yq_row_table.{specs.Exchange.row_front, specs.Rows.{Row, Cut, cut_text, print_row, rows_text}, specs.View.{Slices, slices}}
use Rattle.yq_places.{specs.CommentPlaces.{LineEnd, end_in_line, text_to_line_end}, specs.PrintedLines.{last_break, less_break}}
use Rattle.yq_places.{specs.RowPieces.{anchor_before, space_before}, proofs.PrintedTexts.less_is, proofs.RunSpans.rows_then}
use Rattle.yq_places.specs.Placements.{RowsOfEntry, before_entry, after_entry, rows_of_entry, held}
use Rattle.yq_edit_rules.{proofs.CommentRowLaws.{cut_spelled, end_parts, entry_row, line_whole}, specs.PlacementLaws.held_text}

-- ---- the pieces of a row

-- the text of a line up to its tail: the key or dash with its anchor, the white space after that, and the head
pub front_is : (b : List ℕ) (r : Row) → b ++ text_to_line_end r ≡ ((b ++ row_front r) ++ anchor_before (slices r)) ++ (space_before (slices r) ++ (slices r).head)
front_is b r = search (rules, is_empty_is, false≢true, append_assoc, append-nil)

-- ---- the lines below

pub no_break : less_break [] ≡ []
unfolding less_break
no_break = refl

-- a break, lines and what is after them: the break goes before lines, or is the last one
pub below_is : (below t after : List ℕ) → t ++ (below ++ after) ≡ cond (is_empty below) [] t ++ (less_break below ++ (cond (is_empty below) t (last_break below) ++ after))
below_is [] t after = sym (ap (λ x. x ++ (t ++ after)) no_break)
below_is (b ∷ below) t after =
    ap (λ x. t ++ x) (ap (λ x. x ++ after) (sym (less_is (b ∷ below))) ∙ append_assoc (less_break (b ∷ below)) (last_break (b ∷ below)) after)

-- ---- an item or entry

module _ (e : RowsOfEntry) where
  abbrev s : Slices
  s = slices e.row

  abbrev t : LineEnd
  t = end_in_line [] (slices e.row).tail

  abbrev below : List ℕ
  below = (slices e.row).raw ++ rows_text e.under []

  abbrev lead : List ℕ
  lead = (before_entry e ++ row_front e.row) ++ anchor_before (slices e.row)

  abbrev tail_text : List ℕ
  tail_text = cond (is_empty below) [] t.after ++ (less_break below ++ (cond (is_empty below) t.after (last_break below) ++ after_entry e))

  -- what is after the head
  rest_is : (slices e.row).tail ++ ((slices e.row).raw ++ rows_text e.under (after_entry e)) ≡ t.white ++ (t.comment ++ tail_text)
  rest_is =
      let apart : s.tail ++ (s.raw ++ (rows_text e.under [] ++ after_entry e)) ≡ s.tail ++ (below ++ after_entry e) = ap (λ x. s.tail ++ x) (sym (append_assoc s.raw (rows_text e.under []) (after_entry e))) in
      let ended : s.tail ++ (below ++ after_entry e) ≡ t.white ++ (t.comment ++ (t.after ++ (below ++ after_entry e))) =
      ap (λ x. x ++ (below ++ after_entry e)) (end_parts [] s.tail)
      ∙ (append_assoc t.white (t.comment ++ t.after) (below ++ after_entry e) ∙ ap (λ x. t.white ++ x) (append_assoc t.comment t.after (below ++ after_entry e))) in
      ap (λ x. s.tail ++ (s.raw ++ x)) (rows_then e.under (after_entry e)) ∙ (apart ∙ (ended ∙ ap (λ x. t.white ++ (t.comment ++ x)) (below_is below t.after (after_entry e))))

  -- The pieces of what its key or dash holds spell the text of its rows.
  pub held_spelled : before_entry e ++ print_row e.row (rows_text e.under (after_entry e)) ≡ held_text (held e)
  held_spelled =
      let rest : List ℕ = t.white ++ (t.comment ++ tail_text) in
      let apart : (lead ++ (space_before s ++ s.head)) ++ rest ≡ lead ++ (space_before s ++ (s.head ++ rest)) = search (rules, append_assoc, rest) in
      line_whole (entry_row e) ∙ ((λ i. front_is (before_entry e) e.row i ++ rest_is i) ∙ apart)

-- the text of a cut
pub held_there : (n : ℕ) (steps : List Step) (c : Cut) (e : RowsOfEntry) → rows_of_entry n steps c ≡ Some e → cut_text c ≡ held_text (held e)
held_there n steps c e is = cut_spelled n steps c e is ∙ held_spelled e
