-- The rows of an item or entry, where other rows come after it.
use Rattle.std.proofs.Common.{◌≡◌, ℕ, suc, ◌+◌, ◌≤◌, List, [], ◌∷◌, ◌++◌, length, Some, refl, sym, ap, ◌∙◌, subst, append-nil, append_assoc}
use Rattle.std.{proofs.Common.{arith, length-append}, proofs.lemmas.List.append_cancel_left, proofs.lemmas.Option.same_Some}
use Rattle.yq_core.{specs.Paths.Step, proofs.Bools.bind_some}
use Rattle.yq_row_table.specs.Rows.{Row, Part, Cut}
use Rattle.yq_outline.{specs.Ends.{deeper_count, line_at_steps}, specs.Group.level_or, specs.Lines.{row_lines, lines_of_rows}}
use Rattle.yq_outline.{specs.Outline.{Line, level, flatten, IsEven, row}, specs.Places.{FoundLine, find_row, lines_before}}
use Rattle.yq_documents.specs.Reading.{part_outline}
use Rattle.yq_places.{specs.RemovalPlaces.{OwnRows, own_rows}, proofs.UnderCounts.count_under, proofs.UnderExchange.lines_append}
use Rattle.yq_edit_rules.{specs.DocumentRows.IsDocumentPart, specs.LineRows.{Begins, lines_before_entry, following_lines}}
use Rattle.yq_edit_rules.{specs.RemovalChanges.HasOwnRows, specs.Siblings.NodeLines, proofs.ApartLaws.entries_apart}
use Rattle.yq_edit_rules.{proofs.CollectionLaws.some_at, proofs.NodeLineLaws.lines_even, proofs.OwnRowLaws.{lines_are, own_rows_are_there}}
use Rattle.yq_edit_rules.{proofs.PartLaws.document_known, proofs.PathLaws.path_is_entry, proofs.PlacedLaws.{entry_placed, same_parts}}
use Rattle.yq_edit_rules.proofs.SiblingLaws.{even_right}
use Rattle.yq_batch.proofs.OwnRowsStay.{own_stays, row_size}

begins_front : (n k : ℕ) (xs a b : List Line) → length xs ≡ suc k → Begins n (xs ++ a) → Begins n (xs ++ b)
begins_front n k [] a b size h = absurd (omega (arith, size))
begins_front n k (l ∷ xs) a b size h = h

pub begins_more : (m n : ℕ) (ls : List Line) → m ≤ n → Begins m ls → Begins n ls
begins_more m n [] less h = h
begins_more m n (l ∷ ls) less h = omega (arith, less, h)

-- ---- an item or entry with its rows

module _ (t : List ℕ) (c : Cut) (k : ℕ) (p : Part) (above : List Step) (s : Step) (x : OwnRows) (old : IsDocumentPart t c k p) (own : own_rows (above ++ (s ∷ [])) p.rows ≡ Some x) where
  abbrev n : ℕ
  n = level_or 0 (part_outline p)

  even : IsEven n (part_outline p)
  even = (document_known t c k p old).even

  pub has : HasOwnRows p above s x
  has = own_rows_are_there t c k p above s x old own

  abbrev pub lines : NodeLines
  lines = has.h

  abbrev pub found : FoundLine
  found = has.f

  split : lines_of_rows p.rows ≡ lines_of_rows x.front ++ (lines_of_rows x.own ++ lines_of_rows x.back)
  split = ap lines_of_rows has.rows.rows_are ∙ (lines_append x.front (x.own ++ x.back) ∙ ap (λ (ls : List Line). lines_of_rows x.front ++ ls) (lines_append x.own x.back))

  pub own_lines : lines_of_rows x.own ≡ found.line ∷ flatten found.under
  own_lines =
      (entry_placed n p above lines s found (lines_of_rows x.front) (lines_of_rows x.own) (lines_of_rows x.back) even has.entry
      (record { parts_are = split; before_are = has.rows.number; size_is = has.rows.count })).0

  pub whole : lines_of_rows p.rows ≡ lines_of_rows x.front ++ (found.line ∷ (flatten found.under ++ lines_of_rows x.back))
  whole = split ∙ ap (λ (ls : List Line). lines_of_rows x.front ++ (ls ++ lines_of_rows x.back)) own_lines

  pub back_lines : lines_of_rows x.back ≡ following_lines lines found
  back_lines =
      (same_parts (lines_of_rows x.front) (lines_of_rows x.own) (lines_of_rows x.back) (lines_before lines.place ++ lines_before found.place) (found.line ∷ flatten found.under) (following_lines lines found)
      (sym split ∙ lines_are p n above s lines found even has.entry)
      (has.rows.number ∙ sym (length-append (lines_before lines.place) (lines_before found.place))) has.rows.count).2

  pub begins : Begins (level found.line) (lines_of_rows x.back)
  begins = subst (Begins (level found.line)) (sym back_lines) (entries_apart n (part_outline p) above s lines found even has.entry).next

  pub here : IsEven (level_or 0 lines.lines) (row found.line found.under found.after)
  here =
      let w = some_at s lines.lines found has.entry.found in
      even_right (level_or 0 lines.lines) w.front (row found.line found.under found.after)
      (subst (IsEven (level_or 0 lines.lines)) (sym w.whole) (lines_even n (part_outline p) above lines even has.entry.place_is has.entry.block).1)

  pub level_is : level found.line ≡ level_or 0 lines.lines
  level_is = here.0

  pub deep : deeper_count (level found.line) (flatten found.under) ≡ length (flatten found.under)
  deep =
      let count : deeper_count (level found.line) (flatten found.under ++ []) ≡ length (flatten found.under) + 0 =
      count_under (level found.line) here.3.0 found.under [] (omega (arith, here.0, here.3.1)) here.3.2 in
      sym (ap (deeper_count (level found.line)) (append-nil (flatten found.under))) ∙ (count ∙ omega arith)

  -- the line to which the steps lead
  pub there : line_at_steps (above ++ (s ∷ [])) (lines_of_rows p.rows) ≡ Some (length (lines_of_rows x.front))
  there =
      let line = bind_some (line_at_steps (above ++ (s ∷ [])) (lines_of_rows p.rows)) own in
      let w = path_is_entry p n above s line.0 even line.1 in
      let same_lines : w.h ≡ lines = same_Some _ _ (sym w.entry.place_is ∙ has.entry.place_is) in
      let same_found : w.f ≡ found = same_Some _ _ (sym w.entry.found ∙ (ap (λ (h : NodeLines). find_row s h.lines) same_lines ∙ has.entry.found)) in
      line.1 ∙ ap Some (w.number ∙ ((λ i. lines_before_entry (same_lines i) (same_found i)) ∙ sym has.rows.number))

  -- its rows begin with one
  pub own_first : (r : Row) × (g : List Row) × (x.own ≡ r ∷ g)
  own_first = go x.own refl
    where
      go : (g : List Row) → x.own ≡ g → (r : Row) × (rest : List Row) × (x.own ≡ r ∷ rest)
      go [] e = absurd (let none : 0 ≡ length (lines_of_rows x.own) = ap (λ (rs : List Row). length (lines_of_rows rs)) (sym e) in omega (arith, none, has.rows.count))
      go (r ∷ g) e = (r, g, e)

-- ---- other rows after it

-- rows after the first of which others come begin as low, if others do where there are none
pub begins_after : (n : ℕ) (m old new : List Row) → Begins n (lines_of_rows (m ++ old)) → (m ≡ [] → Begins n (lines_of_rows new)) → Begins n (lines_of_rows (m ++ new))
begins_after n [] old new h low = low refl
begins_after n (r ∷ m) old new h low = begins_front n (length r.dashes) (row_lines r) (lines_of_rows (m ++ old)) (lines_of_rows (m ++ new)) (row_size r) h

module _ (t : List ℕ) (c : Cut) (k : ℕ) (p : Part) (above : List Step) (s : Step) (x : OwnRows) (old : IsDocumentPart t c k p) (own : own_rows (above ++ (s ∷ [])) p.rows ≡ Some x)
    (left : List Row) (low : Begins (level (found t c k p above s x old own).line) (lines_of_rows left)) where
  abbrev f : FoundLine
  f = found t c k p above s x old own

  -- its rows are those that they were
  pub entry_remains : own_rows (above ++ (s ∷ [])) (x.front ++ (x.own ++ left)) ≡ Some (record x { back = left })
  entry_remains = go x.own refl
    where
      go : (g : List Row) → x.own ≡ g → own_rows (above ++ (s ∷ [])) (x.front ++ (x.own ++ left)) ≡ Some (record x { back = left })
      go [] e = absurd (let none : 0 ≡ length (f.line ∷ flatten f.under) = ap (λ (rs : List Row). length (lines_of_rows rs)) (sym e) ∙ ap length (own_lines t c k p above s x old own) in omega (arith, none))
      go (r ∷ g) e =
          ap (λ (rs : List Row). own_rows (above ++ (s ∷ [])) (x.front ++ (rs ++ left))) e
          ∙ (own_stays (above ++ (s ∷ [])) x.front r g f.line (flatten f.under) (flatten f.under ++ lines_of_rows x.back) left
          (ap lines_of_rows (sym e) ∙ own_lines t c k p above s x old own) (deep t c k p above s x old own)
          (ap (line_at_steps (above ++ (s ∷ []))) (sym (whole t c k p above s x old own)) ∙ there t c k p above s x old own) low
          ∙ (λ i. Some (record { front = x.front; own = sym e i; back = left })))

-- ---- another one after it

module _ (t : List ℕ) (c : Cut) (k : ℕ) (p : Part) (above beneath : List Step) (s1 s2 : Step) (x y : OwnRows) (old : IsDocumentPart t c k p)
    (own : own_rows (above ++ (s1 ∷ [])) p.rows ≡ Some x) (other : own_rows (beneath ++ (s2 ∷ [])) p.rows ≡ Some y)
    (between : List Row) (front : y.front ≡ x.front ++ (x.own ++ between)) where
  pub following_rows : x.back ≡ between ++ (y.own ++ y.back)
  following_rows =
      let whole : x.front ++ (x.own ++ x.back) ≡ x.front ++ (x.own ++ (between ++ (y.own ++ y.back))) =
      sym (has t c k p above s1 x old own).rows.rows_are
      ∙ ((has t c k p beneath s2 y old other).rows.rows_are
      ∙ (ap (λ (rs : List Row). rs ++ (y.own ++ y.back)) front
      ∙ (append_assoc x.front (x.own ++ between) (y.own ++ y.back) ∙ ap (λ (rs : List Row). x.front ++ rs) (append_assoc x.own between (y.own ++ y.back))))) in
      append_cancel_left x.own x.back (between ++ (y.own ++ y.back)) (append_cancel_left x.front (x.own ++ x.back) (x.own ++ (between ++ (y.own ++ y.back))) whole)

  -- rows after it that begin no deeper than those after the other one
  pub lower_after : (new : List Row) → ((n : ℕ) → Begins n (lines_of_rows y.back) → Begins n (lines_of_rows new)) → (n : ℕ) → Begins n (lines_of_rows x.back) → Begins n (lines_of_rows (between ++ new))
  lower_after new lower n low = begins_after n between (y.own ++ y.back) new (subst (λ (rs : List Row). Begins n (lines_of_rows rs)) following_rows low) (λ none.
      let g : FoundLine = found t c k p beneath s2 y old other in
      let lines : lines_of_rows x.back ≡ g.line ∷ (flatten g.under ++ lines_of_rows y.back) =
      ap lines_of_rows (following_rows ∙ ap (λ (m : List Row). m ++ (y.own ++ y.back)) none)
      ∙ (lines_append y.own y.back ∙ ap (λ (ls : List Line). ls ++ lines_of_rows y.back) (own_lines t c k p beneath s2 y old other)) in
      let less : level g.line ≤ n = subst (Begins n) lines low in
      begins_more (level g.line) n (lines_of_rows new) less (lower (level g.line) (begins t c k p beneath s2 y old other)))
