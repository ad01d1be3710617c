-- The law of regions where one ends in front of a marker: the marker's line isn't read.
use Rattle.std.proofs.Common.{◌≡◌, inl, inr, ℕ, ℤ, Bool, true, false, not, List, [], ◌∷◌, ◌++◌, Some, refl, ap, ◌∙◌, subst, ⊎_elim}
use Rattle.std.{proofs.Common.{append-nil, append_assoc, rules}, proofs.lemmas.Bool.{false≢true, and_parts, cases_Bool}}
use Rattle.yq_core.{specs.Block.{ends_block, is_empty_line}, specs.declared.block_lines.TextIndent.TextIndent, specs.Text.is_empty}
use Rattle.yq_core.{specs.Alike.Alike, proofs.Alikes.alike_append}
use Rattle.yq_row_table.{specs.Gap.IsGap, specs.Grammar.{Limit, IsContent, IsRow, IsMarkerLine}}
use Rattle.yq_row_table.specs.Items.{Item, row_item, end_item, items_of_cut, items_text, Asked, nothing_asked, asked_by, asked_of}
use Rattle.yq_row_table.{specs.Items.AreRowItems, specs.Regions.{AreItemsIn, ended, IsReadAlone}, specs.Rows.{Content, Row, parent_indent}}
use Rattle.yq_row_table.{specs.Seams.{is_seam, TakesPlace}, proofs.AlikeRows.{marker_line_alike, row_alike, row_gap_alike, row_text_alike}}
use Rattle.yq_row_table.{proofs.ItemLaws.{items_joined, parts_are_items}, proofs.NothingLaws.{gap_other, some_after}}
use Rattle.yq_row_table.proofs.ItemCuts.{Ended, alone_read, cut_of_items, cut_of, last_items, no_last, no_marker}
use Rattle.yq_row_table.{proofs.seams.GapSeams.{gap_lines_of, lines_before}, proofs.seams.MarkerSeams.{marker_line_is, marker_seam}}
use Rattle.yq_row_table.{proofs.seams.SeamLaws.{plain_before, row_seam}, proofs.seams.FrontSeams.{closed_line, tail_any}}

-- a gap at the end of a text
ends_front : (keep : Bool) (f : TextIndent) (ls ms : List (List ℕ)) → ends_block keep f (ls ++ ms) ≡ true → ends_block keep f ls ≡ true
unfolding ends_block
ends_front keep f [] ms h = refl
ends_front keep f (l ∷ ls) ms h = ⊎_elim {0, 0, 0}
    (λ e. let more = and_parts (not keep) (ends_block keep f (ls ++ ms)) (rw e at h) in rw (more.0, ends_front keep f ls ms more.1) (rw e refl))
    (λ e. rw e (rw e at h))
    (cases_Bool (is_empty_line f l))

seam_cut : (n : ℤ) (c : Content) (gap t : List ℕ) → is_empty t ≡ false → IsGap gap t → IsContent n c (gap ++ t) → is_seam c (gap ++ []) ≡ true
seam_cut n c gap t h1 h2 h3 = search (rules, tail_any, some_after, lines_before, append-nil, gap_lines_of, ends_front)

row_cut : (limit : Limit) (r : Row) (gap t : List ℕ) → is_empty t ≡ false → IsGap gap t → IsGap gap [] → IsRow limit r (gap ++ t) → TakesPlace limit r (gap ++ t) r (gap ++ [])
row_cut limit r gap t some g last h = row_seam limit r (gap ++ t) (gap ++ []) h (seam_cut (parent_indent r) r.content gap t some g h.content) (plain_before (parent_indent r) r.content [] gap [] last refl)

-- a part's end without its marker
abbrev cut_end : List ℕ → List Item
cut_end gap = end_item gap [] ∷ []

abbrev LikeBefore : List Item → List ℕ → List ℕ → Type 0
LikeBefore [] t u = Unit {0}
LikeBefore (x ∷ xs) t u = Alike (Some false) t u

abbrev CutEnd : Asked → List Item → (gap marker : List ℕ) → List Item → Type 0
CutEnd asked xs gap marker back = AreRowItems asked (xs ++ cut_end gap) [] × LikeBefore xs (items_text (xs ++ (end_item gap marker ∷ back)) []) (items_text (xs ++ cut_end gap) [])

-- What comes after the items and in front of the marker.
pub record Before (gap marker : List ℕ) (back : List Item) : Type 0 where
  pub line : IsMarkerLine marker (items_text back [])
  pub some : is_empty (marker ++ items_text back []) ≡ false
  pub was : IsGap gap (marker ++ items_text back [])
  pub last : IsGap gap []

row_ended : (asked : Asked) (r : Row) (xs : List Item) (gap marker : List ℕ) (back : List Item) → Before gap marker back →
    IsRow asked.limit r (items_text (xs ++ (end_item gap marker ∷ back)) []) →
    LikeBefore xs (items_text (xs ++ (end_item gap marker ∷ back)) []) (items_text (xs ++ cut_end gap) []) →
    TakesPlace asked.limit r (items_text (xs ++ (end_item gap marker ∷ back)) []) r (items_text (xs ++ cut_end gap) [])
row_ended asked r [] gap marker back b h a = row_cut asked.limit r gap (marker ++ items_text back []) b.some b.was b.last h
row_ended asked r (x ∷ xs) gap marker back b h a = search (rules, row_alike, row_text_alike)

abbrev LineEnded : List ℕ → List ℕ → List ℕ → Type 0
LineEnded line t u = IsMarkerLine line u × Alike (Some false) (line ++ t) (line ++ u)

line_ended : (line : List ℕ) (xs : List Item) (gap marker : List ℕ) (back : List Item) → Before gap marker back →
    IsMarkerLine line (items_text (xs ++ (end_item gap marker ∷ back)) []) →
    LikeBefore xs (items_text (xs ++ (end_item gap marker ∷ back)) []) (items_text (xs ++ cut_end gap) []) →
    LineEnded line (items_text (xs ++ (end_item gap marker ∷ back)) []) (items_text (xs ++ cut_end gap) [])
line_ended line [] gap marker back b h a =
    let t = gap ++ (marker ++ items_text back []) in
    marker_seam line t (gap ++ []) h (closed_line line (gap ++ []) (marker_line_is line t h (some_after gap (marker ++ items_text back []) b.some)))
line_ended line (x ∷ xs) gap marker back b h a = search (rules, marker_line_alike, alike_append)

pub cut_items : (xs : List Item) (asked : Asked) (gap marker : List ℕ) (back : List Item) → Before gap marker back → AreRowItems asked (xs ++ (end_item gap marker ∷ back)) [] → CutEnd asked xs gap marker back
cut_items [] asked gap marker back b h = (((b.last, inr (refl, refl, refl)), tt), tt)
cut_items (row_item r ∷ xs) asked gap marker back b h =
    let more = cut_items xs (asked_by asked (row_item r)) gap marker back b h.1 in
    let one = row_ended asked r xs gap marker back b h.0.1 more.1 in
    (((h.0.0, one.row), more.0), one.alike)
cut_items (end_item g line ∷ xs) asked gap marker back b h =
    let t = items_text (xs ++ (end_item gap marker ∷ back)) [] in
    let u = items_text (xs ++ cut_end gap) [] in
    let more = cut_items xs (asked_by asked (end_item g line)) gap marker back b h.1 in
    ⊎_elim {0, 0, 0}
    (λ is.
    let kept : LineEnded line t u = line_ended line xs gap marker back b is more.1 in
    (((row_gap_alike g (line ++ t) (line ++ u) kept.1 h.0.0, inl kept.0), more.0), alike_append (Some false) g (line ++ t) (line ++ u) kept.1))
    (λ none. no_last xs (end_item gap marker) back [] (CutEnd asked (end_item g line ∷ xs) gap marker back) none.1)
    h.0.1

-- the end of a text, by itself
end_last : (gap rest : List ℕ) → is_empty rest ≡ false → IsGap gap rest → IsGap gap []
end_last gap rest some h = gap_other gap rest [] some h

end_ended : (xs : List Item) (gap : List ℕ) → Ended (xs ++ cut_end gap)
end_ended [] gap = inl (refl, refl)
end_ended (row_item r ∷ xs) gap = end_ended xs gap
end_ended (end_item g line ∷ xs) gap = inr (end_ended xs gap)

some_marker : (marker t : List ℕ) → IsMarkerLine marker t → is_empty (marker ++ t) ≡ false
some_marker marker t h = search (rules, false≢true, no_marker)

-- Items and the end of their part, without the line of its marker, read alone.
pub region_end : (xs back : List Item) (gap marker : List ℕ) → AreItemsIn (ended xs gap marker) back → IsReadAlone (ended xs gap []) []
region_end xs back gap marker s =
    let place : (xs ++ (end_item gap marker ∷ [])) ++ back ≡ xs ++ (end_item gap marker ∷ back) = append_assoc xs (end_item gap marker ∷ []) back in
    let own_items : items_of_cut s.cut ≡ s.front ++ (xs ++ (end_item gap marker ∷ back)) = s.items ∙ ap (λ l. s.front ++ l) place in
    let all : AreRowItems nothing_asked (s.front ++ (xs ++ (end_item gap marker ∷ back))) [] = subst (λ (l : List Item). AreRowItems nothing_asked l []) own_items (parts_are_items s.cut true s.is_cut.parts) in
    let asked = asked_of nothing_asked s.front in
    let after : AreRowItems asked (xs ++ (end_item gap marker ∷ back)) [] = items_joined s.front (xs ++ (end_item gap marker ∷ back)) nothing_asked [] all in
    let own = items_joined xs (end_item gap marker ∷ back) asked [] after in
    let mine : AreRowItems asked (xs ++ cut_end gap) [] = ⊎_elim {0, 0, 0}
    (λ line.
    let before : Before gap marker back =
    record {
      line = line;
      some = some_marker marker (items_text back []) line;
      was = own.0.0;
      last =
          end_last gap (marker ++ items_text back []) (some_marker marker (items_text back []) line) own.0.0;
    } in
    (cut_items xs asked gap marker back before after).0)
    (λ none. subst (λ (m : List ℕ). AreRowItems asked (xs ++ (end_item gap m ∷ [])) []) none.0 (subst (λ (l : List Item). AreRowItems asked (xs ++ (end_item gap marker ∷ l)) []) none.1 after))
    own.0.1 in
    record { cut = cut_of (xs ++ cut_end gap); read = alone_read (xs ++ cut_end gap) asked mine; text = (cut_of_items (xs ++ cut_end gap) asked mine).1; items = last_items (xs ++ cut_end gap) asked mine (end_ended xs gap) }
