-- The law of regions: items between others, read alone.
use Rattle.std.proofs.Common.{◌≡◌, inl, ℕ, Bool, true, false, List, [], ◌∷◌, ◌++◌, Some, Result, refl, subst, ⊎_elim, append-nil, rules}
use Rattle.std.proofs.lemmas.Bool.{or_right}
use Rattle.yq_core.{specs.Answers.{Gives, ReadError}, specs.Block.ends_block, specs.declared.block_lines.TextIndent.TextIndent}
use Rattle.yq_core.{specs.Text.{is_line, text_lines}, specs.Alike.Alike, proofs.Alikes.alike_append}
use Rattle.yq_row_table.specs.Grammar.{Limit, IsRow, IsMarkerLine}
use Rattle.yq_row_table.specs.Items.{Item, row_item, end_item, items_text, Asked, nothing_asked, asked_by, asked_of, AreRowItems}
use Rattle.yq_row_table.{specs.Items.view_of_items, specs.Regions.{AreItemsIn, region_items, IsReadAlone}, specs.Slicing.read_view}
use Rattle.yq_row_table.{specs.Reading.all_parts, specs.Rows.{Content, Row, parent_indent}, specs.View.RowsView}
use Rattle.yq_row_table.specs.Seams.{is_closed, is_seam, TakesPlace}
use Rattle.yq_row_table.proofs.AlikeRows.{row_alike, row_gap_alike, row_text_alike, marker_line_alike}
use Rattle.yq_row_table.proofs.ItemCuts.{no_last, no_gap, cut_of, cut_of_items, alone_read, inner_items, last_items, cut_ended, back_ended}
use Rattle.yq_row_table.{proofs.ItemLaws.{items_joined, items_view_is, parts_are_items}, proofs.seams.MarkerSeams.marker_seam}
use Rattle.yq_row_table.proofs.seams.SeamLaws.{row_seam, plain_before}

-- a row at the end of a text
none_ends : (keep : Bool) (f : TextIndent) → ends_block keep f (text_lines []) ≡ true
unfolding text_lines ends_block
none_ends keep f = refl

closed_end : (tail : List ℕ) → is_closed tail [] ≡ true
closed_end tail = or_right (is_line tail) true refl

seam_end : (c : Content) → is_seam c [] ≡ true
seam_end c = search (rules, closed_end, none_ends)

row_end : (limit : Limit) (r : Row) (t : List ℕ) → IsRow limit r t → TakesPlace limit r t r []
row_end limit r t h = row_seam limit r t [] h (seam_end r.content) (plain_before (parent_indent r) r.content [] [] [] no_gap refl)

-- A text begins like that of items, if there are any.
abbrev BeginsLike : List ℕ → List Item → Type 0
BeginsLike t [] = Unit {0}
BeginsLike t (x ∷ xs) = Alike (Some false) t (items_text (x ∷ xs) [])

abbrev Shortened : Asked → List Item → List ℕ → Type 0
Shortened asked xs t = AreRowItems asked xs [] × BeginsLike t xs

row_short : (limit : Limit) (r : Row) (xs : List Item) (t : List ℕ) → IsRow limit r t → BeginsLike t xs → TakesPlace limit r t r (items_text xs [])
row_short limit r [] t h a = row_end limit r t h
row_short limit r (x ∷ xs) t h a = record { row = row_alike limit r t (items_text (x ∷ xs) []) a h; alike = row_text_alike r t (items_text (x ∷ xs) []) a }

abbrev MarkerShort : List ℕ → List ℕ → List ℕ → Type 0
MarkerShort marker t u = IsMarkerLine marker u × Alike (Some false) (marker ++ t) (marker ++ u)

marker_short : (marker : List ℕ) (xs : List Item) (t : List ℕ) → IsMarkerLine marker t → BeginsLike t xs → MarkerShort marker t (items_text xs [])
marker_short marker xs t h a = search (rules, marker_seam, closed_end, marker_line_alike, alike_append)

-- Items in front of others, alone.
pub shortened : (xs : List Item) (z : Item) (zs : List Item) (asked : Asked) (rest : List ℕ) → AreRowItems asked (xs ++ (z ∷ zs)) rest → Shortened asked xs (items_text (xs ++ (z ∷ zs)) rest)
shortened [] z zs asked rest h = (tt, tt)
shortened (row_item r ∷ xs) z zs asked rest h =
    let more = shortened xs z zs (asked_by asked (row_item r)) rest h.1 in
    let short = row_short asked.limit r xs (items_text (xs ++ (z ∷ zs)) rest) h.0.1 more.1 in
    (((h.0.0, short.row), more.0), short.alike)
shortened (end_item gap marker ∷ xs) z zs asked rest h =
    let t = items_text (xs ++ (z ∷ zs)) rest in
    let more = shortened xs z zs (asked_by asked (end_item gap marker)) rest h.1 in
    ⊎_elim {0, 0, 0}
    (λ line.
    let short = marker_short marker xs t line more.1 in
    (((row_gap_alike gap (marker ++ t) (marker ++ items_text xs []) short.1 h.0.0, inl short.0), more.0), alike_append (Some false) gap (marker ++ t) (marker ++ items_text xs []) short.1))
    (λ none. no_last xs z zs rest (Shortened asked (end_item gap marker ∷ xs) (gap ++ (marker ++ t))) none.1)
    h.0.1

-- The law of regions.
pub region : (xs back : List Item) → AreItemsIn xs back → IsReadAlone xs back
region xs [] s =
    let all : AreRowItems nothing_asked (s.front ++ (xs ++ [])) [] = subst (λ (l : List Item). AreRowItems nothing_asked l []) s.items (parts_are_items s.cut true s.is_cut.parts) in
    let own : xs ++ [] ≡ xs = append-nil xs in
    let asked = asked_of nothing_asked s.front in
    let mine : AreRowItems asked xs [] = subst (λ (l : List Item). AreRowItems asked l []) own (items_joined s.front (xs ++ []) nothing_asked [] all) in
    search (rules, back_ended, cut_ended, cut_of, alone_read, cut_of_items, last_items)
region xs (z ∷ zs) s =
    let all : AreRowItems nothing_asked (s.front ++ (xs ++ (z ∷ zs))) [] = subst (λ (l : List Item). AreRowItems nothing_asked l []) s.items (parts_are_items s.cut true s.is_cut.parts) in
    let asked = asked_of nothing_asked s.front in
    let after : AreRowItems asked (xs ++ (z ∷ zs)) [] = items_joined s.front (xs ++ (z ∷ zs)) nothing_asked [] all in
    search (rules, shortened, cut_of, alone_read, cut_of_items, inner_items)

pub read_alone : {X : Type 0} (v : X → RowsView) (t : List ℕ) (xs back : List Item) (r : Result X ReadError) → IsReadAlone xs back →
    t ≡ items_text xs [] → Gives v r (read_view (all_parts true t)) → Gives v r (Some (view_of_items (region_items xs back)))
read_alone v t xs back r law e g = search (rules, items_view_is)
