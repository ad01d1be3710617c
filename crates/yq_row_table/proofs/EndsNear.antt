-- Ends of parts at their distance from the beginning of a text, as they are read, and each by its index.
use Rattle.std.proofs.Common.{rules, ◌≡◌, ℕ, zero, suc, ◌+◌, ◌-◌, ◌≤◌, Bool, true, List, [], ◌∷◌, ◌++◌, length, take, get_or, Option, Some}
use Rattle.std.{proofs.Common.{sym, ap, ◌∙◌, arith, append_assoc, length-append}, proofs.lemmas.List.Sums.sum_by-cons}
use Rattle.std.{proofs.lemmas.Option.{same_Some, slice_get_read, slice_get_within}, specs.List.{slice_get, sum_by}}
use Rattle.yq_core.{specs.Answers.◌>>=◌, specs.Text.is_empty}
use Rattle.yq_row_table.{specs.Ends.end_at, specs.Grammar.begins_document}
use Rattle.yq_row_table.specs.Items.{Item, row_item, end_item, rows_items, rows_in_items, bounds_in_items, view_of_items}
use Rattle.yq_row_table.{specs.Kept.{ends_near, ends_placed}, specs.Offsets.{Ends, row_length}, specs.RowStarts.{bound_length, part_end}}
use Rattle.yq_row_table.{specs.View.{Bound, slices}, specs.Reading.{read_cut_part, all_parts}}
use Rattle.yq_row_table.{specs.Rows.{Row, print_row, rows_text, Part, Cut, marked}, specs.declared.ends.EndPlace.EndPlace}
use Rattle.yq_row_table.{proofs.KeptLaws.print_then, proofs.NearLaws.{ReadMarked, next_place, part_apart}}
use Rattle.yq_row_table.{proofs.PartsLaws.{parts_last, parts_marked, part_takes}, proofs.SliceLaws.print-length}
use Rattle.yq_row_table.proofs.splices.SpliceTexts.{nil_before}

-- the end of a part, after its rows
ends_part : (n k : ℕ) (rs : List Row) (end marker : List ℕ) (xs : List Item) →
    ends_near n k (rows_items rs (end_item end marker ∷ xs)) ≡ end_at (n + length (rows_text rs [])) (k + length rs) end marker ∷ ends_near (n + length (rows_text rs (end ++ marker))) (k + length rs) xs
ends_part n k [] end marker xs = search rules
ends_part n k (r ∷ rs) end marker xs =
    let own = length (print_row r []) in
    search (rules, print_then, length-append, ends_part (n + own) (k + 1) rs end marker xs)

marked_ends : (es : List EndPlace) (n k : ℕ) (p : Part) (marker : List ℕ) (o : Option Cut) →
    ends_placed es n k (o >>= λ c. Some (marked p marker c)) ≡ ends_placed (es ++ end_at (n + length (rows_text p.rows [])) (k + length p.rows) p.end marker ∷ []) (n + length (rows_text p.rows (p.end ++ marker))) (k + length p.rows) o
marked_ends es n k p marker o = search (rules, ends_part, append_assoc)

-- where the end of a part begins
end_place : (whole t : List ℕ) (p : Part) (after : List ℕ) → Ends t whole → t ≡ rows_text p.rows (p.end ++ after) → length whole - length (p.end ++ after) ≡ (length whole - length t) + length (rows_text p.rows [])
end_place whole t p after h e = next_place whole t (rows_text p.rows []) (p.end ++ after) h (e ∙ nil_before p.rows (p.end ++ after))

-- The end of a part that was read, as the code keeps it.
pub record IsKeptEnd (whole t after marker rest : List ℕ) (rows : ℕ) (p : Part) (e : EndPlace) : Type 0 where
  pub ends : Ends t whole
  pub text : t ≡ rows_text p.rows (p.end ++ after)
  pub after_is : after ≡ marker ++ rest
  pub place : e ≡ end_at (length whole - length (p.end ++ (marker ++ rest))) (rows + length p.rows) p.end marker

pub kept_part : (started : Bool) (whole t after marker rest end : List ℕ) (rows count : ℕ) (p : Part) (e : EndPlace) → Ends t whole →
    read_cut_part started t ≡ Some (p, after) → end ≡ p.end → after ≡ marker ++ rest → count ≡ rows + length p.rows →
    e ≡ end_at (length whole - length (end ++ (marker ++ rest))) count end marker → IsKeptEnd whole t after marker rest rows p e
kept_part started whole t after marker rest end rows count p e ends read end_is after_is count_is place = record {
  ends = ends;
  text = (part_takes started t (p, after) read).text;
  after_is = after_is;
  place = place
      ∙ (ap (λ (l : List ℕ). end_at (length whole - length (l ++ (marker ++ rest))) count l marker) end_is
      ∙ ap (λ (n : ℕ). end_at (length whole - length (p.end ++ (marker ++ rest))) n p.end marker) count_is);
}

kept_end : (whole t after marker rest : List ℕ) (rows : ℕ) (p : Part) (e : EndPlace) → IsKeptEnd whole t after marker rest rows p e → e ≡ end_at ((length whole - length t) + length (rows_text p.rows [])) (rows + length p.rows) p.end marker
kept_end whole t after marker rest rows p e h = search (rules, end_place)

pub ends_placed_end : (es items : List EndPlace) (e : EndPlace) (whole t after : List ℕ) (k : ℕ) (started : Bool) (p : Part)
    (all : Option (List EndPlace)) → read_cut_part started t ≡ Some (p, after) → is_empty after ≡ true → IsKeptEnd whole t after [] after k p e →
    items ≡ es ++ e ∷ [] → ends_placed es (length whole - length t) k (all_parts started t) ≡ all → all ≡ Some items
ends_placed_end es items e whole t after k started p all h none kept pushed so_far =
    let n = length whole - length t in
    sym so_far
    ∙ (ap (ends_placed es n k) (parts_last started t (p, after) h none)
    ∙ (ap (λ l. Some (es ++ l)) (ends_part n k p.rows p.end [] [])
    ∙ (ap (λ (x : EndPlace). Some (es ++ x ∷ [])) (sym (kept_end whole t after [] after k p e kept)) ∙ ap Some (sym pushed))))

pub ends_placed_step : (es items : List EndPlace) (e : EndPlace) (whole : List ℕ) (started : Bool) (t after marker next : List ℕ) (k j : ℕ)
    (all : Option (List EndPlace)) → (m : ReadMarked started t after marker next) → IsKeptEnd whole t after marker next k m.part e →
    items ≡ es ++ e ∷ [] → j ≡ k + length m.part.rows → ends_placed es (length whole - length t) k (all_parts started t) ≡ all → ends_placed items (length whole - length next) j (all_parts (begins_document marker) next) ≡ all
ends_placed_step es items e whole started t after marker next k j all m kept pushed count so_far =
    let n = length whole - length t in
    let p = m.part in
    let text : t ≡ rows_text p.rows (p.end ++ marker) ++ next = kept.text ∙ (ap (λ (l : List ℕ). rows_text p.rows (p.end ++ l)) kept.after_is ∙ part_apart p marker next) in
    let size : length whole - length next ≡ n + length (rows_text p.rows (p.end ++ marker)) = next_place whole t (rows_text p.rows (p.end ++ marker)) next kept.ends text in
    let own = kept_end whole t after marker next k p e kept in
    ap (λ (i : ℕ). ends_placed items i j (all_parts (begins_document marker) next)) size
    ∙ (ap (λ (i : ℕ). ends_placed items (n + length (rows_text p.rows (p.end ++ marker))) i (all_parts (begins_document marker) next)) count
    ∙ (ap (λ (l : List EndPlace). ends_placed l (n + length (rows_text p.rows (p.end ++ marker))) (k + length p.rows) (all_parts (begins_document marker) next)) (pushed ∙ ap (λ (x : EndPlace). es ++ x ∷ []) own)
    ∙ (sym (marked_ends es n k p marker (all_parts (begins_document marker) next))
    ∙ (sym (ap (ends_placed es n k) (parts_marked started t (p, after) (marker, next) m.read m.some m.line)) ∙ so_far))))

-- an end by its index
abbrev end_in : ℕ → ℕ → ℕ → Bound → List Item → ℕ
end_in n k i b xs = n + (sum_by row_length (take (b.rows - k) (rows_in_items xs)) + sum_by bound_length (take i (bounds_in_items k xs)))

bound_least : (xs : List Item) (k i : ℕ) (b : Bound) → slice_get (bounds_in_items k xs) i ≡ Some b → k ≤ b.rows
bound_least [] k i b h = cc
bound_least (row_item r ∷ xs) k i b h = omega (arith, bound_least xs (k + 1) i b h)
bound_least (end_item gap marker ∷ xs) k zero b h = omega (arith, ap (λ (x : Bound). x.rows) (same_Some _ _ h))
bound_least (end_item gap marker ∷ xs) k (suc i) b h = bound_least xs k i b h

ends_at : (xs : List Item) (n k i : ℕ) (b : Bound) → slice_get (bounds_in_items k xs) i ≡ Some b → slice_get (ends_near n k xs) i ≡ Some (end_at (end_in n k i b xs) b.rows b.end b.marker)
ends_at [] n k i b h = cc
ends_at (row_item r ∷ xs) n k i b h =
    let index : b.rows - k ≡ suc (b.rows - (k + 1)) = omega (arith, bound_least xs (k + 1) i b h) in
    let rows = ap (λ (j : ℕ). sum_by row_length (take j (slices r ∷ rows_in_items xs))) index in
    let first = sum_by-cons row_length (slices r) (take (b.rows - (k + 1)) (rows_in_items xs)) in
    search (rules, print-length, ends_at xs (n + length (print_row r [])) (k + 1) i b h)
ends_at (end_item gap marker ∷ xs) n k zero b h = search (rules, same_Some)
ends_at (end_item gap marker ∷ xs) n k (suc i) b h =
    let first = sum_by-cons bound_length (record { rows = k; end = gap; marker = marker }) (take i (bounds_in_items k xs)) in
    search (rules, length-append, ends_at xs (n + length (gap ++ marker)) k i b h)

pub part_ends : (xs : List Item) (i : ℕ) (b : Bound) (e : EndPlace) → slice_get (bounds_in_items 0 xs) i ≡ Some b → e ≡ get_or (ends_near 0 0 xs) i e → e.start + e.gap ≡ part_end i b (view_of_items xs)
part_ends xs i b e there is =
    let near : slice_get (ends_near 0 0 xs) i ≡ Some (end_at (end_in 0 0 i b xs) b.rows b.end b.marker) = ends_at xs 0 0 i b there in
    search (rules, same_Some, slice_get_read, slice_get_within)
