-- Searches for the step of a document, row by row.
use Rattle.yq_outline.{proofs.WalkRows.{rows_length, rows_agree}, specs.Lines.lines_of_rows, specs.RowWalk.{HasRows, line_level}}
use Rattle.yq_outline.{specs.declared.line_position.Stretch.Stretch, proofs.KnownLaws.{one_there, taken_more}, proofs.WalkLevels.RowsAgree}
use Rattle.std.proofs.Common.{rules, ◌≡◌, ℕ, zero, suc, ◌+◌, ◌-◌, ◌/◌, ◌%◌, ◌<◌, ◌≤◌, eqb, ltb, ◌&&◌, Bool, true, false, cond, List, []}
use Rattle.std.proofs.Common.{◌∷◌, ◌++◌, length, map, take, drop, Some, refl, sym, ap, ◌∙◌, subst, arith, drop_of_length-le, take-take}
use Rattle.std.{specs.List.slice_get, proofs.lemmas.List.{drop-take, drop-append-le, length-take-le, take-append-drop, take-map}}
use Rattle.std.{proofs.lemmas.Bool.ltb-true, proofs.lemmas.Option.slice_get_within}
use Rattle.yq_row_table.{specs.Rows.{Row, Cut}, specs.RowStarts.row_start, specs.View.{Slices, slices, RowsView, rows_view}}
use Rattle.yq_places.specs.StepReading.{begins_under_level, end_level, last_level, NoneBegins, searched_rows, IsSearched, BeginsThere}
use Rattle.yq_places.{specs.StepReading.StaysSearched, specs.Steps.{first_step, is_kind}, proofs.KnownFronts.rows_stay}
use Rattle.yq_places.{proofs.StepLaws.{step_after, step_here, steps_agrees, row_step}, specs.declared.places.steps.StepSearch.StepSearch}

-- ---- rows

none_front : (dashes : Bool) (a n : ℕ) (xs : List Slices) → NoneBegins dashes a xs → NoneBegins dashes a (take n xs)
none_front dashes a (suc n) (x ∷ xs) h = (h.0, none_front dashes (end_level x) n xs h.1)
none_front dashes a _ _ h = tt

none_more : (dashes : Bool) (a : ℕ) (xs : List Slices) (x : Slices) → NoneBegins dashes a xs → begins_under_level dashes (last_level a xs) (line_level 0 x) ≡ false → NoneBegins dashes a (xs ++ (x ∷ []))
none_more dashes a [] x h e = (e, tt)
none_more dashes a (y ∷ xs) x h e = (h.0, none_more dashes (end_level y) xs x h.1 e)

last_more : (a : ℕ) (xs : List Slices) (x : Slices) → last_level a (xs ++ (x ∷ [])) ≡ end_level x
last_more a [] x = refl
last_more a (y ∷ xs) x = last_more (end_level y) xs x

nothing_taken : (ss : List Slices) (n : ℕ) → drop n (take n ss) ≡ []
nothing_taken [] zero = refl
nothing_taken (s ∷ ss) (suc n) = nothing_taken ss n
nothing_taken _ _ = refl

-- a search that begins
pub search_begins : (dashes : Bool) (ss : List Slices) (n : ℕ) → IsSearched dashes ss (record { first = n; row = n; above = 0 })
search_begins dashes ss n = record { none = subst (NoneBegins dashes 0) (sym (nothing_taken ss n)) tt; above = sym (ap (last_level 0) (nothing_taken ss n)) }

-- the rows that it has passed, with one more
passed_more : (ss : List Slices) (k : StepSearch) (x : Slices) → k.first ≤ k.row → slice_get ss k.row ≡ Some x → drop k.first (take (k.row + 1) ss) ≡ searched_rows ss k ++ (x ∷ [])
passed_more ss k x order is =
    let within : k.row < length ss = slice_get_within ss k.row x is in
    ap (drop k.first) (taken_more ss k.row x is) ∙ drop-append-le k.first (take k.row ss) (x ∷ []) (omega (arith, order, length-take-le k.row ss (omega (arith, within))))

pub search_goes_on : (dashes : Bool) (ss : List Slices) (k : StepSearch) (x : Slices) (level : ℕ) → IsSearched dashes ss k → k.first ≤ k.row → slice_get ss k.row ≡ Some x → begins_under_level dashes k.above (line_level 0 x) ≡ false →
    level ≡ end_level x → IsSearched dashes ss (record { first = k.first; row = k.row + 1; above = level })
search_goes_on dashes ss k x level h order is other ends = search (rules, passed_more ss k x order is, none_more, last_more)

-- ---- a search that went less far

passed_less : (ss : List Slices) (k : StepSearch) (row : ℕ) → k.first ≤ row → row ≤ k.row → drop k.first (take row ss) ≡ take (row - k.first) (searched_rows ss k)
passed_less ss k row order less =
    let sum : k.first + (row - k.first) ≡ row = omega (arith, order) in
    ap (drop k.first) (sym (take-take row k.row ss less) ∙ ap (λ (n : ℕ). take n (take k.row ss)) (sym sum)) ∙ drop-take k.first (row - k.first) (take k.row ss)

none_less : (dashes : Bool) (ss : List Slices) (k : StepSearch) (row : ℕ) → IsSearched dashes ss k → k.first ≤ row → row ≤ k.row → NoneBegins dashes 0 (drop k.first (take row ss))
none_less dashes ss k row h order less = subst (NoneBegins dashes 0) (sym (passed_less ss k row order less)) (none_front dashes 0 (row - k.first) (searched_rows ss k) h.none)

-- to the document's first row, and to another one
pub search_anew : (dashes : Bool) (ss : List Slices) (k : StepSearch) (row : ℕ) → row ≡ k.first → IsSearched dashes ss (record { first = k.first; row = row; above = 0 })
search_anew dashes ss k row e = subst (λ (n : ℕ). IsSearched dashes ss (record { first = k.first; row = n; above = 0 })) (sym e) (search_begins dashes ss k.first)

pub search_less : (dashes : Bool) (ss : List Slices) (k : StepSearch) (before level : ℕ) (x : Slices) → IsSearched dashes ss k → k.first ≤ before → before + 1 ≤ k.row → slice_get ss before ≡ Some x → level ≡ end_level x →
    IsSearched dashes ss (record { first = k.first; row = before + 1; above = level })
search_less dashes ss k before level x h order less is ends =
    search (rules, arith, passed_more ss (record { first = k.first; row = before; above = 0 }) x order is, none_less, last_more)

-- ---- texts that keep what is in front

pub search_stays : (dashes : Bool) (s : RowsView) (k : StepSearch) (front : ℕ) → IsSearched dashes s.rows k → k.row < length s.rows → row_start k.row s < front → (c : Cut) → s ≡ rows_view c → StaysSearched dashes front c k
search_stays dashes s k front h within before c is new back touched =
    let stay = rows_stay c k.row front (subst (λ (x : RowsView). k.row < length x.rows) is within) (subst (λ (x : RowsView). row_start k.row x < front) is before) new back touched in
    search rules

-- ---- the step

none_step : (dashes : Bool) (a : ℕ) (rs qs : List Row) → RowsAgree rs → NoneBegins dashes a (map slices rs) → step_after dashes a (lines_of_rows (rs ++ qs)) ≡ step_after dashes (last_level a (map slices rs)) (lines_of_rows qs)
none_step dashes a [] qs t h = refl
none_step dashes a (r ∷ rs) qs t h = search (rules, step_after, row_step, none_step dashes (end_level (slices r)) rs qs t.1 h.1)

pub agree_front : (n : ℕ) (rs : List Row) → RowsAgree rs → RowsAgree (take n rs)
agree_front (suc n) (r ∷ rs) h = (h.0, agree_front n rs h.1)
agree_front _ _ h = tt

-- the step is that of the lines from where a search ended
pub searched_step : (s : RowsView) (d : Stretch) (h : HasRows s d) (dashes : Bool) (k : StepSearch) → k.first ≡ d.first → d.first ≤ k.row → k.row ≤ d.end → IsSearched dashes s.rows k →
    first_step (is_kind dashes) (lines_of_rows h.rows) ≡ step_after dashes k.above (lines_of_rows (drop (k.row - d.first) h.rows))
searched_step s d h dashes k first order within searched =
    let m : ℕ = k.row - d.first in
    let sum : d.first + m ≡ k.row = omega (arith, order) in
    let passed : searched_rows s.rows k ≡ map slices (take m h.rows) =
    (λ i. drop (first i) (take (sym sum i) s.rows))
    ∙ (drop-take d.first m s.rows
    ∙ (sym (take-take m (d.end - d.first) (drop d.first s.rows) (omega (arith, order, within))) ∙ (ap (take m) h.pieces ∙ take-map slices m h.rows)))
    in
    sym (steps_agrees dashes (lines_of_rows h.rows))
    ∙ (ap (λ (rs : List Row). step_after dashes 0 (lines_of_rows rs)) (sym (take-append-drop m h.rows))
    ∙ (none_step dashes 0 (take m h.rows) (drop m h.rows) (agree_front m h.rows (rows_agree h.limit h.rows h.end h.rest h.valid)) (subst (NoneBegins dashes 0) passed searched.none)
    ∙ ap (λ (a : ℕ). step_after dashes a (lines_of_rows (drop m h.rows))) (sym (ap (last_level 0) passed) ∙ sym searched.above)))

-- none was found
pub none_found : (s : RowsView) (d : Stretch) (h : HasRows s d) (dashes : Bool) (k : StepSearch) → k.first ≡ d.first → k.row ≡ d.end → IsSearched dashes s.rows k → 2 ≡ first_step (is_kind dashes) (lines_of_rows h.rows)
none_found s d h dashes k first end searched =
    let none : drop (k.row - d.first) h.rows ≡ [] = drop_of_length-le h.rows (omega (arith, end, rows_length s d h)) in
    sym (searched_step s d h dashes k first (omega (arith, h.order, end)) (omega (arith, end)) searched ∙ ap (λ (rs : List Row). step_after dashes k.above (lines_of_rows rs)) none)

-- one was found
pub one_found : (s : RowsView) (d : Stretch) (h : HasRows s d) (dashes : Bool) (k : StepSearch) (level : ℕ) → k.first ≡ d.first → d.first ≤ k.row → k.row < d.end → IsSearched dashes s.rows k → BeginsThere dashes s.rows k →
    ((x : Slices) → slice_get s.rows k.row ≡ Some x → level ≡ line_level 0 x) → (level - k.above) / 3 ≡ first_step (is_kind dashes) (lines_of_rows h.rows)
one_found s d h dashes k level first order within searched begins agrees =
    let r = one_there s.rows k.row (omega (arith, within, h.within)) in
    step_here s d h dashes k.row k.above level order within agrees (ap (begins_under_level dashes k.above) (agrees r.0 r.1) ∙ begins r.0 r.1)
    ∙ sym (searched_step s d h dashes k first order (omega (arith, within)) searched)

-- which is deeper than its key
pub found_deeper : (dashes : Bool) (ss : List Slices) (k : StepSearch) (level : ℕ) → k.row < length ss → BeginsThere dashes ss k → ((x : Slices) → slice_get ss k.row ≡ Some x → level ≡ line_level 0 x) → k.above ≤ level
found_deeper dashes ss k level within begins agrees =
    let r = one_there ss k.row within in
    let deep : ltb k.above (line_level 0 r.0) ≡ true = last_is (eqb (k.above % 3) 2) (eqb (line_level 0 r.0 % 3) (cond dashes 0 2)) (begins r.0 r.1) in
    omega (arith, ltb-true _ _ deep, agrees r.0 r.1)
  where
    last_is : (p q : Bool) {b : Bool} → (p && (q && b)) ≡ true → b ≡ true
    last_is p q h = search rules
