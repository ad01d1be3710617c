-- After rows that were replaced by others of the same shapes, paths lead to the rows to which they led.
use Rattle.std.proofs.Common.{◌≡◌, inl, inr, ℕ, zero, suc, ◌+◌, ◌-◌, ◌≤◌, ◌<◌, nat_lt, Bool, true, false, not, ◌||◌, cond, List, [], ◌∷◌}
use Rattle.std.proofs.Common.{◌++◌, drop, length, take, map, Option, Some, None, option_map, refl, sym, ap, ◌∙◌, subst, arith, rules}
use Rattle.std.{proofs.lemmas.List.{drop-drop, length-map, length-take-le}, proofs.lemmas.Simd.map-map}
use Rattle.std.{proofs.lemmas.Option.{none-some, same_Some, slice_get-map, slice_get_within}, specs.List.slice_get}
use Rattle.yq_core.{specs.Answers.◌>>=◌, specs.Paths.{Step, node_at}, proofs.Bools.bind_some}
use Rattle.yq_outline.{specs.Ends.line_at_steps, specs.Outline.{anchored, head_or, value}, specs.Places.content_under}
use Rattle.yq_outline.{proofs.Finding.{FoundNode, path_node}, specs.Lines.{content_anchor, lines_of_rows}}
use Rattle.yq_row_table.{specs.Grammar.{begins_document, no_rows}, specs.Rows.{Row, Part, Cut, last, marked, part_text}}
use Rattle.yq_row_table.{specs.Splices.{after_part, nth_part}, proofs.splices.SpliceTexts.{own_gap, own_end}}
use Rattle.yq_documents.specs.Documents.{Document, begins_bare, document_parts, has_begin}
use Rattle.yq_documents.{specs.LinesInRows.{RowLine, one_row_later, row_line, row_line_of}, specs.PartNumbers.{number_from, part_number}}
use Rattle.yq_documents.{specs.Reading.{part_document, part_outline}, specs.TreeEdits.change_nth, proofs.PartNumberLaws.part_there}
use Rattle.yq_places.specs.PlacedRows.{PlacedPart, before_part, placed_at, placed_document}
use Rattle.yq_places.{specs.Placements.{RowsOfEntry, entry_rows_at, rows_of_entry}, proofs.PlacedPartLaws.map_some}
use Rattle.yq_places.proofs.RowLineSpans.{steps_row}
use Rattle.yq_edit_rules.{specs.Changed.{KeepsRows, put_document, put_part}, specs.Rooms.{RowShape, row_shape}}
use Rattle.yq_edit_rules.specs.RowStays.{LaterDocumentsStay, EntriesStay, ExchangesStay, HeadNodes, RowLinesStay, FollowingRowsStay}
use Rattle.yq_edit_rules.specs.RowStays.{StaysInRows, StaysFrom, StaysPlaced, IsAfter}
use Rattle.yq_edit_rules.{proofs.ChangedLaws.{document_put, first_stays, nth_changed}, proofs.FlowKeptLaws.one_other}
use Rattle.yq_edit_rules.{proofs.ShapeLaws.line_by_shape, proofs.PlacementMarks.{even_there, under_it}}
use Rattle.yq_edit_rules.proofs.UnderLaws.{line_is, line_with}

-- ---- rows of the same shapes

abbrev shapes : List Row → List RowShape
shapes rs = map row_shape rs

-- the dashes of rows
abbrev pub dashes_of : List Row → List (List ℕ)
dashes_of rs = map (λ (r : Row). r.dashes) rs

no_shapes : (r : Row) (rs : List Row) → [] ≡ shapes (r ∷ rs) → ⊥
no_shapes r rs e = absurd (cc)

shapes_dashes : (rs ss : List Row) → shapes ss ≡ shapes rs → dashes_of ss ≡ dashes_of rs
shapes_dashes rs ss e = sym (map-map (λ (y : RowShape). y.dashes) row_shape ss) ∙ (ap (map (λ (y : RowShape). y.dashes)) e ∙ map-map (λ (y : RowShape). y.dashes) row_shape rs)

no_dashes : (r : Row) (rs : List Row) → [] ≡ dashes_of (r ∷ rs) → ⊥
no_dashes r rs e = absurd (cc)

same_dashes : (x r : Row) (ss rs : List Row) → dashes_of (x ∷ ss) ≡ dashes_of (r ∷ rs) → x.dashes ≡ r.dashes
same_dashes x r ss rs e = cc

same_others : (x r : Row) (ss rs : List Row) → dashes_of (x ∷ ss) ≡ dashes_of (r ∷ rs) → dashes_of ss ≡ dashes_of rs
same_others x r ss rs e = cc

same_size : (rs ss : List Row) → shapes ss ≡ shapes rs → length ss ≡ length rs
same_size rs ss e = sym (length-map ss row_shape) ∙ (ap length e ∙ length-map rs row_shape)

-- what is the same from a row on is so from a later one on
drop_later : (n m : ℕ) (ss rs : List Row) → drop n ss ≡ drop n rs → n ≤ m → drop m ss ≡ drop m rs
drop_later n m ss rs same less =
    let size : m ≡ n + (m - n) = omega (arith, less) in
    (λ j. drop (size j) ss) ∙ (sym (drop-drop (m - n) n ss) ∙ (ap (drop (m - n)) same ∙ (drop-drop (m - n) n rs ∙ (λ j. drop (sym size j) rs))))

-- a line of a row after those that are others
row_line_stays : (n m : ℕ) (rs ss : List Row) (s : RowLine) → dashes_of ss ≡ dashes_of rs → drop n ss ≡ drop n rs → row_line m rs ≡ Some s → n ≤ s.before → row_line m ss ≡ Some s
row_line_stays zero m rs ss s e same is less = ap (row_line m) same ∙ is
row_line_stays (suc n) m [] ss s e same is less = absurd (none-some _ is)
row_line_stays (suc n) m (r ∷ rs) [] s e same is less = absurd (no_dashes r rs e)
row_line_stays (suc n) m (r ∷ rs) (x ∷ ss) s e same is less =
    ap (λ (l : ℕ). cond (nat_lt l m) (option_map one_row_later (row_line (m - suc l) ss)) (Some (record { before = 0; row = x; line = m }))) (ap length (same_dashes x r ss rs e))
    ∙ go (nat_lt (length r.dashes) m) (row_line (m - suc (length r.dashes)) rs) refl is (λ y. row_line_stays n (m - suc (length r.dashes)) rs ss y (same_others x r ss rs e) same)
  where
    go : (b : Bool) (o : Option RowLine) → row_line (m - suc (length r.dashes)) rs ≡ o → cond b (option_map one_row_later o) (Some (record { before = 0; row = r; line = m })) ≡ Some s →
        ((y : RowLine) → row_line (m - suc (length r.dashes)) rs ≡ Some y → n ≤ y.before → row_line (m - suc (length r.dashes)) ss ≡ Some y) →
        cond b (option_map one_row_later (row_line (m - suc (length r.dashes)) ss)) (Some (record { before = 0; row = x; line = m })) ≡ Some s
    go b o found there again = search (rules, arith, none-some, same_Some)

pub line_there : (n : ℕ) (o : Option ℕ) (rs ss : List Row) (s : RowLine) → dashes_of ss ≡ dashes_of rs → drop n ss ≡ drop n rs → (o >>= λ m. row_line m rs) ≡ Some s → n ≤ s.before → (o >>= λ m. row_line m ss) ≡ Some s
line_there n None rs ss s e same is less = absurd (none-some _ is)
line_there n (Some m) rs ss s e same is less = row_line_stays n m rs ss s e same is less

row_lines_stay : RowLinesStay
row_lines_stay n p q steps s stays is less =
    ap (λ (o : Option ℕ). o >>= λ m. row_line m q.rows) (line_by_shape p q stays.shapes steps) ∙ line_there n (line_at_steps steps (lines_of_rows p.rows)) p.rows q.rows s (shapes_dashes p.rows q.rows stays.shapes) stays.rows is less

-- ---- in a cut

pub keeps_rows : (rs ss : List Row) → shapes ss ≡ shapes rs → no_rows ss ≡ true → no_rows rs ≡ true
keeps_rows rs ss h1 h2 = search (rules, no_shapes)

number_stays : (is : Bool) (k i : ℕ) (q : Part) (c : Cut) → number_from is k (put_part i q c) ≡ number_from is k c
number_stays is k i q (last p) = refl
number_stays true zero zero q (marked p marker c) = refl
number_stays true (suc k) zero q (marked p marker c) = refl
number_stays false k zero q (marked p marker c) = refl
number_stays true zero (suc i) q (marked p marker c) = refl
number_stays true (suc k) (suc i) q (marked p marker c) = ap suc (number_stays (begins_document marker) k i q c)
number_stays false k (suc i) q (marked p marker c) = ap suc (number_stays (begins_document marker) k i q c)

before_put : (i : ℕ) (q : Part) (c : Cut) → before_part i (put_part i q c) ≡ before_part i c
before_put i q (last p) = refl
before_put zero q (marked p marker c) = refl
before_put (suc i) q (marked p marker c) = ap (λ (t : List ℕ). part_text p marker ++ t) (before_put i q c)

nth_put : (i : ℕ) (q : Part) (c : Cut) → nth_part i (put_part i q c) ≡ q
nth_put i q (last p) = refl
nth_put zero q (marked p marker c) = refl
nth_put (suc i) q (marked p marker c) = nth_put i q c

numbers_rise : (is : Bool) (k m : ℕ) (c : Cut) → k ≤ m → number_from is k c ≤ number_from is m c
numbers_rise is k m (last p) less = omega arith
numbers_rise true zero m (marked p marker c) less = omega arith
numbers_rise true (suc k) zero (marked p marker c) less = absurd (omega (arith, less))
numbers_rise true (suc k) (suc m) (marked p marker c) less = omega (arith, numbers_rise (begins_document marker) k m c (omega (arith, less)))
numbers_rise false k m (marked p marker c) less = omega (arith, numbers_rise (begins_document marker) k m c less)

past_other : (i j : ℕ) (q : Part) (c : Cut) → i ≤ j → after_part j (put_part i q c) ≡ after_part j c
past_other i j q (last p) less = refl
past_other (suc i) zero q (marked p marker c) less = absurd (omega (arith, less))
past_other (suc i) (suc j) q (marked p marker c) less = past_other i j q c (omega (arith, less))
past_other _ _ q _ less = refl

past_put : (i : ℕ) (q : Part) (c : Cut) → after_part i (put_part i q c) ≡ after_part i c
past_put i q c = past_other i i q c (omega arith)

nth_other : (k m : ℕ) (q : Part) (ps : List Part) → k < m → slice_get (change_nth k (λ x. q) ps) m ≡ slice_get ps m
nth_other k m q [] less = refl
nth_other zero (suc m) q (x ∷ ps) less = refl
nth_other (suc k) (suc m) q (x ∷ ps) less = nth_other k m q ps (omega (arith, less))
nth_other _ zero q (x ∷ ps) less = absurd (omega (arith, less))

-- document k with this part, between the texts that are around it
abbrev pub around : ℕ → Part → Cut → PlacedPart
around k p c = record { before = before_part (part_number k c) c; part = p; after = after_part (part_number k c) c }

pub there_then : (c : Cut) (k : ℕ) (p q : Part) → slice_get (document_parts c) k ≡ Some p → KeepsRows p q → slice_get (document_parts (put_document k q c)) k ≡ Some q
there_then c k p q there keeps = ap (λ (ps : List Part). slice_get ps k) (document_put c k p q there keeps) ∙ nth_changed k p q (document_parts c) there

-- a document with another part, in its place
pub placed_put : (c : Cut) (k : ℕ) (p q : Part) → slice_get (document_parts c) k ≡ Some p → KeepsRows p q → placed_document k (put_document k q c) ≡ Some (around k q c)
placed_put c k p q there keeps =
    let new : Cut = put_document k q c in
    let i : ℕ = part_number k c in
    let number : part_number k new ≡ i =
    ap (λ (b : Bool). number_from b k new) (first_stays c k p q there keeps) ∙ number_stays (begins_bare c || not (has_begin c)) k i q c in
    ap (option_map (λ (x : Part). placed_at (part_number k new) new)) (there_then c k p q there keeps)
    ∙ (ap (λ (j : ℕ). Some (placed_at j new)) number ∙ (λ j. Some (record { before = before_put i q c j; part = nth_put i q c j; after = past_put i q c j })))

-- From row number n on, a part has the rows of another one, and paths that lead to those lead there still.
pub record GoesOnAlike (n : ℕ) (p q : Part) : Type 0 where
  pub keeps : KeepsRows p q
  pub size : length q.rows ≡ length p.rows
  pub rows : drop n q.rows ≡ drop n p.rows
  pub end : q.end ≡ p.end
  pub lines : (steps : List Step) (s : RowLine) → row_line_of steps p.rows ≡ Some s → n ≤ s.before → row_line_of steps q.rows ≡ Some s

goes_on : (n : ℕ) (p q : Part) → StaysFrom n p q → GoesOnAlike n p q
goes_on n p q h = record { keeps = keeps_rows p.rows q.rows h.shapes; size = same_size p.rows q.rows h.shapes; rows = h.rows; end = h.end; lines = λ steps s is less. row_lines_stay n p q steps s h is less }

module _ (c : Cut) (k n : ℕ) (p q : Part) (there : slice_get (document_parts c) k ≡ Some p) (stays : GoesOnAlike n p q) where
  abbrev new : Cut
  new = put_document k q c

  abbrev i : ℕ
  i = part_number k c

  placed_old : placed_document k c ≡ Some (around k p c)
  placed_old = search (rules, part_there)

  placed_new : placed_document k new ≡ Some (around k q c)
  placed_new = placed_put c k p q there stays.keeps

  -- the rows of an item or entry after those that are others
  module _ (steps : List Step) (e : RowsOfEntry) (is : rows_of_entry k steps c ≡ Some e) (less : n ≤ length e.front) where
    found : (s : RowLine) × (row_line_of steps p.rows ≡ Some s) × (entry_rows_at (around k p c) s ≡ e)
    found =
        map_some (entry_rows_at (around k p c)) (row_line_of steps p.rows) e
        (sym (ap (λ (o : Option PlacedPart). o >>= λ d. option_map (entry_rows_at d) (row_line_of steps d.part.rows)) placed_old) ∙ is)

    abbrev s : RowLine
    s = found.0

    within : s.before < length p.rows
    within = slice_get_within p.rows s.before s.row (steps_row (line_at_steps steps (lines_of_rows p.rows)) p.rows s found.1)

    front_size : length e.front ≡ s.before
    front_size = sym (ap (λ (x : RowsOfEntry). length x.front) found.2) ∙ length-take-le s.before p.rows (omega (arith, within))

    later : drop (suc s.before) q.rows ≡ drop (suc s.before) p.rows
    later = drop_later n (suc s.before) q.rows p.rows stays.rows (omega (arith, less, front_size))

    rows_same : entry_rows_at (around k q c) s ≡ record (entry_rows_at (around k p c) s) { front = take s.before q.rows }
    rows_same = search (rules, later, stays.end)

    entry_stays : StaysInRows e k steps new
    entry_stays = record {
      start = before_part i c;
      front = take s.before q.rows;
      found = ap (λ (o : Option PlacedPart). o >>= λ d. option_map (entry_rows_at d) (row_line_of steps d.part.rows)) placed_new
          ∙ (ap (option_map (entry_rows_at (around k q c))) (stays.lines steps s found.1 (omega (arith, less, front_size)))
          ∙ (ap Some rows_same ∙ (λ j. Some (record (found.2 j) { start = before_part i c; front = take s.before q.rows }))));
      size = length-take-le s.before q.rows (omega (arith, within, stays.size)) ∙ sym front_size;
    }

  -- a later document
  placed_there : (m : ℕ) (d : PlacedPart) → placed_document m c ≡ Some d → k < m → placed_document m new ≡ Some (record { before = before_part (part_number m c) new; part = d.part; after = d.after })
  placed_there m d placed later = search (rules, placed, document_put, nth_other, first_stays, stays.keeps, number_stays, part_there, past_other, numbers_rise, later)

  pub later_placed : (m : ℕ) (d : PlacedPart) → placed_document m c ≡ Some d → k < m → StaysPlaced d m new
  later_placed m d placed later = record { start = before_part (part_number m c) new; found = placed_there m d placed later }

  -- the rows of an item or entry in a later document
  module _ (m : ℕ) (steps : List Step) (e : RowsOfEntry) (is : rows_of_entry m steps c ≡ Some e) (later : k < m) where
    other : (d : PlacedPart) × (placed_document m c ≡ Some d) × (option_map (entry_rows_at d) (row_line_of steps d.part.rows) ≡ Some e)
    other = bind_some (placed_document m c) is

    abbrev d : PlacedPart
    d = other.0

    abbrev start : List ℕ
    start = before_part (part_number m c) new

    line_there_still : (s : RowLine) × (row_line_of steps d.part.rows ≡ Some s) × (entry_rows_at d s ≡ e)
    line_there_still = map_some (entry_rows_at d) (row_line_of steps d.part.rows) e other.2

    other_stays : StaysInRows e m steps new
    other_stays = record {
      start = start;
      front = e.front;
      found = ap (λ (o : Option PlacedPart). o >>= λ x. option_map (entry_rows_at x) (row_line_of steps x.part.rows)) (placed_there m d other.1 later)
          ∙ (ap (option_map (entry_rows_at (record d { before = start }))) line_there_still.1 ∙ (λ u. Some (record (line_there_still.2 u) { start = start; front = (line_there_still.2 u).front })));
      size = refl;
    }

  -- the rows of an item or entry after those that are others
  pub later_entries : (m : ℕ) (steps : List Step) (e : RowsOfEntry) → rows_of_entry m steps c ≡ Some e → IsAfter k n m (length e.front) → StaysInRows e m steps new
  later_entries m steps e is (inl later) = other_stays m steps e is later
  later_entries m steps e is (inr same) =
      subst (λ (x : ℕ). StaysInRows e x steps new) same.0 (entry_stays steps e (ap (λ (x : ℕ). rows_of_entry x steps c) same.0 ∙ is) same.1)

documents_stay : LaterDocumentsStay
documents_stay c k n p q m d there stays placed later = later_placed c k n p q there (goes_on n p q stays) m d placed later

entries_stay : EntriesStay
entries_stay c k n p q m steps e there stays is later = later_entries c k n p q there (goes_on n p q stays) m steps e is later

-- ---- one more row

pub past_row : (front : List Row) (r : Row) (back : List Row) → drop (suc (length front)) (front ++ (r ∷ back)) ≡ back
past_row [] r back = refl
past_row (x ∷ front) r back = past_row front r back

exchanges_stay : ExchangesStay
exchanges_stay p front back r new are same = search (rules, own_gap, one_other, past_row, own_end)

-- ---- nodes

head_nodes : HeadNodes
head_nodes n t ts c e h there mark is =
    let row = under_it n t ts c e there mark in
    let line : line_with e.row e.row.content ≡ there.found.line = line_is there.part t ts e.front e.row e.under e.back row (even_there n t ts c e there mark) in
    ap (λ (o : Option Document). o >>= λ d. node_at (t ∷ ts) d.root) (slice_get-map part_document (document_parts c) n ∙ ap (option_map part_document) there.old.there)
    ∙ (path_node t ts (part_outline there.part)
    ∙ (ap FoundNode there.is ∙ ((λ j. Some (content_under (sym line j) there.found.under)) ∙ (λ j. Some (anchored (content_anchor e.row.content) (head_or (is j) (value there.found.under)))))))

pub rows_stay_there : FollowingRowsStay
rows_stay_there = record { lines = row_lines_stay; entries = entries_stay; documents = documents_stay; exchanges = exchanges_stay; nodes = head_nodes }
