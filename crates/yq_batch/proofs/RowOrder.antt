-- What is in front of a row of a document: the text, and rows that stay where that row is exchanged.
use Rattle.std.proofs.Common.{◌≡◌, inl, inr, ℕ, suc, ◌+◌, ◌-◌, ◌<◌, ◌≤◌, nat_lt, Bool, true, false, cond, List, [], ◌∷◌, ◌++◌, length, take}
use Rattle.std.proofs.Common.{drop, Option, Some, None, option_map, refl, sym, ap, ◌∙◌, subst, arith, append_assoc, append-nil}
use Rattle.std.{proofs.Common.length-append, proofs.lemmas.Bool.{cases_lt, ltb-false}}
use Rattle.std.proofs.lemmas.List.{append_cancel_right, length-take-le, take-append-drop, take-append-le}
use Rattle.std.{proofs.lemmas.Option.{none-some, same_Some, slice_get_within}, specs.List.slice_get}
use mathlib.Core.List.{head-eq_of_cons-eq}
use Rattle.yq_core.{specs.Answers.◌>>=◌, specs.Paths.Step}
use Rattle.yq_outline.{specs.Ends.line_at_steps, specs.Lines.{lines_of_rows, row_lines}, specs.Outline.Line}
use Rattle.yq_row_table.{specs.Exchange.row_front, specs.Grammar.no_rows}
use Rattle.yq_row_table.{specs.Rows.{Cut, Part, Row, cut_text, part_text, print_row, rows_text}, specs.View.slices}
use Rattle.yq_row_table.{proofs.seams.SeamLaws.rows_text-append, proofs.splices.SpliceTexts.{own_end, own_gap}}
use Rattle.yq_row_table.specs.Splices.{after_part, first_gap, with_first_gap}
use Rattle.yq_documents.{specs.Documents.document_parts, specs.LinesInRows.{RowLine, one_row_later, row_line, row_line_of}}
use Rattle.yq_documents.{specs.PartNumbers.part_number, specs.Reading.read_at, proofs.PartNumberLaws.part_there}
use Rattle.yq_places.{specs.CommentPlaces.text_to_line_end, specs.PlacedRows.{PlacedPart, before_part, placed_at, placed_document}}
use Rattle.yq_places.specs.RowPieces.{anchor_before, space_before}
use Rattle.yq_places.specs.Placements.{RowsOfEntry, before_entry, entry_rows_at, held, rows_of_entry}
use Rattle.yq_places.{proofs.CommentEndLaws.row_text_parts, proofs.PlacedPartLaws.map_some, proofs.RemovalTexts.texts_then}
use Rattle.yq_places.{proofs.RowLineSpans.steps_row, proofs.UnderExchange.lines_append, proofs.UptoLaws.line_stays}
use Rattle.yq_edit_rules.{specs.Appends.inserted, specs.Changed.{KeepsRows, put_document}, specs.DocumentRows.after_document}
use Rattle.yq_edit_rules.{specs.Rooms.row_shape, specs.RowStays.StaysFrom, specs.PlacementLaws.HasItsRows, proofs.HeldLaws.front_is}
use Rattle.yq_edit_rules.{proofs.CommentRowLaws.rows_front, proofs.PlacedPartLaws.document_is_there_at}
use Rattle.yq_edit_rules.{proofs.RowStayLaws.{placed_put, rows_stay_there}, proofs.PlacementRows.rows_located}
use Rattle.yq_batch.{specs.OpenRows.head_front, proofs.OwnRowsStay.row_size, proofs.RowsBeforeOffset.split_front}

-- ---- the text in front

-- what is held comes after the rows in front, and before the end of its own row
held_within : (e : RowsOfEntry) → length (head_front e) + length (held e).head ≡ length (before_entry e) + length (text_to_line_end e.row)
held_within e =
    let b : List ℕ = before_entry e in
    let s = slices e.row in
    omega (
      arith,
      ap length (front_is b e.row),
      length-append b (text_to_line_end e.row),
      length-append ((b ++ row_front e.row) ++ anchor_before s) (space_before s ++ s.head),
      length-append (space_before s) s.head,
      length-append ((b ++ row_front e.row) ++ anchor_before s) (space_before s),
    )

-- and no earlier than these end
front_long : (x : RowsOfEntry) → length (before_entry x) ≤ length (head_front x)
front_long x =
    let b : List ℕ = before_entry x in
    omega (
      arith,
      length-append ((b ++ row_front x.row) ++ anchor_before (slices x.row)) (space_before (slices x.row)),
      length-append (b ++ row_front x.row) (anchor_before (slices x.row)),
      length-append b (row_front x.row),
    )

-- two items or entries of a document
module _ (m : ℕ) (s t : Step) (ss ts : List Step) (c : Cut) (e f : RowsOfEntry) (read : read_at (cut_text c) ≡ Some c) (at : rows_of_entry m (s ∷ ss) c ≡ Some e)
    (also : rows_of_entry m (t ∷ ts) c ≡ Some f) where
  one : HasItsRows m s ss c e
  one = rows_located m s ss c e read at

  other : HasItsRows m t ts c f
  other = rows_located m t ts c f read also

  same_part : one.part ≡ other.part
  same_part = same_Some _ _ (sym one.old.there ∙ other.old.there)

  same_start : e.start ≡ f.start
  same_start = append_cancel_right e.start f.start (part_text one.part (after_document m c)) (sym (one.put one.part) ∙ other.put one.part)

  rows : e.front ++ (e.row ∷ (e.under ++ e.back)) ≡ f.front ++ (f.row ∷ (f.under ++ f.back))
  rows = sym one.rows_are ∙ (ap (λ (p : Part). p.rows) same_part ∙ other.rows_are)

  -- one that doesn't come after another begins no later
  pub no_later : length e.front ≤ length f.front → length (head_front e) ≤ length (head_front f)
  no_later less =
      let h = split_front e.front (e.row ∷ (e.under ++ e.back)) f.front (f.row ∷ (f.under ++ f.back)) rows less in
      go h.0 h.1 h.2
    where
      go : (g : List Row) → f.front ≡ e.front ++ g → e.row ∷ (e.under ++ e.back) ≡ g ++ (f.row ∷ (f.under ++ f.back)) → length (head_front e) ≤ length (head_front f)
      go [] is there =
          let row : e.row ≡ f.row = head-eq_of_cons-eq there in
          let front : f.front ≡ e.front = is ∙ append-nil e.front in
          let same : head_front f ≡ head_front e =
          (λ i. (((sym same_start i ++ rows_text (front i) []) ++ row_front (sym row i)) ++ anchor_before (slices (sym row i))) ++ space_before (slices (sym row i))) in
          omega (arith, ap length same)
      go (x ∷ g) is there =
          let row : e.row ≡ x = head-eq_of_cons-eq there in
          omega (
            arith,
            held_within e,
            held_within f,
            ap (λ (rs : List Row). length (rows_text rs [])) is,
            ap (λ (l : List ℕ). length l) same_start,
            ap (λ (r : Row). length (print_row r (rows_text g []))) row,
            ap length (rows_text-append e.front (x ∷ g) []),
            ap length (texts_then e.front [] (rows_text (x ∷ g) [])),
            length-append (rows_text e.front []) (rows_text (x ∷ g) []),
            ap length (row_text_parts e.row (rows_text g [])),
            length-append (text_to_line_end e.row) ((slices e.row).tail ++ ((slices e.row).raw ++ rows_text g [])),
            length-append e.start (rows_text e.front []),
            length-append f.start (rows_text f.front []),
            front_long f,
          )

  -- one that begins before another one comes before it
  pub comes_before : length (head_front f) < length (head_front e) → length f.front < length e.front
  comes_before less = elim (cases_lt (length f.front) (length e.front)) [ inl is ↦ is | inr least ↦ absurd (omega (arith, less, no_later least)) ]

-- where the rows of an item or entry are in their document
pub entry_placed : (m : ℕ) (steps : List Step) (c : Cut) (e : RowsOfEntry) (q : PlacedPart) → rows_of_entry m steps c ≡ Some e → placed_document m c ≡ Some q → (e.start ≡ q.before) × (e.end ≡ q.part.end) × (e.after ≡ q.after)
entry_placed m steps c e q is at =
    let x = map_some (entry_rows_at q) (row_line_of steps q.part.rows) e (sym (ap (λ (o : Option PlacedPart). o >>= λ y. option_map (entry_rows_at y) (row_line_of steps y.part.rows)) at) ∙ is) in
    (sym (ap (λ (y : RowsOfEntry). y.start) x.2), sym (ap (λ (y : RowsOfEntry). y.end) x.2), sym (ap (λ (y : RowsOfEntry). y.after) x.2))

-- one that begins before the first rows of its document end is in one of these
pub begins_within : (m : ℕ) (s : Step) (ss : List Step) (c : Cut) (e : RowsOfEntry) (q : PlacedPart) (front back : List Row) →
    read_at (cut_text c) ≡ Some c → rows_of_entry m (s ∷ ss) c ≡ Some e → placed_document m c ≡ Some q → q.part.rows ≡ front ++ back →
    length (head_front e) < length (q.before ++ rows_text front []) → length e.front < length front
begins_within m s ss c e q front back read at placed rows_are less = elim (cases_lt (length e.front) (length front)) [
  | inl is ↦ is
  | inr least ↦
      let one : HasItsRows m s ss c e = rows_located m s ss c e read at in
      let same : one.part ≡ q.part = same_Some _ _ (sym one.old.there ∙ (document_is_there_at c m q placed).there) in
      let h = split_front front back e.front (e.row ∷ (e.under ++ e.back)) (sym rows_are ∙ (ap (λ (p : Part). p.rows) (sym same) ∙ one.rows_are)) least in
      absurd (omega (
        arith,
        less,
        front_long e,
        ap (λ (l : List ℕ). length l) (entry_placed m (s ∷ ss) c e q at placed).0,
        length-append e.start (rows_text e.front []),
        length-append q.before (rows_text front []),
        ap (λ (rs : List Row). length (rows_text rs [])) h.1,
        ap length (rows_front front h.0 []),
        length-append (rows_text front []) (rows_text h.0 []),
      ))
]

-- ---- rows in front of one that is exchanged

take_front : (j : ℕ) (front b d : List Row) → j ≤ length front → take j (front ++ d) ≡ take j (front ++ b)
take_front j front b d less = take-append-le j front d less ∙ sym (take-append-le j front b less)

-- a line of one of the first rows, whatever rows come after those
line_in_first_rows : (n : ℕ) (front b d : List Row) (s : RowLine) → row_line n (front ++ b) ≡ Some s → s.before < length front → row_line n (front ++ d) ≡ Some s
line_in_first_rows n [] b d s is less = absurd (omega (arith, less))
line_in_first_rows n (x ∷ front) b d s is less = go (nat_lt (length x.dashes) n) is (λ y is low. line_in_first_rows (n - suc (length x.dashes)) front b d y is low)
  where
    go : (t : Bool) → cond t (option_map one_row_later (row_line (n - suc (length x.dashes)) (front ++ b))) (Some (record { before = 0; row = x; line = n })) ≡ Some s →
        ((y : RowLine) → row_line (n - suc (length x.dashes)) (front ++ b) ≡ Some y → y.before < length front → row_line (n - suc (length x.dashes)) (front ++ d) ≡ Some y) →
        cond t (option_map one_row_later (row_line (n - suc (length x.dashes)) (front ++ d))) (Some (record { before = 0; row = x; line = n })) ≡ Some s
    go true e more =
        let y = map_some one_row_later (row_line (n - suc (length x.dashes)) (front ++ b)) s e in
        ap (option_map one_row_later) (more y.0 y.1 (omega (arith, less, ap (λ (z : RowLine). z.before) y.2))) ∙ ap Some y.2
    go false e more = e

-- which is one of the lines of these
line_low : (n : ℕ) (front b : List Row) (s : RowLine) → row_line n (front ++ b) ≡ Some s → s.before < length front → n < length (lines_of_rows front)
line_low n [] b s is less = absurd (omega (arith, less))
line_low n (x ∷ front) b s is less = go (nat_lt (length x.dashes) n) refl is (λ y is low. line_low (n - suc (length x.dashes)) front b y is low)
  where
    size : length (lines_of_rows (x ∷ front)) ≡ suc (length x.dashes) + length (lines_of_rows front)
    size = omega (arith, row_size x, length-append (row_lines x) (lines_of_rows front))

    go : (t : Bool) → nat_lt (length x.dashes) n ≡ t → cond t (option_map one_row_later (row_line (n - suc (length x.dashes)) (front ++ b))) (Some (record { before = 0; row = x; line = n })) ≡ Some s →
        ((y : RowLine) → row_line (n - suc (length x.dashes)) (front ++ b) ≡ Some y → y.before < length front → n - suc (length x.dashes) < length (lines_of_rows front)) →
        n < length (lines_of_rows (x ∷ front))
    go true long e more =
        let y = map_some one_row_later (row_line (n - suc (length x.dashes)) (front ++ b)) s e in
        omega (arith, size, more y.0 y.1 (omega (arith, less, ap (λ (z : RowLine). z.before) y.2)))
    go false few e more = omega (arith, size, ltb-false (length x.dashes) n few)

pub some_line : (o : Option ℕ) (rs : List Row) (s : RowLine) → (o >>= λ n. row_line n rs) ≡ Some s → (n : ℕ) × (o ≡ Some n) × (row_line n rs ≡ Some s)
some_line None rs s is = absurd (none-some _ is)
some_line (Some n) rs s is = (n, refl, is)

-- where a path leads to one of the first rows, it does so whatever rows come after those
pub path_in_first_rows : (steps : List Step) (front b d : List Row) (s : RowLine) → row_line_of steps (front ++ b) ≡ Some s → s.before < length front → row_line_of steps (front ++ d) ≡ Some s
path_in_first_rows steps front b d s is less =
    let x = some_line (line_at_steps steps (lines_of_rows (front ++ b))) (front ++ b) s is in
    let n : ℕ = x.0 in
    let low : n < length (lines_of_rows front) = line_low n front b s x.2 less in
    let size : length (take n (lines_of_rows front)) ≡ n = length-take-le n (lines_of_rows front) (omega (arith, low)) in
    go (take n (lines_of_rows front)) (drop n (lines_of_rows front)) (take-append-drop n (lines_of_rows front)) (subst (λ (k : ℕ). line_at_steps steps (lines_of_rows (front ++ b)) ≡ Some k) (sym size) x.1)
    (subst (λ (k : ℕ). row_line k (front ++ b) ≡ Some s) (sym size) x.2) (subst (λ (k : ℕ). k < length (lines_of_rows front)) (sym size) low)
  where
    go : (xs ys : List Line) → xs ++ ys ≡ lines_of_rows front → line_at_steps steps (lines_of_rows (front ++ b)) ≡ Some (length xs) → row_line (length xs) (front ++ b) ≡ Some s →
        length xs < length (lines_of_rows front) → row_line_of steps (front ++ d) ≡ Some s
    go xs [] parts there row low = absurd (omega (arith, low, ap length parts, length-append xs []))
    go xs (l ∷ ys) parts there row low =
        let lines : (rs : List Row) → lines_of_rows (front ++ rs) ≡ xs ++ (l ∷ (ys ++ lines_of_rows rs)) =
        λ rs. lines_append front rs ∙ (ap (λ (ls : List Line). ls ++ lines_of_rows rs) (sym parts) ∙ append_assoc xs (l ∷ ys) (lines_of_rows rs)) in
        ap (λ (o : Option ℕ). o >>= λ n. row_line n (front ++ d))
        (ap (line_at_steps steps) (lines d) ∙ line_stays steps xs l (ys ++ lines_of_rows b) (ys ++ lines_of_rows d) (ap (line_at_steps steps) (sym (lines b)) ∙ there))
        ∙ line_in_first_rows (length xs) front b d s row less

-- An item or entry is there as it was, but for what comes after its row.
pub record StaysBefore (e : RowsOfEntry) (m : ℕ) (steps : List Step) (d : Cut) : Type 0 where
  pub now : RowsOfEntry
  pub found : rows_of_entry m steps d ≡ Some now
  pub start : now.start ≡ e.start
  pub front : now.front ≡ e.front
  pub row : now.row ≡ e.row
  pub line : now.line ≡ e.line
  pub end : now.end ≡ e.end
  pub after : now.after ≡ e.after

-- a document has other rows after the first ones
module _ (d : Cut) (m : ℕ) (p q : Part) (front b c : List Row) (there : slice_get (document_parts d) m ≡ Some p) (rows_are : p.rows ≡ front ++ b) (rows_now : q.rows ≡ front ++ c) (end_now : q.end ≡ p.end) (keeps : KeepsRows p q) where
  pub stays_before : (steps : List Step) (e : RowsOfEntry) → rows_of_entry m steps d ≡ Some e → length e.front < length front → StaysBefore e m steps (put_document m q d)
  stays_before steps e is less =
      let i : ℕ = part_number m d in
      let old : PlacedPart = placed_at i d in
      let x : (s : RowLine) × (row_line_of steps p.rows ≡ Some s) × (entry_rows_at (record old { part = p }) s ≡ e) =
      map_some (entry_rows_at (record old { part = p })) (row_line_of steps p.rows) e
      (sym (ap (λ (o : Option PlacedPart). o >>= λ y. option_map (entry_rows_at y) (row_line_of steps y.part.rows)) placed_old) ∙ is) in
      let s : RowLine = x.0 in
      let line : row_line_of steps (front ++ b) ≡ Some s = ap (row_line_of steps) (sym rows_are) ∙ x.1 in
      let within : s.before < length (front ++ b) =
      slice_get_within (front ++ b) s.before s.row (steps_row (line_at_steps steps (lines_of_rows (front ++ b))) (front ++ b) s line) in
      let own : e.front ≡ take s.before (front ++ b) = sym (ap (λ (y : RowsOfEntry). y.front) x.2) ∙ ap (take s.before) rows_are in
      let low : s.before < length front = omega (arith, less, ap length own, length-take-le s.before (front ++ b) (omega (arith, within))) in
      let again : row_line_of steps q.rows ≡ Some s = ap (row_line_of steps) rows_now ∙ path_in_first_rows steps front b c s line low in
      let now : PlacedPart = record { before = before_part i d; part = q; after = after_part i d } in
      record {
        now = entry_rows_at now s;
        found = ap (λ (o : Option PlacedPart). o >>= λ y. option_map (entry_rows_at y) (row_line_of steps y.part.rows)) (placed_put d m p q there keeps) ∙ ap (option_map (entry_rows_at now)) again;
        start = ap (λ (y : RowsOfEntry). y.start) x.2;
        front = ap (take s.before) rows_now ∙ (take_front s.before front b c (omega (arith, low)) ∙ sym own);
        row = ap (λ (y : RowsOfEntry). y.row) x.2;
        line = ap (λ (y : RowsOfEntry). y.line) x.2;
        end = end_now ∙ ap (λ (y : RowsOfEntry). y.end) x.2;
        after = ap (λ (y : RowsOfEntry). y.after) x.2;
      }
    where
      placed_old : placed_document m d ≡ Some (record (placed_at (part_number m d) d) { part = p })
      placed_old =
          ap (option_map (λ (y : Part). placed_at (part_number m d) d)) there ∙ ap (λ (y : Part). Some (record (placed_at (part_number m d) d) { part = y })) (part_there d m p there)

-- ---- one row between others

module _ (p : Part) (front back : List Row) (new : Row) where
  pub one_rows : (inserted front (new ∷ []) back p).rows ≡ front ++ (new ∷ back)
  one_rows = ap (λ (rs : List Row). front ++ (new ∷ rs)) (own_gap back p.end)

  pub one_end : (inserted front (new ∷ []) back p).end ≡ p.end
  one_end = own_end back p.end

  pub one_keeps : KeepsRows p (inserted front (new ∷ []) back p)
  one_keeps none = absurd (some front back none)
    where
      some : (f rs : List Row) → no_rows (f ++ (new ∷ with_first_gap (first_gap back p.end) rs)) ≡ true → ⊥
      some [] rs e = absurd (cc)
      some (x ∷ f) rs e = absurd (cc)

-- ---- one row exchanged for another one of its shape

module _ (d : Cut) (m : ℕ) (p : Part) (front back : List Row) (r new : Row) (there : slice_get (document_parts d) m ≡ Some p) (rows_are : p.rows ≡ front ++ (r ∷ back)) (shape : row_shape new ≡ row_shape r) where
  abbrev pub q : Part
  q = inserted front (new ∷ []) back p

  pub others_stay : StaysFrom (suc (length front)) p q
  others_stay = rows_stay_there.exchanges p front back r new rows_are shape

  pub front_stays : (steps : List Step) (e : RowsOfEntry) → rows_of_entry m steps d ≡ Some e → length e.front < length front → StaysBefore e m steps (put_document m q d)
  front_stays = stays_before d m p q front (r ∷ back) (new ∷ back) there rows_are (one_rows p front back new) (one_end p front back new) (one_keeps p front back new)
