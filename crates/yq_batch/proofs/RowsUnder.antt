-- Rows of a mapping, where one of them is exchanged for another one of its shape, or one more comes after them.
use Rattle.std.proofs.Common.{◌≡◌, ℕ, suc, ◌+◌, ◌*◌, ◌<◌, ◌≤◌, nat_lt, Bool, true, false, cond, ◌&&◌, List, [], ◌∷◌, ◌++◌, drop, length}
use Rattle.std.proofs.Common.{map, Some, refl, sym, ap, ◌∙◌, subst, arith, append_assoc, length-append}
use Rattle.std.{proofs.lemmas.List.{append_cancel_left, length-take-le, take-append-drop}, proofs.lemmas.Option.same_Some}
use Rattle.std.{specs.List.slice_get, proofs.lemmas.Bool.lt-ltb}
use mathlib.Core.List.{head-eq_of_cons-eq, tail-eq_of_cons-eq}
use Rattle.yq_core.{specs.Paths.Step, specs.Text.is_empty, proofs.Bools.bind_some}
use Rattle.yq_outline.{specs.Extents.dash_at, specs.Lines.line_mark, specs.Positions.has_no_mark, specs.RowWalk.{deeper_rows, line_level}}
use Rattle.yq_row_table.{specs.Rows.{Cut, Part, Row, cut_text, dashes_text, rows_text}, specs.View.{colon_of, last_dash, slices}}
use Rattle.yq_documents.{specs.Documents.document_parts, specs.LinesInRows.row_line_of, specs.Reading.read_at}
use Rattle.yq_places.{specs.PlacedRows.{PlacedPart, placed_document}, proofs.PlacedPartLaws.map_some}
use Rattle.yq_places.specs.Placements.{RowsOfEntry, entry_rows_at, is_alone, rows_of_entry}
use Rattle.yq_edit_rules.{specs.Rooms.{RowShape, row_shape}, specs.PlacementLaws.HasItsRows, proofs.PlacementRows.rows_located}
use Rattle.yq_edit_rules.{proofs.CommentRowLaws.rows_front, proofs.PlacedPartLaws.document_is_there_at}
use Rattle.yq_batch.{specs.RowEnds.AreMappingRows, proofs.RowOrder.StaysBefore, proofs.RowsBeforeOffset.split_front}

-- ---- how many rows are under another one

few_deeper : (n : ℕ) (rs : List Row) → deeper_rows n (map slices rs) ≤ length rs
few_deeper n [] = omega arith
few_deeper n (r ∷ rs) = go (nat_lt n (line_level 0 (slices r))) (few_deeper n rs)
  where
    go : (b : Bool) → deeper_rows n (map slices rs) ≤ length rs → cond b (suc (deeper_rows n (map slices rs))) 0 ≤ suc (length rs)
    go true h = omega (arith, h)
    go false h = omega arith

-- those that are found are so many
pub under_size : (m : ℕ) (steps : List Step) (d : Cut) (e : RowsOfEntry) → rows_of_entry m steps d ≡ Some e → deeper_rows (line_level e.line (slices e.row)) (map slices (e.under ++ e.back)) ≡ length e.under
under_size m steps d e is =
    let p = bind_some (placed_document m d) is in
    let x = map_some (entry_rows_at p.0) (row_line_of steps p.0.part.rows) e p.2 in
    let rs : List Row = drop (suc x.0.before) p.0.part.rows in
    let n : ℕ = deeper_rows (line_level x.0.line (slices x.0.row)) (map slices rs) in
    subst (λ (y : RowsOfEntry). deeper_rows (line_level y.line (slices y.row)) (map slices (y.under ++ y.back)) ≡ length y.under) x.2
    (ap (λ (ys : List Row). deeper_rows (line_level x.0.line (slices x.0.row)) (map slices ys)) (take-append-drop n rs) ∙ sym (length-take-le n rs (few_deeper _ rs)))

-- the level at which a line of a row begins, by its shape
abbrev shape_level : ℕ → RowShape → ℕ
shape_level k y =
    let ds = dashes_text y.dashes (last_dash y.mark) in
    3 * (y.column + dash_at k ds) + cond (nat_lt (dash_at k ds) (length ds)) 3 (cond (is_empty (colon_of y.mark)) 1 2)

pub level_by_shape : (k : ℕ) (r x : Row) → row_shape r ≡ row_shape x → line_level k (slices r) ≡ line_level k (slices x)
level_by_shape k r x h = ap (shape_level k) h

pub deeper_by_shapes : (n : ℕ) (rs xs : List Row) → map row_shape rs ≡ map row_shape xs → deeper_rows n (map slices rs) ≡ deeper_rows n (map slices xs)
deeper_by_shapes n [] [] e = refl
deeper_by_shapes n [] (x ∷ xs) e = absurd (cc)
deeper_by_shapes n (r ∷ rs) [] e = absurd (cc)
deeper_by_shapes n (r ∷ rs) (x ∷ xs) e =
    let h : row_shape r ≡ row_shape x = head-eq_of_cons-eq e in
    let again = deeper_by_shapes n rs xs (tail-eq_of_cons-eq e) in
    λ i. cond (nat_lt n (shape_level 0 (h i))) (suc (again i)) 0

-- one more after them
pub deeper_more : (n : ℕ) (us bs : List Row) (r : Row) → deeper_rows n (map slices (us ++ bs)) ≡ length us → n < line_level 0 (slices r) → deeper_rows n (map slices (us ++ (r ∷ bs))) ≡ length (us ++ (r ∷ []))
deeper_more n [] bs r none deep = ap (λ (b : Bool). cond b (suc (deeper_rows n (map slices bs))) 0) (lt-ltb n (line_level 0 (slices r)) deep) ∙ ap suc none
deeper_more n (u ∷ us) bs r are deep = go (nat_lt n (line_level 0 (slices u))) are (λ same. deeper_more n us bs r same deep)
  where
    go : (b : Bool) → cond b (suc (deeper_rows n (map slices (us ++ bs)))) 0 ≡ suc (length us) → (deeper_rows n (map slices (us ++ bs)) ≡ length us → deeper_rows n (map slices (us ++ (r ∷ bs))) ≡ length (us ++ (r ∷ []))) →
        cond b (suc (deeper_rows n (map slices (us ++ (r ∷ bs))))) 0 ≡ suc (length (us ++ (r ∷ [])))
    go true h again = ap suc (again (omega (arith, h)))
    go false h again = absurd (omega (arith, h))

pub same_split : {A : Type 0} (a b c d : List A) → a ++ b ≡ c ++ d → length a ≡ length c → (a ≡ c) × (b ≡ d)
same_split [] b [] d e size = (refl, e)
same_split [] b (y ∷ c) d e size = absurd (omega (arith, size))
same_split (x ∷ a) b [] d e size = absurd (omega (arith, size))
same_split (x ∷ a) b (y ∷ c) d e size =
    let h = same_split a b c d (tail-eq_of_cons-eq e) (omega (arith, size)) in
    (λ i. head-eq_of_cons-eq e i ∷ h.0 i, h.1)

-- An item or entry is there as it was but for the rows after its own, which are these then: they are under it if so many are deeper.
module _ (m : ℕ) (s : Step) (ss : List Step) (now : RowsOfEntry) (next : Cut) (read : read_at (cut_text next) ≡ Some next) (w : StaysBefore now m (s ∷ ss) next) (q : Part) (there : slice_get (document_parts next) m ≡ Some q)
    (us bs : List Row) (rows_are : q.rows ≡ now.front ++ (now.row ∷ (us ++ bs))) (deep : deeper_rows (line_level now.line (slices now.row)) (map slices (us ++ bs)) ≡ length us) where
  pub under_then : (w.now.under ≡ us) × (w.now.back ≡ bs)
  under_then =
      let is_located : HasItsRows m s ss next w.now = rows_located m s ss next w.now read w.found in
      let same : is_located.part ≡ q = same_Some _ _ (sym is_located.old.there ∙ there) in
      let rows : now.front ++ (now.row ∷ (w.now.under ++ w.now.back)) ≡ now.front ++ (now.row ∷ (us ++ bs)) =
      (λ i. sym w.front i ++ (sym w.row i ∷ (w.now.under ++ w.now.back))) ∙ (sym is_located.rows_are ∙ (ap (λ (p : Part). p.rows) same ∙ rows_are)) in
      let after : w.now.under ++ w.now.back ≡ us ++ bs = tail-eq_of_cons-eq (append_cancel_left now.front _ _ rows) in
      let size : length w.now.under ≡ length us =
      sym (under_size m (s ∷ ss) next w.now w.found) ∙ ((λ i. deeper_rows (line_level (w.line i) (slices (w.row i))) (map slices (after i))) ∙ deep) in
      same_split w.now.under w.now.back us bs after size

-- ---- one of them

-- A row between others is one of the first ones of as many (own).
pub record IsRowIn (front : List Row) (row : Row) (back first after : List Row) : Type 0 where
  pub mid : List Row
  pub first_is : first ≡ front ++ (row ∷ mid)
  pub back_is : back ≡ mid ++ after

pub row_in : (front : List Row) (row : Row) (back first after : List Row) → front ++ (row ∷ back) ≡ first ++ after → length front < length first → IsRowIn front row back first after
row_in front row back first after rows less = let g = split_front front (row ∷ back) first after rows (omega (arith, less)) in go g.0 g.1 g.2
  where
    go : (g : List Row) → first ≡ front ++ g → row ∷ back ≡ g ++ after → IsRowIn front row back first after
    go [] is rest = absurd (omega (arith, less, ap length is, length-append front []))
    go (x ∷ g) is rest = record { mid = g; first_is = is ∙ ap (λ (r : Row). front ++ (r ∷ g)) (sym (head-eq_of_cons-eq rest)); back_is = tail-eq_of_cons-eq rest }

-- entries are so with another one of the shape
pub entries_then : (column : ℕ) (us above below : List Row) (row new : Row) → AreMappingRows us column → us ≡ above ++ (row ∷ below) → row_shape new ≡ row_shape row → AreMappingRows (above ++ (new ∷ below)) column
entries_then column us [] below row new h is shape =
    let same : h.first ≡ row = head-eq_of_cons-eq (sym h.are ∙ is) in
    record {
      first = new;
      others = below;
      are = refl;
      marked = ap (λ (y : RowShape). is_empty y.dashes && has_no_mark (line_mark y.mark)) shape ∙ (ap is_alone (sym same) ∙ h.marked);
      column_is = ap (λ (y : RowShape). y.column) shape ∙ (ap (λ (r : Row). r.column) (sym same) ∙ h.column_is);
    }
entries_then column us (x ∷ above) below row new h is shape =
    let same : h.first ≡ x = head-eq_of_cons-eq (sym h.are ∙ is) in
    record { first = x; others = above ++ (new ∷ below); are = refl; marked = ap is_alone (sym same) ∙ h.marked; column_is = ap (λ (r : Row). r.column) (sym same) ∙ h.column_is }

-- and with one more
pub entries_more : (column : ℕ) (us : List Row) (new : Row) → AreMappingRows us column → AreMappingRows (us ++ (new ∷ [])) column
entries_more column us new h = record { first = h.first; others = h.others ++ (new ∷ []); are = ap (λ (rs : List Row). rs ++ (new ∷ [])) h.are; marked = h.marked; column_is = h.column_is }

-- ---- the text of rows of a document, and of those after them

pub rows_split : (m : ℕ) (d : Cut) (q : PlacedPart) (front back : List Row) → placed_document m d ≡ Some q → q.part.rows ≡ front ++ back →
    cut_text d ≡ (q.before ++ rows_text front []) ++ rows_text back (q.part.end ++ q.after)
rows_split m d q front back at are =
    (document_is_there_at d m q at).text
    ∙ (ap (λ (rs : List Row). q.before ++ rows_text rs (q.part.end ++ q.after)) are
    ∙ (ap (λ (t : List ℕ). q.before ++ t) (rows_front front back (q.part.end ++ q.after)) ∙ sym (append_assoc q.before (rows_text front []) (rows_text back (q.part.end ++ q.after)))))
