-- Where the entries of a mapping end, as the code finds it.
use Rattle.std.proofs.Common.{◌≡◌, ◌⊎◌, inl, inr, ℕ, zero, suc, ◌+◌, ◌*◌, ◌<◌, ◌≤◌, nat_lt, Bool, true, false, cond, List, [], ◌∷◌, ◌++◌}
use Rattle.std.proofs.Common.{drop, take, take_all, replicate, length, Some, option_map, refl, sym, ap, ◌∙◌, subst, arith, append_assoc}
use Rattle.std.{proofs.Common.{append-nil, length-append}, proofs.lemmas.Bool.cases_lt, proofs.Math.Seq.drop-append_seam}
use Rattle.std.{proofs.lemmas.Option.same_Some, proofs.lemmas.Str.IsCharBoundary-at_seam, specs.Str.{IsCharBoundary, IsUtf8}}
use Rattle.yq_core.{specs.Paths.Step, specs.Text.is_empty, proofs.Bools.bind_some}
use Rattle.yq_outline.{specs.declared.line_position.Position.Position, specs.Extents.dash_at, specs.Outline.null_node}
use Rattle.yq_outline.{specs.RowWalk.{line_level, line_rank}, proofs.WalkLevels.to_dash}
use Rattle.yq_row_table.specs.Rows.{Cut, Part, Row, RowMark, after_columns, cut_text, dashes_text, mark_column, print_row, rows_text}
use Rattle.yq_row_table.specs.View.{Slices, last_dash, slices}
use Rattle.yq_documents.{specs.LinesInRows.{document_row, row_line_at}, specs.Located.steps_of, specs.Reading.{cut_of, read_at}}
use Rattle.yq_documents.specs.declared.path.Path.{Path}
use Rattle.yq_places.{specs.PlacedRows.{PlacedPart, placed_document}, specs.RowLineReading.position_in}
use Rattle.yq_places.specs.Placements.{Held, LinesIn, MarkPieces, RowsOfEntry, before_entry, after_entry, compact, compact_lines}
use Rattle.yq_places.specs.Placements.{entry_placement, held, is_alone, root, root_lines, root_placement, rows_of_entry, placement_at}
use Rattle.yq_places.{specs.Placements.{under, Placement}, proofs.DashLaws.line_within, proofs.PlacedPartLaws.map_some}
use Rattle.yq_edit_rules.{specs.PlacementLaws.HasItsRows, proofs.AppendPlaces.kept_pieces}
use Rattle.yq_edit_rules.{proofs.CommentRowLaws.{entry_is_row, entry_row, rows_front}, proofs.PlacedPartLaws.document_is_there_at}
use Rattle.yq_edit_rules.proofs.PlacementRows.{rows_located}
use Rattle.yq_edit_laws.{proofs.CollectionRows.columns_are, proofs.CutLaws.text_read}
use Rattle.yq_edit_laws.{proofs.LinesAppends.{compact_text_ended, root_text_ended}, proofs.UnderAppends.text_ended}
use Rattle.yq_batch.specs.RowEnds.{AreMappingRows, EndOfEntries, EndsAfterRows, EndsHere, EndsLineAt, HasNoHead, IsAfterDash, IsEndAt}
use Rattle.yq_batch.{specs.RowEnds.{IsEndIn, IsUnderMark}, specs.declared.row_ends.EntriesEnd.EntriesEnd, proofs.RowEndLaws.adds}
use Rattle.yq_batch.{proofs.RowOrder.entry_placed, proofs.RowHeadLaws.row_number, proofs.RowsUnder.rows_split}
use Rattle.yq_batch.proofs.EntryShapes.{entry_by, root_by}
use Rattle.yq_row_table.specs.Rows as rows

-- ---- what is under a key or dash, by what is at it

is_under : (e : RowsOfEntry) (h : Held) (column : ℕ) → entry_placement e ≡ under h column → HasNoHead e × AreMappingRows e.under column × (held e ≡ h)
is_under e h column =
    entry_by e (λ (x : Placement). x ≡ under h column → HasNoHead e × AreMappingRows e.under column × (held e ≡ h)) (λ bare is same. absurd (cc)) (λ bare r rs is one same. absurd (cc))
    (λ bare r rs is more same. (bare, record { first = r; others = rs; are = is; marked = more; column_is = cc }, cc)) (λ head same. absurd (cc)) (λ indent same. absurd (cc)) (λ dash same. absurd (cc))

-- ---- how deep it is

few_ranks : (k : ℕ) (s : Slices) → line_rank k s ≤ 3
few_ranks k s = go (nat_lt (dash_at k s.dashes) (length s.dashes)) (is_empty s.colon)
  where
    go : (b d : Bool) → cond b 3 (cond d 1 2) ≤ 3
    go true d = omega arith
    go false true = omega arith
    go false false = omega arith

dash_or_none : (m : RowMark) → (last_dash m ≡ []) ⊎ ((u : List ℕ) × (last_dash m ≡ 45 ∷ u))
dash_or_none rows.Bare = inl refl
dash_or_none rows.Dash = inr ([], refl)
dash_or_none (rows.Key key colon) = inl refl

-- by the dashes before its line
line_deep : (e : RowsOfEntry) → e.line ≤ length e.row.dashes → line_level e.line (slices e.row) ≤ 3 * (e.row.column + length (dashes_text (take e.line e.row.dashes) [])) + 3
line_deep e less =
    let at : dash_at e.line (dashes_text e.row.dashes (last_dash e.row.mark)) ≡ length (dashes_text (take e.line e.row.dashes) []) = to_dash e.line e.row.dashes (last_dash e.row.mark) less (dash_or_none e.row.mark) in
    omega (arith, at, few_ranks e.line (slices e.row))

mark_deep : (e : RowsOfEntry) (column : ℕ) → e.line ≡ length e.row.dashes → mark_column e.row < column → line_level e.line (slices e.row) < 3 * column + 2
mark_deep e column last less =
    let all : take e.line e.row.dashes ≡ e.row.dashes = take_all e.line e.row.dashes (omega (arith, last)) in
    omega (arith, less, line_deep e (omega (arith, last)), ap (λ (ns : List ℕ). length (dashes_text ns [])) all, columns_are e.row.column e.row.dashes)

more_dashes : (k : ℕ) (ns : List ℕ) → k < length ns → length (dashes_text (take k ns) []) < length (dashes_text (take (suc k) ns) [])
more_dashes k [] less = absurd (omega (arith, less))
more_dashes zero (n ∷ ns) less = omega arith
more_dashes (suc k) (n ∷ ns) less =
    omega (arith, more_dashes k ns (omega (arith, less)), length-append (replicate n 32) (dashes_text (take k ns) []), length-append (replicate n 32) (dashes_text (take (suc k) ns) []))

dash_deep : (e : RowsOfEntry) → e.line < length e.row.dashes → line_level e.line (slices e.row) < 3 * after_columns e.row.column (take (suc e.line) e.row.dashes) + 2
dash_deep e less = omega (arith, line_deep e (omega (arith, less)), more_dashes e.line e.row.dashes less, columns_are e.row.column (take (suc e.line) e.row.dashes))

-- ---- in a text

-- the end of a mapping, where it ends with a line
module _ (t : List ℕ) (n : ℕ) (z : EndOfEntries) (read : read_at t ≡ Some (cut_of t)) (q : PlacedPart) (placed : placed_document n (cut_of t) ≡ Some q) (front back : List Row) (rows_are : q.part.rows ≡ front ++ back)
    (ends : EndsAfterRows n z.steps z (cut_of t) front back) (text : List ℕ) (line : q.before ++ rows_text front [] ≡ text ++ (10 ∷ [])) (size : z.at + length (rows_text back (q.part.end ++ q.after)) ≡ length t) where
  abbrev c : Cut
  c = cut_of t

  abbrev rest : List ℕ
  rest = rows_text back (q.part.end ++ q.after)

  abbrev before : List ℕ
  before = q.before ++ rows_text front []

  all : cut_text c ≡ t
  all = text_read t c read

  again : read_at (cut_text c) ≡ Some c
  again = ap read_at all ∙ read

  parts : cut_text c ≡ before ++ rest
  parts = rows_split n c q front back placed rows_are

  here : EndsHere z n c rest
  here = record {
    placed = q;
    there = placed;
    front = front;
    back = back;
    rows_are = rows_are;
    ends = ends;
    after = refl;
    text = text;
    ended = parts ∙ (ap (λ (l : List ℕ). l ++ rest) line ∙ append_assoc text (10 ∷ []) rest);
  }

  place : z.at ≡ length before
  place = omega (arith, size, ap length all, ap length parts, length-append before rest)

  utf8 : IsUtf8 rest
  utf8 = let a = adds z n c rest again here [] null_node in subst IsUtf8 a.after (kept_pieces n z.steps c a.x again a.place).1.utf8

  pub known : IsEndIn c n z
  known = record {
    here = subst (EndsHere z n c) (sym ((λ i. drop (place i) (parts i)) ∙ drop-append_seam before rest)) here;
    within = omega (arith, size, ap length all);
    edge = subst (IsCharBoundary (cut_text c)) (sym place) (IsCharBoundary-at_seam (cut_text c) before rest parts utf8);
  }

-- a mapping that an item or entry holds
module _ (t : List ℕ) (p : Path) (s : Step) (ss : List Step) (steps : steps_of p ≡ s ∷ ss) (read : read_at t ≡ Some (cut_of t)) (e : RowsOfEntry)
    (found : rows_of_entry p.doc (s ∷ ss) (cut_of t) ≡ Some e) (w : EntriesEnd) (w_path : w.path.now ≡ p) where
  abbrev cut : Cut
  cut = cut_of t

  abbrev pub end_of : (first : ℕ) → EndOfEntries
  end_of first = record { steps = s ∷ ss; first = first; column = w.column; at = w.at }

  pub end_known : (first : ℕ) → IsUnderMark (end_of first) e ⊎ IsAfterDash (end_of first) e → line_level e.line (slices e.row) < 3 * w.column + 2 →
      (text : List ℕ) → before_entry e ++ print_row e.row (rows_text e.under []) ≡ text ++ (10 ∷ []) → w.at + length (after_entry e) ≡ length t →
      ((k : ℕ) → w.first ≤ document_row p.doc cut + k → first ≤ k) → (z : EndOfEntries) × IsEndAt cut w.path.now.doc w z
  end_known first place deep text ended size later =
      let again : read_at (cut_text cut) ≡ Some cut = ap read_at (text_read t cut read) ∙ read in
      let q = bind_some (placed_document p.doc cut) found in
      let own = entry_placed p.doc (s ∷ ss) cut e q.0 found q.1 in
      let is_located : HasItsRows p.doc s ss cut e = rows_located p.doc s ss cut e again found in
      let part : is_located.part ≡ q.0.part = same_Some _ _ (sym is_located.old.there ∙ (document_is_there_at cut p.doc q.0 q.1).there) in
      let before : q.0.before ++ rows_text (e.front ++ (e.row ∷ e.under)) [] ≡ before_entry e ++ print_row e.row (rows_text e.under []) =
      (λ i. sym own.0 i ++ rows_front e.front (e.row ∷ e.under) [] i) ∙ sym (append_assoc e.start (rows_text e.front []) (print_row e.row (rows_text e.under []))) in
      let after : after_entry e ≡ rows_text e.back (q.0.part.end ++ q.0.after) = λ i. rows_text e.back (own.1 i ++ own.2 i) in
      subst (λ (o : Path). (z : EndOfEntries) × IsEndAt cut o.doc w z) (sym w_path) (
        end_of first,
        record {
          document = ap (λ (o : Path). o.doc) w_path;
          known = known t p.doc (end_of first) read q.0 q.1 (e.front ++ (e.row ∷ e.under)) e.back
              (ap (λ (x : Part). x.rows) (sym part) ∙ (is_located.rows_are ∙ sym (append_assoc e.front (e.row ∷ e.under) e.back)))
              (record { entry = e; found = found; place = place; deep = deep; front_is = refl; back_is = refl }) text (before ∙ ended) (omega (arith, size, ap length after));
          steps = ap steps_of w_path ∙ steps;
          first = later;
          at = refl;
          column = refl;
        },
      )

-- a root is nothing that an item or entry holds
no_entry_root : (q : PlacedPart) (rs : List Row) (h : Held) (column : ℕ) → root_placement q rs ≡ under h column → ⊥
no_entry_root q rs h column = root_by q (λ (x : Placement). x ≡ under h column → ⊥) rs (λ w same. cc) (λ r us are one same. cc) (λ r us are more same. cc)

no_dash_root : (q : PlacedPart) (rs : List Row) (k : MarkPieces) (column : ℕ) (l : LinesIn) → root_placement q rs ≡ compact k column l → ⊥
no_dash_root q rs k column l = root_by q (λ (x : Placement). x ≡ compact k column l → ⊥) rs (λ w same. cc) (λ r us are one same. cc) (λ r us are more same. cc)

-- what the code tells of the end of a mapping under a key or dash
pub under_there : (t : List ℕ) (p : Path) (steps : List Step) (x : Position) (h : Held) (w : EntriesEnd) → steps_of p ≡ steps → read_at t ≡ Some (cut_of t) → placement_at p.doc steps (cut_of t) ≡ Some (under h w.column) →
    Some x ≡ option_map (position_in (document_row p.doc (cut_of t))) (row_line_at p (cut_of t)) →
    h.mark.column < w.column → w.path.now ≡ p → w.first ≡ suc x.row → EndsLineAt t h.last h.after w.at → (z : EndOfEntries) × IsEndAt (cut_of t) w.path.now.doc w z
under_there t p [] x h w steps read at line less path first ends =
    let q = map_some (λ (y : PlacedPart). root_placement y y.part.rows) (placed_document p.doc (cut_of t)) (under h w.column) at in absurd (no_entry_root q.0 q.0.part.rows h w.column q.2)
under_there t p (s ∷ ss) x h w steps read at line less path first ends =
    let c : Cut = cut_of t in
    let again : read_at (cut_text c) ≡ Some c = ap read_at (text_read t c read) ∙ read in
    let e = map_some entry_placement (rows_of_entry p.doc (s ∷ ss) c) (under h w.column) at in
    let found = is_under e.0 h w.column e.2 in
    let same : held e.0 ≡ h = found.2 in
    let ended = text_ended p.doc s ss c e.0 found.1.first found.1.others again e.1 found.1.are found.1.marked (ap (λ (y : Held). is_empty y.last) same ∙ ends.0) in
    let row = row_number c p e.0 x (ap (λ (us : List Step). rows_of_entry p.doc us c) steps ∙ e.1) line in
    end_known t p s ss steps read e.0 e.1 w path (suc (length e.0.front)) (inl (record { first = refl; bare = found.0; entries = found.1 }))
    (mark_deep e.0 w.column found.0.last (omega (arith, less, ap (λ (y : Held). y.mark.column) same))) ended.0 ended.1 (omega (arith, ends.1, ap (λ (y : Held). length y.after) same))
    (λ k later. omega (arith, later, first, row))

-- a collection begins after the dash of an item
dash_by : (e : RowsOfEntry) (k : MarkPieces) (column : ℕ) (l : LinesIn) → entry_placement e ≡ compact k column l → (e.line ≡ length e.row.dashes → ⊥)
    × (after_columns e.row.column (take (suc e.line) e.row.dashes) ≡ column) × (compact_lines e ≡ l)
dash_by e k column l =
    entry_by e (λ (x : Placement). x ≡ compact k column l → (e.line ≡ length e.row.dashes → ⊥) × (after_columns e.row.column (take (suc e.line) e.row.dashes) ≡ column) × (compact_lines e ≡ l))
    (λ bare is same. absurd (cc)) (λ bare r rs is one same. absurd (cc)) (λ bare r rs is more same. absurd (cc)) (λ head same. absurd (cc)) (λ indent same. absurd (cc)) (λ dash same. (dash, cc, cc))

-- what the code tells of the end of one
pub dash_there : (t : List ℕ) (p : Path) (steps : List Step) (x : Position) (k : MarkPieces) (l : LinesIn) (w : EntriesEnd) → steps_of p ≡ steps →
    read_at t ≡ Some (cut_of t) → placement_at p.doc steps (cut_of t) ≡ Some (compact k w.column l) →
    Some x ≡ option_map (position_in (document_row p.doc (cut_of t))) (row_line_at p (cut_of t)) →
    w.path.now ≡ p → w.first ≡ x.row → EndsLineAt t l.last l.after w.at → (z : EndOfEntries) × IsEndAt (cut_of t) w.path.now.doc w z
dash_there t p [] x k l w steps read at line path first ends =
    let q = map_some (λ (y : PlacedPart). root_placement y y.part.rows) (placed_document p.doc (cut_of t)) (compact k w.column l) at in absurd (no_dash_root q.0 q.0.part.rows k w.column l q.2)
dash_there t p (s ∷ ss) x k l w steps read at line path first ends =
    let c : Cut = cut_of t in
    let again : read_at (cut_text c) ≡ Some c = ap read_at (text_read t c read) ∙ read in
    let e = map_some entry_placement (rows_of_entry p.doc (s ∷ ss) c) (compact k w.column l) at in
    let is = dash_by e.0 k w.column l e.2 in
    let most : e.0.line ≤ length e.0.row.dashes = line_within p.doc (s ∷ ss) c (entry_row e.0) (entry_is_row p.doc (s ∷ ss) c e.0 e.1) in
    let less : e.0.line < length e.0.row.dashes = less_than e.0.line (length e.0.row.dashes) most is.0 in
    let ended = compact_text_ended p.doc s ss c e.0 again e.1 less (ap (λ (y : LinesIn). is_empty y.last) is.2 ∙ ends.0) in
    let row = row_number c p e.0 x (ap (λ (us : List Step). rows_of_entry p.doc us c) steps ∙ e.1) line in
    end_known t p s ss steps read e.0 e.1 w path (length e.0.front) (inr (record { first = refl; dash = less; column_is = is.1 }))
    (omega (arith, dash_deep e.0 less, is.1)) ended.0 ended.1 (omega (arith, ends.1, ap (λ (y : LinesIn). length y.after) is.2)) (λ j later. omega (arith, later, first, row))
  where
    less_than : (a b : ℕ) → a ≤ b → (a ≡ b → ⊥) → a < b
    less_than a b most other = elim (cases_lt a b) [ inl is ↦ is | inr least ↦ absurd (other (omega (arith, most, least))) ]

-- a root that is a mapping, by its rows
mapping_root : (q : PlacedPart) (rs : List Row) (l : LinesIn) (column : ℕ) → root_placement q rs ≡ root column l → (r : Row) × (us : List Row) × (rs ≡ r ∷ us) × (is_alone r ≡ false) × (r.column ≡ column) × (root_lines q r us ≡ l)
mapping_root q rs l column =
    root_by q (λ (x : Placement). x ≡ root column l → (r : Row) × (us : List Row) × (rs ≡ r ∷ us) × (is_alone r ≡ false) × (r.column ≡ column) × (root_lines q r us ≡ l)) rs
    (λ w same. absurd (cc)) (λ r us are one same. absurd (cc)) (λ r us are more same. (r, us, are, more, cc, cc))

-- what is at an item or entry is no root
no_root : (e : RowsOfEntry) (column : ℕ) (l : LinesIn) → entry_placement e ≡ root column l → ⊥
no_root e column l =
    entry_by e (λ (x : Placement). x ≡ root column l → ⊥) (λ bare is same. cc) (λ bare r rs is one same. cc) (λ bare r rs is more same. cc) (λ head same. cc) (λ indent same. cc) (λ dash same. cc)

-- what the code tells of the end of a root
pub root_there : (t : List ℕ) (p : Path) (steps : List Step) (l : LinesIn) (w : EntriesEnd) → steps_of p ≡ steps → read_at t ≡ Some (cut_of t) → placement_at p.doc steps (cut_of t) ≡ Some (root w.column l) →
    w.path.now ≡ p → EndsLineAt t l.last l.after w.at → (z : EndOfEntries) × IsEndAt (cut_of t) w.path.now.doc w z
root_there t p (s ∷ ss) l w steps read at path ends =
    let e = map_some entry_placement (rows_of_entry p.doc (s ∷ ss) (cut_of t)) (root w.column l) at in absurd (no_root e.0 w.column l e.2)
root_there t p [] l w steps read at path ends =
    let c : Cut = cut_of t in
    let again : read_at (cut_text c) ≡ Some c = ap read_at (text_read t c read) ∙ read in
    let q = map_some (λ (y : PlacedPart). root_placement y y.part.rows) (placed_document p.doc c) (root w.column l) at in
    let r = mapping_root q.0 q.0.part.rows l w.column q.2 in
    let ended = root_text_ended p.doc c q.0 again q.1 r.0 r.1 r.2 r.3 (ap (λ (y : LinesIn). is_empty y.last) r.5 ∙ ends.0) in
    let z : EndOfEntries = record { steps = []; first = 0; column = w.column; at = w.at } in
    subst (λ (o : Path). (x : EndOfEntries) × IsEndAt c o.doc w x) (sym path) (
      z,
      record {
        document = ap (λ (o : Path). o.doc) path;
        known = known t p.doc z read q.0 q.1 q.0.part.rows [] (sym (append-nil q.0.part.rows)) (record { first = r.0; others = r.1; are = r.2; marked = r.3; column_is = r.4 }, refl) ended.0 ended.1
            (omega (arith, ends.1, ap (λ (y : LinesIn). length y.after) r.5));
        steps = ap steps_of path ∙ steps;
        first = λ k later. omega arith;
        at = refl;
        column = refl;
      },
    )
