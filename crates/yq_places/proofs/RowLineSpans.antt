-- Where a part of a line is, by the pieces of its row.
use Rattle.std.proofs.Common.{◌≡◌, ℕ, suc, ◌+◌, ◌-◌, ◌<◌, ltb, List, [], ◌∷◌, length, Option, Some, None, option_map, Bool, true, cond}
use Rattle.std.{proofs.Common.{refl, sym, ap, ◌∙◌, subst, rules}, proofs.lemmas.Option.{slice_get_within, slice_get-map, same_Some}}
use Rattle.std.specs.List.{slice_get}
use Rattle.yq_core.specs.Answers.{◌>>=◌}
use Rattle.yq_row_table.{specs.Rows.{Row, Part, Cut}, specs.View.{Slices, slices, rows_of, RowsView, rows_view}, specs.Exchange.after_row}
use Rattle.yq_row_table.proofs.PlaceLaws.{row_in}
use Rattle.yq_documents.{specs.declared.path.Part.Part as Place, specs.declared.path.Path.Path, specs.Documents.document_parts}
use Rattle.yq_documents.{specs.Located.steps_of, specs.Pieces.{TextPiece, piece_span}, specs.Reading.cut_of}
use Rattle.yq_documents.specs.LinesInRows.{RowLine, one_row_later, document_row, has_room, line_has_room, row_line, row_line_at}
use Rattle.yq_documents.{specs.LinesInRows.{row_line_has_room, row_line_of}, proofs.PartRows.part_begins}
use Rattle.yq_outline.{proofs.RowLaws.before_mark, specs.declared.line_position.Position.Position}
use Rattle.yq_outline.{specs.Extents.{lines_before_mark, row_start}, proofs.KnownLaws.{get_dropped, get_front}, proofs.Values.If}
use Rattle.yq_places.{specs.RowWalk.HasCut, specs.RowLineReading.position_in}

-- the row of a line
row_line_row : (n : ℕ) (rs : List Row) → If (row_line n rs) (λ s. slice_get rs s.before ≡ Some s.row)
row_line_row n [] = tt
row_line_row n (r ∷ rs) = go (ltb (length r.dashes) n) (row_line (n - suc (length r.dashes)) rs) (row_line_row (n - suc (length r.dashes)) rs)
  where
    go : (b : Bool) (o : Option RowLine) → If o (λ s. slice_get rs s.before ≡ Some s.row) → If (cond b (option_map one_row_later o) (Some (record { before = 0; row = r; line = n }))) (λ s. slice_get (r ∷ rs) s.before ≡ Some s.row)
    go b o h1 = search rules

of_some : (P : RowLine → Type 0) (o : Option RowLine) (s : RowLine) → If o P → o ≡ Some s → P s
of_some P o s h1 h2 = search (rules, same_Some)

pub steps_row : (steps : Option ℕ) (rs : List Row) (s : RowLine) → (steps >>= λ n. row_line n rs) ≡ Some s → slice_get rs s.before ≡ Some s.row
steps_row None rs s e = absurd (cc)
steps_row (Some n) rs s e = of_some (λ q. slice_get rs q.before ≡ Some q.row) (row_line n rs) s (row_line_row n rs) e

document_row_line : (path : Path) (c : Cut) (o : Option Part) (s : RowLine) → slice_get (document_parts c) path.doc ≡ o →
    (o >>= λ d. row_line_of (steps_of path) d.rows) ≡ Some s → slice_get (rows_of c) (document_row path.doc c + s.before) ≡ Some s.row
document_row_line path c None s is e = absurd (cc)
document_row_line path c (Some p) s is e =
    let b = part_begins c path.doc p is in
    search (rules, ← get_dropped, b.1, get_front, steps_row, e)

pub path_row : (path : Path) (c : Cut) (s : RowLine) → row_line_at path c ≡ Some s → slice_get (rows_of c) (document_row path.doc c + s.before) ≡ Some s.row
path_row path c s e = document_row_line path c (slice_get (document_parts c) path.doc) s refl e

-- how many lines come before that of the mark
pub marks_counted : (t : List ℕ) (x : RowsView) → HasCut t x → (i : ℕ) (r : Row) → slice_get (rows_of (cut_of t)) i ≡ Some r → lines_before_mark (slices r) ≡ length r.dashes
marks_counted t x h i r is = let v = row_in (cut_of t) i true r h.cut.parts is in before_mark r.dashes r.mark r.content (after_row i (cut_of t)) v.row.dashes v.row.mark

-- the row of the code's line is there
row_slices : (path : Path) (c : Cut) (s : RowLine) (n : Position) → row_line_at path c ≡ Some s → n ≡ position_in (document_row path.doc c) s → slice_get (rows_view c).rows n.row ≡ Some (slices s.row)
row_slices path c s n is e = ap (λ (x : Position). slice_get (rows_view c).rows x.row) e ∙ (slice_get-map slices (rows_of c) (document_row path.doc c + s.before) ∙ ap (option_map slices) (path_row path c s is))

pub row_within : (t : List ℕ) (x : RowsView) (path : Path) (n : Position) → HasCut t x → Some n ≡ option_map (position_in (document_row path.doc (cut_of t))) (row_line_at path (cut_of t)) → n.row < length x.rows
row_within t x path n h e = go (row_line_at path (cut_of t)) refl e
  where
    go : (o : Option RowLine) → row_line_at path (cut_of t) ≡ o → Some n ≡ option_map (position_in (document_row path.doc (cut_of t))) o → n.row < length x.rows
    go None is e = absurd (cc)
    go (Some s) is e = subst (λ (y : RowsView). n.row < length y.rows) (sym h.rows) (slice_get_within (rows_view (cut_of t)).rows n.row (slices s.row) (row_slices path (cut_of t) s n is (same_Some _ _ e)))

-- a part, by where the row begins and its pieces
abbrev SpanIn : Type 0
SpanIn = ℕ → Slices → Position → Option (ℕ × ℕ)

-- the same as a piece of the text, in row i
abbrev PieceIn : Type 0
PieceIn = ℕ → RowLine → Cut → Option TextPiece

abbrev SpanAgrees : SpanIn → PieceIn → Type 0
SpanAgrees of in_ = (c : Cut) (i : ℕ) (s : RowLine) (k : ℕ) → slice_get (rows_of c) i ≡ Some s.row →
    lines_before_mark (slices s.row) ≡ length s.row.dashes →
    of (row_start i (rows_view c)) (slices s.row) (position_in k s) ≡ option_map piece_span (in_ i s c)

pub part_agrees : (of : SpanIn) (in_ : PieceIn) → SpanAgrees of in_ → (t : List ℕ) (x : RowsView) (path : Path) (n : Position) (found : Option (ℕ × ℕ)) → HasCut t x →
    Some n ≡ option_map (position_in (document_row path.doc (cut_of t))) (row_line_at path (cut_of t)) → ((y : Slices) → slice_get x.rows n.row ≡ Some y → found ≡ of (row_start n.row x) y n) →
    found ≡ option_map piece_span (row_line_at path (cut_of t) >>= λ s. in_ (document_row path.doc (cut_of t) + s.before) s (cut_of t))
part_agrees of in_ reports t x path n found h e agrees = go (row_line_at path (cut_of t)) refl e
  where
    go : (o : Option RowLine) → row_line_at path (cut_of t) ≡ o → Some n ≡ option_map (position_in (document_row path.doc (cut_of t))) o →
        found ≡ option_map piece_span (o >>= λ s. in_ (document_row path.doc (cut_of t) + s.before) s (cut_of t))
    go None is e = absurd (cc)
    go (Some s) is e =
        let k : ℕ = document_row path.doc (cut_of t) in
        let same = same_Some _ _ e in
        agrees (slices s.row) (ap (λ (y : RowsView). slice_get y.rows n.row) h.rows ∙ row_slices path (cut_of t) s n is same)
        ∙ ((λ j. of (row_start (same j).row (h.rows j)) (slices s.row) (same j))
        ∙ reports (cut_of t) (k + s.before) s k (path_row path (cut_of t) s is) (marks_counted t x h (k + s.before) s.row (path_row path (cut_of t) s is)))

pub no_part : (in_ : PieceIn) (t : List ℕ) (path : Path) → None ≡ option_map (position_in (document_row path.doc (cut_of t))) (row_line_at path (cut_of t)) →
    None ≡ option_map piece_span (row_line_at path (cut_of t) >>= λ s. in_ (document_row path.doc (cut_of t) + s.before) s (cut_of t))
no_part in_ t path e = search rules

-- whether a line has room
pub room_agrees : (part : Place) (t : List ℕ) (x : RowsView) → HasCut t x → (path : Path) (n : Position) (room : Bool) → Some n ≡ option_map (position_in (document_row path.doc (cut_of t))) (row_line_at path (cut_of t)) →
    ((s : RowLine) → s.line ≡ n.line → ((y : Slices) → slice_get x.rows n.row ≡ Some y → lines_before_mark y ≡ length s.row.dashes) → room ≡ line_has_room part s) → room ≡ has_room path part t
room_agrees part t x h path n room e agrees = go (row_line_at path (cut_of t)) refl e
  where
    go : (o : Option RowLine) → row_line_at path (cut_of t) ≡ o → Some n ≡ option_map (position_in (document_row path.doc (cut_of t))) o → room ≡ row_line_has_room part o
    go None is e = absurd (cc)
    go (Some s) is e =
        let same = same_Some _ _ e in
        let row = ap (λ (y : RowsView). slice_get y.rows n.row) h.rows ∙ row_slices path (cut_of t) s n is same in
        agrees s (ap (λ (q : Position). q.line) (sym same)) (λ y there. ap lines_before_mark (same_Some _ _ (sym there ∙ row)) ∙ marks_counted t x h (document_row path.doc (cut_of t) + s.before) s.row (path_row path (cut_of t) s is))
