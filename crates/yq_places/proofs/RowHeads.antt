-- The head of a row of a text with its cut, read again.
use Rattle.std.proofs.Common.{rules, ◌≡◌, ℕ, zero, suc, ◌-◌, ◌<◌, ◌&&◌, Bool, true, List, [], ◌∷◌, ◌++◌, length, take, drop, Some}
use Rattle.std.{proofs.Common.{option_map, refl, sym, ap, ◌∙◌, subst, append_assoc, append-nil}, proofs.Math.Seq.drop-append_seam}
use Rattle.std.{proofs.lemmas.Bool.{and_parts, or_right}, proofs.lemmas.List.{length-take-le, take-append-drop}}
use Rattle.std.{proofs.lemmas.Option.{slice_get_within, slice_get-map, same_Some}, specs.List.slice_get, specs.Str.{IsUtf8, IsCharBoundary}}
use Rattle.yq_core.{specs.Block.{ends_block, keeps}, specs.declared.block_lines.TextIndent.TextIndent, specs.Text.{is_line, text_lines}}
use Rattle.yq_row_table.{specs.Exchange.{before_content, after_row}, specs.Grammar.{IsCut, IsRow, Limit}}
use Rattle.yq_row_table.{specs.Rows.{Content, Nothing, Inline, Block, Row, Cut, cut_text, parent_indent}, specs.Seams.{is_closed, is_seam}}
use Rattle.yq_row_table.{specs.View.{Slices, slices, rows_of, RowsView, rows_view}, proofs.ItemCuts.no_gap, proofs.PlaceLaws.row_in}
use Rattle.yq_row_table.proofs.seams.SeamLaws.{row_seam, plain_before}
use Rattle.yq_documents.{specs.Documents.document_parts, specs.Reading.{mark_is_fit, content_is_fit, have_fit_keys, all_documents}}
use Rattle.yq_documents.{specs.RowReading.{HasHead, from_head}, proofs.PartRows.each}
use Rattle.yq_outline.{specs.Extents.head_place, specs.RowWalk.IsLine, specs.declared.line_position.Position.Position}
use Rattle.yq_outline.{specs.declared.line_position.Stretch.Stretch, proofs.WalkPositions.located}
use Rattle.yq_places.{specs.RowWalk.InCut, proofs.HeadSpanLaws.{head_span, head_text}, proofs.WalkDocuments.Found}
use Rattle.yq_places.proofs.WalkNodes.{row_is as row_at, row_in_cut}

-- the pieces of a row that is shown
pub slices_are : (c : Cut) (s : RowsView) (i : ℕ) (x : Slices) (r : Row) → s ≡ rows_view c → slice_get s.rows i ≡ Some x → slice_get (rows_of c) i ≡ Some r → x ≡ slices r
slices_are c s i x r is there row = same_Some _ _ (sym there ∙ (ap (λ (y : RowsView). slice_get y.rows i) is ∙ (slice_get-map slices (rows_of c) i ∙ ap (option_map slices) row)))

-- the keys in a row of a document are fit
fit_in : (rs : List Row) (i : ℕ) (r : Row) → have_fit_keys rs ≡ true → slice_get rs i ≡ Some r → content_is_fit r.content ≡ true
fit_in [] i r h e = absurd (cc)
fit_in (x ∷ rs) zero r h e = search (rules, and_parts, x.mark, x.content, h, same_Some, e)
fit_in (x ∷ rs) (suc i) r h e =
    let all = and_parts (mark_is_fit x.mark) (content_is_fit x.content && have_fit_keys rs) h in
    fit_in rs i r (and_parts (content_is_fit x.content) (have_fit_keys rs) all.1).1 e

pub line_fit : (s : RowsView) (c : Cut) (n : ℕ) (d : Stretch) (f : Found s c n d) (k : InCut s d c) (q : Position) → k.document.are_there.rows ≡ f.part.rows → all_documents c ≡ true → IsLine s d q →
    (r : Row) → slice_get (rows_of c) q.row ≡ Some r → content_is_fit r.content ≡ true
line_fit s c n d f k q rows sound at r is =
    let fit : have_fit_keys k.document.are_there.rows ≡ true = ap have_fit_keys rows ∙ (and_parts (have_fit_keys f.part.rows) _ (each (document_parts c) sound n f.part f.there)).0 in
    let same : row_at s d c k q at ≡ r = same_Some _ _ (sym (row_in_cut s d c k q at) ∙ is) in
    fit_in k.document.are_there.rows (q.row - d.first) r fit ((located s d k.document.are_there q at).there ∙ ap Some same)

pub line_within : (s : RowsView) (d : Stretch) (c : Cut) (k : InCut s d c) (q : Position) → IsLine s d q → q.row < length (rows_of c)
line_within s d c k q at = slice_get_within (rows_of c) q.row (row_at s d c k q at) (row_in_cut s d c k q at)

-- a row at the end of a text
closed_end : (tail : List ℕ) → is_closed tail [] ≡ true
closed_end tail = or_right (is_line tail) true refl

none_ends : (keep : Bool) (f : TextIndent) → ends_block keep f (text_lines []) ≡ true
unfolding text_lines ends_block
none_ends keep f = refl

seam_end : (c : Content) → is_seam c [] ≡ true
seam_end (Nothing tail) = closed_end tail
seam_end (Inline space node tail) = closed_end tail
seam_end (Block space anchor block) = none_ends (keeps block.chomping) block.indent

pub row_alone : (limit : Limit) (r : Row) (rest : List ℕ) → IsRow limit r rest → IsRow limit r []
row_alone limit r rest h = (row_seam limit r rest [] h (seam_end r.content) (plain_before (parent_indent r) r.content [] [] [] no_gap refl)).row

-- the row alone, read again
abbrev pub has_head : (t : List ℕ) (c : Cut) (i : ℕ) (r : Row) → IsCut t c → slice_get (rows_of c) i ≡ Some r → (s : Slices) (x : List ℕ) → s ≡ slices r → x ≡ from_head (slices r) [] → content_is_fit r.content ≡ true → HasHead s x
has_head t c i r cut is s x pieces own fit =
    let row = row_in c i true r cut.parts is in
    record { row = r; limit = row.limit; rest = []; pieces = pieces; text = own; valid = row_alone row.limit r (after_row i c) row.row; fit = fit }

-- the pieces from its head on are its text from there
pub pieces_from : (x : List ℕ) (s : Slices) (r : Row) → s ≡ slices r → x ≡ s.head ++ (s.tail ++ s.raw) → x ≡ from_head (slices r) []
pieces_from x s r e h = h ∙ ((λ j. (e j).head ++ ((e j).tail ++ (e j).raw)) ∙ ap (λ l. (slices r).head ++ ((slices r).tail ++ l)) (sym (append-nil (slices r).raw)))

-- the text from its head on
module _ (t : List ℕ) (c : Cut) (i : ℕ) (r : Row) (start : ℕ) (u : IsUtf8 t) (cut : IsCut t c) (is : slice_get (rows_of c) i ≡ Some r) (at : start ≡ (head_place i c r).0) where
  pub same_cut : IsCut (cut_text c) c
  same_cut = subst (λ (y : List ℕ). IsCut y c) cut.text cut

  pub same_text : IsUtf8 (cut_text c)
  same_text = subst IsUtf8 cut.text u

  pub head_boundary : IsCharBoundary t start
  head_boundary = subst (λ (y : List ℕ). IsCharBoundary y start) (sym cut.text) (subst (IsCharBoundary (cut_text c)) (sym at) (head_span c i r same_text same_cut is).begins)

  text_from : drop start t ≡ from_head (slices r) [] ++ after_row i c
  text_from =
      let s : Slices = slices r in
      let before : List ℕ = before_content i c ++ (s.space ++ (s.anchor ++ s.apart)) in
      let parts : from_head s (after_row i c) ≡ from_head s [] ++ after_row i c = simp append_assoc refl in
      (λ j. drop (at j) (cut.text j)) ∙ (ap (drop (length before)) (head_text c i r is) ∙ (drop-append_seam before (from_head s (after_row i c)) ∙ parts))

  -- the row in the text
  pub row_text : (x : List ℕ) → x ≡ from_head (slices r) [] → t ≡ take start t ++ (x ++ after_row i c)
  row_text x own = sym (take-append-drop start t) ∙ ap (λ (y : List ℕ). take start t ++ y) (text_from ∙ ap (λ (y : List ℕ). y ++ after_row i c) (sym own))

  pub row_start : start ≡ length (take start t)
  row_start = sym (length-take-le start t head_boundary.0)
