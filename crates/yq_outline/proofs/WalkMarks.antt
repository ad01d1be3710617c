-- What lines of a document begin with, and whether they have a head, by their rows.
use Rattle.std.proofs.Common.{◌≡◌, ℕ, eqb, Bool, true, false, not, ◌&&◌, List, Some, None, sym, ap, ◌∙◌, subst, rules}
use Rattle.std.{proofs.lemmas.Bool.{cases_lt, eq-eqb, ne_eqb}, proofs.lemmas.Option.same_Some, specs.List.slice_get, specs.Prelude.is_some}
use Rattle.std.specs.Str.{bytes_eq}
use Rattle.yq_core.{specs.Scalars.{scalar_content, is_quoted}, specs.Paths.{is_item, key_is}, specs.Plain.holds_break}
use Rattle.yq_core.{specs.Quoted.IsQuotedText, specs.Text.is_empty}
use Rattle.yq_outline.{specs.Outline.{LineMark, Line, key_of, rank}, specs.Positions.has_no_mark, specs.Lines.lines_of_rows}
use Rattle.yq_outline.{specs.Extents.lines_before_mark, specs.RowWalk.{line_rank, HasRows, IsLine, line_number}}
use Rattle.yq_outline.{specs.declared.line_position.Position.Position, specs.declared.line_position.Stretch.Stretch}
use Rattle.yq_outline.{proofs.WalkLevels.rank_is, proofs.WalkPositions.{Located, located}}
use Rattle.yq_row_table.specs.View.{Slices, slices, RowsView}

-- what is known of a line's mark, by its rank
bare_ranked : (m : LineMark) → has_no_mark m ≡ eqb (rank m) 1
bare_ranked m = search rules

item_ranked : (m : LineMark) → is_item (key_of m) ≡ not (eqb (rank m) 2)
item_ranked m = search rules

module _ (s : RowsView) (d : Stretch) (h : HasRows s d) (q : Position) (at : IsLine s d q) (l : Line) (is : slice_get (lines_of_rows h.rows) (line_number d h.rows q) ≡ Some l) where
  abbrev k : Located s d h q
  k = located s d h q at

  own : (located s d h q at).line ≡ l
  own = same_Some _ _ (sym k.is ∙ is)

  ranked : rank l.mark ≡ line_rank q.line (slices (located s d h q at).row)
  ranked = ap (λ (y : Line). rank y.mark) (sym own) ∙ rank_is k.row q.line k.line k.row_agrees k.within k.agrees

  module _ (n : ℕ) (agrees : (x : Slices) → slice_get s.rows q.row ≡ Some x → n ≡ line_rank q.line x) where
    same : n ≡ rank l.mark
    same = agrees (slices k.row) k.pieces ∙ sym ranked

    pub bare_agrees : eqb n 1 ≡ has_no_mark l.mark
    bare_agrees = ap (λ (j : ℕ). eqb j 1) same ∙ sym (bare_ranked l.mark)

    pub item_agrees : not (eqb n 2) ≡ is_item (key_of l.mark)
    item_agrees = ap (λ (j : ℕ). not (eqb j 2)) same ∙ sym (item_ranked l.mark)

    -- the key of the line
    pub key_none : (n ≡ 2 → ⊥) → None ≡ key_of l.mark
    key_none other = search (rules, same)

    pub key_here : n ≡ 2 → Some (scalar_content (slices (located s d h q at).row).key) ≡ key_of l.mark
    key_here two = search (rules, cases_lt, own, same)

    -- whether it is that key's
    pub other_agrees : (key : List ℕ) → (n ≡ 2 → ⊥) → false ≡ key_is key (key_of l.mark)
    other_agrees key other = ap (key_is key) (key_none other)

    pub key_agrees : (piece key : List ℕ) → ((x : Slices) → slice_get s.rows q.row ≡ Some x → piece ≡ x.key) → n ≡ 2 → bytes_eq (scalar_content piece) key ≡ key_is key (key_of l.mark)
    key_agrees piece key written two = ap (λ (t : List ℕ). bytes_eq (scalar_content t) key) (written (slices k.row) k.pieces) ∙ ap (key_is key) (key_here two)

  pub head_agrees : (last : Bool) (x : Slices) → slice_get s.rows q.row ≡ Some x → last ≡ eqb q.line (lines_before_mark x) → (last && not (is_empty x.head)) ≡ is_some l.head
  head_agrees last x there e = search (rules, cases_lt, same_Some, ne_eqb, same, own, eq-eqb)

-- a quoted key is a quoted scalar
pub quoted_agrees : (s : RowsView) (d : Stretch) (h : HasRows s d) (q : Position) → IsLine s d q → (piece : List ℕ) → ((x : Slices) → slice_get s.rows q.row ≡ Some x → piece ≡ x.key) → is_quoted piece ≡ true → IsQuotedText piece
quoted_agrees s d h q at piece written =
    let k = located s d h q at in
    subst (λ (y : List ℕ). is_quoted y ≡ true → IsQuotedText y) (sym (written (slices k.row) k.pieces)) k.row_agrees.quoted

-- a key has one line
pub beside_agrees : (s : RowsView) (d : Stretch) (h : HasRows s d) (q : Position) → IsLine s d q → (piece : List ℕ) → ((x : Slices) → slice_get s.rows q.row ≡ Some x → piece ≡ x.key) → holds_break piece ≡ false
beside_agrees s d h q at piece written =
    let k = located s d h q at in
    ap holds_break (written (slices k.row) k.pieces) ∙ k.row_agrees.line
