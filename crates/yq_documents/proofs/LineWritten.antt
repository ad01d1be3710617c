-- What is written in the lines of a document, by the pieces of their rows.
use Rattle.std.proofs.Common.{rules, ◌≡◌, ◌<◌, ◌≤◌, ℕ, zero, suc, List, [], ◌∷◌, length, Option, Some, None, true, false, refl, sym, ap}
use Rattle.std.{proofs.Common.{◌∙◌, arith}, proofs.lemmas.Bool.{cases_lt, false≢true}, proofs.lemmas.Option.same_Some, specs.List.slice_get}
use Rattle.std.specs.Prelude.{is_some}
use Rattle.yq_core.{specs.Scalars.{scalar_content, is_quoted}, specs.Quoted.IsQuotedText, specs.Text.upto, specs.Tree.Node}
use Rattle.yq_outline.{specs.Outline.{Line, key_of}, specs.Extents.lines_before_mark, specs.Lines.head_of, specs.RowWalk.line_rank}
use Rattle.yq_outline.{specs.declared.line_position.Position.Position, specs.declared.line_position.Stretch.Stretch}
use Rattle.yq_outline.{proofs.RowLaws.{IsBeside, beside_in, no_comments}, proofs.WalkMarks.{key_here, key_none}}
use Rattle.yq_outline.proofs.WalkPositions.{Located}
use Rattle.yq_row_table.{specs.Grammar.{AreRows, Limit, limit_after}, specs.Rows.Row, specs.View.{RowsView, Slices, slices}}
use Rattle.yq_documents.{specs.RowReading.name_in, specs.Stretches.{HasText, IsLineIn, document_lines, number_of}}
use Rattle.yq_documents.proofs.WalkedRows.{line_here, located_in, own_line, is_located}
use Rattle.yq_documents.proofs.RowLineLaws.{anchor_is, content_quoted, tail_is}
use Rattle.yq_outline.specs.Comments as comments

-- a quoted head is a quoted scalar
rows_quoted : (limit : Limit) (rs : List Row) (end rest : List ℕ) → AreRows limit rs end rest → (i : ℕ) (r : Row) → slice_get rs i ≡ Some r → is_quoted (slices r).head ≡ true → IsQuotedText (slices r).head
rows_quoted limit [] end rest h i r e = absurd (cc)
rows_quoted limit (x ∷ rs) end rest h zero r e = search (rules, same_Some, content_quoted)
rows_quoted limit (x ∷ rs) end rest h (suc i) r e = rows_quoted (limit_after x) rs end rest h.1 i r e

module _ {t : List ℕ} {n : ℕ} {s : RowsView} {d : Stretch} (x : HasText t n s d) {q : Position} (at : IsLineIn t n q) where
  pub head_quoted : is_quoted (slices (located_in x at).row).head ≡ true → IsQuotedText (slices (located_in x at).row).head
  head_quoted = search (rules, is_located, located_in, rows_quoted)

  module _ (l : Line) (e : slice_get (document_lines n t) (number_of n t q) ≡ Some l) where
    abbrev k : Located s d (is_located x) q
    k = located_in x at

    own : (located_in x at).line ≡ l
    own = own_line x at l e

    beside : IsBeside (comments.head_comment (located_in x at).row.gap) (located_in x at).row.dashes (located_in x at).row.content q.line l
    beside = beside_in (comments.head_comment k.row.gap) k.row.column k.row.dashes k.row.mark k.row.content q.line l k.within (k.in_row ∙ ap Some own)

    -- what is above the line
    pub gap_first : (piece : List ℕ) → ((y : Slices) → slice_get s.rows q.row ≡ Some y → piece ≡ y.gap) → q.line ≡ 0 → comments.head_comment piece ≡ l.head_comment
    gap_first piece agrees none = ap comments.head_comment (agrees (slices k.row) k.pieces) ∙ sym (beside.first none)

    pub gap_later : 0 < q.line → comments.head_comment [] ≡ l.head_comment
    gap_later some = no_comments ∙ sym (beside.other some)

    -- a key
    module _ (r : ℕ) (agrees : (y : Slices) → slice_get s.rows q.row ≡ Some y → r ≡ line_rank q.line y) where
      pub no_key : (r ≡ 2 → ⊥) → None ≡ key_of l.mark
      no_key = key_none s d (is_located x) q (line_here x at) l (k.is ∙ ap Some own) r agrees

      pub own_key : r ≡ 2 → Some (scalar_content (slices (located_in x at).row).key) ≡ key_of l.mark
      own_key = key_here s d (is_located x) q (line_here x at) l (k.is ∙ ap Some own) r agrees

    -- a head
    pub head_some : true ≡ is_some l.head → head_of (located_in x at).row.content ≡ l.head
    head_some some = search (rules, cases_lt, false≢true, own)

    -- an anchor and a tail
    module _ (b : ℕ) (agrees : (y : Slices) → slice_get s.rows q.row ≡ Some y → b ≡ lines_before_mark y) where
      counted : b ≡ length (located_in x at).row.dashes
      counted = agrees (slices k.row) k.pieces ∙ k.row_agrees.counted

      pub anchor_before : q.line < b → None ≡ l.anchor
      anchor_before less = sym (beside.dash (omega (arith, less, counted))).0

      pub anchor_last : b ≤ q.line → (piece : List ℕ) → ((y : Slices) → slice_get s.rows q.row ≡ Some y → piece ≡ y.anchor) → name_in piece ≡ l.anchor
      anchor_last past piece is = ap name_in (is (slices k.row) k.pieces) ∙ (anchor_is k.row.content ∙ sym (beside.mark (omega (arith, past, counted, k.within))).0)

      pub tail_before : q.line < b → comments.line_comment [] ≡ l.line_comment
      unfolding upto
      tail_before less = refl ∙ sym (beside.dash (omega (arith, less, counted))).1

      pub tail_last : b ≤ q.line → (piece : List ℕ) → ((y : Slices) → slice_get s.rows q.row ≡ Some y → piece ≡ y.tail) → comments.line_comment piece ≡ l.line_comment
      tail_last past piece is = ap comments.line_comment (is (slices k.row) k.pieces ∙ tail_is k.row.content) ∙ sym (beside.mark (omega (arith, past, counted, k.within))).1

-- a head that isn't there
pub head_none : (o : Option Node) → false ≡ is_some o → None ≡ o
head_none o e = search (rules, false≢true)
