-- The line comment of an item or entry at a path.
use Rattle.std.proofs.Common.{◌≡◌, ℕ, ◌+◌, true, false, List, [], ◌∷◌, ◌++◌, length, Option, Some, None, refl, sym, ap, ◌∙◌, subst, rules}
use Rattle.std.proofs.lemmas.Bool.{false≢true}
use Rattle.yq_core.{specs.Block.{BlockText, style_indicator}, specs.Text.separates, specs.Paths.{Step, changed_at, relabel_child, within}}
use Rattle.yq_core.{specs.declared.block_header.BlockStyle.BlockStyle, proofs.AlikePieces.name_by, proofs.Bools.bind_some}
use Rattle.yq_outline.{specs.Comments.line_comment, specs.Ends.line_at_steps, specs.Group.level_or, specs.Lines.lines_of_rows}
use Rattle.yq_row_table.{specs.Exchange.{asked_after, with_content}, specs.Gap.IsWhite}
use Rattle.yq_row_table.specs.Grammar.{unlimited, IsAnchor, IsRow, is_entry, ends_part}
use Rattle.yq_row_table.specs.Rows.{Content, Nothing, Inline, Block, Row, anchor_text, content_text, parent_indent, rows_text, Part, Cut}
use Rattle.yq_row_table.{specs.Rows.cut_text, specs.Seams.{is_block, retail, with_tail}, proofs.ExchangeLaws.one_row}
use Rattle.yq_row_table.{proofs.seams.TailLaws.fits_by, proofs.splices.PartPlaces.part_ends}
use Rattle.yq_documents.{specs.Documents.lead_of, specs.Reading.part_outline, specs.LinesInRows.{RowLine, row_line_of}}
use Rattle.yq_documents.{specs.TreeEdits.with_line_comment, specs.PartNumbers.part_number}
use Rattle.yq_places.{specs.RowPaths.IsReadable, proofs.HeadSpanLaws.free_first}
use Rattle.yq_edit_rules.{proofs.InlineReplaceLaws.own_rows, specs.Appends.inserted, specs.Changed.{IsChanged, put_document}}
use Rattle.yq_edit_rules.specs.DocumentRows.{IsDocumentPart, after_document}
use Rattle.yq_edit_rules.{specs.PathTails.{with_line_tail, IsLineTail, tailed, PathTailPut}, specs.RowComments.{TakesRow, with_header_tail}}
use Rattle.yq_edit_rules.{proofs.PartLaws.document_known, proofs.PathLaws.{path_is_entry, path_line_commented, row_line_number}}
use Rattle.yq_edit_rules.proofs.RowCommentLaws.{block_commented}
use Rattle.yq_row_table.specs.Rows as rows

-- a row of a document
-- an anchor before another text
pub anchor_other : (anchor : Option rows.Anchor) (t u : List ℕ) → IsAnchor anchor t → IsAnchor anchor u
anchor_other anchor t u h1 = search (rules, name_by, false≢true)

mark_apart : (style : BlockStyle) (t u : List ℕ) → separates (style_indicator style ∷ t) ≡ separates (style_indicator style ∷ u)
mark_apart style t u = search rules

anchor_apart : (anchor : Option rows.Anchor) (style : BlockStyle) (t u : List ℕ) → separates (anchor_text anchor (style_indicator style ∷ t)) ≡ separates (anchor_text anchor (style_indicator style ∷ u))
anchor_apart None style t u = mark_apart style t u
anchor_apart (Some a) style t u = refl

header_apart : (space : List ℕ) (anchor : Option rows.Anchor) (style : BlockStyle) (t u : List ℕ) → IsWhite space →
    separates (space ++ anchor_text anchor (style_indicator style ∷ t)) ≡ true →
    separates (space ++ anchor_text anchor (style_indicator style ∷ u)) ≡ true
header_apart [] anchor style t u h e = sym (anchor_apart anchor style t u) ∙ e
header_apart (b ∷ space) anchor style t u h e = rw h.0 refl

header_takes : (p : Part) (front back : List Row) (r : Row) (space : List ℕ) (anchor : Option rows.Anchor) (block : BlockText) (tail rest : List ℕ) → r.content ≡ Block space anchor block → p.rows ≡ front ++ (r ∷ back) →
    Rattle.yq_core.specs.Block.is_tail tail ≡ true → IsRow (asked_after unlimited front) r (rows_text back (p.end ++ rest)) → TakesRow p front r (with_content (with_header_tail tail space anchor block) r) back rest
header_takes p front back r space anchor block tail rest is there fits row =
    let u : List ℕ = rows_text back (p.end ++ rest) in
    let other : BlockText = record block { tail = tail } in
    let mark : (is_entry r.mark ≡ true) × (separates (content_text (Block space anchor block) u) ≡ true) = search (rules, false≢true) in
    let content = subst (λ (x : Content). Rattle.yq_row_table.specs.Grammar.IsContent (parent_indent r) x u) is row.content in
    search (rules, one_row, anchor_other, header_apart, free_first)

-- another end of the line of a row
abbrev Commented : (c : Cut) (k : ℕ) (p : Part) (steps : List Step) (s : Step) (front back : List Row) (tail : List ℕ) → Row → Type 0
Commented c k p steps s front back tail new =
    IsReadable (cut_text (put_document k (inserted front (new ∷ []) back p) c)) →
    IsChanged c (put_document k (inserted front (new ∷ []) back p) c) k (lead_of p) (changed_at steps (within (relabel_child s (with_line_comment (line_comment tail)))))

module _ (t : List ℕ) (c : Cut) (k : ℕ) (p : Part) (steps : List Step) (s : Step) (x : RowLine) (front back : List Row) (tail : List ℕ) (old : IsDocumentPart t c k p) (row_line_is : row_line_of (steps ++ (s ∷ [])) p.rows ≡ Some x)
    (last : x.line ≡ length x.row.dashes) (there : p.rows ≡ front ++ (x.row ∷ back)) (before : length front ≡ x.before) where
  rest : List ℕ
  rest = rows_text back (p.end ++ after_document k c)

  after_tail : is_block x.row.content ≡ false → Rattle.yq_row_table.specs.Grammar.IsTail tail (rows_text back (p.end ++ after_document k c)) → Commented c k p steps s front back tail (retail tail x.row)
  after_tail inline h =
      let all = own_rows t c k p front x.row back old there in
      let ends : ends_part (after_document k c) ≡ true = part_ends c (part_number k c) true (document_known t c k p old).cut.parts in
      search (rules, path_line_commented, fits_by)

  in_header : (space : List ℕ) (anchor : Option rows.Anchor) (block : BlockText) → x.row.content ≡ Block space anchor block →
      Rattle.yq_core.specs.Block.is_tail tail ≡ true →
      Commented c k p steps s front back tail (with_content (with_header_tail tail space anchor block) x.row)
  in_header space anchor block is h text =
      let l = bind_some (line_at_steps (steps ++ (s ∷ [])) (lines_of_rows p.rows)) row_line_is in
      let w = path_is_entry p (level_or 0 (part_outline p)) steps s l.0 (document_known t c k p old).even l.1 in
      let number = row_line_number p.rows front back l.0 x l.2 there before in
      let all = own_rows t c k p front x.row back old there in
      block_commented t c k p steps s w.h w.f front back x.row space anchor block tail old w.entry is (header_takes p front back x.row space anchor block tail (after_document k c) is there h all.0)
      (ap (λ (n : ℕ). length (lines_of_rows front) + n) (sym last) ∙ (sym number ∙ w.number)) text

  by_content : (y : Content) → x.row.content ≡ y → IsLineTail tail y (rows_text back (p.end ++ after_document k c)) → Commented c k p steps s front back tail (with_content (with_line_tail tail y) x.row)
  by_content (Nothing e) is h = subst (λ (z : Content). Commented c k p steps s front back tail (with_content z x.row)) (ap (with_tail tail) is) (after_tail (ap is_block is) h)
  by_content (Inline space node e) is h = subst (λ (z : Content). Commented c k p steps s front back tail (with_content z x.row)) (ap (with_tail tail) is) (after_tail (ap is_block is) h)
  by_content (Block space anchor block) is h = in_header space anchor block is h

  pub tail_put : IsLineTail tail x.row.content (rows_text back (p.end ++ after_document k c)) → Commented c k p steps s front back tail (tailed tail x.row)
  tail_put h = by_content x.row.content refl h

pub path_tail_put : PathTailPut
path_tail_put t c k p steps s x front back tail old row_line_is last takes before text = tail_put t c k p steps s x front back tail old row_line_is last takes.rows_are before takes.fits text
