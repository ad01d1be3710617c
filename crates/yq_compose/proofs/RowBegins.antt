-- What a row's key begins with tells what it spells.
use Rattle.std.{proofs.Common.{◌≡◌, ℕ, true, false, List, [], ◌++◌, Some, refl, sym, ap, ◌∙◌, subst}, specs.List.slice_get}
use Rattle.yq_core.{specs.Scalars.{scalar_content, is_quoted}, specs.Quoted.IsQuotedText, proofs.OneLine.kept as is_located}
use Rattle.yq_outline.{specs.declared.line_position.Stretch.Stretch, proofs.RowLaws.mark_quoted}
use Rattle.yq_row_table.{specs.Exchange.{after_row, following_rows}, specs.Grammar.IsMark, specs.Rows.{Content, Row, content_text}}
use Rattle.yq_row_table.{specs.View.{Slices, RowsView, key_of_mark, rows_of, slices}, proofs.KeyLines.key_line}
use Rattle.yq_row_table.proofs.PlaceLaws.{RowIn, row_in}
use Rattle.yq_documents.specs.declared.decoded.Decoded.{Decoded}
use Rattle.yq_compose.{specs.Checking.IsCheckable, proofs.LineLevelLaws.row_there}
use Rattle.yq_row_table.specs.Rows as rows

-- a key without quotes has one line, and means itself
pub mark_plain : (m : rows.RowMark) (c : Content) (rest : List ℕ) → IsMark m c rest → is_quoted (key_of_mark m) ≡ false → key_of_mark m ≡ scalar_content (key_of_mark m)
mark_plain rows.Bare c rest h e = is_located [] refl refl
mark_plain rows.Dash c rest h e = is_located [] refl refl
mark_plain (rows.Key key colon) c rest h e = is_located key e (key_line key (colon ++ content_text c rest) h.scalar)

-- a row of a document that is checked
module _ (t : List ℕ) (s : RowsView) (ms : List Decoded) (d : Stretch) (ready : IsCheckable t s ms d) (i : ℕ) (x : Slices) (there : slice_get s.rows i ≡ Some x) where
  found : (r : Row) × (slice_get (rows_of ready.cut) i ≡ Some r) × (slices r ≡ x)
  found = row_there (rows_of ready.cut) i x (ap (λ (y : RowsView). slice_get y.rows i) (sym ready.rows) ∙ there)

  row_is : RowIn found.0 (after_row i ready.cut) (following_rows i ready.cut)
  row_is = row_in ready.cut i true found.0 ready.is_cut.parts found.1

  pub key_quoted : is_quoted x.key ≡ true → IsQuotedText x.key
  key_quoted = subst (λ (y : Slices). is_quoted y.key ≡ true → IsQuotedText y.key) found.2 (mark_quoted found.0.mark found.0.content (after_row i ready.cut) row_is.row.mark)

  pub key_plain : is_quoted x.key ≡ false → x.key ≡ scalar_content x.key
  key_plain = subst (λ (y : Slices). is_quoted y.key ≡ false → y.key ≡ scalar_content y.key) found.2 (mark_plain found.0.mark found.0.content (after_row i ready.cut) row_is.row.mark)
