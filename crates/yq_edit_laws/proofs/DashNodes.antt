-- The rows of an item with a compact collection, up to its dash, and the text round them.
use Rattle.std.proofs.Common.{◌≡◌, inl, inr, ℕ, zero, suc, ◌<◌, ◌≤◌, true, false, List, [], ◌∷◌, ◌++◌, length, take, drop, replicate, Some}
use Rattle.std.proofs.Common.{None, refl, sym, ap, ◌∙◌, subst, arith, append_assoc}
use Rattle.std.proofs.lemmas.List.{append_cancel_left, length-take-le, take-append-drop}
use mathlib.Core.List.{tail-eq_of_cons-eq}
use Rattle.yq_core.{specs.Paths.Step, specs.Text.is_empty, specs.Tree.anchor_of, proofs.BlockPieceLaws.IsLf}
use Rattle.yq_outline.{specs.Outline.Line, specs.Places.content_under}
use Rattle.yq_row_table.{specs.Exchange.row_front, specs.Gap.IsBreak, specs.Grammar.{AreDashes, is_entry}}
use Rattle.yq_row_table.{specs.Rows.{Cut, Row, after_dashes, cut_text, print_row, rows_text}, proofs.PlaceLaws.row_then}
use Rattle.yq_documents.specs.Reading.{read_at}
use Rattle.yq_places.{specs.RowPieces.{past_dash, upto_dash}, specs.PrintedLines.last_break}
use Rattle.yq_places.{specs.Placements.{RowsOfEntry, before_entry, after_entry, dash_text, rows_of_entry}, proofs.CommentPieceLaws.Ended}
use Rattle.yq_places.{proofs.DashLaws.{front_is, row_cut}, proofs.RunSpans.rows_then}
use Rattle.yq_edit_rules.{specs.Siblings.HasEntries, specs.PlacementLaws.HasItsRows, specs.TextPieces.IsPiece}
use Rattle.yq_edit_rules.proofs.PlacementMarks.{after_there, row_there, rows_ended_there}
use Rattle.yq_edit_rules.{proofs.TextPieceLaws.{line_cut, text_is_piece, nothing}, specs.BlockPlaces.{IsUpto, at_dash}}
use Rattle.yq_edit_rules.{proofs.HeldCuts.last_cut, proofs.CommentRowLaws.cut_spelled, proofs.HeldPieces.suffix_lf}
use Rattle.yq_edit_laws.proofs.HeldRows.{last_ends, value_unnamed}
use Rattle.yq_edit_laws.proofs.NodeRowLaws.{NodeRows, line_is, parts, rest, node_upto, entries_under}
use Rattle.yq_row_table.specs.Rows as rows

-- dashes from one on
pub dashes_from : (k : ℕ) (ns : List ℕ) → k < length ns → (n : ℕ) × (ms : List ℕ) × (drop k ns ≡ n ∷ ms)
dashes_from k [] h = absurd (omega (arith, h))
dashes_from zero (n ∷ ns) h = (n, ns, refl)
dashes_from (suc k) (n ∷ ns) h = dashes_from k ns (omega (arith, h))

-- after each of them are spaces, and an item or entry is after the last one
dashes_ask : (ns : List ℕ) (n : ℕ) (ms : List ℕ) (m : rows.RowMark) → AreDashes (ns ++ (n ∷ ms)) m → (1 ≤ n) × (is_entry m ≡ true)
dashes_ask [] n ms m h = (h.0, h.1)
dashes_ask (k ∷ ns) n ms m h = dashes_ask ns n ms m h.2

spaces_some : (n : ℕ) (t : List ℕ) → 1 ≤ n → is_empty (replicate n 32 ++ t) ≡ false
spaces_some zero t h = absurd (omega (arith, h))
spaces_some (suc n) t h = refl

module _ (n : ℕ) (s : Step) (ss : List Step) (c : Cut) (e : RowsOfEntry) (there : HasItsRows n s ss c e) (less : e.line < length e.row.dashes) where
  -- the dash
  pub dash : (k : ℕ) × (ms : List ℕ) × (drop e.line e.row.dashes ≡ k ∷ ms)
  dash = dashes_from e.line e.row.dashes less

  abbrev pub mark : Row
  mark = upto_dash e.line e.row

  pub dashes_are : e.row.dashes ≡ take e.line e.row.dashes ++ (dash.0 ∷ dash.1)
  dashes_are = sym (take-append-drop e.line e.row.dashes) ∙ ap (λ ns. take e.line e.row.dashes ++ ns) dash.2

  abbrev pub upto : IsUpto (upto_dash e.line e.row) e.row
  upto = at_dash dash.0 dash.1 dashes_are

  pub dash_count : length (take e.line e.row.dashes) ≡ e.line
  dash_count = length-take-le e.line e.row.dashes (omega (arith, less))

  asked : (1 ≤ dash.0) × (is_entry e.row.mark ≡ true)
  asked = dashes_ask (take e.line e.row.dashes) dash.0 dash.1 e.row.mark (subst (λ ns. AreDashes ns e.row.mark) dashes_are (row_there n s ss c e there).dashes)

  -- the rows of the item
  abbrev pub dash_node : NodeRows n s ss c
  dash_node = node_upto n s ss c e there (upto_dash e.line e.row) upto dash_count

  pub dash_after : after_entry e ≡ rest n s ss c dash_node
  dash_after = after_there n s ss c e there

  -- a collection that begins on its line has no anchor
  pub dash_unnamed : anchor_of (content_under there.found.line there.found.under) ≡ None
  dash_unnamed =
      let node : NodeRows n s ss c = dash_node in
      let entries : HasEntries there.found.under = entries_under upto e.under there.found.under asked.1 (omega (arith, less, dash_count)) (tail-eq_of_cons-eq (parts n s ss c node).1) in
      ap (λ (l : Line). anchor_of (content_under l there.found.under)) (sym (line_is n s ss c node)) ∙ value_unnamed there.found.under entries None

  -- ---- the text

  -- what comes after the dash, before a rest
  abbrev after_it : List ℕ → List ℕ
  after_it t = past_dash (drop e.line e.row.dashes) (after_dashes e.row t)

  row_text : (t : List ℕ) → print_row e.row t ≡ row_front (upto_dash e.line e.row) ++ past_dash (drop e.line e.row.dashes) (after_dashes e.row t)
  row_text t = row_cut e.line e.row t less

  -- more text comes after
  then_more : (t u : List ℕ) → after_it (t ++ u) ≡ after_it t ++ u
  then_more t u =
      append_cancel_left (row_front mark) (after_it (t ++ u)) (after_it t ++ u)
      (sym (row_text (t ++ u)) ∙ (row_then e.row t u ∙ (ap (λ l. l ++ u) (row_text t) ∙ append_assoc (row_front mark) (after_it t) u)))

  -- the text from after the dash on isn't empty, and ends in an LF, or nothing is after
  some_text : is_empty (dash_text e) ≡ false
  some_text = ap (λ ns. is_empty (past_dash ns (after_dashes e.row (rows_text e.under [])))) dash.2 ∙ spaces_some dash.0 _ asked.0

  dash_ended : Ended (dash_text e) (after_entry e)
  dash_ended = go (rows_ended_there n s ss c e there)
    where
      go : Ended (rows_text (e.row ∷ e.under) []) (after_entry e) → Ended (dash_text e) (after_entry e)
      go (inl lf) = inl (suffix_lf (row_front mark) (dash_text e) (subst IsLf (row_text (rows_text e.under [])) lf) some_text)
      go (inr none) = inr none

  pub dash_last_ends : IsBreak (last_break (dash_text e)) (rest n s ss c dash_node)
  dash_last_ends = subst (IsBreak (last_break (dash_text e))) dash_after (last_ends (dash_text e) (after_entry e) dash_ended)

  -- it ends in the dash
  dash_last : (front : List ℕ) × (before_entry e ++ row_front (upto_dash e.line e.row) ≡ front ++ 45 ∷ [])
  dash_last =
      let r : List ℕ = e.row.gap ++ (replicate e.row.column 32 ++ rows.dashes_text (take e.line e.row.dashes) []) in
      (before_entry e ++ r, ap (λ l. before_entry e ++ l) (front_is e.line e.row) ∙ sym (append_assoc (before_entry e) r (45 ∷ [])))

  module _ (read : read_at (cut_text c) ≡ Some c) (at : rows_of_entry n (s ∷ ss) c ≡ Some e) where
    pub dash_spelled : cut_text c ≡ (before_entry e ++ row_front (upto_dash e.line e.row)) ++ (dash_text e ++ after_entry e)
    dash_spelled =
        cut_spelled n (s ∷ ss) c e at
        ∙ (ap (λ l. before_entry e ++ l) (row_text (rows_text e.under (after_entry e)) ∙ ap (λ l. row_front mark ++ l) (ap after_it (rows_then e.under (after_entry e)) ∙ then_more (rows_text e.under []) (after_entry e)))
        ∙ sym (append_assoc (before_entry e) (row_front mark) (dash_text e ++ after_entry e)))

    -- the text round it is in pieces
    pub dash_pieces : IsPiece (before_entry e ++ row_front (upto_dash e.line e.row)) × IsPiece (after_entry e)
    dash_pieces = (subst IsPiece (sym dash_last.1) cut.0, after dash_ended)
      where
        cut : IsPiece (dash_last.0 ++ 45 ∷ []) × IsPiece (dash_text e ++ after_entry e)
        cut = last_cut 45 dash_last.0 (dash_text e ++ after_entry e) (omega arith) refl (subst (λ b. IsPiece (b ++ (dash_text e ++ after_entry e))) dash_last.1 (subst IsPiece dash_spelled (text_is_piece c read)))

        after : Ended (dash_text e) (after_entry e) → IsPiece (after_entry e)
        after (inl lf) = (line_cut lf.0 (after_entry e) (subst (λ t. IsPiece (t ++ after_entry e)) lf.1 cut.1)).1
        after (inr none) = subst IsPiece (sym none) nothing
