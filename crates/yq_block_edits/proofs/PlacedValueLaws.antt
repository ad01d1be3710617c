-- What is put where something is asks for no more than it writes.
use Rattle.std.proofs.Common.{◌≡◌, ℕ, ◌+◌, Bool, true, false, cond, List, [], ◌++◌, replicate, Some, option_map, refl, sym, ap, subst, ◌∙◌}
use Rattle.std.proofs.lemmas.Bool.{or_left}
use Rattle.yq_core.{specs.BlockWritten.break_text, specs.Paths.Step, specs.Tree.Node}
use Rattle.yq_core.specs.declared.style.Place.TheVariants.{Block as InBlock}
use Rattle.yq_row_table.specs.Rows.{Cut}
use Rattle.yq_places.specs.NodesAt.{node_in, scalar_in}
use Rattle.yq_places.specs.Placements.{MarkPieces, Placement, alone, beside, under, compact, block, root, no_rows, placement_at}
use Rattle.yq_edit_rules.{specs.BlockReading.is_filled, specs.BlockRows.{indent_step, item_column}, specs.BlockText.block_value}
use Rattle.yq_edit_rules.{specs.declared.layout.Layout.Layout, specs.ClosedTexts.{is_closed_text, closed_lines_put}}
use Rattle.yq_edit_rules.specs.Layouts.{LooksLike, node_asks, is_filled_as, is_under_key, layout_of}
use Rattle.yq_edit_rules.specs.ReplaceEdits.{compact_put, has_text, held_put, block_scalar_put, value_put}
use Rattle.yq_edit_rules.specs.WrittenValues.{collection_at, column_under, compact_text, inline, lines, lines_in, takes_compact, value_text}
use Rattle.yq_edit_rules.{specs.WrittenValues.{written_at, written_under}, proofs.LayoutLaws.{indent_like, value_like}}
use Rattle.yq_edit_rules.specs.PiecePuts.{lines_replaced, piece_replaced}
use Rattle.yq_text.specs.Script.{Segment}

-- ---- a value that isn't a collection with items or entries

module _ (l : Layout) (m : MarkPieces) (v : Node) (none : is_filled v ≡ false) where
  pub unfilled_at : (old : List ℕ) → written_at l m old v ≡ inline (value_text InBlock old v)
  unfilled_at old = ap (λ b. cond b (collection_at l m v) (inline (value_text InBlock old v))) none

  pub unfilled_below : written_under l m v ≡ inline (value_text InBlock [] v)
  unfilled_below = ap (λ b. cond b (lines (lines_in l (column_under l m v) v)) (inline (value_text InBlock [] v))) none

-- ---- layouts

module _ (v : Node) (l k : Layout) where
  -- on lines below a key or dash
  column_like : (m : MarkPieces) → LooksLike m.keyed v l k → is_filled v ≡ true → column_under l m v ≡ column_under k m v
  column_like m h filled = go m.keyed h
    where
      go : (keyed : Bool) → LooksLike keyed v l k → cond keyed (m.column + indent_step l v) (item_column m.column) ≡ cond keyed (m.column + indent_step k v) (item_column m.column)
      go false h = refl
      go true h = ap (λ d. m.column + d) (indent_like l k v (λ dashes e. h.1 dashes (or_left (is_filled_as dashes v) (node_asks dashes v) e)) filled)

  lines_like : (m : MarkPieces) → LooksLike m.keyed v l k → is_filled v ≡ true → lines_in l (column_under l m v) v ≡ lines_in k (column_under k m v) v
  lines_like m h filled = λ i. replicate (column_like m h filled i) 32 ++ (value_like m.keyed v l k (column_under l m v) h ∙ ap (λ n. block_value k n v) (column_like m h filled)) i

  -- as it is written after a key or dash
  at_like : (m : MarkPieces) (old : List ℕ) → LooksLike m.keyed v l k → written_at l m old v ≡ written_at k m old v
  at_like m old h = go (is_filled v) refl
    where
      go : (b : Bool) → is_filled v ≡ b → written_at l m old v ≡ written_at k m old v
      go true is = λ i. cond (is_filled v) (cond (takes_compact m) (compact_text (value_like m.keyed v l k (item_column m.column) h i)) (lines (lines_like m h is i))) (inline (value_text InBlock old v))
      go false is = unfilled_at l m v is old ∙ sym (unfilled_at k m v is old)

  below_like : (m : MarkPieces) → LooksLike m.keyed v l k → written_under l m v ≡ written_under k m v
  below_like m h = go (is_filled v) refl
    where
      go : (b : Bool) → is_filled v ≡ b → written_under l m v ≡ written_under k m v
      go true is = λ i. cond (is_filled v) (lines (lines_like m h is i)) (inline (value_text InBlock [] v))
      go false is = unfilled_below l m v is ∙ sym (unfilled_below k m v is)

  -- what is put by one look is what is put by another one that is like it
  put_like : (text : Bool) (t : Placement) → LooksLike (is_under_key t) v l k → value_put text l v t ≡ value_put text k v t
  put_like text (alone w) h = refl
  put_like text (beside held) h = λ i. held_put (break_text (h.0 i)) held (at_like held.mark held.head h i)
  put_like text (under held column) h = λ i. held_put (break_text (h.0 i)) held (below_like held.mark h i)
  put_like text (compact mark column w) h = λ i. compact_put (break_text (h.0 i)) w (at_like mark [] h i)
  put_like text (block held indent) h = λ i. block_scalar_put text (break_text (h.0 i)) held indent (at_like held.mark [] h i) (scalar_in v)
  put_like text (root column w) h = λ i. lines_replaced w (value_like false v l k column h i)
  put_like text (no_rows w) h = λ i. piece_replaced w (closed_lines_put (is_closed_text w.before) (break_text (h.0 i)) (value_like false v l k 0 h i))

-- a value put where something is, by a look that is like the document's, and by a text that is asked where it is a matter of that
pub placed_there : (n : ℕ) (steps : List Step) (v : Node) (c : Cut) (l : Layout) (b keyed : Bool) (t : Placement) (ss : List Segment) → Some t ≡ placement_at n steps c → keyed ≡ is_under_key t →
    LooksLike keyed v l (layout_of n c) → ((k : Layout) → value_put b k v t ≡ value_put (has_text (node_in n steps c)) k v t) → ss ≡ value_put b l v t →
    option_map (value_put (has_text (node_in n steps c)) (layout_of n c) v) (placement_at n steps c) ≡ Some ss
placed_there n steps v c l b keyed t ss found told like asked is =
    let same = put_like v l (layout_of n c) b t (subst (λ (x : Bool). LooksLike x v l (layout_of n c)) told like) in
    ap (option_map (value_put (has_text (node_in n steps c)) (layout_of n c) v)) (sym found) ∙ ap Some (sym (asked (layout_of n c)) ∙ (sym same ∙ sym is))
