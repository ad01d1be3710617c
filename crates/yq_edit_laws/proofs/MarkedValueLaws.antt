-- A value put at an item or entry, or in the place of a node alone on its line, is an edit, by what is there.
use Rattle.std.proofs.Common.{arith, ltb, ⊎_elim, ◌<◌, ◌≤◌, ◌≡◌, ℕ, true, false, eqb, List, [], ◌∷◌, ◌++◌, length, Some, refl, ap, ◌∙◌}
use Rattle.std.{proofs.Common.{subst, eqb-true}, proofs.lemmas.Bool.{cases_Bool, cond_both, eqb-false, false≢true, ltb-false, ltb-true}}
use Rattle.yq_core.{specs.BlockWritten.break_text, specs.Paths.Step, specs.Text.is_empty, specs.Tree.Node}
use Rattle.yq_row_table.{specs.Rows.{Content, Nothing, Inline, Block, Row, Cut, cut_text, print_row, rows_text}, specs.Seams.is_block}
use Rattle.yq_row_table.specs.View.{content_cut, slices}
use Rattle.yq_documents.specs.Reading.{read_at}
use Rattle.yq_places.{specs.NodesAt.node_in, specs.PlacedRows.{PlacedPart, placed_document}}
use Rattle.yq_places.specs.Placements.{RowsOfEntry, Placement, before_entry, after_entry, past_mark, below, compact_in, compact_mark}
use Rattle.yq_places.{specs.Placements.{entry_placement, held, is_alone, lone, rows_of_entry, root_placement}, proofs.PrintedTexts.map_some}
use Rattle.yq_edit_rules.{specs.PlacementLaws.HasItsRows, proofs.PlacementRows.{entry_within, rows_located}, specs.EditLaws.IsEdit}
use Rattle.yq_edit_rules.{specs.Layouts.layout_of, specs.ReplaceEdits.{has_text, value_put}, specs.WrittenValues.written_at}
use Rattle.yq_edit_rules.proofs.EditsFitLaws.{fits_replace}
use Rattle.yq_semantics.specs.Operations.{replace}
use Rattle.yq_edit_laws.{specs.MarkedValues.{MarkedValuesArePut, is_marked}, proofs.DashCarried.{dash_carried, dash_old}}
use Rattle.yq_edit_laws.{proofs.HeldEdits.{at_edit, below_edit}, proofs.HeldCarried.{KnowsHeld, first_alone}}
use Rattle.yq_edit_laws.{proofs.HeldRows.{headless_there, held_known}, proofs.LoneRows.{lone_edit, lone_root_edit}}
use Rattle.yq_edit_laws.proofs.ScalarPuts.{scalar_edit}
use Rattle.yq_places.specs.Placements as placements

-- of two numbers that differ the one that isn't more is less
less : (a b : ℕ) → eqb a b ≡ false → a ≤ b → a < b
less a b e h = ⊎_elim {0, 0, 0} (λ t. ltb-true a b t) (λ f. let most = ltb-false a b f in absurd (eqb-false a b e (omega (arith, h, most)))) (cases_Bool (ltb a b))

-- ---- by what is there

module _ (n : ℕ) (s : Step) (ss : List Step) (v : Node) (c : Cut) (e : RowsOfEntry) (read : read_at (cut_text c) ≡ Some c) (at : rows_of_entry n (s ∷ ss) c ≡ Some e) where
  there : HasItsRows n s ss c e
  there = rows_located n s ss c e read at

  abbrev IsPut : Placement → Type 0
  IsPut t = IsEdit (replace n (s ∷ ss) v) c (value_put (has_text (node_in n (s ∷ ss) c)) (layout_of n c) v t)

  module _ (last : e.line ≡ length e.row.dashes) where
    known : first_alone e.under ≡ false → KnowsHeld n s ss c e there last
    known = held_known n s ss c e there last read at

    under_it : is_empty (slices e.row).head ≡ true → is_block e.row.content ≡ false → (us : List Row) → e.under ≡ us → IsPut (below e us)
    under_it none block [] is = at_edit n s ss c e there last (known (ap first_alone is)) v block
    under_it none block (r ∷ rs) is =
        cond_both (is_alone r) (placements.alone (lone (before_entry e ++ print_row e.row []) r (rows_text rs (after_entry e)))) (placements.under (held e) r.column) IsPut
        (λ alone. lone_edit n s ss v c e r rs read at last is alone) (λ other. below_edit n s ss c e there last (known (ap first_alone is ∙ other)) v block)

    by_content : (x : Content) → e.row.content ≡ x → IsPut (past_mark e x)
    by_content (Nothing tail) is = under_it (ap (λ y. is_empty (content_cut y).3) is) (ap is_block is) e.under refl
    by_content (Inline space node tail) is =
        cond_both (is_empty (slices e.row).head) (below e e.under) (placements.beside (held e)) IsPut
        (λ none. under_it none (ap is_block is) e.under refl) (λ some. at_edit n s ss c e there last (known (ap first_alone (headless_there n s ss c e there last some))) v (ap is_block is))
    by_content (Block space anchor b) is = scalar_edit n s ss c e there last (known (ap first_alone (headless_there n s ss c e there last (ap (λ y. is_empty (content_cut y).3) is)))) space anchor b is v

  dash_put_there : e.line < length e.row.dashes → IsPut (compact_in e)
  dash_put_there strict = record {
    old = dash_old n s ss c e there strict read at (break_text (layout_of n c).br) (written_at (layout_of n c) (compact_mark e) [] v);
    carried = λ tree fits. dash_carried n s ss c e there strict read at v tree (fits_replace n (s ∷ ss) v c there.part there.old.there tree fits);
  }

  entry_put : IsPut (entry_placement e)
  entry_put =
      cond_both (eqb e.line (length e.row.dashes)) (past_mark e e.row.content) (compact_in e) IsPut
      (λ is. by_content (eqb-true e.line (length e.row.dashes) is) e.row.content refl) (λ other. dash_put_there (less e.line (length e.row.dashes) other (entry_within n s ss c e at)))

pub marked_values : MarkedValuesArePut
marked_values n (s ∷ ss) v c t read at marked kept =
    let e = map_some (rows_of_entry n (s ∷ ss) c) at in
    subst (λ (t : Placement). IsEdit (replace n (s ∷ ss) v) c (value_put (has_text (node_in n (s ∷ ss) c)) (layout_of n c) v t)) e.2 (entry_put n s ss v c e.0 read e.1)
marked_values n [] v c t read at marked kept =
    let d = map_some (placed_document n c) at in
    subst (λ (t : Placement). is_marked t ≡ true → IsEdit (replace n [] v) c (value_put (has_text (node_in n [] c)) (layout_of n c) v t)) d.2 (by_rows d.0 d.1 d.0.part.rows refl) marked
  where
    by_rows : (d : PlacedPart) → placed_document n c ≡ Some d → (rs : List Row) → d.part.rows ≡ rs → is_marked (root_placement d rs) ≡ true →
        IsEdit (replace n [] v) c (value_put (has_text (node_in n [] c)) (layout_of n c) v (root_placement d rs))
    by_rows d placed [] is marked = absurd (false≢true marked)
    by_rows d placed (r ∷ rs) is marked =
        cond_both (is_alone r) (placements.alone (lone d.before r (rows_text rs (d.part.end ++ d.after)))) (placements.root r.column (placements.root_lines d r rs))
        (λ (t : Placement). is_marked t ≡ true → IsEdit (replace n [] v) c (value_put (has_text (node_in n [] c)) (layout_of n c) v t))
        (λ alone m. lone_root_edit n v c d r rs read placed is alone) (λ other m. absurd (false≢true m)) marked
