-- A value put in the place of what a key or dash holds is an edit.
use Rattle.std.{proofs.Common.{◌≡◌, ℕ, ◌≤◌, true, false, List, [], ◌∷◌, length, sym, ◌∙◌}, proofs.lemmas.Bool.cond_both}
use Rattle.yq_core.{specs.BlockWritten.break_text, specs.Paths.Step, specs.Tree.Node}
use Rattle.yq_core.specs.declared.style.Place.TheVariants.{Block as InBlock}
use Rattle.yq_text.{specs.Limit.text_limit, specs.Script.{Segment, new_text}}
use Rattle.yq_flow_edits.specs.Valued.{IsValueTree}
use Rattle.yq_row_table.{specs.Rows.Cut, specs.Seams.is_block}
use Rattle.yq_places.specs.Placements.{Held, RowsOfEntry, held}
use Rattle.yq_edit_rules.{specs.PlacementLaws.HasItsRows, specs.declared.layout.Layout.Layout, specs.BlockReading.is_filled}
use Rattle.yq_edit_rules.{specs.BlockRows.item_column, specs.BlockText.block_value, specs.EditLaws.{CarriedOut, IsEdit}}
use Rattle.yq_edit_rules.{specs.Layouts.layout_of, specs.ReplaceEdits.held_put}
use Rattle.yq_edit_rules.specs.WrittenValues.{Written, inline, compact_text, lines, collection_at, column_under, lines_in, takes_compact}
use Rattle.yq_edit_rules.{specs.WrittenValues.{value_text, written_at, written_under}, proofs.EditsFitLaws.{FitsReplace, fits_replace}}
use Rattle.yq_edit_rules.proofs.ValueTexts.{value_for}
use Rattle.yq_semantics.specs.Operations.{Operation, replace}
use Rattle.yq_edit_laws.{proofs.HeldCarried.{held_old, KnowsHeld}, proofs.HeldLines.{held_compact, held_lines}}
use Rattle.yq_edit_laws.proofs.HeldInline.{held_inline}

module _ (n : ℕ) (s : Step) (ss : List Step) (c : Cut) (e : RowsOfEntry) (there : HasItsRows n s ss c e) (last : e.line ≡ length e.row.dashes) (k : KnowsHeld n s ss c e there last) (v : Node) (block : is_block e.row.content ≡ false) where
  abbrev w : Held
  w = held e

  abbrev l : Layout
  l = layout_of n c

  abbrev op : Operation
  op = replace n (s ∷ ss) v

  abbrev us : Written → List Segment
  us y = held_put (break_text l.br) w y

  -- segments that carry it out where they aren't too long
  abbrev GivesSegments : Written → Type 0
  GivesSegments y = length (new_text (us y)) ≤ text_limit → CarriedOut op c (us y)

  module _ (tree : IsValueTree v) (f : FitsReplace n (s ∷ ss) v c there.part) where
    on_line : (old : List ℕ) → GivesSegments (inline (value_text InBlock old v))
    on_line old = held_inline n s ss c e there last k l.br v f (value_text InBlock old v) (value_for old v tree f.deep f.long) block

    on_lines : is_filled v ≡ true → GivesSegments (lines (lines_in l (column_under l w.mark v) v))
    on_lines full = held_lines n s ss c e there last k v tree f full

    collection : is_filled v ≡ true → GivesSegments (collection_at l w.mark v)
    collection full =
        cond_both (takes_compact w.mark) (compact_text (block_value l (item_column w.mark.column) v)) (lines (lines_in l (column_under l w.mark v) v)) GivesSegments
        (λ free. held_compact n s ss c e there last k v tree f full free) (λ other. on_lines full)

    at_carried : GivesSegments (written_at l w.mark w.head v)
    at_carried = cond_both (is_filled v) (collection_at l w.mark v) (inline (value_text InBlock w.head v)) GivesSegments collection (λ other. on_line w.head)

    below_carried : GivesSegments (written_under l w.mark v)
    below_carried = cond_both (is_filled v) (lines (lines_in l (column_under l w.mark v) v)) (inline (value_text InBlock [] v)) GivesSegments on_lines (λ other. on_line [])

  edit_of : (y : Written) → (IsValueTree v → FitsReplace n (s ∷ ss) v c there.part → GivesSegments y) → IsEdit op c (us y)
  edit_of y f = record { old = held_old (break_text l.br) w y ∙ sym k.spells; carried = λ tree fits. f tree (fits_replace n (s ∷ ss) v c there.part there.old.there tree fits) }

  -- in the place of an inline node, or of nothing
  pub at_edit : IsEdit op c (us (written_at l w.mark w.head v))
  at_edit = edit_of (written_at l w.mark w.head v) at_carried

  -- in the place of lines below
  pub below_edit : IsEdit op c (us (written_under l w.mark v))
  below_edit = edit_of (written_under l w.mark v) below_carried
