-- How block style looks in a document of a text (own).
use Rattle.std.{specs.Prelude.{◌≡◌, ℕ, ◌&&◌, ◌||◌, not, Bool, true, false, if◌then◌else◌}, specs.Option.is_some}
use Rattle.yq_core.specs.Tree.{Node, alias, scalar, list, map, Children, none, child}
use Rattle.yq_row_table.specs.Rows.{Cut, cut_text}
use Rattle.yq_places.{specs.FirstBreak.first_break, specs.Steps.document_steps}
use Rattle.yq_places.specs.Placements.{Placement, alone, beside, under, compact, block, root, no_rows}
use Rattle.yq_edit_rules.{specs.BlockReading.is_filled, specs.declared.layout.Layout.Layout}

-- how block style looks in document n of a cut: with the text's first break, and that document's steps (own)
abbrev pub layout_of : ℕ → Cut → Layout
layout_of n c = record { br = first_break (cut_text c); mapping = (document_steps n c).mapping; sequence = (document_steps n c).sequence }

-- by how many columns a sequence, or a mapping, is deeper than its key (own)
abbrev pub columns_deeper : (dashes : Bool) → Layout → ℕ
columns_deeper dashes l = if dashes then l.sequence else l.mapping

-- whether a node is a sequence, or a mapping, with items or entries, as the flag asks (own)
abbrev pub is_filled_as : (dashes : Bool) → Node → Bool
is_filled_as dashes (alias name) = false
is_filled_as dashes (scalar a kind text) = false
is_filled_as dashes (list a cs) = dashes && is_filled (list a cs)
is_filled_as dashes (map a cs) = not dashes && is_filled (map a cs)

unfoldable mutual
  -- whether such a collection is under a key in a node (own)
  pub node_asks : (dashes : Bool) → Node → Bool
  node_asks dashes (alias name) = false
  node_asks dashes (scalar a kind text) = false
  node_asks dashes (list a cs) = children_ask dashes cs
  node_asks dashes (map a cs) = children_ask dashes cs

  -- whether one of them is such a collection under its key, or has one in it (own)
  pub children_ask : (dashes : Bool) → Children → Bool
  children_ask dashes none = false
  children_ask dashes (child label n cs) = (is_some label.key && is_filled_as dashes n) || (node_asks dashes n || children_ask dashes cs)

-- whether a key holds what is there (8.2.2)
abbrev pub is_under_key : Placement → Bool
is_under_key (alone w) = false
is_under_key (beside h) = h.mark.keyed
is_under_key (under h column) = h.mark.keyed
is_under_key (compact mark column w) = mark.keyed
is_under_key (block h indent) = h.mark.keyed
is_under_key (root column w) = false
is_under_key (no_rows w) = false

-- whether a value asks for the step of such collections, where it is put under a key, or elsewhere (own)
abbrev pub is_asked : (keyed dashes : Bool) → Node → Bool
is_asked keyed dashes v = (keyed && is_filled_as dashes v) || node_asks dashes v

-- a look of block style is this one as far as a value asks for it, under a key or elsewhere: its break, and the steps that are asked (own)
abbrev pub LooksLike : (keyed : Bool) → Node → Layout → Layout → Type 0
LooksLike keyed v l k = (l.br ≡ k.br) × ((dashes : Bool) → is_asked keyed dashes v ≡ true → columns_deeper dashes l ≡ columns_deeper dashes k)
