-- The items or entries of the code, as those of trees.
use Rattle.std.specs.Prelude.{◌≡◌, ℕ, length, Option, Some, None}
use Rattle.yq_core.{specs.Tree.{Children, none, child}, specs.Trees.parts_tree, specs.View.{entries_end, items_end}}
use Rattle.yq_inline.specs.BorrowedParts.{parts_view}
use Rattle.yq_outline.specs.Places.{content_under}
use Rattle.yq_nodes.{specs.Bodies.body_outline, specs.Nodes.{node_of, label_of}, specs.declared.nodes.node.Node.Node}
use Rattle.yq_nodes.specs.declared.nodes.under.Under.{Under}
use Rattle.yq_documents.specs.Stretches.{IsLineIn, count_from, lines_under}
use Rattle.yq_outline.specs.Outline as outline
use Rattle.yq_nodes.specs.declared.nodes.children.Children as declared
use Rattle.yq_nodes.specs.declared.nodes.children.Rest as rests

-- items or entries that are left on lines (own)
abbrev pub lines_rest : Under → rests.Rest
lines_rest under = rests.TheVariants.Lines under

-- the items or entries that are left (own)
abbrev pub rest_of : rests.Rest → Children
rest_of rests.TheVariants.Nothing = none
rest_of (rests.TheVariants.Lines under) = outline.children (body_outline under)
rest_of (rests.TheVariants.Items items) = parts_tree (items_end items.now)
rest_of (rests.TheVariants.Entries entries) = parts_tree (entries_end entries.now)
rest_of (rests.TheVariants.Borrowed parts) = parts_tree (parts_view parts)

-- how many lines of a document are from one on (own)
abbrev pub lines_left : Under → ℕ
lines_left u = count_from u.text.now u.document u.first

-- how many lines, items or entries are left at most (own)
abbrev pub rest_length : rests.Rest → ℕ
rest_length rests.TheVariants.Nothing = 0
rest_length (rests.TheVariants.Lines under) = lines_left under
rest_length (rests.TheVariants.Items items) = length items.now
rest_length (rests.TheVariants.Entries entries) = length entries.now
rest_length (rests.TheVariants.Borrowed parts) = length parts.text.now

-- the items or entries that an iterator of the code has not yielded yet (own)
abbrev pub left_of : declared.Children → Children
left_of c = rest_of c.rest

-- The first of these lines begins an item or entry, and the others are after it and the lines under it (own).
pub record Passes (old new : Under) : Type 0 where
  pub first : IsLineIn old.text.now old.document old.first
  pub children_are : outline.children (body_outline old) ≡ child (outline.label first.line)
      (content_under first.line (lines_under old.text.now old.document old.first first.line)) (outline.children (body_outline new))

-- the first item or entry of these lines is passed; or there is none (own)
abbrev pub PassesFirst : Under → Option Under → Type 0
PassesFirst old None = outline.children (body_outline old) ≡ none
PassesFirst old (Some new) = Passes old new

-- the first of these items or entries is yielded, and the others are left; where there is none, nothing is yielded (own)
abbrev pub YieldsChild : declared.Children → Option Node → declared.Children → Type 0
YieldsChild old None new = (left_of old ≡ none) × (left_of new ≡ none)
YieldsChild old (Some n) new = left_of old ≡ child (label_of n) (node_of n) (left_of new)
