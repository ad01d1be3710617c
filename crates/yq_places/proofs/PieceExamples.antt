-- The smallest rows on which pieces can be seen.
use Rattle.std.proofs.Common.{◌≡◌, ℕ, List, [], ◌∷◌, ◌++◌, Option, Some, None, true, refl, codes}
use Rattle.yq_core.{specs.Answers.◌>>=◌, specs.Paths.{Step, Nth}, specs.declared.block_header.BlockStyle.TheVariants.Literal}
use Rattle.yq_core.{specs.declared.block_header.Chomping.TheVariants.Clip, specs.Text.{upto, text_lines}}
use Rattle.yq_row_table.specs.Rows.{Dash, Content, Inline, Block, Row, Cut, last}
use Rattle.yq_places.{specs.PrintedLines.less_break, specs.PathPieces.{printed_document, piece_in}}
use Rattle.yq_outline.specs.Outline.{level}
use Rattle.yq_documents.specs.declared.path.Part.{Part}
use Rattle.yq_core.specs.Nodes as inline
use Rattle.yq_documents.specs.declared.path.Part.TheVariants as parts

-- an item's row in column 0, after dashes
abbrev item : List ℕ → Content → Row
item dashes c = record { gap = []; column = 0; dashes = dashes; mark = Dash; content = c }

abbrev break : List ℕ
break = 10 ∷ []

abbrev scalar : List ℕ → List ℕ → Content
scalar t tail = Inline (codes " ") (inline.scalar t) (tail ++ break)

-- `- &x b # c⏎- - p⏎# h⏎  - q⏎- [r, s]⏎- |⏎ t⏎- &y⏎`
abbrev cut : Cut
cut = last (record {
  rows = item [] (Inline (codes " ") (inline.anchored (codes "x") (codes " ") (inline.scalar (codes "b"))) (codes " # c" ++ break))
      ∷ item (1 ∷ []) (scalar (codes "p") [])
      ∷ (record { gap = codes "# h" ++ break; column = 2; dashes = []; mark = Dash; content = scalar (codes "q") [] })
      ∷ item [] (Inline (codes " ") (inline.coll 93 [] (inline.item inline.bare (inline.scalar (codes "r")) (inline.comma [] (codes " ")) (inline.item inline.bare (inline.scalar (codes "s")) (inline.last []) inline.none))) break)
      ∷ item [] (Block (codes " ") None (record { style = Literal; digit = None; chomping = Clip; indicators = []; tail = break; raw = (codes " t" ++ break) ∷ []; indent = record { columns = 1; known = true } }))
      ∷ item [] (Inline (codes " ") (inline.anchored (codes "y") [] inline.empty) break) ∷ [];
  end = [];
})

-- the text of a part of the node to which steps lead
abbrev text_of : Part → List Step → Option (List ℕ)
text_of part steps = printed_document 0 cut >>= piece_in part steps >>= λ p. Some p.text

-- a scalar after an anchor, before a comment
plain : text_of parts.Content (Nth 0 ∷ []) ≡ Some (codes "b")
unfolding level inline.node_text
plain = refl

-- a compact collection, and its item
compact : text_of parts.Content (Nth 1 ∷ []) ≡ Some (codes "- p" ++ (break ++ (codes "# h" ++ (break ++ codes "  - q"))))
unfolding level inline.node_text less_break
compact = refl

compact_item : text_of parts.Entry (Nth 1 ∷ []) ≡ Some (codes "- - p" ++ (break ++ (codes "# h" ++ (break ++ codes "  - q"))))
unfolding level inline.node_text less_break
compact_item = refl

-- an item of a flow collection
flow : text_of parts.Entry (Nth 2 ∷ Nth 1 ∷ []) ≡ Some (codes "s")
unfolding level inline.node_text inline.flow_items_text
flow = refl

-- a block scalar ends with its last break, and its item before that
block : text_of parts.Content (Nth 3 ∷ []) ≡ Some (124 ∷ (break ++ (codes " t" ++ break)))
unfolding level
block = refl

block_item : text_of parts.Entry (Nth 3 ∷ []) ≡ Some (codes "- |" ++ (break ++ codes " t"))
unfolding level less_break
block_item = refl

-- nothing but an anchor
nothing : text_of parts.Content (Nth 4 ∷ []) ≡ None
unfolding level
nothing = refl

-- comments after and above
beside : text_of parts.LineComment (Nth 0 ∷ []) ≡ Some (codes "# c")
unfolding level inline.node_text upto
beside = refl

above : text_of parts.HeadComment (Nth 1 ∷ Nth 1 ∷ []) ≡ Some (codes "# h" ++ break)
unfolding level inline.node_text upto text_lines
above = refl
