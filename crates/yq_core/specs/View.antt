-- The nodes that an `Inline` and a `BorrowedNode` of the code show.
use Rattle.std.{specs.Prelude.{ℕ, List, [], ◌∷◌, map, Option, Some, None, String, string_bytes}, specs.declared.alloc.Global.Global}
use denote.Bor.{Bor}
use Rattle.yq_core.{specs.declared.piece.Piece.Piece, specs.Answers.◌>>=◌, specs.declared.inline.Inline.Inline}
use Rattle.yq_core.{specs.declared.inline.Form.Form, specs.declared.inline.Form.TheOpen.{Inline-F, Form-F}}
use Rattle.yq_core.{specs.declared.inline.Form.TheFolds.{fold-Inline, fold-Form}, specs.Borrowed.leading_node}
use Rattle.yq_core.specs.declared.borrowed.BorrowedNode.{BorrowedNode}
use Rattle.yq_core.specs.Places.{Placed, placed, CoreNode, nothing, name, text, sequence, mapping, Parts, end, part}

-- items before others (own)
abbrev pub put_items : List Placed → Parts → Parts
put_items [] rest = rest
put_items (x ∷ xs) rest = part None x (put_items xs rest)

-- entries before others (own)
abbrev pub put_entries : List (String Global × Piece × Placed) → Parts → Parts
put_entries [] rest = rest
put_entries (x ∷ xs) rest = part (Some (string_bytes x.0, x.1)) x.2 (put_entries xs rest)

-- the name of an anchor (own)
abbrev pub anchor_name : Option (Bor (List ℕ)) → Option (List ℕ)
anchor_name None = None
anchor_name (Some a) = Some a.now

-- one level of what a node is (own)
abbrev pub form_step : Form-F CoreNode Placed → CoreNode
form_step Form-F.Empty = nothing
form_step (Form-F.Alias n) = name n.now
form_step (Form-F.Scalar s p) = text s p
form_step (Form-F.List v) = sequence (put_items v.items end)
form_step (Form-F.Map v) = mapping (put_entries v.items end)

-- one level of a node (own)
abbrev pub inline_step : Inline-F CoreNode Placed → Placed
inline_step i = placed (anchor_name i.anchor) i.start i.content i.end i.form

-- the node that an `Inline` shows (own)
abbrev pub inline_view : Inline → Placed
inline_view = fold-Inline CoreNode Placed form_step inline_step

-- what a `Form` shows (own)
abbrev pub form_view : Form → CoreNode
form_view = fold-Form CoreNode Placed form_step inline_step

-- the items that these show, before others (own)
abbrev pub items_view : List Inline → Parts → Parts
items_view is = put_items (map inline_view is)

-- an entry with the node that it shows (own)
abbrev pub pair_view : String Global × Piece × Inline → String Global × Piece × Placed
pair_view e = (e.0, e.1, inline_view e.2)

-- the entries that these show, before others (own)
abbrev pub entries_view : List (String Global × Piece × Inline) → Parts → Parts
entries_view es = put_entries (map pair_view es)

-- the items that these show (own)
abbrev pub items_end : List Inline → Parts
items_end is = items_view is end

-- the entries that these show (own)
abbrev pub entries_end : List (String Global × Piece × Inline) → Parts
entries_end es = entries_view es end

-- items before those that are read (own)
abbrev pub after_items : List Inline → Option (Parts × List ℕ) → Option (Parts × List ℕ)
after_items is read = read >>= λ x. Some (items_view is x.0, x.1)

-- entries before those that are read (own)
abbrev pub after_entries : List (String Global × Piece × Inline) → Option (Parts × List ℕ) → Option (Parts × List ℕ)
after_entries es read = read >>= λ x. Some (entries_view es x.0, x.1)

-- the node that a `BorrowedNode` shows (own)
abbrev pub borrowed_view : BorrowedNode → Placed
borrowed_view b = leading_node b.total b.depth b.text.now
