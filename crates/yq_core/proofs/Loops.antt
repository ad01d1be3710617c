-- The loops over items and entries.
use Rattle.std.proofs.Common.{◌≡◌, ℕ, ◌<◌, true, false, List, [], ◌∷◌, ◌++◌, length, Option, Some, None, refl, ap, String, string_bytes}
use Rattle.std.{proofs.Common.rules, proofs.lemmas.Option.same_Some, specs.declared.alloc.Global.Global}
use Rattle.yq_core.{specs.declared.piece.Piece.Piece, specs.Answers.◌>>=◌, proofs.Bools.bind_some, specs.declared.inline.Inline.Inline}
use Rattle.yq_core.{specs.Nodes.{begins_with, bare, is_empty_node, node_text}, specs.Places.{Placed, Parts, part, bare_placed}}
use Rattle.yq_core.{specs.PlacedReading.{placed_node, placed_items, placed_item, placed_entry}, specs.Reading.all_node}
use Rattle.yq_core.{specs.View.{inline_view, items_view, entries_view, after_items, after_entries}, proofs.NodeLaws.all_takes}
use Rattle.yq_core.{proofs.NodeAgain.item_longer, proofs.Steps.{bare_locate, items_more, entries_more, then_entry}}

-- a node that is something is longer than nothing
pub node_shorter : (total d : ℕ) (t : List ℕ) (s : Placed) (r : List ℕ) → placed_node true (Some 0) total d t ≡ Some (s, r) → bare_placed s ≡ false → length r < length t
node_shorter total d t s r h some =
    let x = bind_some (all_node true (Some 0) d t) h in
    let a = all_takes true (Some 0) d t x.0 x.1 in
    let full : is_empty_node x.0.0 ≡ false = search (rules, same_Some, bare_locate, x) in
    let less : length x.0.1 < length (node_text x.0.0 x.0.1) = item_longer true (Some 0) d bare x.0.0 x.0.1 (rw full refl) a.1 in
    search (rules, same_Some, less, x, a)

items_push : (is : List Inline) (x : Inline) (rest : Parts) → items_view (is ++ x ∷ []) rest ≡ items_view is (part None (inline_view x) rest)
items_push [] x rest = refl
items_push (y ∷ is) x rest = ap (part None (inline_view y)) (items_push is x rest)

after_push : (is : List Inline) (x : Inline) (o : Option (Parts × List ℕ)) → after_items (is ++ x ∷ []) o ≡ after_items is (o >>= λ y. Some (part None (inline_view x) y.0, y.1))
after_push is x (Some y) = ap (λ s. Some (s, y.1)) (items_push is x y.0)
after_push is x None = refl

-- one item more
pub items_on : (total d : ℕ) (is items : List Inline) (x : Inline) (t s : List ℕ) (all : Option (Parts × List ℕ)) → begins_with 93 t ≡ false → placed_item total d t ≡ Some (inline_view x, s) →
    items ≡ is ++ x ∷ [] → after_items is (placed_items total d 93 t) ≡ all → after_items items (placed_items total d 93 s) ≡ all
items_on total d is items x t s all opens item pushed so_far = search (rules, then_entry, items_more, after_push)

abbrev Entry : Type 0
Entry = String Global × Piece × Inline

entries_push : (es : List Entry) (e : Entry) (rest : Parts) → entries_view (es ++ e ∷ []) rest ≡ entries_view es (part (Some (string_bytes e.0, e.1)) (inline_view e.2) rest)
entries_push [] e rest = refl
entries_push (y ∷ es) e rest = ap (part (Some (string_bytes y.0, y.1)) (inline_view y.2)) (entries_push es e rest)

after_entry : (es : List Entry) (e : Entry) (o : Option (Parts × List ℕ)) → after_entries (es ++ e ∷ []) o ≡ after_entries es (o >>= λ y. Some (part (Some (string_bytes e.0, e.1)) (inline_view e.2) y.0, y.1))
after_entry es e o = search (rules, entries_push)

-- one entry more
pub entries_on : (total d : ℕ) (es entries : List Entry) (e : Entry) (t s : List ℕ) (all : Option (Parts × List ℕ)) → begins_with 125 t ≡ false → placed_entry total d t ≡ Some (((string_bytes e.0, e.1), inline_view e.2), s) →
    entries ≡ es ++ e ∷ [] → after_entries es (placed_items total d 125 t) ≡ all → after_entries entries (placed_items total d 125 s) ≡ all
entries_on total d es entries e t s all opens entry pushed so_far = search (rules, then_entry, string_bytes, entries_more, after_entry)
