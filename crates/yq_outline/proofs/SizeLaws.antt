-- How many nodes there are in flow collections: fewer in a part than in the whole.
use Rattle.std.proofs.Common.{◌≡◌, ℕ, zero, suc, ◌≤◌, ◌+◌, List, [], ◌∷◌, length, drop, sym, ap, ◌∙◌, arith, get_or, ◌<◌}
use Rattle.std.{proofs.lemmas.List.drop_more, specs.Prelude.String, specs.declared.alloc.Global.Global}
use Rattle.yq_core.{specs.declared.piece.Piece.Piece, specs.declared.inline.Inline.Inline, specs.View.{inline_view, items_end, entries_end}}
use Rattle.yq_core.specs.Places.{Placed, placed, CoreNode, nothing, name, text, sequence, mapping, Parts, end, part}

-- how many nodes there are
abbrev mutual
  pub node_size : Placed → ℕ
  node_size (placed a s c e f) = suc (form_size f)

  pub form_size : CoreNode → ℕ
  form_size nothing = 0
  form_size (name n) = 0
  form_size (text s p) = 0
  form_size (sequence parts) = parts_size parts
  form_size (mapping parts) = parts_size parts

  pub parts_size : Parts → ℕ
  parts_size end = 0
  parts_size (part key n parts) = node_size n + parts_size parts

drop_items : (xs : List Inline) (i : ℕ) → parts_size (items_end (drop i xs)) ≤ parts_size (items_end xs)
drop_items xs zero = omega arith
drop_items [] (suc i) = omega arith
drop_items (x ∷ xs) (suc i) = omega (arith, drop_items xs i)

drop_entries : (xs : List (String Global × Piece × Inline)) (i : ℕ) → parts_size (entries_end (drop i xs)) ≤ parts_size (entries_end xs)
drop_entries xs zero = omega arith
drop_entries [] (suc i) = omega arith
drop_entries (x ∷ xs) (suc i) = omega (arith, drop_entries xs i)

pub item_size : (xs : List Inline) (i : ℕ) (x : Inline) → i < length xs → x ≡ get_or xs i x → node_size (inline_view x) ≤ parts_size (items_end xs)
item_size xs i x within is =
    let e : drop i xs ≡ x ∷ drop (i + 1) xs = drop_more xs i x within ∙ ap (λ y. y ∷ drop (i + 1) xs) (sym is) in
    let whole : parts_size (items_end (drop i xs)) ≡ node_size (inline_view x) + parts_size (items_end (drop (i + 1) xs)) = ap (λ l. parts_size (items_end l)) e in
    omega (arith, drop_items xs i, whole)

pub entry_size : (xs : List (String Global × Piece × Inline)) (i : ℕ) (x : String Global × Piece × Inline) → i < length xs → x ≡ get_or xs i x → node_size (inline_view x.2) ≤ parts_size (entries_end xs)
entry_size xs i x within is =
    let e : drop i xs ≡ x ∷ drop (i + 1) xs = drop_more xs i x within ∙ ap (λ y. y ∷ drop (i + 1) xs) (sym is) in
    let whole : parts_size (entries_end (drop i xs)) ≡ node_size (inline_view x.2) + parts_size (entries_end (drop (i + 1) xs)) = ap (λ l. parts_size (entries_end l)) e in
    omega (arith, drop_entries xs i, whole)
