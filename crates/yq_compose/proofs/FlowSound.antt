-- Whether items and entries in flow nodes are sound, as loops reach them.
use Rattle.std.proofs.Common.{rules, ◌≡◌, ℕ, ◌+◌, ◌<◌, Bool, true, ◌&&◌, leb, List, [], ◌∷◌, ◌++◌, Some, length, drop, get_or, max, inl}
use Rattle.std.proofs.Common.{inr, sym, ap, ◌∙◌, append_assoc, arith, String, string_bytes}
use Rattle.std.{proofs.lemmas.Bool.{and_parts, cases_lt, le-leb, leb-true, lt-leb}, proofs.lemmas.List.drop_more}
use Rattle.std.specs.declared.alloc.Global.{Global}
use Rattle.yq_core.specs.declared.piece.Piece.{Piece}
use Rattle.yq_core.specs.Keys.{are_distinct, deepest, depth, keys_of, each_has_unique_keys, has_unique_keys}
use Rattle.yq_core.{specs.Tree.{Children, Label, Node, child, plain_label}, specs.Trees.{parts_tree, placed_tree}}
use Rattle.yq_core.{specs.View.{entries_end, items_end, inline_view}, specs.declared.inline.Inline.Inline}
use Rattle.yq_outline.specs.Sound.{are_sound, head_is_sound}

abbrev Field : Type 0
Field = String Global × Piece × Inline

first_of : {A : Type 0} (xs : List A) (i : ℕ) (x : A) → i < length xs → x ≡ get_or xs i x → drop i xs ≡ x ∷ drop (i + 1) xs
first_of xs i x within is = drop_more xs i x within ∙ ap (λ y. y ∷ drop (i + 1) xs) (sym is)

-- ---- one item or entry before others

max_fits : (a b d : ℕ) → leb a d ≡ true → leb (max a b) d ≡ leb b d
max_fits a b d h = elim (cases_lt d b) [
  | inl lt ↦ lt-leb (max a b) d (omega (arith, lt)) ∙ sym (lt-leb b d lt)
  | inr le ↦ le-leb (max a b) d (omega (arith, le, leb-true a d h)) ∙ sym (le-leb b d le)
]

sound_more : (d : ℕ) (label : Label) (n : Node) (cs : Children) → head_is_sound d (Some n) ≡ true → are_sound d (child label n cs) ≡ are_sound d cs
sound_more d label n cs h =
    let parts = and_parts (leb (depth n) d) (has_unique_keys n) h in
    ap (λ b. b && (has_unique_keys n && each_has_unique_keys cs)) (max_fits (depth n) (deepest cs) d parts.0)
    ∙ ap (λ b. leb (deepest cs) d && (b && each_has_unique_keys cs)) parts.1

-- ---- items

module _ (d : ℕ) (is : List Inline) (i : ℕ) (x : Inline) (all : Bool) (within : i < length is) (at : x ≡ get_or is i x)
    (so_far : all ≡ are_sound d (parts_tree (items_end (drop i is)))) where
  items_from : all ≡ are_sound d (parts_tree (items_end (x ∷ drop (i + 1) is)))
  items_from = so_far ∙ ap (λ js. are_sound d (parts_tree (items_end js))) (first_of is i x within at)

  pub items_more : head_is_sound d (Some (placed_tree (inline_view x))) ≡ true → all ≡ are_sound d (parts_tree (items_end (drop (i + 1) is)))
  items_more h = items_from ∙ sound_more d plain_label (placed_tree (inline_view x)) (parts_tree (items_end (drop (i + 1) is))) h

-- ---- entries, with the keys of those before

abbrev entries_ask : ℕ → List (List ℕ) → List Field → Bool
entries_ask d keys es = are_sound d (parts_tree (entries_end es)) && are_distinct (keys ++ keys_of (parts_tree (entries_end es)))

module _ (d : ℕ) (es : List Field) (i : ℕ) (e : Field) (keys : List (List ℕ)) (all : Bool) (within : i < length es) (at : e ≡ get_or es i e)
    (so_far : all ≡ entries_ask d keys (drop i es)) where
  entries_from : all ≡ entries_ask d keys (e ∷ drop (i + 1) es)
  entries_from = so_far ∙ ap (entries_ask d keys) (first_of es i e within at)

  pub entries_more : (k : List ℕ) (new : List (List ℕ)) → k ≡ string_bytes e.0 → new ≡ keys ++ k ∷ [] → head_is_sound d (Some (placed_tree (inline_view e.2)))
      ≡ true → all ≡ entries_ask d new (drop (i + 1) es)
  entries_more k new key is h = search (rules, append_assoc, entries_from, sound_more)
