-- Where items and entries of flow collections are in the head of a row.
use Rattle.std.proofs.Common.{◌≡◌, ℕ, ◌+◌, ◌≤◌, List, [], ◌∷◌, ◌++◌, length, take, Option, Some, None, option_map, refl, sym, ap, ◌∙◌}
use Rattle.std.{proofs.Common.{arith, append_assoc, length-append}, proofs.lemmas.Option.same_Some}
use Rattle.yq_text.specs.Limit.{text_limit}
use Rattle.yq_core.{specs.Paths.Step, specs.Entries.{EntryPieces, entry_pieces_at}, specs.Nodes.{Key, bare, key_text, keyed}}
use Rattle.yq_core.{specs.Places.Placed, proofs.PathLaws.path_is_there}
use Rattle.yq_inline.specs.Along.{along_view, as_item, front_read, located_along, located_from, node_from}
use Rattle.yq_inline.{specs.declared.along.NodeAlong.NodeAlong, specs.declared.before_offset.LeadingNode.LeadingNode}
use denote.Bor.{Bor}
use Rattle.yq_lookup.specs.RowFronts.{IsFlowFront, IsRowFront}
use Rattle.yq_core.specs.declared.path.Step as declared

-- what comes before the node of an entry
key_front : (key : Key) (rest : List ℕ) → (l : List ℕ) × (key_text key rest ≡ l ++ rest)
key_front bare rest = ([], refl)
key_front (keyed p b g) rest = (p ++ (b ++ (58 ∷ g)), simp append_assoc refl)

-- Steps lead to the flow collection at a path in a node in front.
module _ (t : List ℕ) (n : ℕ) (steps : List Step) (x : LeadingNode × ℕ × Bor (List declared.Step)) (w : IsFlowFront t n steps x) where
  abbrev row : List ℕ
  row = x.0.text.now

  abbrev start : ℕ
  start = x.1

  abbrev after : List ℕ
  after = w.after

  abbrev h : IsRowFront t w.after w.row (x.0, x.1)
  h = w.front

  abbrev top : EntryPieces
  top = as_item (h.head.node, h.head.rest)

  -- the text before the node of an item or entry in the row
  pub before_is : (ss : List Step) (y : EntryPieces) → entry_pieces_at ss top ≡ Some y → (l : List ℕ) × (row ≡ l ++ node_from y)
  before_is ss y there =
      let s = path_is_there ss top y there in
      let k = key_front y.key (node_from y) in
      (s.before ++ k.0, h.text ∙ (s.text ∙ (ap (λ (l : List ℕ). s.before ++ l) k.1 ∙ sym (append_assoc s.before k.0 (node_from y)))))

  pub inner_within : (ss : List Step) (m : NodeAlong) → Some (along_view m) ≡ located_along ss (front_read x.0) → length m.text.now ≤ length row
  inner_within ss m e = go (entry_pieces_at ss top) refl (e ∙ ap (located_along ss) h.read)
    where
      go : (o : Option EntryPieces) → entry_pieces_at ss top ≡ o → Some (along_view m) ≡ option_map located_from o → length m.text.now ≤ length row
      go None there e = cc
      go (Some y) there e =
          let b = before_is ss y there in
          omega (arith, ap length b.1, length-append b.0 (node_from y), ap (λ (z : List ℕ × Placed). length z.0) (same_Some _ _ e))

  pub row_within : start + length row ≤ text_limit
  row_within = omega (arith, h.size, h.begins, ap length h.is_located, length-append (take start t) (row ++ after), length-append row after)
