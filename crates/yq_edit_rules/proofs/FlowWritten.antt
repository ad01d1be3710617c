-- What is written of a value in flow style is the inline node of that value, and a piece of a text.
use Rattle.std.{proofs.Common.{◌≡◌, ℕ, ◌||◌, List, Option, false, rules}, proofs.lemmas.Bool.{false≢true, ltb-false, or_parts}}
use Rattle.yq_core.{specs.Tree.Children, proofs.PlainSpells.writable_text, specs.NodesWritten.{scalar_text, flow_key, flow_of, flow_items}}
use Rattle.yq_documents.specs.Documents.{HasFitKey, HasFitKeys, EachHasFitKeys}
use Rattle.yq_semantics.specs.Changes.{is_overlong_key, has_long_key, have_long_key}
use Rattle.yq_core.specs.Tree as tree

pub key_fits : (k : Option (List ℕ)) → is_overlong_key k ≡ false → HasFitKey (flow_key k)
unfolding scalar_text
key_fits k h1 = search (rules, writable_text, false≢true, ltb-false)

mutual
  unfolding flow_of flow_items

  pub flow_fits : (v : tree.Node) → has_long_key v ≡ false → HasFitKeys (flow_of v)
  flow_fits (tree.alias n) h = tt
  flow_fits (tree.scalar a kind t) h = tt
  flow_fits (tree.list a cs) h = items_fit cs h
  flow_fits (tree.map a cs) h = items_fit cs h

  items_fit : (cs : Children) → have_long_key cs ≡ false → EachHasFitKeys (flow_items cs)
  items_fit tree.none h = tt
  items_fit (tree.child label n cs) h =
      let a = or_parts (is_overlong_key label.key) (has_long_key n || have_long_key cs) h in
      let b = or_parts (has_long_key n) (have_long_key cs) a.1 in
      (key_fits label.key a.0, flow_fits n b.0, items_fit cs b.1)
