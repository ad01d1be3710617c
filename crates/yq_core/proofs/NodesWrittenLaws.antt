-- What is written in flow style.
use Rattle.std.proofs.Common.{◌≡◌, ℕ, true, false, cond, List, [], ◌∷◌, ◌++◌, map, None, refl, sym, ap, ◌∙◌, append_assoc, rules, String}
use Rattle.std.{proofs.Common.{string_bytes, Result, is_ok, OnOk}, specs.declared.alloc.Global.Global, specs.Prelude.Vec}
use Rattle.yq_core.{specs.declared.value.Value.Value, specs.declared.value.Value.TheFolds.the_lemmas, specs.declared.style.Place.Place}
use Rattle.yq_core.{specs.Scalar.ScalarText, specs.Tree.plain_label, specs.Writable.{can_write, can_write_plain}}
use Rattle.yq_core.specs.Nodes.{Key, Sep, FlowNode, empty, alias, scalar, coll, anchored, Items, none, item, key_text, sep_text, node_text}
use Rattle.yq_core.{specs.Nodes.{flow_items_text, opening_bracket}, specs.Values.{value_node, items, entries, entry}}
use Rattle.yq_core.specs.NodesWritten.{flow_of, flow_items, flow_sep, flow_key, flow_text, comma_separated, entry_text}
use Rattle.yq_core.specs.declared.value.Value.TheVariants as values
use Rattle.yq_core.specs.declared.kind.Kind.TheVariants as kinds
use Rattle.yq_core.specs.declared.style.Style.TheVariants as styles
use Rattle.yq_core.specs.Tree as tree

-- what isn't plain is a string
pub double_when : (s : ScalarText) (place : Place) → can_write s styles.Plain place ≡ false → can_write s styles.Double place ≡ true
unfolding can_write_plain
double_when s place h = search rules

-- what is no string is plain
pub other_plain : (s : ScalarText) (place : Place) → (s.kind ≡ kinds.Text → ⊥) → can_write s styles.Plain place ≡ true
unfolding can_write_plain
other_plain s place h = search rules

pub key_append : (key : Key) (r s : List ℕ) → key_text key (r ++ s) ≡ key_text key r ++ s
key_append key r s = search (rules, append_assoc)

pub sep_append : (sep : Sep) (r s : List ℕ) → sep_text sep (r ++ s) ≡ sep_text sep r ++ s
sep_append sep r s = search (rules, append_assoc)

mutual
  unfolding node_text flow_items_text

  pub node_append : (n : FlowNode) (r s : List ℕ) → node_text n (r ++ s) ≡ node_text n r ++ s
  node_append empty r s = refl
  node_append (alias n) r s = ap (λ l. 42 ∷ l) (sym (append_assoc n r s))
  node_append (scalar p) r s = sym (append_assoc p r s)
  node_append (coll k g is) r s = ap (λ l. opening_bracket k ∷ l) (ap (λ l. g ++ l) (items_append k is r s) ∙ sym (append_assoc g (flow_items_text k is r) s))
  node_append (anchored n g node) r s =
      ap (λ l. 38 ∷ l) (ap (λ l. n ++ l) (ap (λ l. g ++ l) (node_append node r s) ∙ sym (append_assoc g (node_text node r) s)) ∙ sym (append_assoc n (g ++ node_text node r) s))

  pub items_append : (k : ℕ) (is : Items) (r s : List ℕ) → flow_items_text k is (r ++ s) ≡ flow_items_text k is r ++ s
  items_append k none r s = refl
  items_append k (item key n sep is) r s =
      let a = ap (sep_text sep) (items_append k is r s) ∙ sep_append sep (flow_items_text k is r) s in
      let b = ap (node_text n) a ∙ node_append n (sep_text sep (flow_items_text k is r)) s in
      ap (key_text key) b ∙ key_append key (node_text n (sep_text sep (flow_items_text k is r))) s

-- the text of a node, and what follows it
pub node_then : (n : FlowNode) (r : List ℕ) → node_text n r ≡ node_text n [] ++ r
node_then n r = node_append n [] r

-- what comes after an item, if others follow
abbrev pub between : tree.Children → List ℕ
between tree.none = []
between (tree.child label n cs) = 44 ∷ 32 ∷ []

sep_is : (cs : tree.Children) (r : List ℕ) → sep_text (flow_sep cs) r ≡ between cs ++ r
sep_is cs r = search rules

-- what is written after a collection's bracket, for these items or entries
abbrev pub rest_text : ℕ → tree.Children → List ℕ
rest_text k cs = flow_items_text k (flow_items cs) []

-- one item, and those after it
pub item_text : (k : ℕ) (label : tree.Label) (n : tree.Node) (cs : tree.Children) → rest_text k (tree.child label n cs) ≡ key_text (flow_key label.key) (flow_text n ++ (between cs ++ rest_text k cs))
unfolding flow_items_text flow_items
item_text k label n cs = ap (key_text (flow_key label.key)) (node_then (flow_of n) _ ∙ ap (λ l. flow_text n ++ l) (sep_is cs (rest_text k cs)))

items_rest : (k : ℕ) (ns : List tree.Node) → between (items ns) ++ rest_text k (items ns) ≡ comma_separated false (map flow_text ns) ++ k ∷ []
unfolding flow_items_text flow_items
items_rest k [] = refl
items_rest k (n ∷ ns) = simp (item_text, append_assoc, items_rest k ns)

items_all : (k : ℕ) (ns : List tree.Node) → rest_text k (items ns) ≡ comma_separated true (map flow_text ns) ++ k ∷ []
unfolding flow_items_text flow_items
items_all k [] = refl
items_all k (n ∷ ns) = item_text k plain_label n (items ns) ∙ (ap (λ l. flow_text n ++ l) (items_rest k ns) ∙ sym (append_assoc (flow_text n) (comma_separated false (map flow_text ns)) (k ∷ [])))

entry_is : (k : ℕ) (e : List ℕ × tree.Node) (cs : tree.Children) (r : List ℕ) → between cs ++ rest_text k cs ≡ r → rest_text k (tree.child (entry e.0) e.1 cs) ≡ entry_text e ++ r
entry_is k e cs r h = search (rules, item_text, append_assoc)

entries_rest : (k : ℕ) (es : List (List ℕ × tree.Node)) → between (entries es) ++ rest_text k (entries es) ≡ comma_separated false (map entry_text es) ++ k ∷ []
unfolding flow_items_text flow_items
entries_rest k [] = refl
entries_rest k (e ∷ es) = search (rules, entry_is, append_assoc, entries_rest k es)

entries_all : (k : ℕ) (es : List (List ℕ × tree.Node)) → rest_text k (entries es) ≡ comma_separated true (map entry_text es) ++ k ∷ []
unfolding flow_items_text flow_items
entries_all k [] = refl
entries_all k (e ∷ es) = entry_is k e (entries es) _ (entries_rest k es) ∙ sym (append_assoc (entry_text e) (comma_separated false (map entry_text es)) (k ∷ []))

pub map_twice : {A B C : Type 0} (f : A → B) (g : B → C) (xs : List A) → map g (map f xs) ≡ map (λ x. g (f x)) xs
map_twice f g [] = refl
map_twice f g (x ∷ xs) = ap (λ l. g (f x) ∷ l) (map_twice f g xs)

abbrev Entry : Type 0
Entry = String Global × Value

-- the text of a list's value, and of a mapping's
pub list_value : (xs : List Value) → flow_text (tree.list None (items (map value_node xs))) ≡ 91 ∷ (comma_separated true (map (λ v. flow_text (value_node v)) xs) ++ 93 ∷ [])
unfolding node_text flow_of
list_value xs = simp (items_all, map_twice)

pub map_value : (es : List Entry) →
    flow_text (tree.map None
    (entries (map (λ (e : String Global × tree.Node). (string_bytes e.0, e.1)) (map (λ (e : Entry). (e.0, value_node e.1)) es)))) ≡ 123
    ∷ (comma_separated true (map (λ (e : Entry). entry_text (string_bytes e.0, value_node e.1)) es) ++ 125 ∷ [])
unfolding node_text flow_of
map_value es = simp (entries_all, string_bytes, map_twice)

-- a list's node, and a mapping's
pub node_list : (v : Vec Value Global) → value_node (values.List v) ≡ tree.list None (items (map value_node v.items))
node_list v = search (rules, the_lemmas)

pub node_map : (v : Vec Entry Global) → value_node (values.Map v) ≡ tree.map None (entries (map (λ (e : String Global × tree.Node). (string_bytes e.0, e.1)) (map (λ (e : Entry). (e.0, value_node e.1)) v.items)))
node_map v = search (rules, the_lemmas)

-- a text between its brackets, added to others
pub between_brackets : {A E : Type 0} (r : Result A E) (open_ close : ℕ) (old a b new text all : List ℕ) → a ≡ old ++ open_ ∷ [] → b ≡ a ++ text →
    new ≡ cond (is_ok r) (b ++ close ∷ []) b → all ≡ open_ ∷ (text ++ close ∷ []) → OnOk r (new ≡ old ++ all)
between_brackets r open_ close old a b new text all h1 h2 h3 h4 = search (rules, append_assoc)
