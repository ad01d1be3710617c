-- What calls on changes of the code, and on what is known of a tree, answer (own).
use Rattle.std.specs.Prelude.{◌≡◌, ◌++◌, ◌||◌, ℕ, Bool, List, IfOk, OnOk, Option, Result, None, Some, Vec, [], is_some, map, option_map}
use Rattle.std.{specs.Prelude.{suc, String, string_bytes}, specs.List.list_any, specs.BTreeMap.{BTreeMap, get_by_text}, specs.Borrow.Bor}
use Rattle.std.specs.declared.alloc.Global.{Global}
use Rattle.yq_core.{specs.Paths.{Step, To, append_children, child_at}, specs.Tree.{Children, Node, anchor_of, children_of, child, none}}
use Rattle.yq_core.{specs.Anchors.{Name, names_in, names_of}, specs.Scalar.ScalarText}
use Rattle.yq_core.{specs.Values.{entries_of, entry, items_of, value_node}, specs.SchemaReading.int_value, specs.declared.value.Value.Value}
use Rattle.yq_documents.{specs.Located.steps_of, specs.declared.path.Path.Path}
use Rattle.yq_nodes.specs.Nodes.{label_of, node_of}
use Rattle.yq_semantics.specs.Changes.{Addition, Change, added_entries, allowed, is_deep, is_overlong_key, is_used, has_long_key, refers_to}
use Rattle.yq_semantics.{specs.Changes.{value_in, writes_long_key}, specs.Judgement.{Judgement, Judges, ExprError}}
use Rattle.yq_semantics.{specs.Operations.Operation, specs.Plans.{add_op, ops_of, ordered}}
use Rattle.yq_semantics.{specs.RightValues.{int_sum, with_entries, with_entry}, specs.Under.all_under}
use Rattle.yq_semantics.specs.declared.under.OpsUnder.{OpsUnder}
use Rattle.yq_planner.{specs.ChangeView.{addition_of, change_of, changes_under}, specs.ChangedNodes.LeadsToNode}
use Rattle.yq_planner.{specs.EntryNumbers.number_kept, specs.Substitutes.IsSubstitute}
use Rattle.yq_planner.specs.TakenNames.{is_used_anchor, overwrites_at, takes_at}
use Rattle.yq_planner.{specs.Indexes.{HasAliases, IsIndex, get_text, kept_first}, specs.declared.updating.change.ChangesUnder.ChangesUnder}
use Rattle.yq_core.specs.Tree as tree
use Rattle.yq_nodes.specs.declared.nodes.node.Node as nodes
use Rattle.yq_semantics.specs.Changes as changes
use Rattle.yq_planner.specs.declared.updating.change.Addition as addition
use Rattle.yq_planner.specs.declared.updating.change.Change as change

-- this holds of all names that have the aliases of a map
abbrev pub OfAliases : {X : Type 0} → BTreeMap (Bor (List ℕ)) X → (List Name → Type 0) → Type 0
OfAliases aliases P = (names : List Name) → HasAliases names aliases → P names

-- this holds of all entries whose values a map has by their keys
abbrev pub OfEntries : BTreeMap (Bor (List ℕ)) nodes.Node → (Children → Type 0) → Type 0
OfEntries index P = (cs : Children) → IsIndex cs index → P cs

-- the additions that those of the code mean
abbrev pub additions_of : List addition.Addition → List Addition
additions_of xs = map addition_of xs

-- an answer's additions are these, or it is an error
abbrev pub GivesAdditions : {E : Type 0} → Result (Vec addition.Addition Global) E → List Addition → Type 0
GivesAdditions r xs = IfOk r (λ v. additions_of v.items ≡ xs)

-- an answer's addition is this one, or it is an error
abbrev pub GivesAddition : {E : Type 0} → Result addition.Addition E → Addition → Type 0
GivesAddition r x = IfOk r (λ a. addition_of a ≡ x)

-- the addition of an entry to others
abbrev pub entry_addition : Children → List ℕ → Value → Addition
entry_addition cs key v = changes.addition cs (Some key) (value_node v)

-- the additions of several entries to others
abbrev pub entry_additions : Children → Vec (String Global × Value) Global → List Addition
entry_additions cs others = changes.additions cs (entries_of others.items)

-- what comes of adding a value to a node, whose entries it gets
abbrev pub node_with_entries : nodes.Node → Value → Judgement Change
node_with_entries n v = added_entries (children_of (node_of n)) (value_node v)

-- a node that is found is the value of that key among entries, and none is found where there is none
abbrev pub IsValueOf : Children → List ℕ → Option (Bor nodes.Node) → Type 0
IsValueOf cs key found = option_map (λ n. node_of n.now) found ≡ child_at (To key) cs

-- whether the anchor of a node is named by an alias among these names
abbrev pub is_used_node : List Name → nodes.Node → Bool
is_used_node names n = is_used_anchor names (anchor_of (node_of n))

-- whether that of a node, or of one below it, is
abbrev pub holds_used_anchor : List Name → nodes.Node → Bool
holds_used_anchor names n = list_any (is_used names) (names_of (node_of n))

-- whether that of one below it is
abbrev pub holds_used_below : List Name → nodes.Node → Bool
holds_used_below names n = list_any (is_used names) (names_in (children_of (node_of n)))

-- an answer is whether an addition to entries overwrites an anchor that one of these aliases names
abbrev pub IsWhetherOverwritten : {X : Type 0} → BTreeMap (Bor (List ℕ)) X → BTreeMap (Bor (List ℕ)) nodes.Node → addition.Addition → Bool → Type 0
IsWhetherOverwritten aliases index x result =
    (names : List Name) (cs : Children) → HasAliases names aliases → IsIndex cs index → result ≡ overwrites_at names cs (addition_of x)

-- the same of any of these additions to a node, or an error
abbrev pub GivesWhetherOverwritten : {X E : Type 0} → BTreeMap (Bor (List ℕ)) X → nodes.Node → List addition.Addition → Result Bool E → Type 0
GivesWhetherOverwritten aliases n xs r =
    OfAliases aliases (λ names. IfOk r (λ b. b ≡ list_any (λ x. overwrites_at names (children_of (node_of n)) (addition_of x)) xs))

-- an answer is whether a change of a node takes away an anchor that one of these aliases names, or an error
abbrev pub GivesWhetherTaken : {X E : Type 0} → BTreeMap (Bor (List ℕ)) X → nodes.Node → change.Change → Result Bool E → Type 0
GivesWhetherTaken aliases n c r = OfAliases aliases (λ names. IfOk r (λ b. b ≡ takes_at names (node_of n) (change_of c)))

-- whether an addition among these writes too long a key
abbrev pub any_writes_long_key : List addition.Addition → Bool
any_writes_long_key xs = list_any (λ a. writes_long_key (addition_of a)) xs

-- whether the value of one among these is nested too deep, so many steps below the root
abbrev pub any_is_too_deep : ℕ → List addition.Addition → Bool
any_is_too_deep outer xs = list_any (λ a. is_deep (suc outer) (value_in (addition_of a))) xs

-- a change of a node, so many steps below the root, is allowed in every tree in which it is there and whose aliases a map has; or it is refused as there
abbrev pub JudgesChangeOf : {X T : Type 0} → BTreeMap (Bor (List ℕ)) X → nodes.Node → ℕ → change.Change → Result T ExprError → Type 0
JudgesChangeOf aliases node outer c r =
    (root : Node) (x : List Step) → LeadsToNode root x aliases (node_of node) outer →
    Judges (λ _. (x, change_of c)) r (allowed root (x, change_of c))

-- a success adds the names of the aliases among these to a map
abbrev pub AddsAliases : {X T E : Type 0} → Result T E → (old new : BTreeMap (Bor (List ℕ)) X) → List Name → Type 0
AddsAliases r old new names = OnOk r ((k : List ℕ) → is_some (get_text k new) ≡ (is_some (get_text k old) || list_any (refers_to k) names))

-- a success keeps the node of an entry under its key, unless an entry of that key came before
abbrev pub KeepsFirst : {T E : Type 0} → Result T E → (old new : BTreeMap (Bor (List ℕ)) nodes.Node) → nodes.Node → Type 0
KeepsFirst r old new e =
    OnOk r ((k : List ℕ) → option_map node_of (get_text k new) ≡ kept_first k (option_map node_of (get_text k old)) (label_of e) (node_of e))

-- a success keeps a number under a key, unless an entry of that key came before
abbrev pub KeepsNumber : {T E : Type 0} → Result T E → (old new : BTreeMap (String Global) ℕ) → List ℕ → ℕ → Type 0
KeepsNumber r old new key n = OnOk r ((k : List ℕ) → get_by_text new k ≡ number_kept k (get_by_text old k) key n)

-- whether a key or any in a value is too long
abbrev pub is_overlong_entry : List ℕ → Value → Bool
is_overlong_entry key v = is_overlong_key (Some key) || has_long_key (value_node v)

-- the operation that makes an addition at a path
abbrev pub addition_op : Path → addition.Addition → Operation
addition_op path a = add_op path.doc (steps_of path) (addition_of a)

-- those that make additions at a path
abbrev pub addition_ops : Path → List addition.Addition → List Operation
addition_ops path xs = map (add_op path.doc (steps_of path)) (map addition_of xs)

-- an answer's operations are these, or it is an error
abbrev pub GivesOps : {E : Type 0} → Result (Vec OpsUnder Global) E → List Operation → Type 0
GivesOps r ops = IfOk r (λ v. all_under v.items ≡ ops)

-- a success puts these operations after those of the parts that were there
abbrev pub PutsParts : {T E : Type 0} → Result T E → (old new : Vec OpsUnder Global) → List Operation → Type 0
PutsParts r old new ops = OnOk r (all_under new.items ≡ all_under old.items ++ ops)

-- the operations of the changes of a document, in the order in which they are made
abbrev pub ops_in_order : ℕ → Bool → ChangesUnder → List Operation
ops_in_order doc removal x = ops_of doc (ordered removal (changes_under x))

-- a value is refused where a scalar is
abbrev pub ReplacesScalar : ScalarText → Value → Type 0
ReplacesScalar s w = IsSubstitute (tree.scalar None s.kind s.text) (value_node w)

-- the mapping of one entry, whose key is the empty text
abbrev pub keyless_map : Value → Node
keyless_map v = tree.map None (child (entry []) (value_node v) none)

-- a success puts these items after those that were there
abbrev pub PutsItems : {T E : Type 0} → Result T E → (old new : Vec Value Global) → Children → Type 0
PutsItems r old new cs = OnOk r (items_of new.items ≡ append_children (items_of old.items) cs)

-- what two texts make as integers
abbrev pub sum_of_texts : List ℕ → List ℕ → Judgement Node
sum_of_texts one other = int_sum (int_value one) (int_value other)

-- a success puts an entry in the place of the one of its key, or after the others
abbrev pub PutsEntry : {T E : Type 0} → Result T E → (old new : Vec (String Global × Value) Global) → String Global → Value → Type 0
PutsEntry r old new key v = OnOk r (entries_of new.items ≡ with_entry (Some (string_bytes key)) (value_node v) (entries_of old.items))

-- the same of several entries, one after the other
abbrev pub PutsEntries : {T E : Type 0} → Result T E → (old new others : Vec (String Global × Value) Global) → Type 0
PutsEntries r old new others = OnOk r (entries_of new.items ≡ with_entries (entries_of old.items) (entries_of others.items))
