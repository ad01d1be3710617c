-- The operations of a value that is put at places, or added: what comes at each place.
use Rattle.std.proofs.Common.{◌≡◌, ℕ, zero, suc, ◌+◌, ◌*◌, ◌<◌, ◌≤◌, map, Option, Bool, true, false, List, [], ◌∷◌, ◌++◌, length, None}
use Rattle.std.proofs.Common.{if◌then◌else◌, refl, sym, ap, ◌∙◌, subst, arith, append-nil, append_assoc, inl, inr, mul-zero, suc-mul}
use Rattle.std.{proofs.Common.zero-mul, proofs.lemmas.Bool.false≢true, specs.List.list_any, specs.Str.IsUtf8}
use Rattle.yq_core.{specs.Tree.{Label, Node, alias, scalar, list, Children, none, child}, specs.Paths.Step, specs.Shapes.AreEntries}
use Rattle.yq_flow_edits.specs.Valued.{IsValueTree, AreValueTrees}
use Rattle.yq_semantics.specs.Changes.{Changed, Change, replaces, add_at, add_below, added, additions, all_allowed, at_each, created}
use Rattle.yq_semantics.{specs.Changes.{nested, put_below, put_with_path}, specs.Judgement.{Judgement, and_then, gives, refuses}}
use Rattle.yq_semantics.{specs.Operations.Operation, specs.Places.FoundPlace, specs.Plans.{add_op, change_ops, ops_of}}
use Rattle.yq_semantics.{specs.Program.{is_index, PathStep, Term, key, index, each}, specs.RightValues.{is_null, right_value}}
use Rattle.yq_semantics.{specs.Sizes.{items_in, items_among}, proofs.JudgementLaws.{gives_same, then_gives}}
use Rattle.yq_semantics.{proofs.updates.Each.joined_gives, proofs.updates.Planned.all_same}
use Rattle.yq_semantics.{specs.declared.refusal.Refusal.TheVariants.{IndexOutOfRange, KindMismatch}, specs.PlacesApart.AreApart}
use Rattle.yq_semantics.specs.Conditions.{node_there, value_of}
use Rattle.yq_expr.specs.Oversized.{BeginsOversized, GiveItems, HaveUtf8Keys, is_scalar_node, string_in}
use Rattle.yq_expr.specs.SumSizes.{items_limit, IsSpread}
use Rattle.yq_expr.proofs.Gains.{AreAppends, Gain, GainSome, no_more, one_place, appended, appends, merges, nothing, puts}
use Rattle.yq_expr.{proofs.GrowthLaws.by_gains, proofs.PartLaws.ops_join}
use Rattle.yq_outline.specs.Outline.{null_node}
use Rattle.yq_core.specs.Tree as tree
use Rattle.yq_core.specs.declared.kind.Kind.TheVariants as kinds

-- the keys that are missing at each of places are UTF-8
abbrev pub AllHaveUtf8Keys : List FoundPlace → Type 0
AllHaveUtf8Keys [] = Unit {0}
AllHaveUtf8Keys (p ∷ ps) = HaveUtf8Keys p.missing × AllHaveUtf8Keys ps

-- ---- a value that is put

nested_items : (ms : List PathStep) (v : Node) → items_in v ≤ items_in (nested ms v)
nested_items [] v = omega arith
nested_items (key k ∷ ms) v = omega (arith, nested_items ms v)
nested_items (index i ∷ ms) v = nested_items ms v
nested_items (each ∷ ms) v = nested_items ms v

nested_valid : (ms : List PathStep) (v : Node) → HaveUtf8Keys ms → IsValueTree v → IsValueTree (nested ms v)
nested_valid [] v keys valid = valid
nested_valid (key k ∷ ms) v keys valid = (refl, ((k, refl, keys.0), nested_valid ms v keys.1 valid, tt))
nested_valid (index i ∷ ms) v keys valid = nested_valid ms v keys valid
nested_valid (each ∷ ms) v keys valid = nested_valid ms v keys valid

-- the operations of a change at a path
change_comes : (doc : ℕ) (path : List Step) (j : Judgement Change) (cs : List Changed) (n : ℕ) → ((c : Change) → j ≡ gives c → Gain doc path n (change_ops doc (path, c))) → and_then (λ c. gives ((path, c) ∷ [])) j ≡ gives cs →
    Gain doc path n (ops_of doc cs)
change_comes doc path (refuses why) cs n comes h = absurd (cc)
change_comes doc path (gives c) cs n comes h =
    subst (λ xs. Gain doc path n (ops_of doc xs)) (gives_same h) (subst (Gain doc path n) (sym (append-nil (change_ops doc (path, c)))) (comes c refl))

module _ (doc : ℕ) (v : Node) (valid : IsValueTree v) where
  -- by a change at a path so much comes as is in the value
  abbrev Comes : List Step → Change → Type 0
  Comes path c = Gain doc path (items_in v) (change_ops doc (path, c))

  -- put below a mapping as an entry more
  entry_comes : (path : List Step) (m : PathStep) (ms : List PathStep) (a : Option (List ℕ)) (cs : Children) → HaveUtf8Keys (m ∷ ms) → Comes path (created (tree.map a cs) m ms v)
  entry_comes path (key k) ms a cs keys = appends keys.0 (nested_valid ms v keys.1 valid) nothing (omega (arith, nested_items ms v))
  entry_comes path (index i) ms a cs keys = appends tt (nested_valid ms v keys valid) nothing (omega (arith, nested_items ms v))
  entry_comes path each ms a cs keys = appends tt (nested_valid ms v keys valid) nothing (omega (arith, nested_items ms v))

  -- or in the place of what is there
  value_comes : (path : List Step) (ms : List PathStep) → HaveUtf8Keys ms → Comes path (replaces (nested ms v))
  value_comes path ms keys = puts (nested_valid ms v keys valid) (nested_items ms v)

  created_comes : (path : List Step) (n : Node) (m : PathStep) (ms : List PathStep) → HaveUtf8Keys (m ∷ ms) → Comes path (created n m ms v)
  created_comes path (tree.map a cs) m ms keys = entry_comes path m ms a cs keys
  created_comes path (alias name) m ms keys = value_comes path (m ∷ ms) keys
  created_comes path (scalar a k t) m ms keys = value_comes path (m ∷ ms) keys
  created_comes path (list a cs) m ms keys = value_comes path (m ∷ ms) keys

  put_comes : (path : List Step) (n : Node) (ms : List PathStep) (c : Change) → HaveUtf8Keys ms → put_below n ms v ≡ gives c → Comes path c
  put_comes path n [] c keys h = subst (Comes path) (gives_same h) (value_comes path [] keys)
  put_comes path n (m ∷ ms) c keys h = go (list_any is_index (m ∷ ms)) h
    where
      go : (b : Bool) → (if b then refuses IndexOutOfRange else gives (created n m ms v)) ≡ gives c → Comes path c
      go true e = absurd (cc)
      go false e = subst (Comes path) (gives_same e) (created_comes path n m ms keys)

  put_path : (p : FoundPlace) (cs : List Changed) → HaveUtf8Keys p.missing → put_with_path p v ≡ gives cs → Gain doc p.path (items_in v) (ops_of doc cs)
  put_path p cs keys h = change_comes doc p.path (put_below p.node p.missing v) cs (items_in v) (λ c is. put_comes p.path p.node p.missing c keys is) h

-- ---- a value that is added

item_appends : (doc : ℕ) (path : List Step) (items : Children) → AreValueTrees false items → AreAppends doc path (map (add_op doc path) (additions none items)) (items_among items)
item_appends doc path none valid = nothing
item_appends doc path (child label v items) valid =
    subst (λ (l : Label). AreAppends doc path (map (add_op doc path) (additions none (child l v items))) (suc (items_in v + items_among items))) (sym valid.0)
    (appended tt valid.1 (item_appends doc path items valid.2))

items_come : (doc : ℕ) (path : List Step) (items : Children) → AreValueTrees false items → 0 < items_among items → Gain doc path (items_among items) (map (add_op doc path) (additions none items))
items_come doc path none valid some = absurd (omega (arith, some))
items_come doc path (child label v items) valid some =
    subst (λ (l : Label). Gain doc path (items_among (child label v items)) (map (add_op doc path) (additions none (child l v items)))) (sym valid.0)
    (appends tt valid.1 (item_appends doc path items valid.2) (omega arith))

-- a value that is added to a node: at least so much comes as is in it
abbrev SoAdded : ℕ → Node → Type 0
SoAdded doc v = (path : List Step) (n : Node) (c : Change) → added n v ≡ gives c → Gain doc path (items_in v) (change_ops doc (path, c))

scalar_comes : (doc : ℕ) (v : Node) (valid : IsValueTree v) (path : List Step) (c : Change) → (null : Bool) → and_then (λ w. gives (replaces w)) (if null then gives v else refuses KindMismatch) ≡ gives c → Comes doc v valid path c
scalar_comes doc v valid path c true h = subst (Comes doc v valid path) (gives_same h) (value_comes doc v valid path [] tt)
scalar_comes doc v valid path c false h = absurd (cc)

list_comes : (doc : ℕ) (items : Children) → AreValueTrees false items → 0 < items_among items → SoAdded doc (list None items)
list_comes doc items valid some path (alias name) c h = absurd (cc)
list_comes doc items valid some path (scalar a k t) c h = scalar_comes doc (list None items) (refl, valid) path c (is_null (scalar None k t)) h
list_comes doc items valid some path (list a cs) c h = subst (Comes doc (list None items) (refl, valid) path) (gives_same h) (items_come doc path items valid some)
list_comes doc items valid some path (tree.map a cs) c h = absurd (cc)

mapping_comes : (doc : ℕ) (entries : Children) → AreValueTrees true entries → AreEntries entries → 0 < items_among entries → SoAdded doc (tree.map None entries)
mapping_comes doc entries valid differ some path (alias name) c h = absurd (cc)
mapping_comes doc entries valid differ some path (scalar a k t) c h = scalar_comes doc (tree.map None entries) (refl, valid) path c (is_null (scalar None k t)) h
mapping_comes doc entries valid differ some path (list a cs) c h = subst (Comes doc (tree.map None entries) (refl, valid) path) (gives_same h) (appends tt (refl, valid) nothing (omega arith))
mapping_comes doc entries valid differ some path (tree.map a cs) c h = subst (Comes doc (tree.map None entries) (refl, valid) path) (gives_same h) (merges cs entries differ valid some (omega arith))

-- the keys of a mapping differ
abbrev pub HasEntriesApart : Node → Type 0
HasEntriesApart v = (cs : Children) → v ≡ tree.map None cs → AreEntries cs

-- all items and entries of a value that is added come: it is no scalar, and the keys of a mapping differ
pub record ComesWhole (v : Node) : Type 0 where
  pub no_scalar : is_scalar_node v ≡ false
  pub apart : HasEntriesApart v

so_added : (doc : ℕ) (v : Node) → IsValueTree v → ComesWhole v → 0 < items_in v → SoAdded doc v
so_added doc (alias name) valid whole some = absurd valid
so_added doc (scalar a k t) valid whole some = absurd (false≢true (sym whole.no_scalar))
so_added doc (list a cs) valid whole some = subst (λ o. SoAdded doc (list o cs)) (sym valid.0) (list_comes doc cs valid.1 some)
so_added doc (tree.map a cs) valid whole some = subst (λ o. SoAdded doc (tree.map o cs)) (sym valid.0) (mapping_comes doc cs valid.1 (whole.apart cs (ap (λ o. tree.map o cs) valid.0)) some)

-- what is added at a place, of which steps may be missing
added_there : (doc n : ℕ) (v : Node) (p : FoundPlace) (cs : List Changed) → ((ds : List Changed) → and_then (λ c. gives ((p.path, c) ∷ [])) (added p.node v) ≡ gives ds → p.missing ≡ [] → Gain doc p.path n (ops_of doc ds)) →
    ((ds : List Changed) (m : PathStep) (ms : List PathStep) → p.missing ≡ m ∷ ms → put_with_path p v ≡ gives ds → Gain doc p.path n (ops_of doc ds)) → is_null v ≡ false → add_at p v ≡ gives cs → Gain doc p.path n (ops_of doc cs)
added_there doc n v p cs there below null h = go p.missing refl (sym (ap (λ (b : Bool). if b then gives [] else add_below p.missing p v) null) ∙ h)
  where
    go : (ms : List PathStep) → p.missing ≡ ms → add_below ms p v ≡ gives cs → Gain doc p.path n (ops_of doc cs)
    go [] is e = there cs e is
    go (m ∷ ms) is e = below cs m ms is e

add_path : (doc : ℕ) (v : Node) (valid : IsValueTree v) → SoAdded doc v → is_null v ≡ false → (p : FoundPlace) (cs : List Changed) → HaveUtf8Keys p.missing → add_at p v ≡ gives cs → Gain doc p.path (items_in v) (ops_of doc cs)
add_path doc v valid so null p cs keys h =
    added_there doc (items_in v) v p cs (λ ds e is. change_comes doc p.path (added p.node v) ds (items_in v) (λ c same. so p.path p.node c same) e) (λ ds m ms is e. put_path doc v valid p ds keys e) null h

-- ---- a string that is added

-- to a node: what is there then is so long
string_added : (doc : ℕ) (path : List Step) (n : Node) (t : List ℕ) (c : Change) → IsUtf8 t → IsValueTree (scalar None kinds.Text (string_in n ++ t)) → added n (scalar None kinds.Text t) ≡ gives c →
    Gain doc path (items_in (scalar None kinds.Text (string_in n ++ t))) (change_ops doc (path, c))
string_added doc path (alias name) t c utf8 valid h = absurd (cc)
string_added doc path (scalar a kinds.Text s) t c utf8 valid h = subst (λ d. Gain doc path (items_in (scalar None kinds.Text (s ++ t))) (change_ops doc (path, d))) (gives_same h) (puts valid (omega arith))
string_added doc path (scalar a kinds.Null s) t c utf8 valid h = subst (λ d. Gain doc path (items_in (scalar None kinds.Text t)) (change_ops doc (path, d))) (gives_same h) (puts valid (omega arith))
string_added doc path (scalar a kinds.Bool s) t c utf8 valid h = absurd (cc)
string_added doc path (scalar a kinds.Int s) t c utf8 valid h = absurd (cc)
string_added doc path (scalar a kinds.Float s) t c utf8 valid h = absurd (cc)
string_added doc path (list a cs) t c utf8 valid h = subst (λ d. Gain doc path (items_in (scalar None kinds.Text t)) (change_ops doc (path, d))) (gives_same h) (appends tt valid nothing (omega arith))
string_added doc path (tree.map a cs) t c utf8 valid h = absurd (cc)

-- at a place
string_comes : (doc : ℕ) (p : FoundPlace) (t : List ℕ) (cs : List Changed) → IsUtf8 t → HaveUtf8Keys p.missing → IsValueTree (scalar None kinds.Text (string_in (value_of p) ++ t)) → add_at p (scalar None kinds.Text t) ≡ gives cs →
    Gain doc p.path (items_in (scalar None kinds.Text (string_in (value_of p) ++ t))) (ops_of doc cs)
string_comes doc p t cs utf8 keys valid h =
    let v : Node = scalar None kinds.Text t in
    let all : Node → Node = λ n. scalar None kinds.Text (string_in n ++ t) in
    added_there doc (items_in (all (value_of p))) v p cs
    (λ ds e is.
    let same : value_of p ≡ p.node = ap (λ ms. node_there ms p.node) is in
    subst (λ n. Gain doc p.path (items_in (all n)) (ops_of doc ds)) (sym same)
    (change_comes doc p.path (added p.node v) ds (items_in (all p.node)) (λ c k. string_added doc p.path p.node t c utf8 (subst (λ n. IsValueTree (all n)) same valid) k) e))
    (λ ds m ms is e.
    let same : value_of p ≡ null_node = ap (λ xs. node_there xs p.node) is in
    subst (λ n. Gain doc p.path (items_in (all n)) (ops_of doc ds)) (sym same)
    (put_path doc v (subst (λ n. IsValueTree (all n)) same valid) p ds keys e))
    refl h

-- ---- at each of places

-- what is changed at the first of places, and at the others
record FirstChanged (doc : ℕ) (root : Node) (f : FoundPlace → Judgement (List Changed)) (p : FoundPlace) (ps : List FoundPlace) (cs : List Changed) : Type 0 where
  here : List Changed
  there : List Changed
  first : f p ≡ gives here
  others : at_each root f ps ≡ gives there
  split : ops_of doc cs ≡ ops_of doc here ++ ops_of doc there

first_changed : (doc : ℕ) (root : Node) (f : FoundPlace → Judgement (List Changed)) (p : FoundPlace) (ps : List FoundPlace) (cs : List Changed) → at_each root f (p ∷ ps) ≡ gives cs → FirstChanged doc root f p ps cs
first_changed doc root f p ps cs h =
    let w = joined_gives (and_then (all_allowed root) (f p)) (at_each root f ps) cs h in
    let here = then_gives (all_allowed root) (f p) w.0 w.2 in
    record {
      here = w.0;
      there = w.1;
      first = here.1 ∙ ap gives (all_same root here.0 w.0 here.2);
      others = w.3;
      split = sym (ap (ops_of doc) w.4) ∙ ops_join doc w.0 w.1;
    }

-- at each of places so much comes by a function
abbrev EachComes : ℕ → ℕ → (FoundPlace → Judgement (List Changed)) → List FoundPlace → Type 0
EachComes doc n f [] = Unit {0}
EachComes doc n f (p ∷ ps) = ((ds : List Changed) → f p ≡ gives ds → Gain doc p.path n (ops_of doc ds)) × EachComes doc n f ps

by_keys : (doc n : ℕ) (f : FoundPlace → Judgement (List Changed)) → ((p : FoundPlace) (ds : List Changed) → HaveUtf8Keys p.missing → f p ≡ gives ds → Gain doc p.path n (ops_of doc ds)) →
    (ps : List FoundPlace) → AllHaveUtf8Keys ps → EachComes doc n f ps
by_keys doc n f comes [] keys = tt
by_keys doc n f comes (p ∷ ps) keys = ((λ ds h. comes p ds keys.0 h), by_keys doc n f comes ps keys.1)

each_comes : (doc n : ℕ) (root : Node) (f : FoundPlace → Judgement (List Changed)) (ps : List FoundPlace) (cs : List Changed) → EachComes doc n f ps → at_each root f ps ≡ gives cs → GainSome doc ps (length ps * n) (ops_of doc cs)
each_comes doc n root f [] cs comes h = subst (λ k. GainSome doc [] k (ops_of doc cs)) (sym (zero-mul n)) (subst (GainSome doc [] 0) (ap (ops_of doc) (gives_same h)) no_more)
each_comes doc n root f (p ∷ ps) cs comes h =
    let w = first_changed doc root f p ps cs h in
    subst (GainSome doc (p ∷ ps) (length (p ∷ ps) * n)) (sym w.split) (one_place (comes.0 w.here w.first) (each_comes doc n root f ps w.there comes.1 w.others) (omega (arith, suc-mul (length ps) n)))

-- ---- at the first of places, another value at each

-- operations begin with some by which so many items and entries come
record BeginsWith (doc : ℕ) (ps : List FoundPlace) (n : ℕ) (ops : List Operation) : Type 0 where
  first : List Operation
  others : List Operation
  split : ops ≡ first ++ others
  gains : GainSome doc ps n first

modified_comes : (doc : ℕ) (root : Node) (right : List Term) (ps : List FoundPlace) (n : ℕ) (cs : List Changed) → AllHaveUtf8Keys ps → GiveItems doc right ps n →
    at_each root (λ p. and_then (put_with_path p) (right_value doc right p)) ps ≡ gives cs → BeginsWith doc ps n (ops_of doc cs)
modified_comes doc root right [] n cs keys is h = record { first = []; others = ops_of doc cs; split = refl; gains = subst (λ k. GainSome doc [] k []) (sym is) no_more }
modified_comes doc root right (p ∷ ps) n cs keys (inl is) h = record { first = []; others = ops_of doc cs; split = refl; gains = subst (λ k. GainSome doc (p ∷ ps) k []) (sym is) no_more }
modified_comes doc root right (p ∷ ps) n cs keys (inr (v, m, found, valid, others, most)) h =
    let f : FoundPlace → Judgement (List Changed) = λ q. and_then (put_with_path q) (right_value doc right q) in
    let w = first_changed doc root f p ps cs h in
    let here = put_path doc v valid p w.here keys.0 (sym (ap (and_then (put_with_path p)) found) ∙ w.first) in
    let rest = modified_comes doc root right ps m w.there keys.1 others w.others in
    record {
      first = ops_of doc w.here ++ rest.first;
      others = rest.others;
      split = w.split ∙ (ap (λ xs. ops_of doc w.here ++ xs) rest.split ∙ sym (append_assoc (ops_of doc w.here) rest.first rest.others));
      gains = one_place here rest.gains most;
    }

pub modified_begins : (doc : ℕ) (root : Node) (right : List Term) (ps : List FoundPlace) (n : ℕ) (cs : List Changed) → AllHaveUtf8Keys ps → AreApart ps → GiveItems doc right ps n → items_limit < n →
    at_each root (λ p. and_then (put_with_path p) (right_value doc right p)) ps ≡ gives cs → BeginsOversized (ops_of doc cs)
modified_begins doc root right ps n cs keys apart found more h =
    let b = modified_comes doc root right ps n cs keys found h in
    subst BeginsOversized (sym b.split) (by_gains doc n ps b.first b.others b.gains apart more)

-- a product that is more than something has no factor 0
factor_some : (m n k : ℕ) → k < m * n → 0 < n
factor_some m zero k h = absurd (omega (arith, h, mul-zero m))
factor_some m (suc n) k h = omega arith

-- what is no scalar isn't null
not_null : (v : Node) → is_scalar_node v ≡ false → is_null v ≡ false
not_null (alias name) no_scalar = refl
not_null (scalar a k t) no_scalar = absurd (false≢true (sym no_scalar))
not_null (list a cs) no_scalar = refl
not_null (tree.map a cs) no_scalar = refl

-- operations by which too many items and entries come for a text
all_gain : (doc n : ℕ) (ps : List FoundPlace) (ops : List Operation) → GainSome doc ps n ops → AreApart ps → items_limit < n → BeginsOversized ops
all_gain doc n ps ops g apart more = subst BeginsOversized (append-nil ops) (by_gains doc n ps ops [] g apart more)

module _ (doc : ℕ) (root v : Node) (valid : IsValueTree v) (ps : List FoundPlace) (keys : AllHaveUtf8Keys ps) (apart : AreApart ps) (more : items_limit < length ps * items_in v) (cs : List Changed) where
  -- a value that is put at places
  pub puts_begin : at_each root (λ p. put_with_path p v) ps ≡ gives cs → BeginsOversized (ops_of doc cs)
  puts_begin h =
      let f : FoundPlace → Judgement (List Changed) = λ p. put_with_path p v in
      all_gain doc (length ps * items_in v) ps (ops_of doc cs) (each_comes doc (items_in v) root f ps cs (by_keys doc (items_in v) f (put_path doc v valid) ps keys) h) apart more

  -- a value that is added there
  pub adds_begin : ComesWhole v → at_each root (λ p. add_at p v) ps ≡ gives cs → BeginsOversized (ops_of doc cs)
  adds_begin whole h =
      let f : FoundPlace → Judgement (List Changed) = λ p. add_at p v in
      let some = factor_some (length ps) (items_in v) items_limit more in
      let comes = add_path doc v valid (so_added doc v valid whole some) (not_null v whole.no_scalar) in
      all_gain doc (length ps * items_in v) ps (ops_of doc cs) (each_comes doc (items_in v) root f ps cs (by_keys doc (items_in v) f comes ps keys) h) apart more

-- a string that is added at one place
pub string_begins : (doc : ℕ) (root : Node) (p : FoundPlace) (t : List ℕ) (cs : List Changed) → IsUtf8 t → HaveUtf8Keys p.missing → IsSpread (scalar None kinds.Text (string_in (value_of p) ++ t)) 1 →
    at_each root (λ q. add_at q (scalar None kinds.Text t)) (p ∷ []) ≡ gives cs → BeginsOversized (ops_of doc cs)
string_begins doc root p t cs utf8 keys large h =
    let n : ℕ = items_in (scalar None kinds.Text (string_in (value_of p) ++ t)) in
    let f : FoundPlace → Judgement (List Changed) = λ q. add_at q (scalar None kinds.Text t) in
    all_gain doc (1 * n) (p ∷ []) (ops_of doc cs) (each_comes doc n root f (p ∷ []) cs ((λ ds e. string_comes doc p t ds utf8 keys large.valid e), tt) h) (tt, tt) large.more
