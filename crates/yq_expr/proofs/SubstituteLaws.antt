-- A value is refused at a place where another one is that is nested as deep: which changes are refused alike.
use Rattle.std.proofs.Common.{◌≡◌, ℕ, suc, ◌+◌, ◌<◌, ◌≤◌, min, max, nat_lt, Bool, true, false, ◌||◌, List, [], ◌∷◌, ◌++◌, length, refl, sym}
use Rattle.std.{proofs.Common.{ap, ◌∙◌, arith, rules, Option, Some, None}, proofs.lemmas.Bool.Decides.nat_tests, specs.List.list_any}
use Rattle.yq_core.{specs.Inline.depth_limit, specs.Keys.{depth, deepest}, specs.Paths.{Step, To, node_at}}
use Rattle.yq_core.{specs.Anchors.{names_in, names_of}, specs.Tree.{Label, Node, alias, scalar, list, Children, none, child, children_of}}
use Rattle.yq_planner.{specs.Substitutes.{AreOneKind, texts, lists, maps, HaveNoAlias, IsSubstitute, verdict}, proofs.UsedLaws.none_used}
use Rattle.yq_semantics.specs.Changes.{Addition, appends, overwrites, Change, replaces, adds, added, addition, additions, add_at, add_below}
use Rattle.yq_semantics.specs.Changes.{all_allowed, created, has_long_key, have_long_key, is_deep, is_overlong_key, is_too_deep}
use Rattle.yq_semantics.specs.Changes.{is_too_long, is_used_inside, nested, overwrites_used, put_below, put_with_path, takes_used, value_in}
use Rattle.yq_semantics.{specs.Changes.writes_long_key, specs.Judgement.{and_then, gives}, specs.Places.FoundPlace}
use Rattle.yq_semantics.{specs.Program.{PathStep, key, index, each}, proofs.updates.FitChanges.addition_value}
use Rattle.yq_expr.specs.EffectView.{is_mapping}
use Rattle.yq_core.specs.Tree as tree
use Rattle.yq_core.specs.declared.kind.Kind.TheVariants as kinds

-- ---- one change

allowed_alike : (root : Node) (x : List Step) (c e : Change) → is_too_long c ≡ is_too_long e → is_too_deep (length x) c ≡ is_too_deep (length x) e → takes_used root x c ≡ takes_used root x e →
    verdict (all_allowed root ((x, c) ∷ [])) ≡ verdict (all_allowed root ((x, e) ∷ []))
allowed_alike root x c e long deep used = search rules

-- ---- values that are nested as deep

-- No key of one is too long where none of the other is, and the one is too deep where the other is.
record AreAlike (v w : Node) : Type 0 where
  long : has_long_key v ≡ has_long_key w
  deep : (n : ℕ) → nat_lt depth_limit (n + depth v) ≡ nat_lt depth_limit (n + depth w)

lt_true : (a b : ℕ) → a < b → nat_lt a b ≡ true
lt_true a b h = grind (arith, nat_tests)

lt_false : (a b : ℕ) → b ≤ a → nat_lt a b ≡ false
lt_false a b h = grind (arith, nat_tests)

true_lt : (a b : ℕ) → nat_lt a b ≡ true → a < b
true_lt a b h = grind (arith, nat_tests)

false_lt : (a b : ℕ) → nat_lt a b ≡ false → b ≤ a
false_lt a b h = grind (arith, nat_tests)

capped : (n a b : ℕ) → b ≡ min (suc depth_limit) a → nat_lt depth_limit (n + a) ≡ nat_lt depth_limit (n + b)
capped n a b is = search (rules, true_lt, lt_true, false_lt, lt_false)

alike : (v w : Node) → IsSubstitute v w → AreAlike v w
alike v w h = record { long = h.fit ∙ sym h.short; deep = λ n. capped n (depth v) (depth w) h.deep }

nested_alike : (ms : List PathStep) (v w : Node) → AreAlike v w → AreAlike (nested ms v) (nested ms w)
nested_alike [] v w h = h
nested_alike (key k ∷ ms) v w h =
    let below = nested_alike ms v w h in
    search (rules, more, below.deep)
  where
    more : (n d : ℕ) → n + suc (max d 0) ≡ suc n + d
    more n d = omega arith
nested_alike (index i ∷ ms) v w h = nested_alike ms v w h
nested_alike (each ∷ ms) v w h = nested_alike ms v w h

created_long : (n : Node) (m : PathStep) (ms : List PathStep) (v w : Node) → AreAlike v w → is_too_long (created n m ms v) ≡ is_too_long (created n m ms w)
created_long n m ms v w h = search (rules, nested_alike)

created_deep : (outer : ℕ) (n : Node) (m : PathStep) (ms : List PathStep) (v w : Node) → AreAlike v w → is_too_deep outer (created n m ms v) ≡ is_too_deep outer (created n m ms w)
created_deep outer (tree.map anchor cs) m ms v w h = ap (λ b. b || false) ((nested_alike ms v w h).deep (suc outer))
created_deep outer _ m ms v w h = (nested_alike (m ∷ ms) v w h).deep outer

created_used : (root : Node) (x : List Step) (n : Node) (m : PathStep) (ms : List PathStep) (v w : Node) → takes_used root x (created n m ms v) ≡ takes_used root x (created n m ms w)
created_used root x n m ms v w = search rules

-- ---- a value that is put

below_alike : (root : Node) (x : List Step) (n : Node) (ms : List PathStep) (v w : Node) → AreAlike v w →
    verdict (and_then (all_allowed root) (and_then (λ c. gives ((x, c) ∷ [])) (put_below n ms v)))
    ≡ verdict (and_then (all_allowed root) (and_then (λ c. gives ((x, c) ∷ [])) (put_below n ms w)))
below_alike root x n [] v w h = allowed_alike root x (replaces v) (replaces w) h.long (h.deep (length x)) refl
below_alike root x n (m ∷ ms) v w h = search (rules, allowed_alike, created_long, created_deep, created_used)

pub put_alike : (root : Node) (p : FoundPlace) (v w : Node) → IsSubstitute v w →
    verdict (and_then (all_allowed root) (put_with_path p v)) ≡ verdict (and_then (all_allowed root) (put_with_path p w))
put_alike root p v w h = below_alike root p.path p.node p.missing v w (alike v w h)

-- ---- a value that is added

or_parts : (a b c : Bool) → (a || (b || c)) ≡ false → (a ≡ false) × ((b ≡ false) × (c ≡ false))
or_parts a b c h = search rules

short_added : (cs : Children) (k : Option (List ℕ)) (v : Node) → is_overlong_key k ≡ false → has_long_key v ≡ false → writes_long_key (addition cs k v) ≡ false
short_added cs k v short fit = search rules

-- none of several has too long a key
all_short : (cs ds : Children) → have_long_key ds ≡ false → list_any writes_long_key (additions cs ds) ≡ false
all_short cs none h = refl
all_short cs (child label n ds) h = search (rules, or_parts, short_added, all_short cs ds)

lt_either : (l m a b : ℕ) → (nat_lt l (m + a) || nat_lt l (m + b)) ≡ nat_lt l (m + max a b)
lt_either l m a b = search (rules, true_lt, lt_true, false_lt, lt_false)

-- the deepest of several is too deep
any_deep : (m : ℕ) (cs : Children) (label : Label) (n : Node) (ds : Children) → list_any (λ x. is_deep m (value_in x)) (additions cs (child label n ds)) ≡ nat_lt depth_limit (m + deepest (child label n ds))
any_deep m cs label n none = search (rules, addition_value)
any_deep m cs label n (child next o ds) = search (rules, addition_value, lt_either, any_deep m cs next o ds)

module _ (root : Node) (x : List Step) where
  unused : HaveNoAlias (names_of root) → (o : Option Node) → is_used_inside (names_of root) o ≡ false
  unused free None = refl
  unused free (Some n) = none_used (names_of root) (names_in (children_of n)) free

  none_overwritten : HaveNoAlias (names_of root) → (bs : List Addition) → list_any (overwrites_used root x) bs ≡ false
  none_overwritten free [] = refl
  none_overwritten free (appends k v ∷ bs) = none_overwritten free bs
  none_overwritten free (overwrites k v ∷ bs) = ap (λ b. b || list_any (overwrites_used root x) bs) (unused free (node_at (x ++ To k ∷ []) root)) ∙ none_overwritten free bs

  -- an item overwrites nothing
  item_appended : (k : Option (List ℕ)) (v : Node) → overwrites_used root x (addition none k v) ≡ false
  item_appended k v = search rules

  none_appended : (ds : Children) → list_any (overwrites_used root x) (additions none ds) ≡ false
  none_appended none = refl
  none_appended (child label v ds) = ap (λ b. b || list_any (overwrites_used root x) (additions none ds)) (item_appended label.key v) ∙ none_appended ds

  adds_alike : (cs : Children) (l m : Label) (n o : Node) (ds es : Children) → ((bs : Children) → list_any (overwrites_used root x) (additions cs bs) ≡ false) →
      have_long_key (child l n ds) ≡ false → have_long_key (child m o es) ≡ false →
      suc (deepest (child m o es)) ≡ min (suc depth_limit) (suc (deepest (child l n ds))) →
      verdict (all_allowed root ((x, adds (additions cs (child l n ds))) ∷ [])) ≡ verdict (all_allowed root ((x, adds (additions cs (child m o es))) ∷ []))
  adds_alike cs l m n o ds es unused fit short deep =
      let one_more : (a d : ℕ) → suc a + d ≡ a + suc d = λ a d. omega arith in
      allowed_alike root x (adds (additions cs (child l n ds))) (adds (additions cs (child m o es)))
      (all_short cs (child l n ds) fit ∙ sym (all_short cs (child m o es) short))
      (any_deep (suc (length x)) cs l n ds
      ∙ (ap (nat_lt depth_limit) (one_more (length x) (deepest (child l n ds)))
      ∙ (capped (length x) (suc (deepest (child l n ds))) (suc (deepest (child m o es))) deep
      ∙ (ap (nat_lt depth_limit) (sym (one_more (length x) (deepest (child m o es)))) ∙ sym (any_deep (suc (length x)) cs m o es)))))
      (unused (child l n ds) ∙ sym (unused (child m o es)))

  replaced : (v w : Node) → AreAlike v w → verdict (all_allowed root ((x, replaces v) ∷ [])) ≡ verdict (all_allowed root ((x, replaces w) ∷ []))
  replaced v w same = allowed_alike root x (replaces v) (replaces w) same.long (same.deep (length x)) refl

  one_item : (v w : Node) → AreAlike v w → verdict (all_allowed root ((x, adds (appends None v ∷ [])) ∷ [])) ≡ verdict (all_allowed root ((x, adds (appends None w ∷ [])) ∷ []))
  one_item v w same = search rules

  added_alike : (n : Node) {v w : Node} → (is_mapping v ≡ true → HaveNoAlias (names_of root)) → AreOneKind v w → IsSubstitute v w →
      verdict (and_then (all_allowed root) (and_then (λ c. gives ((x, c) ∷ [])) (added n v)))
      ≡ verdict (and_then (all_allowed root) (and_then (λ c. gives ((x, c) ∷ [])) (added n w)))
  added_alike (alias name) free k h = refl
  added_alike (scalar anchor kinds.Null text) free (texts {a} {b} {t} {u}) h = replaced (scalar a kinds.Text t) (scalar b kinds.Text u) (alike _ _ h)
  added_alike (scalar anchor kinds.Null text) free (lists {a} {b} {l} {m} {n} {o} {cs} {ds}) h = replaced (list a (child l n cs)) (list b (child m o ds)) (alike _ _ h)
  added_alike (scalar anchor kinds.Null text) free (maps {a} {b} {l} {m} {n} {o} {cs} {ds}) h = replaced (tree.map a (child l n cs)) (tree.map b (child m o ds)) (alike _ _ h)
  added_alike (scalar anchor kinds.Text text) free (texts {a} {b} {t} {u}) h = search (rules, allowed_alike)
  added_alike (scalar anchor kinds.Text text) free lists h = refl
  added_alike (scalar anchor kinds.Text text) free maps h = refl
  added_alike (scalar anchor kinds.Bool text) free texts h = refl
  added_alike (scalar anchor kinds.Bool text) free lists h = refl
  added_alike (scalar anchor kinds.Bool text) free maps h = refl
  added_alike (scalar anchor kinds.Int text) free texts h = refl
  added_alike (scalar anchor kinds.Int text) free lists h = refl
  added_alike (scalar anchor kinds.Int text) free maps h = refl
  added_alike (scalar anchor kinds.Float text) free texts h = refl
  added_alike (scalar anchor kinds.Float text) free lists h = refl
  added_alike (scalar anchor kinds.Float text) free maps h = refl
  added_alike (list anchor cs) free (texts {a} {b} {t} {u}) h = one_item (scalar a kinds.Text t) (scalar b kinds.Text u) (alike _ _ h)
  added_alike (list anchor cs) free (lists {a} {b} {l} {m} {n} {o} {cs = xs} {ds = ys}) h = adds_alike none l m n o xs ys none_appended h.fit h.short h.deep
  added_alike (list anchor cs) free (maps {a} {b} {l} {m} {n} {o} {cs = xs} {ds = ys}) h = one_item (tree.map a (child l n xs)) (tree.map b (child m o ys)) (alike _ _ h)
  added_alike (tree.map anchor cs) free texts h = refl
  added_alike (tree.map anchor cs) free lists h = refl
  added_alike (tree.map anchor cs) free (maps {a} {b} {l} {m} {n} {o} {cs = xs} {ds = ys}) h = adds_alike cs l m n o xs ys (λ bs. none_overwritten (free refl) (additions cs bs)) h.fit h.short h.deep

module _ (root : Node) (p : FoundPlace) where
  add_further : (ms : List PathStep) {v w : Node} → (is_mapping v ≡ true → HaveNoAlias (names_of root)) → AreOneKind v w → IsSubstitute v w →
      verdict (and_then (all_allowed root) (add_below ms p v)) ≡ verdict (and_then (all_allowed root) (add_below ms p w))
  add_further [] free k h = added_alike root p.path p.node free k h
  add_further (m ∷ ms) {v} {w} free k h = put_alike root p v w h

  add_there : {v w : Node} → (is_mapping v ≡ true → HaveNoAlias (names_of root)) → AreOneKind v w → IsSubstitute v w → verdict (and_then (all_allowed root) (add_at p v)) ≡ verdict (and_then (all_allowed root) (add_at p w))
  add_there free texts h = add_further p.missing free texts h
  add_there free lists h = add_further p.missing free lists h
  add_there free maps h = add_further p.missing free maps h

  pub add_alike : (v w : Node) → (is_mapping v ≡ true → HaveNoAlias (names_of root)) → IsSubstitute v w → verdict (and_then (all_allowed root) (add_at p v)) ≡ verdict (and_then (all_allowed root) (add_at p w))
  add_alike v w free h = add_there free h.kind h
