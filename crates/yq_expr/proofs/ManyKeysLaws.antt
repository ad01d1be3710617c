-- A value under more missing keys than collections may be nested is refused, whatever it is.
use Rattle.std.proofs.Common.{◌≡◌, ℕ, ◌+◌, ◌<◌, nat_lt, Bool, true, false, cond, ◌||◌, List, [], ◌∷◌, length, map, IsTrue, IfErr, Result}
use Rattle.std.{proofs.Common.{refl, sym, ap, ◌∙◌, arith, rules}, specs.List.{list_all, list_any}, proofs.lemmas.Bool.Decides.nat_tests}
use Rattle.std.proofs.lemmas.List.{length-map}
use Rattle.yq_core.{specs.Inline.depth_limit, specs.Keys.depth, specs.Paths.Step, specs.Tree.Node}
use Rattle.yq_expr.specs.ManyKeys.{AreManyKeys, is_key_step, is_long_step}
use Rattle.yq_semantics.specs.Changes.{Change, add_at, all_allowed, has_long_key, nested, put_below, put_with_path}
use Rattle.yq_semantics.{proofs.Lists.{list_all_map, list_any_map}, specs.RightValues.is_null}
use Rattle.yq_semantics.{specs.Judgement.{Judgement, and_then, gives, refuses, ExprError}, specs.Places.FoundPlace}
use Rattle.yq_semantics.{specs.Program.{PathStep, key, is_index}, specs.declared.refusal.Refusal.TheVariants.{KeyTooLong, TooDeep}}

lt_true : (a b : ℕ) → a < b → nat_lt a b ≡ true
lt_true a b h = grind (arith, nat_tests)

-- each key is one mapping more
nested_depth : (ms : List PathStep) (v : Node) → list_all is_key_step ms ≡ true → depth (nested ms v) ≡ length ms + depth v
nested_depth [] v keys = omega arith
nested_depth (key k ∷ ms) v keys = let below = nested_depth ms v keys in omega (arith, below)
nested_depth _ v keys = search (rules, keys)

-- no step to the value of a key is one to an item
none_indexed : (ms : List PathStep) → list_all is_key_step ms ≡ true → list_any is_index ms ≡ false
none_indexed [] keys = refl
none_indexed (key k ∷ ms) keys = none_indexed ms keys
none_indexed _ keys = search (rules, keys)

or_again : (a l h b : Bool) → b ≡ (l || h) → (a || (b || false)) ≡ ((a || l) || h)
or_again a l h b is = search rules

or_last : (a l h b : Bool) → b ≡ (l || h) → ((a || b) || false) ≡ ((a || l) || h)
or_last a l h b is = search rules

-- a key is too long among those, or in the value
nested_long : (ms : List PathStep) (v : Node) → list_all is_key_step ms ≡ true → has_long_key (nested ms v) ≡ (list_any is_long_step ms || has_long_key v)
nested_long [] v keys = refl
nested_long (key k ∷ ms) v keys = or_again (is_long_step (key k)) (list_any is_long_step ms) (has_long_key v) (has_long_key (nested ms v)) (nested_long ms v keys)
nested_long _ v keys = search (rules, keys)

or_true : (b : Bool) → b ≡ true → (b || false) ≡ true
or_true b is = ap (λ c. c || false) is

deep_alone : (outer : ℕ) (ms : List PathStep) (v : Node) → AreManyKeys ms → nat_lt depth_limit (outer + depth (nested ms v)) ≡ true
deep_alone outer ms v many = search (rules, nested_depth, lt_true)

-- why a value isn't put under so many keys, below any node
pub deep_put : (root n : Node) (x : List Step) (ms : List PathStep) (v : Node) → AreManyKeys ms →
    and_then (λ c. all_allowed root ((x, c) ∷ [])) (put_below n ms v) ≡ refuses (cond (list_any is_long_step ms || has_long_key v) KeyTooLong TooDeep)
deep_put root n x ms v many = search (rules, none_indexed, or_last, nested_long, nested_depth, or_true, lt_true, deep_alone)

with_path : (root : Node) (x : List Step) (j : Judgement Change) → and_then (all_allowed root) (and_then (λ c. gives ((x, c) ∷ [])) j) ≡ and_then (λ c. all_allowed root ((x, c) ∷ [])) j
with_path root x j = search rules

-- steps as they are seen
pub many_keys : {X : Type 0} (f : X → PathStep) (xs : List X) (b : Bool) → depth_limit < length xs → b ≡ list_all (λ x. is_key_step (f x)) xs → IsTrue b → AreManyKeys (map f xs)
many_keys f xs b long is h = search (rules, length-map, list_all_map)

-- why a value isn't put under so many of them at a place
pub deep_refusal : {X : Type 0} (f : X → PathStep) (xs : List X) (p : FoundPlace) (v : Node) (long : Bool) → AreManyKeys (map f xs) → map f xs ≡ p.missing →
    long ≡ (list_any (λ x. is_long_step (f x)) xs || has_long_key v) → (root : Node) → and_then (all_allowed root) (put_with_path p v) ≡ refuses (cond long KeyTooLong TooDeep)
deep_refusal f xs p v long many same is root =
    with_path root p.path (put_below p.node p.missing v)
    ∙ (ap (λ ms. and_then (λ c. all_allowed root ((p.path, c) ∷ [])) (put_below p.node ms v)) (sym same)
    ∙ (deep_put root p.node p.path (map f xs) v many
    ∙ ap (λ b. refuses (cond b KeyTooLong TooDeep)) (ap (λ b. b || has_long_key v) (list_any_map is_long_step f xs) ∙ sym is)))

-- the same of a value that is added, where keys are missing
pub deep_added : (ms : List PathStep) (p : FoundPlace) (v : Node) → AreManyKeys ms → ms ≡ p.missing → is_null v ≡ false → add_at p v ≡ put_with_path p v
deep_added ms p v many same null = search rules

-- what an error says, said of it otherwise
pub each_refusal : {T : Type 0} {P Q : ExprError → Type 0} (r : Result T ExprError) → ((e : ExprError) → P e → Q e) → IfErr r P → IfErr r Q
each_refusal r f h = search rules
