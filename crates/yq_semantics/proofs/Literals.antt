-- Literals are trees without anchors and aliases, which nest so far and no further.
use Rattle.std.proofs.Common.{◌≡◌, ◌≢◌, ℕ, zero, suc, ◌≤◌, List, [], ◌∷◌, map, None, refl, subst, sym, inl, inr, arith, rules}
use Rattle.std.{proofs.lemmas.Option.same_Some, specs.List.All, specs.Prelude.{⊤, codes}}
use Rattle.yq_core.{specs.Keys.{AreDistinct, depth, deepest}, specs.Shapes.{IsNew, AreItems, AreEntries, IsTree, AreTrees}}
use Rattle.yq_core.{specs.Tree.{Label, Node, list, Children, child}, specs.Anchors.{names_of, names_in}, specs.Values.{items, entries}}
use Rattle.yq_semantics.specs.Program.{Term, literal, found, Update, assign, delete, comment, Program, IsValue, SumHolds, UpdatesHold}
use Rattle.yq_semantics.{specs.Program.LiteralsHold, specs.Tokens.Token}
use Rattle.yq_semantics.specs.Grammar.{Production, Are, Preceded, AreParted, AreListed, IsField, IsLiteral, literal_depth, IsTerm, IsUpdate}
use Rattle.yq_semantics.specs.Grammar.{IsProgram}
use Rattle.yq_core.specs.Tree as tree

-- a fact of each element
abbrev Each : {A : Type 0} → (A → Type 0) → List A → Type 0
Each P [] = ⊤
Each P (x ∷ xs) = P x × Each P xs

each_after : {A : Type 0} (P : A → Type 0) (s : List ℕ) (Is : Production A) → ((x : A) (ts rest : List Token) → Is x ts rest → P x) → (xs : List A) (ts rest : List Token) → Are (Preceded s Is) xs ts rest → Each P xs
each_after P s Is holds [] ts rest h = tt
each_after P s Is holds (x ∷ xs) ts rest h = (holds x h.1.0 h.0 h.1.2, each_after P s Is holds xs h.0 rest h.2)

each_parted : {A : Type 0} (P : A → Type 0) (s : List ℕ) (Is : Production A) → ((x : A) (ts rest : List Token) → Is x ts rest → P x) → (xs : List A) (ts rest : List Token) → AreParted s Is xs ts rest → Each P xs
each_parted P s Is holds xs ts rest h = search (rules, each_after)

each_listed : {A : Type 0} (P : A → Type 0) (opening closing : List ℕ) (Is : Production A) → ((x : A) (ts rest : List Token) → Is x ts rest → P x) → (xs : List A) (ts rest : List Token) → AreListed opening closing Is xs ts rest → Each P xs
each_listed P opening closing Is holds [] ts rest h = tt
each_listed P opening closing Is holds (x ∷ xs) ts rest h = each_parted P (codes ",") Is holds (x ∷ xs) h.0 h.1 h.3

-- a tree without anchors and aliases, in which so many collections at most are nested
record Nests (d : ℕ) (n : Node) : Type 0 where
  tree : IsTree n
  unnamed : names_of n ≡ []
  nested : depth n ≤ d

-- the same of items or entries
record AllNest (d : ℕ) (cs : Children) : Type 0 where
  trees : AreTrees cs
  unnamed : names_in cs ≡ []
  nested : deepest cs ≤ d

child_nests : (d : ℕ) (label : Label) (n : Node) (cs : Children) → Nests d n → AllNest d cs → AllNest d (child label n cs)
child_nests d label n cs h k = search rules

items_nest : (d : ℕ) (ns : List Node) → Each (Nests d) ns → AllNest d (items ns)
items_nest d [] h = record { trees = tt; unnamed = refl; nested = omega arith }
items_nest d (n ∷ ns) h = child_nests d _ n (items ns) h.0 (items_nest d ns h.1)

entries_nest : (d : ℕ) (es : List (List ℕ × Node)) → Each (λ e. Nests d e.1) es → AllNest d (entries es)
entries_nest d [] h = record { trees = tt; unnamed = refl; nested = omega arith }
entries_nest d (e ∷ es) h = child_nests d _ e.1 (entries es) h.0 (entries_nest d es h.1)

are_items : (ns : List Node) → AreItems (items ns)
are_items [] = tt
are_items (n ∷ ns) = (refl, are_items ns)

-- keys that differ are those of entries
is_new : (k : List ℕ) (es : List (List ℕ × Node)) → All (λ j. k ≢ j) (map (λ e. e.0) es) → IsNew k (entries es)
is_new k [] h = tt
is_new k (e ∷ es) h = ((λ is. h zero [] (omega arith) (sym (same_Some _ _ is))), is_new k es (λ i d within. h (suc i) d (omega arith)))

are_entries : (es : List (List ℕ × Node)) → AreDistinct (map (λ e. e.0) es) → AreEntries (entries es)
are_entries [] h = tt
are_entries (e ∷ es) h =
    ((e.0, refl, is_new e.0 es (λ j d within. h zero (suc j) d (omega arith) (omega arith))), are_entries es (λ i j d lt within. h (suc i) (suc j) d (omega arith) (omega arith)))

list_nests : (d : ℕ) (cs : Children) → AreItems cs → AllNest d cs → Nests (suc d) (list None cs)
list_nests d cs are h = let deep = h.nested in record { tree = (are, h.trees); unnamed = h.unnamed; nested = omega arith }

map_nests : (d : ℕ) (cs : Children) → AreEntries cs → AllNest d cs → Nests (suc d) (tree.map None cs)
map_nests d cs are h = let deep = h.nested in record { tree = (are, h.trees); unnamed = h.unnamed; nested = omega arith }

nests : (d : ℕ) (n : Node) (ts rest : List Token) → IsLiteral d n ts rest → Nests d n
unfolding IsLiteral
nests zero n ts rest h = subst (Nests zero) (sym h.1) (record { tree = tt; unnamed = refl; nested = omega arith })
nests (suc d) n ts rest (inl h) = subst (Nests (suc d)) (sym h.1) (record { tree = tt; unnamed = refl; nested = omega arith })
nests (suc d) n ts rest (inr (inl h)) =
    let all = items_nest d h.0 (each_listed (Nests d) (codes "[") (codes "]") (IsLiteral d) (nests d) h.0 ts rest h.2) in subst (Nests (suc d)) (sym h.1) (list_nests d (items h.0) (are_items h.0) all)
nests (suc d) n ts rest (inr (inr h)) =
    let all = entries_nest d h.0 (each_listed (λ e. Nests d e.1) (codes "{") (codes "}") (IsField (IsLiteral d)) (λ e us r k. nests d e.1 k.0 r k.2) h.0 ts rest h.3) in
    subst (Nests (suc d)) (sym h.1) (map_nests d (entries h.0) (are_entries h.0 h.2) all)

-- a term that is a literal is a value
abbrev TermHolds : Term → Type 0
TermHolds (literal n) = IsValue n
TermHolds (found stages) = ⊤

term_holds : (t : Term) (ts rest : List Token) → IsTerm t ts rest → TermHolds t
unfolding literal_depth
term_holds t ts rest h = search (rules, nests)

sum_holds : (terms : List Term) → Each TermHolds terms → SumHolds terms
sum_holds [] h = tt
sum_holds (literal n ∷ terms) h = (h.0, sum_holds terms h.1)
sum_holds (found stages ∷ terms) h = sum_holds terms h.1

-- an update's sum holds values
abbrev UpdateHolds : Update → Type 0
UpdateHolds (assign left op right) = SumHolds right
UpdateHolds (delete stages) = ⊤
UpdateHolds (comment left place text) = ⊤

update_holds : (u : Update) (ts rest : List Token) → IsUpdate u ts rest → UpdateHolds u
update_holds u ts rest h1 = search (rules, sum_holds, each_parted, term_holds)

updates_hold : (us : List Update) → Each UpdateHolds us → UpdatesHold us
updates_hold [] h = tt
updates_hold (assign left op right ∷ us) h = (h.0, updates_hold us h.1)
updates_hold (delete stages ∷ us) h = updates_hold us h.1
updates_hold (comment left place text ∷ us) h = updates_hold us h.1

pub literals_hold : (p : Program) (ts : List Token) → IsProgram p ts → LiteralsHold p
literals_hold p ts h = search (rules, updates_hold, each_parted, update_holds)
