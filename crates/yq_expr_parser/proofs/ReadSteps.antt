-- What reading gives, a step at a time.
use Rattle.std.proofs.Common.{rules, ◌≡◌, ℕ, suc, ◌-◌, ◌<◌, length, arith, List, [], ◌∷◌, ◌++◌, Bool, true, false, Option, Some, None, refl}
use Rattle.std.{proofs.Common.{sym, ap, ◌∙◌, subst, map, option_map, Result}, specs.Borrow.Bor}
use Rattle.std.specs.Prelude.{if◌then◌else◌, ◌==◌, is_some, codes}
use Rattle.yq_core.{specs.Answers.◌>>=◌, specs.Values.items}
use Rattle.yq_expr_parser.{specs.ReadAnswers.{ParseFails, GivesForm, ReadsForm, with_tokens}, specs.Lexing.{tokens, after}}
use Rattle.yq_expr_parser.specs.Parse.{either, many, listed_at, field_at, literal_at, scalar_node_at, mapping_of, written_path}
use Rattle.yq_expr_parser.{proofs.Readers.Lessens, proofs.LoopSteps.{onto, step_more}}
use Rattle.yq_semantics.{specs.Parsing.ParseError, specs.Program.PathStep, specs.Tokens.Token}
use Rattle.yq_core.specs.Tree as tree

-- a step gave something, and so does the next one
pub bind_gives : {A B : Type 0} (f : A → Option B) (o : Option A) (x : A) (z : Option B) → o ≡ Some x → f x ≡ z → (o >>= f) ≡ z
bind_gives f o x z e h = ap (λ o. o >>= f) e ∙ h

pub bind_none : {A B : Type 0} (f : A → Option B) (o : Option A) → o ≡ None → (o >>= f) ≡ None
bind_none f o e = ap (λ o. o >>= f) e

pub either_some : {A B : Type 0} (f : A → B) (y : B) (o : Option A) (x : A) (z : B) → o ≡ Some x → f x ≡ z → either o f y ≡ z
either_some f y o x z e h = ap (λ o. either o f y) e ∙ h

pub either_none : {A B : Type 0} (f : A → B) (y : B) (o : Option A) (z : B) → o ≡ None → y ≡ z → either o f y ≡ z
either_none f y o z e h = ap (λ o. either o f y) e ∙ h

-- a step failed, and so does what follows it
pub bind_fails : {A B : Type 0} (f : A → Option B) (o : Option A) (e : ParseError) → ParseFails e o → ParseFails e (o >>= f)
bind_fails f o e h = search rules

-- what fails is the same
pub fails_as : {A : Type 0} (e : ParseError) (o z : Option A) → o ≡ z → ParseFails e z → ParseFails e o
fails_as e o z is h = subst (ParseFails e) (sym is) h

pub gives_as : {X Y : Type 0} (view : X → Y) (r : Result X ParseError) (o z : Option Y) → o ≡ z → GivesForm view r z → GivesForm view r o
gives_as view r o z is h = subst (GivesForm view r) (sym is) h

-- a form that a mark closes, as it is seen
pub closed_reads : {X Y : Type 0} (view : X → Y) (r : Result (X × Bor (List ℕ)) ParseError) (x : X) (o : Option (List Token))
    → ReadsForm (λ x. x) r (option_map (λ q. (x, q)) o) → ReadsForm view r (o >>= λ q. Some (view x, q))
closed_reads view r x o h = search rules

-- ---- forms one after the other, from the first one on

pub onto_nothing : {A : Type 0} (o : Option (List A × List Token)) → onto [] o ≡ o
onto_nothing o = search rules

-- a test that doesn't hold
pub test_fails : {A : Type 0} (b : Bool) (x y z : A) → b ≡ false → y ≡ z → (if b then x else y) ≡ z
test_fails b x y z e h = ap (λ b. if b then x else y) e ∙ h

pub test_holds : {A : Type 0} (b : Bool) (x y z : A) → b ≡ true → x ≡ z → (if b then x else y) ≡ z
test_holds b x y z e h = ap (λ b. if b then x else y) e ∙ h

-- a loop that keeps the form it read
pub step_pushed : {X Y : Type 0} (v : X → Y) (next : List Token → Option (Option (Y × List Token))) → Lessens next → (xs : List X) (rest : List ℕ) (w : Option (List Y × List Token))
    → onto (map v xs) (many next (tokens rest)) ≡ w → (o : Option (X × Bor (List ℕ))) → next (tokens rest) ≡ Some (option_map (with_tokens v) o)
    → (x : X) (b : Bor (List ℕ)) → o ≡ Some (x, b) → (ys : List X) → ys ≡ xs ++ x ∷ [] → onto (map v ys) (many next (tokens b.now)) ≡ w
step_pushed v next less xs rest w h o e x b is ys pushed = search (rules, onto, step_more)

-- a literal that may hold others
deeper_at : (depth d : ℕ) (ts : List Token) → depth ≡ suc d
    → literal_at depth ts ≡ either (after (codes "[") ts) (λ r. listed_at (codes "]") (literal_at d) r >>= λ x. Some (tree.list None (items x.0), x.1))
    (either (after (codes "{") ts) (λ r. listed_at (codes "}") (field_at (literal_at d)) r >>= mapping_of) (scalar_node_at ts))
unfolding literal_at
deeper_at depth d ts is = ap (λ n. literal_at n ts) is

pub deeper : (depth : ℕ) (ts : List Token) → 0 < depth
    → literal_at depth ts ≡ either (after (codes "[") ts) (λ r. listed_at (codes "]") (literal_at (depth - 1)) r >>= λ x. Some (tree.list None (items x.0), x.1))
    (either (after (codes "{") ts) (λ r. listed_at (codes "}") (field_at (literal_at (depth - 1))) r >>= mapping_of) (scalar_node_at ts))
deeper depth ts h = deeper_at depth (depth - 1) ts (omega arith)

-- ---- paths

pub seen_as : {X Y : Type 0} (f : X → Y) (o : Option X) (b : Bool) → is_some o ≡ b → is_some (option_map f o) ≡ b
seen_as f o b h = search rules

pub path_plain : {X : Type 0} (v : X → PathStep) (xs : List X) (ts : List Token) → (length xs == 0) ≡ false → written_path (map v xs, ts) ≡ Some (map v xs, ts)
path_plain v [] ts h = cc
path_plain v (x ∷ xs) ts h = refl
