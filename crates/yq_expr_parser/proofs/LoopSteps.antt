-- Loops over forms one after the other, a turn at a time.
use Rattle.std.proofs.Common.{rules, ◌≡◌, ℕ, List, [], ◌∷◌, ◌++◌, ◌<◌, subst, length, map, Option, Some, None, option_map, refl, sym, ap}
use Rattle.std.{proofs.Common.{◌∙◌, append_assoc, append-nil, Result, Err}, proofs.lemmas.List.map_push, specs.Borrow.Bor}
use Rattle.std.specs.Prelude.{codes}
use Rattle.yq_core.specs.Answers.{◌>>=◌}
use Rattle.yq_expr_parser.{specs.ReadAnswers.{ParseFails, GivesForm, with_tokens, IsShorter}, specs.Lexing.{tokens, after}}
use Rattle.yq_expr_parser.specs.Parse.{Parse, either, with_front, many, step_at, after_mark, parted_at, literal_at, field_at, stage_at}
use Rattle.yq_expr_parser.specs.Parse.{term_at, parse_update}
use Rattle.yq_expr_parser.proofs.Readers.{Lessens, many_next, Takes, Shortens, preceded_takes, preceded_shortens}
use Rattle.yq_expr_parser.proofs.PathTakes.{step_takes, next_shortens}
use Rattle.yq_expr_parser.proofs.LiteralTakes.{literal_takes, literal_shortens, field_takes, field_shortens}
use Rattle.yq_expr_parser.proofs.PipeTakes.{stage_takes, stage_shortens}
use Rattle.yq_expr_parser.proofs.UpdateTakes.{term_takes, term_shortens, update_takes, update_shortens}
use Rattle.yq_semantics.{specs.Parsing.ParseError, specs.Tokens.Token}
use Rattle.yq_semantics.specs.Grammar.{Production, IsLiteral, IsField, IsStage, IsTerm, IsUpdate, literal_depth}
use Rattle.yq_failure.specs.declared.failure.Failure.TheVariants as failure

-- the forms read so far before those to come
abbrev pub onto : {A : Type 0} → List A → Option (List A × List Token) → Option (List A × List Token)
onto xs None = None
onto xs (Some y) = Some (xs ++ y.0, y.1)

onto_front : {A : Type 0} (xs : List A) (x : A) (o : Option (List A × List Token)) → onto xs (with_front x o) ≡ onto (xs ++ x ∷ []) o
onto_front xs x o = search (rules, append_assoc)

turned : {A : Type 0} (next : List Token → Option (Option (A × List Token))) → Lessens next → (xs : List A) (ts : List Token) (w : Option (List A × List Token))
    → onto xs (many next ts) ≡ w → (o : Option (Option (A × List Token))) → next ts ≡ o → onto xs (o >>= λ o. either o (λ x. with_front x.0 (many next x.1)) (Some ([], ts))) ≡ w
turned next less xs ts w h o e = ap (λ o. onto xs (o >>= λ o. either o (λ x. with_front x.0 (many next x.1)) (Some ([], ts)))) (sym e) ∙ (sym (ap (onto xs) (many_next next less ts)) ∙ h)

-- a form is read
pub loop_more : {A : Type 0} (next : List Token → Option (Option (A × List Token))) → Lessens next → (xs : List A) (ts : List Token) (w : Option (List A × List Token))
    → onto xs (many next ts) ≡ w → (x : A) (rest : List Token) → next ts ≡ Some (Some (x, rest)) → onto (xs ++ x ∷ []) (many next rest) ≡ w
loop_more next less xs ts w h x rest e = sym (onto_front xs x (many next rest)) ∙ turned next less xs ts w h (Some (Some (x, rest))) e

-- no form is left
pub loop_end : {A : Type 0} (next : List Token → Option (Option (A × List Token))) → Lessens next → (xs : List A) (ts : List Token) (w : Option (List A × List Token))
    → onto xs (many next ts) ≡ w → next ts ≡ Some None → w ≡ Some (xs, ts)
loop_end next less xs ts w h e = sym (turned next less xs ts w h (Some None) e) ∙ ap (λ zs. Some (zs, ts)) (append-nil xs)

-- a form is refused
pub loop_fails : {A : Type 0} (next : List Token → Option (Option (A × List Token))) → Lessens next → (xs : List A) (ts : List Token) (w : Option (List A × List Token))
    → onto xs (many next ts) ≡ w → (e : ParseError) → ParseFails e (next ts) → ParseFails e w
loop_fails next less xs ts w h failure.Memory f = tt
loop_fails next less xs ts w h (failure.Fault x) f = (f.0, sym (turned next less xs ts w h None f.1))

-- ---- the same of loops of the code

-- what a call's answer is seen as
pub step_more : {X Y : Type 0} (v : X → Y) (next : List Token → Option (Option (Y × List Token))) → Lessens next → (xs : List X) (rest : List ℕ) (w : Option (List Y × List Token))
    → onto (map v xs) (many next (tokens rest)) ≡ w → (o : Option (X × Bor (List ℕ))) → next (tokens rest) ≡ Some (option_map (with_tokens v) o)
    → (x : X) (b : Bor (List ℕ)) → o ≡ Some (x, b) → onto (map v (xs ++ x ∷ [])) (many next (tokens b.now)) ≡ w
step_more v next less xs rest w h o e x b is =
    rw map_push (loop_more next less (map v xs) (tokens rest) w h (v x) (tokens b.now) (e ∙ ap (λ o. Some (option_map (with_tokens v) o)) is))

pub step_end : {X Y : Type 0} (v : X → Y) (next : List Token → Option (Option (Y × List Token))) → Lessens next → (xs : List X) (rest : List ℕ) (w : Option (List Y × List Token))
    → onto (map v xs) (many next (tokens rest)) ≡ w → (o : Option (X × Bor (List ℕ))) → next (tokens rest) ≡ Some (option_map (with_tokens v) o)
    → o ≡ None → w ≡ Some (map v xs, tokens rest)
step_end v next less xs rest w h o e is = loop_end next less (map v xs) (tokens rest) w h (e ∙ ap (λ o. Some (option_map (with_tokens v) o)) is)

-- an error that is passed on
pub failed : {Z Y : Type 0} (view : Z → Y) (r : Result Z ParseError) (f : ParseError) (w : Option Y) → ((x : ParseError) × (r ≡ Err x) × (x ≡ f)) → ParseFails f w → GivesForm view r w
failed view r f w p h = rw (p.1, p.2) h

pub before_some : {X : Type 0} (text : List ℕ) (o : Option (X × Bor (List ℕ))) (x : X) (b : Bor (List ℕ)) → IsShorter text o → o ≡ Some (x, b) → length b.now < length text
before_some {X} text o x b h is = let at : IsShorter text (Some (x, b)) = subst (IsShorter text) is h in at

-- ---- loops over forms with a mark between them

pub onto_new : {X Y : Type 0} (v : X → Y) (xs : List X) (o : Option (List Y × List Token)) → xs ≡ [] → onto (map v xs) o ≡ o
onto_new v xs o is = search rules

after_many : {A : Type 0} (s : List ℕ) (form : Parse A) → Lessens (after_mark s form) → (a : A) (ts : List Token)
    → with_front a (many (after_mark s form) ts) ≡ either (after s ts) (λ r. with_front a (parted_at s form r)) (Some (a ∷ [], ts))
after_many {A} s form less a ts = ap (with_front a) (many_next (after_mark s form) less ts) ∙ go (after s ts)
  where
    others : Option (Option (A × List Token)) → Option (List A × List Token)
    others o = o >>= λ o. either o (λ x. with_front x.0 (many (after_mark s form) x.1)) (Some ([], ts))

    read : (o : Option (A × List Token)) → others (o >>= λ x. Some (Some x)) ≡ (o >>= λ x. with_front x.0 (many (after_mark s form) x.1))
    read None = refl
    read (Some x) = refl

    go : (o : Option (List Token)) → with_front a (others (either o (λ r. form r >>= λ x. Some (Some x)) (Some None)))
        ≡ either o (λ r. with_front a (parted_at s form r)) (Some (a ∷ [], ts))
    go None = refl
    go (Some r) = ap (with_front a) (read (form r))

turn : {A : Type 0} (s : List ℕ) (form : Parse A) → Lessens (after_mark s form) → (xs : List A) (ts : List Token) (w : Option (List A × List Token))
    → onto xs (parted_at s form ts) ≡ w → (x : A) (r : List Token) → form ts ≡ Some (x, r) → (o : Option (List Token)) → after s r ≡ o
    → onto xs (either o (λ r. with_front x (parted_at s form r)) (Some (x ∷ [], r))) ≡ w
turn s form less xs ts w h x r e o a =
    ap (λ o. onto xs (either o (λ r. with_front x (parted_at s form r)) (Some (x ∷ [], r)))) (sym a)
    ∙ (ap (onto xs) (sym (after_many s form less x r) ∙ sym (ap (λ o. o >>= λ y. with_front y.0 (many (after_mark s form) y.1)) e)) ∙ h)

-- a form is read, and the mark is after it
pub parted_more : {X Y : Type 0} (v : X → Y) (s : List ℕ) (form : Parse Y) → Lessens (after_mark s form) → (xs : List X) (ts : List Token) (w : Option (List Y × List Token))
    → onto (map v xs) (parted_at s form ts) ≡ w → (x : X) (r : List Token) → form ts ≡ Some (v x, r) → (ys : List X) → ys ≡ xs ++ x ∷ []
    → (q : List Token) → after s r ≡ Some q → onto (map v ys) (parted_at s form q) ≡ w
parted_more v s form less xs ts w h x r e ys pushed q a =
    ap (λ l. onto (map v l) (parted_at s form q)) pushed
    ∙ rw map_push (sym (onto_front (map v xs) (v x) (parted_at s form q)) ∙ turn s form less (map v xs) ts w h (v x) r e (Some q) a)

-- a form is read, and no mark is after it
pub parted_end : {X Y : Type 0} (v : X → Y) (s : List ℕ) (form : Parse Y) → Lessens (after_mark s form) → (xs : List X) (ts : List Token) (w : Option (List Y × List Token))
    → onto (map v xs) (parted_at s form ts) ≡ w → (x : X) (r : List Token) → form ts ≡ Some (v x, r) → (ys : List X) → ys ≡ xs ++ x ∷ []
    → after s r ≡ None → w ≡ Some (map v ys, r)
parted_end v s form less xs ts w h x r e ys pushed a =
    sym (ap (λ l. Some (map v l, r)) pushed ∙ rw map_push (turn s form less (map v xs) ts w h (v x) r e None a))

-- a form is refused
pub parted_fails : {A : Type 0} (s : List ℕ) (form : Parse A) (xs : List A) (ts : List Token) (w : Option (List A × List Token))
    → onto xs (parted_at s form ts) ≡ w → (e : ParseError) → ParseFails e (form ts) → ParseFails e w
parted_fails s form xs ts w h e f = search rules

-- ---- which forms leave less

pub step_lessens : Lessens step_at
step_lessens ts x h = next_shortens x.0 ts x.1 (step_takes ts x h)

after_lessens : {A : Type 0} (s : List ℕ) (at : Parse A) (Is : Production A) → Takes at Is → Shortens Is → Lessens (after_mark s at)
after_lessens s at Is takes less ts x h = preceded_shortens s Is less x.0 ts x.1 (preceded_takes s at Is takes ts x h)

pub item_lessens : (depth : ℕ) → Lessens (after_mark (codes ",") (literal_at depth))
item_lessens depth = after_lessens (codes ",") (literal_at depth) (IsLiteral depth) (literal_takes depth) (literal_shortens depth)

pub field_lessens : (depth : ℕ) → Lessens (after_mark (codes ",") (field_at (literal_at depth)))
field_lessens depth = after_lessens (codes ",") (field_at (literal_at depth)) (IsField (IsLiteral depth)) (field_takes (literal_at depth) (IsLiteral depth) (literal_takes depth)) (field_shortens (IsLiteral depth) (literal_shortens depth))

pub stage_lessens : Lessens (after_mark (codes "|") stage_at)
stage_lessens = after_lessens (codes "|") stage_at IsStage stage_takes stage_shortens

pub term_lessens : Lessens (after_mark (codes "+") (term_at literal_depth))
term_lessens = after_lessens (codes "+") (term_at literal_depth) IsTerm term_takes term_shortens

pub update_lessens : Lessens (after_mark (codes "|") (parse_update literal_depth))
update_lessens = after_lessens (codes "|") (parse_update literal_depth) IsUpdate update_takes update_shortens
