-- What comes of a text: its program, or the first refusal in order.
use Rattle.std.specs.Prelude.{◌≡◌, ℕ, ◌+◌, ◌<◌, ◌⊎◌, Bool, true, false, ◌||◌, ◌==◌, List, [], ◌∷◌, take, codes, Result, Ok, Err}
use Rattle.std.specs.List.{list_any}
use Rattle.yq_semantics.specs.Program.{PathStep, key, index, each, Operand, value_at, document_index, Condition, compares, has, Stage, path}
use Rattle.yq_semantics.specs.Program.{select, Term, literal, found, Update, assign, delete, comment, Program, read, updates}
use Rattle.yq_semantics.{specs.Tokens.{Token, foreign, is_symbol, AreTokens}, specs.Grammar.IsProgram}
use Rattle.yq_semantics.specs.Parsing.{Outcome, ParseError, parsed, ill_formed, not_in_profile, with_pattern, refusal}
use Rattle.yq_failure.specs.declared.failure.Failure.TheVariants as failure

-- a text with `*` or `?` (own)
abbrev pub is_pattern : List ℕ → Bool
is_pattern t = list_any (λ b. b == 42 || b == 63) t

-- a step to a key with `*` or `?` (own)
abbrev pub step_matches : PathStep → Bool
step_matches (key k) = is_pattern k
step_matches (index n) = false
step_matches each = false

-- steps, one of which is such a step (own)
abbrev pub path_matches : List PathStep → Bool
path_matches steps = list_any step_matches steps

-- what is compared has such a step (own)
abbrev pub operand_matches : Operand → Bool
operand_matches (value_at steps) = path_matches steps
operand_matches document_index = false

-- a condition has such a step, or `*` or `?` in the key of `has` or in what is compared with (own)
abbrev pub condition_matches : Condition → Bool
condition_matches (compares operand equal kind text) = operand_matches operand || is_pattern text
condition_matches (has k) = is_pattern k

-- a stage has such a step or condition (own)
abbrev pub stage_matches : Stage → Bool
stage_matches (path steps) = path_matches steps
stage_matches (select c) = condition_matches c

-- a pipe has such a stage (own)
abbrev pub pipe_matches : List Stage → Bool
pipe_matches stages = list_any stage_matches stages

-- a term has such a pipe; literals hold no patterns (own)
abbrev pub term_matches : Term → Bool
term_matches (literal n) = false
term_matches (found stages) = pipe_matches stages

-- an update has such a pipe (own)
abbrev pub update_matches : Update → Bool
update_matches (assign left operator right) = pipe_matches left || list_any term_matches right
update_matches (delete stages) = pipe_matches stages
update_matches (comment left place text) = pipe_matches left

-- a program has such a pipe: it asks for keys that match a pattern (own)
abbrev pub has_pattern : Program → Bool
has_pattern (read stages) = pipe_matches stages
has_pattern (updates us) = list_any update_matches us

-- whether the token is `[` or `{` (own)
abbrev pub is_opening : Token → Bool
is_opening t = is_symbol (codes "[") t || is_symbol (codes "{") t

-- whether the token is `]` or `}` (own)
abbrev pub is_closing : Token → Bool
is_closing t = is_symbol (codes "]") t || is_symbol (codes "}") t

-- one more, if the test holds (own)
abbrev pub count_if : Bool → ℕ → ℕ
count_if true n = n + 1
count_if false n = n

-- how many of the tokens are `[` or `{` (own)
abbrev pub opening_count : List Token → ℕ
opening_count [] = 0
opening_count (t ∷ ts) = count_if (is_opening t) (opening_count ts)

-- how many of the tokens are `]` or `}` (own)
abbrev pub closing_count : List Token → ℕ
closing_count [] = 0
closing_count (t ∷ ts) = count_if (is_closing t) (closing_count ts)

-- up to some place `[` and `{` outnumber `]` and `}` by more than 64 (own)
abbrev pub IsTooDeep : List Token → Type 0
IsTooDeep ts = (n : ℕ) × (closing_count (take n ts) + 64 < opening_count (take n ts))

-- some token is one that only other expressions have (own)
abbrev pub HasForeign : List Token → Type 0
HasForeign [] = ⊥
HasForeign (t ∷ ts) = (t ≡ foreign) ⊎ HasForeign ts

-- a text derives a program: its tokens are this language's, its brackets don't nest too deep, and the grammar
-- has its tokens as that program (own)
abbrev pub Derives : List ℕ → Program → Type 0
Derives text p = (ts : List Token) × AreTokens ts text × ¬ HasForeign ts × ¬ IsTooDeep ts × IsProgram p ts

-- What a text comes to by the grammar: a program that it derives and that has no pattern, or else the first of these:
-- it has no tokens; it has a token of other expressions or too many open brackets; it has no derivation; it has a pattern (own).
abbrev pub ComesTo : List ℕ → Outcome → Type 0
ComesTo text (parsed p) = Derives text p × (has_pattern p ≡ false)
ComesTo text ill_formed =
    ((ts : List Token) → ¬ AreTokens ts text)
    ⊎ ((ts : List Token) × AreTokens ts text × ¬ HasForeign ts × ¬ IsTooDeep ts × ((p : Program) → ¬ IsProgram p ts))
ComesTo text not_in_profile = (ts : List Token) × AreTokens ts text × (HasForeign ts ⊎ IsTooDeep ts)
ComesTo text with_pattern = (p : Program) × Derives text p × (has_pattern p ≡ true)

-- a text has the cause of its refusal; lack of memory says nothing (own)
abbrev pub ExprRefused : ParseError → List ℕ → Type 0
ExprRefused failure.Memory text = Unit {0}
ExprRefused (failure.Fault f) text = ComesTo text (refusal f)

-- An error is that refusal; lack of memory says nothing (own).
abbrev pub AnswersError : ParseError → Outcome → Type 0
AnswersError failure.Memory o = Unit {0}
AnswersError (failure.Fault f) o = o ≡ refusal f

-- An answer is that program or that refusal; lack of memory says nothing (own).
abbrev pub Answers : {X : Type 0} → (X → Program) → Result X ParseError → Outcome → Type 0
Answers view (Ok x) o = o ≡ parsed (view x)
Answers view (Err e) o = AnswersError e o
