-- What calls that read forms of a text answer (own).
use Rattle.std.{specs.Borrow.Bor, specs.Prelude.{◌≡◌, ℕ, List, Option, Result, String, Vec, codes, false, map, option_map, string_bytes}}
use Rattle.std.specs.declared.alloc.Global.{Global}
use Rattle.yq_core.{specs.declared.value.Value.Value, specs.Tree.Node}
use Rattle.yq_semantics.{specs.Grammar.literal_depth, specs.Program.{Program, Update}, specs.Tokens.Token, specs.View.stage_of}
use Rattle.yq_semantics.{specs.declared.program.Stage.Stage, specs.Parsing.{parsed, ParseError}}
use Rattle.yq_expr_parser.{specs.Lexing.{after, as_step, taken, tokens}, specs.Outcome.{Answers, Derives, has_pattern}}
use Rattle.yq_expr_parser.specs.Parse.{Parse, action_at, field_at, listed_at, literal_at, parse_update, parted_at}
use Rattle.yq_expr_parser.specs.ReadAnswers.{GivesForm, ReadsForm, Succeeds, with_tokens}

-- the answer is the form that is read of a text and what comes after it, unless memory ran out
abbrev pub ReadsOf : {X Y : Type 0} → (X → Y) → Result (X × Bor (List ℕ)) ParseError → Parse Y → List ℕ → Type 0
ReadsOf view r form text = ReadsForm view r (form (tokens text))

-- the same of several forms
abbrev pub ReadsAll : {X Y : Type 0} → (X → Y) → Result (Vec X Global × Bor (List ℕ)) ParseError → Parse (List Y) → List ℕ → Type 0
ReadsAll view r forms text = ReadsForm (λ v. map view v.items) r (forms (tokens text))

-- the answer is the forms that reading gives, unless memory ran out
abbrev pub GivesAll : {X Y : Type 0} → (X → Y) → Result (Vec X Global) ParseError → Option (List Y) → Type 0
GivesAll view r read = GivesForm (λ v. map view v.items) r read

-- the tokens of a text after this symbol, if that is in front
abbrev pub tokens_after : (symbol text : List ℕ) → Option (List Token)
tokens_after symbol text = after symbol (tokens text)

-- what the token in front of a text is, and the tokens after it
abbrev pub taken_from : {A : Type 0} → (Token → Option A) → List ℕ → Option (A × List Token)
taken_from what text = taken what (tokens text)

-- items up to a `]`
abbrev pub literal_items : ℕ → Parse (List Node)
literal_items depth = listed_at (codes "]") (literal_at depth)

-- entries up to a `}`
abbrev pub literal_fields : ℕ → Parse (List (List ℕ × Node))
literal_fields depth = listed_at (codes "}") (field_at (literal_at depth))

-- updates, one after the other
abbrev pub all_updates : Parse (List Update)
all_updates = parted_at (codes "|") (parse_update literal_depth)

-- the keys of entries
abbrev pub field_keys : Vec (String Global × Value) Global → List (List ℕ)
field_keys es = map (λ e. string_bytes e.0) es.items

-- two slices that are found are these
abbrev pub FindsBoth : Option (Bor (List ℕ) × Bor (List ℕ)) → Option (List ℕ × List ℕ) → Type 0
FindsBoth found slices = option_map {U = List ℕ × List ℕ} (λ x. (x.0.now, x.1.now)) found ≡ slices

-- a text derives a program that has no pattern
abbrev pub IsProgramOf : List ℕ → Program → Type 0
IsProgramOf text p = Derives text p × (has_pattern p ≡ false)

-- whatever program without a pattern a text derives is the answer, unless memory ran out
abbrev pub AnswersEach : {X : Type 0} → (X → Program) → Result X ParseError → List ℕ → Type 0
AnswersEach view r text = (p : Program) → Derives text p → has_pattern p ≡ false → Answers view r (parsed p)

-- a form, and the tokens after a mark that has to be after it
abbrev pub closed_form : {A : Type 0} → A → (mark text : List ℕ) → Option (A × List Token)
closed_form form mark text = option_map (λ r. (form, r)) (tokens_after mark text)

-- what is done with what these stages find
abbrev pub action_on : Vec Stage Global → Parse Update
action_on left = action_at literal_depth (map stage_of left.items)

-- the answer is the step that a text begins with, if one is there, and what comes after it, unless memory ran out
abbrev pub TakesKey : Result (Option (String Global × Bor (List ℕ))) ParseError → List ℕ → Type 0
TakesKey r text = Succeeds (option_map (with_tokens string_bytes)) r (taken_from as_step text)
