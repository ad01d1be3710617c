-- Reading (own; you may skip it: the clauses `found` and `only` show that it agrees with the grammar).
use Rattle.std.specs.Prelude.{ℕ, zero, suc, ◌+◌, nat_lt, if◌then◌else◌, Bool, true, false, ◌||◌, List, [], ◌∷◌, length, map, Option, Some}
use Rattle.std.specs.Prelude.{None, is_some, codes}
use Rattle.yq_core.{specs.Answers.◌>>=◌, specs.Scalar.{ScalarText, string_of, plain_of}, specs.SchemaReading.int_value, specs.Tree.Node}
use Rattle.yq_core.{specs.Values.{items, entries}, specs.Keys.are_distinct}
use Rattle.yq_semantics.{specs.declared.program.Operator.Operator, specs.declared.program.CommentPlace.CommentPlace}
use Rattle.yq_semantics.specs.Program.{is_simple, PathStep, key, index, each, Operand, value_at, document_index, Condition, compares, has}
use Rattle.yq_semantics.specs.Program.{Stage, path, select, Term, literal, found, Update, assign, delete, comment, Program, read, updates}
use Rattle.yq_semantics.{specs.Tokens.{Token, string, number, step, symbol, foreign, unread}, specs.Grammar.literal_depth}
use Rattle.yq_semantics.specs.Parsing.{Outcome, parsed, ill_formed, not_in_profile, with_pattern}
use Rattle.yq_expr_parser.specs.Outcome.{has_pattern, count_if, is_opening, is_closing}
use Rattle.yq_expr_parser.specs.Lexing.{tokens, after, taken, as_number, as_string, as_step, no_tokens}
use Rattle.yq_core.specs.Tree as tree
use Rattle.yq_semantics.specs.declared.program.Operator.TheVariants as operator
use Rattle.yq_semantics.specs.declared.program.CommentPlace.TheVariants as place

-- a reading function: the form in front and the tokens that follow, or nothing (own)
abbrev pub Parse : Type 0 → Type 0
Parse A = List Token → Option (A × List Token)

-- one of two, by whether something is there (own)
abbrev pub either : {A B : Type 0} → Option A → (A → B) → B → B
either (Some x) f y = f x
either None f y = y

-- a form read before others (own)
abbrev pub with_front : {A : Type 0} → A → Option (List A × List Token) → Option (List A × List Token)
with_front a None = None
with_front a (Some x) = Some (a ∷ x.0, x.1)

-- forms as long as one is in front, at most so many; a form that is refused refuses all (own)
unfoldable pub many_in : {A : Type 0} → (List Token → Option (Option (A × List Token))) → ℕ → Parse (List A)
many_in next zero ts = None
many_in next (suc n) ts = next ts >>= λ o. either o (λ x. with_front x.0 (many_in next n x.1)) (Some ([], ts))

-- forms as long as one is in front (own)
unfoldable pub many : {A : Type 0} → (List Token → Option (Option (A × List Token))) → Parse (List A)
many next ts = many_in next (1 + length ts) ts

-- a mark in front and then a form, or no mark (own)
abbrev pub after_mark : {A : Type 0} → List ℕ → Parse A → List Token → Option (Option (A × List Token))
after_mark s form ts = either (after s ts) (λ r. form r >>= λ x. Some (Some x)) (Some None)

-- one form or more, with the mark between them (own)
abbrev pub parted_at : {A : Type 0} → List ℕ → Parse A → Parse (List A)
parted_at s form ts = form ts >>= λ x. with_front x.0 (many (after_mark s form) x.1)

-- a form in front and then the mark (own)
abbrev pub closed_at : {A : Type 0} → List ℕ → Parse A → Parse A
closed_at closing form ts = form ts >>= λ x. after closing x.1 >>= λ r. Some (x.0, r)

-- a form in parentheses (own)
abbrev pub parenthesized_at : {A : Type 0} → Parse A → Parse A
parenthesized_at form ts = after (codes "(") ts >>= closed_at (codes ")") form

-- an index in brackets, from its number (own)
abbrev pub index_at : List ℕ × List Token → Option (PathStep × List Token)
index_at x = int_value x.0 >>= λ n. after (codes "]") x.1 >>= λ r. Some (index n, r)

-- a step in brackets, from after the opening one (own)
unfoldable pub bracketed_at : Parse PathStep
bracketed_at ts =
    either (after (codes "]") ts) (λ r. Some (each, r))
    (either (taken as_number ts) index_at
    (taken as_string ts >>= λ x. after (codes "]") x.1 >>= λ r. Some (key x.0, r)))

-- what is in brackets, if an opening one is in front (own)
abbrev pub bracket_at : List Token → Option (Option (PathStep × List Token))
bracket_at ts = either (after (codes "[") ts) (λ r. bracketed_at r >>= λ x. Some (Some x)) (Some None)

-- a step of a path, if one is in front (own)
unfoldable pub step_at : List Token → Option (Option (PathStep × List Token))
step_at ts =
    either (taken as_step ts) (λ x. Some (Some (key x.0, x.1)))
    (either (after (codes ".") ts) bracket_at (bracket_at ts))

-- a path that has these steps; without any it is `.` (own)
abbrev pub written_path : List PathStep × List Token → Option (List PathStep × List Token)
written_path ([], ts) = after (codes ".") ts >>= λ r. Some ([], r)
written_path (s ∷ steps, ts) = Some (s ∷ steps, ts)

-- a path (own)
unfoldable pub path_at : Parse (List PathStep)
path_at ts = if is_some (after (codes "[") ts) then None else (many step_at ts >>= written_path)

-- a word for a scalar in front (own)
abbrev pub word_at : Parse (List ℕ)
word_at ts =
    either (after (codes "true") ts) (λ r. Some (codes "true", r))
    (either (after (codes "false") ts) (λ r. Some (codes "false", r))
    (either (after (codes "null") ts) (λ r. Some (codes "null", r)) None))

-- a number or a word as a scalar (own)
abbrev pub plain_as : List ℕ × List Token → Option (ScalarText × List Token)
plain_as x = Some (plain_of x.0, x.1)

-- a scalar (own)
unfoldable pub parse_scalar : Parse ScalarText
parse_scalar ts =
    either (taken as_number ts) plain_as
    (either (word_at ts) plain_as
    (taken as_string ts >>= λ x. Some (string_of x.0, x.1)))

-- forms with commas between them, from after the opening mark (own)
abbrev pub listed_at : {A : Type 0} → List ℕ → Parse A → Parse (List A)
listed_at closing form ts = either (after closing ts) (λ r. Some ([], r)) (closed_at closing (parted_at (codes ",") form) ts)

-- a string, `:` and a form (own)
abbrev pub field_at : {A : Type 0} → Parse A → Parse (List ℕ × A)
field_at form ts = taken as_string ts >>= λ k. after (codes ":") k.1 >>= λ r. form r >>= λ x. Some ((k.0, x.0), x.1)

-- entries as a mapping, if their keys differ (own)
abbrev pub mapping_of : List (List ℕ × Node) × List Token → Option (Node × List Token)
mapping_of x = if are_distinct (map (λ e. e.0) x.0) then Some (tree.map None (entries x.0), x.1) else None

-- a scalar as a node (own)
abbrev pub scalar_node_at : Parse Node
scalar_node_at ts = parse_scalar ts >>= λ x. Some (tree.scalar None x.0.kind x.0.text, x.1)

-- a literal, in which so many collections are nested at most (own)
unfoldable pub literal_at : ℕ → Parse Node
literal_at zero ts = scalar_node_at ts
literal_at (suc depth) ts =
    either (after (codes "[") ts) (λ r. listed_at (codes "]") (literal_at depth) r >>= λ x. Some (tree.list None (items x.0), x.1))
    (either (after (codes "{") ts) (λ r. listed_at (codes "}") (field_at (literal_at depth)) r >>= mapping_of)
    (scalar_node_at ts))

-- steps as what is compared, if they are simple (own)
abbrev pub simple_of : List PathStep × List Token → Option (Operand × List Token)
simple_of x = if is_simple x.0 then Some (value_at x.0, x.1) else None

-- what is compared (own)
unfoldable pub operand_at : Parse Operand
operand_at ts =
    either (after (codes "di") ts) (λ r. Some (document_index, r))
    (either (after (codes "document_index") ts) (λ r. Some (document_index, r))
    (path_at ts >>= simple_of))

-- `==`, which is true, or `!=` (own)
abbrev pub comparison_at : Parse Bool
comparison_at ts =
    either (after (codes "==") ts) (λ r. Some (true, r))
    (after (codes "!=") ts >>= λ r. Some (false, r))

-- a condition (own)
unfoldable pub condition_at : Parse Condition
condition_at ts =
    either (after (codes "has") ts) (λ r. parenthesized_at (taken as_string) r >>= λ x. Some (has x.0, x.1))
    (operand_at ts >>= λ o. comparison_at o.1 >>= λ c. parse_scalar c.1 >>= λ s. Some (compares o.0 c.0 s.0.kind s.0.text, s.1))

-- a stage of a pipe (own)
unfoldable pub stage_at : Parse Stage
stage_at ts =
    either (after (codes "select") ts) (λ r. parenthesized_at condition_at r >>= λ x. Some (select x.0, x.1))
    (path_at ts >>= λ x. Some (path x.0, x.1))

-- a pipe (own)
unfoldable pub pipe_at : Parse (List Stage)
pipe_at ts = parted_at (codes "|") stage_at ts

-- the left side of an update (own)
unfoldable pub left_at : Parse (List Stage)
left_at ts =
    either (after (codes "(") ts) (closed_at (codes ")") pipe_at)
    (path_at ts >>= λ x. Some (path x.0 ∷ [], x.1))

-- whether a path or a parenthesis is in front (own)
abbrev pub begins_left : List Token → Bool
begins_left ts = is_some (taken as_step ts) || is_some (after (codes ".") ts) || is_some (after (codes "(") ts)

-- a term of a sum (own)
unfoldable pub term_at : ℕ → Parse Term
term_at depth ts =
    if begins_left ts then (left_at ts >>= λ x. Some (found x.0, x.1))
    else (literal_at depth ts >>= λ x. Some (literal x.0, x.1))

-- a sum (own)
unfoldable pub right_at : ℕ → Parse (List Term)
right_at depth ts = parted_at (codes "+") (term_at depth) ts

-- the operator of an assignment, if one is in front (own)
abbrev pub operator_at : Parse Operator
operator_at ts =
    either (after (codes "=") ts) (λ r. Some (operator.Set, r))
    (either (after (codes "|=") ts) (λ r. Some (operator.Modify, r))
    (after (codes "+=") ts >>= λ r. Some (operator.Add, r)))

-- the place of a comment (own)
abbrev pub place_at : Parse CommentPlace
place_at ts =
    either (after (codes "line_comment") ts) (λ r. Some (place.Line, r))
    (after (codes "head_comment") ts >>= λ r. Some (place.Head, r))

-- what is done with what a pipe finds (own)
unfoldable pub action_at : ℕ → List Stage → Parse Update
action_at depth left ts =
    either (operator_at ts) (λ o. right_at depth o.1 >>= λ x. Some (assign left o.0 x.0, x.1))
    (place_at ts >>= λ p. after (codes "=") p.1 >>= λ r. taken as_string r >>= λ x. Some (comment left p.0 x.0, x.1))

-- an update (own)
unfoldable pub parse_update : ℕ → Parse Update
parse_update depth ts =
    either (after (codes "del") ts) (λ r. parenthesized_at pipe_at r >>= λ x. Some (delete x.0, x.1))
    (left_at ts >>= λ x. action_at depth x.0 x.1)

-- what was read, if no token is left (own)
abbrev pub all_read : {A : Type 0} → A × List Token → Option A
all_read x = if no_tokens x.1 then Some x.0 else None

-- a form, and no more (own)
abbrev pub whole_form : {A : Type 0} → Parse A → List Token → Option A
whole_form form ts = form ts >>= all_read

-- updates, and no more (own)
unfoldable pub updates_at : ℕ → List Token → Option Program
updates_at depth ts = whole_form (parted_at (codes "|") (parse_update depth)) ts >>= λ us. Some (updates us)

-- a program: a pipe if it is one, and else updates (own)
unfoldable pub program_at : ℕ → List Token → Option Program
program_at depth ts = either (whole_form pipe_at ts) (λ stages. Some (read stages)) (updates_at depth ts)

-- whether a token is where no token begins (own)
abbrev pub is_unread : Token → Bool
is_unread unread = true
is_unread (string c) = false
is_unread (number w) = false
is_unread (step k) = false
is_unread (symbol w) = false
is_unread foreign = false

-- whether a token is one that only other expressions have (own)
abbrev pub is_foreign_token : Token → Bool
is_foreign_token unread = false
is_foreign_token (string c) = false
is_foreign_token (number w) = false
is_foreign_token (step k) = false
is_foreign_token (symbol w) = false
is_foreign_token foreign = true

-- nothing where some token isn't read; else whether some token is foreign, or some place has more than 64
-- brackets that are open, of so many opened and so many closed before (own)
unfoldable pub surveyed : Bool → ℕ → ℕ → List Token → Option Bool
surveyed other opened closed [] = Some other
surveyed other opened closed (t ∷ ts) =
    let o = count_if (is_opening t) opened in
    let c = count_if (is_closing t) closed in
    if is_unread t then None else surveyed (other || is_foreign_token t || nat_lt (c + 64) o) o c ts

-- a program that is read, unless it has a pattern (own)
abbrev pub unless_pattern : Option Program → Outcome
unless_pattern None = ill_formed
unless_pattern (Some p) = if has_pattern p then with_pattern else parsed p

-- a text's outcome, from what was found of its tokens (own)
abbrev pub parse_outcome : Option Bool → Option Program → Outcome
parse_outcome None p = ill_formed
parse_outcome (Some true) p = not_in_profile
parse_outcome (Some false) p = unless_pattern p

-- what comes of a text (own)
unfoldable pub outcome : List ℕ → Outcome
outcome t = parse_outcome (surveyed false 0 0 (tokens t)) (program_at literal_depth (tokens t))
