-- What the survey of a text tells, and that outcomes are as the order of refusals says.
use Rattle.std.proofs.Common.{◌≡◌, ◌⊎◌, ℕ, zero, suc, ◌+◌, ◌<◌, Bool, true, false, ◌||◌, nat_lt, List, [], ◌∷◌, take, Option, Some, None}
use Rattle.std.proofs.Common.{Result, Ok, Err, refl, sym, ap, ◌∙◌, subst, inl, inr, arith, ltb-true, rules}
use Rattle.std.{proofs.lemmas.Bool.{false≢true, or_cases, lt-ltb, or_parts}, proofs.lemmas.Option.none-some}
use Rattle.std.specs.Prelude.{IfOk, IfErr, if◌then◌else◌}
use Rattle.yq_core.proofs.Bools.{chosen}
use Rattle.yq_expr_parser.specs.Outcome.{count_if, is_opening, is_closing, opening_count, closing_count, IsTooDeep, HasForeign, has_pattern}
use Rattle.yq_expr_parser.{specs.Outcome.{Derives, ComesTo, ExprRefused, Answers, AnswersError}, specs.Lexing.{tokens, AreRead}}
use Rattle.yq_expr_parser.specs.Parse.{is_unread, is_foreign_token, surveyed, program_at, unless_pattern, parse_outcome, outcome}
use Rattle.yq_expr_parser.{proofs.TextTokens.{tokens_take, tokens_again}, proofs.UpdateTakes.program_takes}
use Rattle.yq_expr_parser.proofs.ProgramAgain.{program_again}
use Rattle.yq_semantics.specs.Parsing.{Outcome, ParseError, parsed, not_in_profile, with_pattern}
use Rattle.yq_semantics.{specs.Tokens.{Token, foreign, unread, AreTokens}, specs.Program.{Program, LiteralsHold}}
use Rattle.yq_semantics.{specs.Grammar.literal_depth, proofs.Literals.literals_hold}

unread_is : (t : Token) → is_unread t ≡ true → t ≡ unread
unread_is t h1 = search rules

read_is : (t : Token) → is_unread t ≡ false → t ≡ unread → ⊥
read_is t h e = false≢true (sym h ∙ ap is_unread e)

foreign_is : (t : Token) → is_foreign_token t ≡ true → t ≡ foreign
foreign_is t h1 = search rules

no_foreign : (t : Token) → is_foreign_token t ≡ false → t ≡ foreign → ⊥
no_foreign t h e = false≢true (sym h ∙ ap is_foreign_token e)

pub unread_in : (ts : List Token) (o : Bool) (a b : ℕ) → surveyed o a b ts ≡ None → AreRead ts → ⊥
unfolding surveyed
unread_in [] o a b h r = cc
unread_in (t ∷ ts) o a b h r = elim (chosen (is_unread t) h) [
  | inl here ↦ r.0 (unread_is t here.0)
  | inr on ↦ unread_in ts _ _ _ on.1 r.1
]

pub all_read : (ts : List Token) (o : Bool) (a b : ℕ) (x : Bool) → surveyed o a b ts ≡ Some x → AreRead ts
unfolding surveyed
all_read [] o a b x h = tt
all_read (t ∷ ts) o a b x h = elim (chosen (is_unread t) h) [
  | inl here ↦ cc
  | inr on ↦ (read_is t on.0, all_read ts _ _ _ x on.1)
]

-- so many brackets opened and closed before
abbrev DeepFrom : ℕ → ℕ → List Token → ℕ → Type 0
DeepFrom a b ts n = (closing_count (take n ts) + b) + 64 < opening_count (take n ts) + a

counted-add : (c : Bool) (x y : ℕ) → count_if c x + y ≡ x + count_if c y
counted-add c x y = search rules

deep_later : (a b : ℕ) (t : Token) (ts : List Token) (n : ℕ) → DeepFrom (count_if (is_opening t) a) (count_if (is_closing t) b) ts n → DeepFrom a b (t ∷ ts) (suc n)
deep_later a b t ts n h = search (rules, counted-add)

deep_before : (a b : ℕ) (t : Token) (ts : List Token) (n : ℕ) → DeepFrom a b (t ∷ ts) (suc n) → DeepFrom (count_if (is_opening t) a) (count_if (is_closing t) b) ts n
deep_before a b t ts n h = search (rules, counted-add)

refused_in : (ts : List Token) (o : Bool) (a b : ℕ) → surveyed o a b ts ≡ Some true → (o ≡ true) ⊎ HasForeign ts ⊎ ((n : ℕ) × DeepFrom a b ts n)
unfolding surveyed
refused_in [] o a b h = inl (cc)
refused_in (t ∷ ts) o a b h = elim (chosen (is_unread t) h) [
  | inl here ↦ cc
  | inr on ↦
      let a' = count_if (is_opening t) a in
      let b' = count_if (is_closing t) b in
      elim (refused_in ts (o || is_foreign_token t || nat_lt (b' + 64) a') a' b' on.1) [
        | inl now ↦ elim (or_cases (o || is_foreign_token t) (nat_lt (b' + 64) a') now) [
          | inl x ↦ elim (or_cases o (is_foreign_token t) x) [
            | inl before ↦ inl before
            | inr one ↦ inr (inl (inl (foreign_is t one)))
          ]
          | inr deep ↦ inr (inr (1, deep_later a b t ts 0 (omega (arith, ltb-true (b' + 64) a' deep))))
        ]
        | inr later ↦ elim later [
          | inl other ↦ inr (inl (inr other))
          | inr deep ↦ inr (inr (suc deep.0, deep_later a b t ts deep.0 deep.1))
        ]
      ]
]

-- the flag after a token is down only if nothing was found
flag_down : (o : Bool) (t : Token) (a b : ℕ) → (o || is_foreign_token t || nat_lt (b + 64) a) ≡ false → (o ≡ false) × (t ≡ foreign → ⊥) × (b + 64 < a → ⊥)
flag_down o t a b h = search (rules, or_parts, no_foreign, false≢true, lt-ltb)

-- the flag is never taken down
flag_stays : (ts : List Token) (o : Bool) (a b : ℕ) → surveyed o a b ts ≡ Some false → o ≡ false
unfolding surveyed
flag_stays [] o a b h = cc
flag_stays (t ∷ ts) o a b h = elim (chosen (is_unread t) h) [
  | inl here ↦ cc
  | inr on ↦ (flag_down o t _ _ (flag_stays ts _ _ _ on.1)).0
]

pub none_in : (ts : List Token) (o : Bool) (a b : ℕ) → surveyed o a b ts ≡ Some false → (b + 64 < a → ⊥) → (HasForeign ts → ⊥) × ((n : ℕ) → DeepFrom a b ts n → ⊥)
unfolding surveyed
none_in [] o a b h shallow = (λ f. f, go)
  where
    go : (n : ℕ) → DeepFrom a b [] n → ⊥
    go zero d = shallow (omega arith)
    go (suc n) d = shallow (omega arith)
none_in (t ∷ ts) o a b h shallow = elim (chosen (is_unread t) h) [
  | inl here ↦ cc
  | inr on ↦
      let down = flag_down o t _ _ (flag_stays ts _ _ _ on.1) in
      let later = none_in ts _ _ _ on.1 down.2 in
      (both down.1 later.0, go later.1)
]
  where
    both : (t ≡ foreign → ⊥) → (HasForeign ts → ⊥) → HasForeign (t ∷ ts) → ⊥
    both one others (inl e) = one e
    both one others (inr e) = others e

    go : ((n : ℕ) → DeepFrom (count_if (is_opening t) a) (count_if (is_closing t) b) ts n → ⊥) → (n : ℕ) → DeepFrom a b (t ∷ ts) n → ⊥
    go later zero d = shallow (omega arith)
    go later (suc n) d = later n (deep_before a b t ts n d)

-- ---- a text's survey

too_deep : (ts : List Token) (n : ℕ) → DeepFrom 0 0 ts n → IsTooDeep ts
too_deep ts n d = (n, omega arith)

pub survey_refuses : (text : List ℕ) → surveyed false 0 0 (tokens text) ≡ Some true → ComesTo text not_in_profile
survey_refuses text h = (tokens text, tokens_take text (all_read (tokens text) false 0 0 true h), found)
  where
    found : HasForeign (tokens text) ⊎ IsTooDeep (tokens text)
    found = elim (refused_in (tokens text) false 0 0 h) [
      | inl before ↦ absurd (false≢true before)
      | inr later ↦ elim later [ inl foreign_is ↦ inl foreign_is | inr deep ↦ inr (too_deep (tokens text) deep.0 deep.1) ]
    ]

pub survey_fails : (text : List ℕ) → surveyed false 0 0 (tokens text) ≡ None → (ts : List Token) → AreTokens ts text → ⊥
survey_fails text h ts are = unread_in (tokens text) false 0 0 h (let read = tokens_again ts text are in subst AreRead (sym read.0) read.1)

-- the tokens are this language's, and don't nest too deep
pub survey_passes : (text : List ℕ) → surveyed false 0 0 (tokens text) ≡ Some false → AreTokens (tokens text) text × (HasForeign (tokens text) → ⊥) × (IsTooDeep (tokens text) → ⊥)
survey_passes text h = search (rules, none_in, tokens_take, all_read)

pub derives_in : (text : List ℕ) (p : Program) → surveyed false 0 0 (tokens text) ≡ Some false → program_at literal_depth (tokens text) ≡ Some p → Derives text p
derives_in text p h k =
    let passes = survey_passes text h in
    (tokens text, passes.0, passes.1, passes.2, program_takes (tokens text) p k)

pub surveys : (ts : List Token) → AreRead ts → (HasForeign ts → ⊥) → (IsTooDeep ts → ⊥) → (o : Option Bool) → surveyed false 0 0 ts ≡ o → surveyed false 0 0 ts ≡ Some false
surveys ts h1 h2 h3 o h4 = search (rules, unread_in, refused_in, too_deep)

pub derives_again : (text : List ℕ) (p : Program) → Derives text p → (surveyed false 0 0 (tokens text) ≡ Some false) × (program_at literal_depth (tokens text) ≡ Some p)
derives_again text p h = search (rules, tokens_again, surveys, program_again)

pub one_of : (text : List ℕ) (p q : Program) → Derives text p → Derives text q → p ≡ q
one_of text p q h k = let a = (derives_again text p h).1 in let b = (derives_again text q k).1 in let e : Some p ≡ Some q = sym a ∙ b in cc

-- ---- outcomes

pub outcome_comes : (text : List ℕ) (o : Outcome) → outcome text ≡ o → ComesTo text o
unfolding outcome
outcome_comes text o h = subst (ComesTo text) h (go (surveyed false 0 0 (tokens text)) refl)
  where
    last : (q : Option Program) → program_at literal_depth (tokens text) ≡ q → surveyed false 0 0 (tokens text) ≡ Some false → ComesTo text (unless_pattern q)
    last None r s = let passes = survey_passes text s in inr (tokens text, passes.0, passes.1, passes.2, λ p k. none-some _ (sym r ∙ program_again p (tokens text) k))
    last (Some q) r s = elim (has_pattern q) as (λ b. has_pattern q ≡ b → ComesTo text (if b then with_pattern else parsed q)) [
      | true ↦ λ is. (q, derives_in text q s r, is)
      | false ↦ λ is. (derives_in text q s r, is)
    ] refl

    go : (o : Option Bool) → surveyed false 0 0 (tokens text) ≡ o → ComesTo text (parse_outcome o (program_at literal_depth (tokens text)))
    go None s = inl (survey_fails text s)
    go (Some true) s = survey_refuses text s
    go (Some false) s = last (program_at literal_depth (tokens text)) refl s

pub outcome_again : (text : List ℕ) (p : Program) → Derives text p → has_pattern p ≡ false → outcome text ≡ parsed p
unfolding outcome
outcome_again text p h none = let again = derives_again text p h in rw (again.0, again.1) (rw none refl)

-- ---- clauses

pub found_by : {X : Type 0} (view : X → Program) (text : List ℕ) (r : Result X ParseError) → Answers view r (outcome text) → IfOk r (λ x. Derives text (view x) × (has_pattern (view x) ≡ false))
found_by view text (Ok x) h = outcome_comes text (parsed (view x)) h
found_by view text (Err e) h = tt

error_refused : (text : List ℕ) (e : ParseError) → AnswersError e (outcome text) → ExprRefused e text
error_refused text e h1 = search (rules, outcome_comes)

pub refused_by : {X : Type 0} (view : X → Program) (text : List ℕ) (r : Result X ParseError) → Answers view r (outcome text) → IfErr r (λ e. ExprRefused e text)
refused_by view text r h = search (rules, error_refused)

pub only_by : {X : Type 0} (view : X → Program) (text : List ℕ) (r : Result X ParseError) → Answers view r (outcome text)
    → (p : Program) → Derives text p → has_pattern p ≡ false → Answers view r (parsed p)
only_by view text r h p d none = subst (Answers view r) (outcome_again text p d none) h

pub values_by : {X : Type 0} (view : X → Program) (text : List ℕ) (r : Result X ParseError) → Answers view r (outcome text) → IfOk r (λ x. LiteralsHold (view x))
values_by view text (Ok x) h = let d = (outcome_comes text (parsed (view x)) h).0 in literals_hold (view x) d.0 d.4
values_by view text (Err e) h = tt
