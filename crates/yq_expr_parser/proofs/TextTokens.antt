-- The tokens of a text are those that the grammar has.
use Rattle.std.proofs.Common.{◌≡◌, ℕ, zero, suc, ◌+◌, ◌<◌, Bool, true, cond, List, [], ◌∷◌, ◌++◌, length, take, drop, Option, Some, None}
use Rattle.std.proofs.Common.{refl, sym, ap, ◌∙◌, subst, arith, append-nil, eqb-true, rules}
use Rattle.std.{proofs.lemmas.Bool.{or_cases, false_from_ne_true, and_parts}, proofs.lemmas.List.take-append-drop}
use Rattle.std.{proofs.Math.Seq.{take-append_seam, drop-append_seam}, proofs.lemmas.Option.none-some, specs.List.{prefix_len, list_all}}
use Rattle.yq_core.specs.Text.{unless}
use Rattle.yq_expr_parser.specs.declared.token.TokenForm.{TokenForm}
use Rattle.yq_expr_parser.specs.Lexing.{token_measure, token_of, cut_token, front_token, next_token, ahead, tokens, AreRead}
use Rattle.yq_expr_parser.{proofs.Lexing.{tokens_next, next_shorter}, proofs.RunLaws.{run_len, run_passes}, proofs.TokenTakes.measure_in}
use Rattle.yq_expr_parser.proofs.TokenAgain.{measure_again}
use Rattle.yq_semantics.specs.Tokens.{Token, symbol, foreign, unread, is_token_blank, IsToken, AreTokens}

-- ---- the tokens of a text

pub blank_no_token : (b : ℕ) (bs : List ℕ) → is_token_blank b ≡ true → token_measure (b ∷ bs) ≡ None
unfolding token_measure
blank_no_token b bs h = search (rules, or_cases, eqb-true)

-- no white space is in front of a token
pub token_front : (u : List ℕ) (y : TokenForm × ℕ) → token_measure u ≡ Some y → (unless is_token_blank u ≡ true) × (front_token u ≡ Some (cut_token u (Some y)))
unfolding token_measure
token_front u y h1 = search (rules, false_from_ne_true, none-some, blank_no_token)

pub token_next : (t : Token) (white piece rest : List ℕ) → list_all is_token_blank white ≡ true → IsToken t piece rest → next_token (white ++ (piece ++ rest)) ≡ Some (t, rest)
token_next t white piece rest blank is =
    let u = piece ++ rest in
    let m = measure_again t piece rest is in
    let front_is = token_front u (m.0, length piece) m.1 in
    let len = run_len is_token_blank white u blank front_is.0 in
    let after : drop (length white) (white ++ u) ≡ u = drop-append_seam white u in
    let taken : take (length piece) (piece ++ rest) ≡ piece = take-append_seam piece rest in
    let left : drop (length piece) (piece ++ rest) ≡ rest = drop-append_seam piece rest in
    ap (λ (n : ℕ). front_token (drop n (white ++ u))) len ∙ (ap front_token after ∙ (front_is.1 ∙ rw (taken, left, m.2) refl))

pub of_string : (make : List ℕ → Token) → ((c : List ℕ) → make c ≡ unread → ⊥) → (t : Token) (b : Bool) (c : List ℕ) → t ≡ cond b foreign (make c) → t ≡ unread → ⊥
of_string make never t b c h e = search rules

pub of_word : (t : Token) (w : List ℕ) (b : Bool) → t ≡ cond b (symbol w) foreign → t ≡ unread → ⊥
of_word t w b h e = search rules

pub not_unread : (t : Token) (piece rest : List ℕ) → IsToken t piece rest → t ≡ unread → ⊥
not_unread t piece rest h1 h2 = search (rules, of_string, of_word)

pub run_drops : (p : ℕ → Bool) (t : List ℕ) → list_all p t ≡ true → drop (prefix_len p t) t ≡ []
run_drops p [] h = refl
run_drops p (b ∷ bs) h =
    let parts = and_parts (p b) (list_all p bs) h in
    let n : 1 + prefix_len p bs ≡ suc (prefix_len p bs) = omega arith in
    rw (parts.0, n) (run_drops p bs parts.1)

pub tokens_again : (ts : List Token) (text : List ℕ) → AreTokens ts text → (tokens text ≡ ts) × AreRead ts
tokens_again [] text h = (tokens_next text ∙ ap (λ (u : List ℕ). ahead tokens (front_token u)) (run_drops is_token_blank text h), tt)
tokens_again (t ∷ ts) text h =
    let more = tokens_again ts h.2 h.6 in
    let here : next_token text ≡ Some (t, h.2) = ap next_token h.3 ∙ token_next t h.0 h.1 h.2 h.4 h.5 in
    (tokens_next text ∙ (ap (ahead tokens) here ∙ ap (λ (r : List Token). t ∷ r) more.0), (not_unread t h.1 h.2 h.5, more.1))

-- white space to the end
pub blank_end : (text : List ℕ) → drop (prefix_len is_token_blank text) text ≡ [] → list_all is_token_blank text ≡ true
blank_end text h =
    let n = prefix_len is_token_blank text in
    let whole : text ≡ take n text = sym (take-append-drop n text) ∙ (ap (λ (r : List ℕ). take n text ++ r) h ∙ append-nil (take n text)) in
    ap (list_all is_token_blank) whole ∙ run_passes is_token_blank text

-- a token in front of the tokens of what follows it
pub token_before : (text u : List ℕ) (y : TokenForm × ℕ) → drop (prefix_len is_token_blank text) text ≡ u → token_measure u ≡ Some y → (ts : List Token) → AreTokens ts (drop y.1 u) → AreTokens (token_of y.0 (take y.1 u) ∷ ts) text
token_before text u y e m ts are =
    let n = prefix_len is_token_blank text in
    let whole : text ≡ take n text ++ (take y.1 u ++ drop y.1 u) = sym (take-append-drop n text) ∙ ap (λ (r : List ℕ). take n text ++ r) (e ∙ sym (take-append-drop y.1 u)) in
    (take n text, take y.1 u, drop y.1 u, whole, run_passes is_token_blank text, measure_in u y m, are)

-- the same of shorter texts
abbrev pub TakeBelow : ℕ → Type 0
TakeBelow n = (r : List ℕ) → length r < n → AreRead (tokens r) → AreTokens (tokens r) r

pub take_in : (n : ℕ) (text : List ℕ) → length text < n → AreRead (tokens text) → AreTokens (tokens text) text
take_in zero text lt read = absurd (omega arith)
take_in (suc n) text lt read = go (λ r less known. take_in n r less known) (drop (prefix_len is_token_blank text) text) refl
  where
    of_next : (t : Token) (r : List ℕ) → next_token text ≡ Some (t, r) → tokens text ≡ t ∷ tokens r
    of_next t r e = tokens_next text ∙ ap (ahead tokens) e

    measured : TakeBelow n → (u : List ℕ) → drop (prefix_len is_token_blank text) text ≡ u → (m : Option (TokenForm × ℕ)) → token_measure u ≡ m → front_token u ≡ Some (cut_token u (token_measure u)) → AreTokens (tokens text) text
    measured later u e None k front_is =
        let here : next_token text ≡ Some (unread, []) = ap front_token e ∙ (front_is ∙ ap (λ m. Some (cut_token u m)) k) in
        let unread_in : AreRead (unread ∷ tokens []) = subst AreRead (of_next unread [] here) read in
        absurd (unread_in.0 refl)
    measured later u e (Some y) k front_is =
        let t = token_of y.0 (take y.1 u) in
        let here : next_token text ≡ Some (t, drop y.1 u) = ap front_token e ∙ (front_is ∙ ap (λ m. Some (cut_token u m)) k) in
        let read_in : AreRead (t ∷ tokens (drop y.1 u)) = subst AreRead (of_next t (drop y.1 u) here) read in
        let less : length (drop y.1 u) < length text = next_shorter text (t, drop y.1 u) here in
        let more = later (drop y.1 u) (omega arith) read_in.1 in
        subst (λ (ts : List Token). AreTokens ts text) (sym (of_next t (drop y.1 u) here)) (token_before text u y e k (tokens (drop y.1 u)) more)

    go : TakeBelow n → (u : List ℕ) → drop (prefix_len is_token_blank text) text ≡ u → AreTokens (tokens text) text
    go later [] e =
        let none : tokens text ≡ [] = tokens_next text ∙ ap (λ (u : List ℕ). ahead tokens (front_token u)) e in
        subst (λ (ts : List Token). AreTokens ts text) (sym none) (blank_end text e)
    go later (b ∷ bs) e = measured later (b ∷ bs) e (token_measure (b ∷ bs)) refl refl

pub tokens_take : (text : List ℕ) → AreRead (tokens text) → AreTokens (tokens text) text
tokens_take text = take_in (suc (length text)) text (omega arith)
