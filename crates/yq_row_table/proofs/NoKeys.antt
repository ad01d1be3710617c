-- Before a tail, what comes after a mark is no key and no dash.
use Rattle.std.proofs.Common.{◌≡◌, inl, inr, ℕ, suc, true, false, not, eqb, List, [], ◌∷◌, ◌++◌, ◌∙◌, ◌||◌, Bool, drop, if◌then◌else◌, take}
use Rattle.std.proofs.Common.{Option, Some, None, refl, sym, ap, rules}
use Rattle.std.{proofs.lemmas.Bool.{false≢true, cond_both, not-true, not-false, and_parts, cases_Bool, or_parts}, specs.Option.option_or}
use Rattle.yq_core.specs.Plain.{begins_plain, ends_plain, follows, plain_may_follow, last_line, no_gap, plain_at}
use Rattle.yq_core.{specs.Text.{upto, cut, NoneIn, is_space, is_white, is_break, no_white, past_white}, proofs.Bools.at_byte}
use Rattle.yq_core.{proofs.QuotedFound.quoted_again, proofs.Upto.upto_here, proofs.QuotedLaws.of_quotes}
use Rattle.yq_core.specs.Nodes.{FlowNode, empty, alias, scalar, coll, anchored, node_text, is_empty_node, IsFlowNode}
use Rattle.yq_core.{specs.Reading.read_scalar, specs.Scalars.{is_quoted, begins_scalar}, proofs.NodesPieceLaws.{front_not, scalar_begins}}
use Rattle.yq_row_table.{specs.Grammar.IsTail, specs.Reading.{is_colon, read_colon, read_row_key, is_dash}, proofs.Fronts.tail_front}
use Rattle.yq_row_table.proofs.MarkAgain.{scalar_no_dash}

-- no scalar, no key
no_scalar : (spaces : Option ℕ) (t : List ℕ) → begins_scalar false t ≡ false → read_scalar false spaces t ≡ None
unfolding read_scalar plain_at
no_scalar spaces t h = let parts = or_parts (is_quoted t) (begins_plain false t) h in rw (parts.0, parts.1) refl

pub no_key : (t : List ℕ) → begins_scalar false t ≡ false → read_row_key t ≡ None
unfolding read_row_key
no_key t h = rw (no_scalar None t h) refl

-- no `:` is in front of a tail
pub tail_no_colon : (tail rest : List ℕ) → IsTail tail rest → read_colon (tail ++ rest) ≡ None
unfolding read_colon
tail_no_colon tail rest h =
    let f = tail_front tail rest h in
    search rules

-- a plain scalar of one line ends before a break, where one of many lines goes on
or_none : {A : Type 0} (o : Option A) {l : A} → option_or o None ≡ Some l → o ≡ Some l
or_none o h = search rules

break_no_colon : (b : ℕ) (bs : List ℕ) → is_break (b ∷ bs) ≡ true → is_colon (b ∷ bs) ≡ false
break_no_colon b bs h = rw (at_byte (λ x. is_break (x ∷ bs)) b 58 h refl) refl

-- what is cut off in front of a text that begins with white space or a break, and where it begins with neither
cut_space : (b : ℕ) (bs : List ℕ) → is_space (b ∷ bs) ≡ true → (cut no_gap (b ∷ bs)).0 ≡ b ∷ (cut no_gap bs).0
unfolding upto
cut_space b bs h = ap (λ (s : Bool). take (if not s then 0 else suc (upto no_gap bs)) (b ∷ bs)) h

cut_none : (b : ℕ) (bs : List ℕ) → is_space (b ∷ bs) ≡ false → (cut no_gap (b ∷ bs)).0 ≡ []
unfolding upto
cut_none b bs h = ap (λ (s : Bool). take (if not s then 0 else suc (upto no_gap bs)) (b ∷ bs)) h

past_here : (b : ℕ) (bs : List ℕ) → is_white b ≡ false → past_white (b ∷ bs) ≡ b ∷ bs
unfolding upto
past_here b bs h = ap (λ (w : Bool). drop (if not w then 0 else suc (upto no_white bs)) (b ∷ bs)) h

past_end : is_colon (past_white []) ≡ false
unfolding upto
past_end = refl

no_line : (l : List ℕ) → last_line [] ≡ Some l → ⊥
no_line l h = cc

line_no_colon : (t l : List ℕ) → last_line (cut no_gap t).0 ≡ Some l → is_colon (past_white t) ≡ false
unfolding upto
line_no_colon [] l h = past_end
line_no_colon (b ∷ bs) l h = elim (cases_Bool (is_white b)) [
  | inl w ↦ (
      let gap = (cut no_gap bs).0 in
      let last : last_line (b ∷ gap) ≡ option_or (last_line gap) None = ap (λ (f : Bool). option_or (last_line gap) (if f then Some gap else None))
      (at_byte is_white b 10 w refl) in
      let less : option_or (last_line gap) None ≡ Some l = sym (ap last_line (cut_space b bs (ap (λ (x : Bool). x || is_break (b ∷ bs)) w)) ∙ last) ∙ h in
      ap is_colon (ap (λ (w : Bool). drop (if not w then 0 else suc (upto no_white bs)) (b ∷ bs)) w) ∙ line_no_colon bs l (or_none (last_line gap) less))
  | inr w ↦ elim (cases_Bool (is_break (b ∷ bs))) [
    | inl e ↦ ap is_colon (past_here b bs w) ∙ break_no_colon b bs e
    | inr e ↦ absurd (no_line l (sym (ap last_line (cut_none b bs (λ i. w i || e i))) ∙ h))
  ]
]

may_none : (d : ℕ) (line : Option (List ℕ)) (text : List ℕ) → plain_may_follow None line text ≡ true → plain_may_follow (Some d) line text ≡ true
may_none d line text h = search (rules, false≢true)

follows_none : (d : ℕ) (gap text : List ℕ) → follows false (Some d) gap text ≡ false → follows false None gap text ≡ false
follows_none d gap text h = search (rules, cases_Bool, and_parts, may_none, false≢true)

line_between : (d : ℕ) (line : Option (List ℕ)) (text : List ℕ) → plain_may_follow None line text ≡ false → (l : List ℕ) × (line ≡ Some l)
line_between d line text h = search (rules, false≢true)

broken : (d : ℕ) (t : List ℕ) → ends_plain false None t ≡ true → ends_plain false (Some d) t ≡ false → read_colon t ≡ None
unfolding read_colon
broken d t one more = search (rules, cases_Bool, not-true, not-false, and_parts, line_between, line_no_colon, false≢true)

plain_no_colon : (d : ℕ) (p rest : List ℕ) → NoneIn (ends_plain false (Some d)) p rest → ends_plain false (Some d) rest ≡ true → read_colon rest ≡ None → read_colon (drop (upto (ends_plain false None) (p ++ rest)) (p ++ rest)) ≡ None
unfolding upto
plain_no_colon d [] rest n e c = rw (upto_here (ends_plain false None) rest (search (rules, cases_Bool, not-true, follows_none))) c
plain_no_colon d (b ∷ p) rest n e c =
    cond_both (ends_plain false None (b ∷ (p ++ rest))) 0 (suc (upto (ends_plain false None) (p ++ rest))) (λ k. read_colon (drop k (b ∷ (p ++ rest))) ≡ None)
    (λ one. broken d (b ∷ (p ++ rest)) one n.0)
    (λ _. plain_no_colon d p rest n.1 e c)

plain_no_quote : (t : List ℕ) → begins_plain false t ≡ true → is_quoted t ≡ false
plain_no_quote t h1 = search (rules, front_not)

-- what is no key and no dash
abbrev pub NoEntry : List ℕ → Type 0
NoEntry t = (is_dash t ≡ false) × (read_row_key t ≡ None)

pub node_no_entry : (d k : ℕ) (node : FlowNode) (rest : List ℕ) → IsFlowNode false (Some d) k node rest → not (is_empty_node node) ≡ true → read_colon rest ≡ None → NoEntry (node_text node rest)
unfolding node_text IsFlowNode read_row_key read_scalar plain_at
node_no_entry d k empty rest h some c = absurd (false≢true some)
node_no_entry d k (alias n) rest h some c = (refl, no_key (42 ∷ (n ++ rest)) refl)
node_no_entry d k (scalar p) rest h some c =
    (scalar_no_dash (p ++ rest) (scalar_begins false (Some d) p rest h), (search (rules, plain_no_quote, plain_no_colon, of_quotes, quoted_again, cond_both)))
node_no_entry d k (coll close gap items) rest h some c = cond_both (eqb close 125) 123 91 (λ (b : ℕ). (t : List ℕ) → NoEntry (b ∷ t)) (λ _ t. (refl, no_key (123 ∷ t) refl)) (λ _ t. (refl, no_key (91 ∷ t) refl)) _
node_no_entry d k (anchored n g node) rest h some c = (refl, no_key (38 ∷ (n ++ (g ++ node_text node rest))) refl)
