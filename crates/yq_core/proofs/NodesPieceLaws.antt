-- The pieces of a node, read and spelled.
use Rattle.std.proofs.Common.{◌≡◌, ℕ, ◌<◌, Bool, true, false, ◌||◌, eqb, List, [], ◌∷◌, ◌++◌, length, drop, Option, Some, None, refl, sym}
use Rattle.std.{proofs.Common.{ap, ◌∙◌, subst, inl, inr, ⊎_elim, arith, eqb-true, rules}, proofs.Math.Bool.and-false}
use Rattle.std.{proofs.lemmas.Bool.{false≢true, cond_both, not-true, and_parts}, proofs.lemmas.Option.{cond_some, same_Some}}
use Rattle.yq_core.{specs.Answers.◌>>=◌, specs.Plain.{begins_plain, ends_plain, ends_text}, specs.Quoted.spell_lines}
use Rattle.yq_core.{specs.QuotedReading.quoted_at, specs.Text.{upto, unless, is_space, no_white}, proofs.Bools.{bind_some, chosen}}
use Rattle.yq_core.{proofs.PlainLaws.{plain_takes, plain_again}, proofs.QuotedFound.{quoted_takes, quoted_again}}
use Rattle.yq_core.{proofs.Upto.{upto_ends, none_in_cut, cut-append, cut_takes}, proofs.QuotedLaws.of_quotes, specs.Gaps.IsInlineGap}
use Rattle.yq_core.specs.Nodes.{Key, Sep, key_text, sep_text, begins_with, in_name, begins_node, IsApart, IsLead, IsName, ends_key}
use Rattle.yq_core.specs.Nodes.{IsInlineKey, IsSep, is_keyed}
use Rattle.yq_core.specs.Reading.{read_gap, read_scalar, with_its_lines, name_at, apart_at, lead_at, after_colon, read_flow_key, sep_at}
use Rattle.yq_core.{specs.Reading.sep_after, specs.Scalars.{is_quoted, has_its_lines, IsScalarAt, begins_scalar}, proofs.Binds.not_then}
use Rattle.yq_core.proofs.GapLaws.{gap_takes, gap_again}

-- a text that passes a test begins with no byte after which each text fails it
pub front_not : (P : List ℕ → Bool) (k : ℕ) → ((bs : List ℕ) → P (k ∷ bs) ≡ false) → (t : List ℕ) → P t ≡ true → begins_with k t ≡ false
front_not P k never t h = search rules

pub front_is : (k : ℕ) (t : List ℕ) → begins_with k t ≡ true → t ≡ k ∷ drop 1 t
front_is k t h = search rules

goes_on : (flow : Bool) (b : ℕ) (bs : List ℕ) → begins_plain flow (b ∷ bs) ≡ true → ends_text flow (b ∷ bs) ≡ false
goes_on flow b bs h = search (rules, front_not, eqb-true, and-false)

pub no_space : (flow : Bool) (b : ℕ) (bs : List ℕ) → begins_plain flow (b ∷ bs) ≡ true → is_space (b ∷ bs) ≡ false
no_space flow b bs h = not-true (is_space (b ∷ bs)) (and_parts _ _ h).0

plain_no_end : (flow : Bool) (spaces : Option ℕ) (t : List ℕ) → begins_plain flow t ≡ true → ends_plain flow spaces t ≡ false
plain_no_end flow spaces t h = search rules

-- scalars
pub scalar_begins : (flow : Bool) (spaces : Option ℕ) (p rest : List ℕ) → IsScalarAt flow spaces p rest → begins_scalar flow (p ++ rest) ≡ true
scalar_begins flow spaces p rest (inl h) = rw h.begins (elim (is_quoted (p ++ rest)) as (λ b. (b || true) ≡ true) [ true ↦ refl | false ↦ refl ])
scalar_begins flow spaces p rest (inr h) = search (rules, of_quotes)

pub scalar_some : (flow : Bool) (spaces : Option ℕ) (p rest : List ℕ) → IsScalarAt flow spaces p rest → 0 < length p
scalar_some flow spaces (b ∷ p) rest h = omega arith
scalar_some flow spaces [] rest (inl h) = absurd (false≢true (sym (plain_no_end flow spaces rest h.begins) ∙ h.ends))
scalar_some flow spaces [] rest (inr h) = absurd (let e : [] ≡ h.0.0 ∷ (spell_lines h.0.1.0 ++ h.0.0 ∷ []) = h.0.1.1.spelled in cc)

quoted_takes_here : (flow : Bool) (spaces : Option ℕ) (t : List ℕ) (x : List ℕ × List ℕ) → (quoted_at t >>= with_its_lines spaces) ≡ Some x → (t ≡ x.0 ++ x.1) × IsScalarAt flow spaces x.0 x.1
quoted_takes_here flow spaces t x h =
    let y = bind_some (quoted_at t) h in
    let g = cond_some (has_its_lines spaces y.0.0) _ _ y.2 in
    let f = quoted_takes t y.0 y.1 in
    subst (λ (z : List ℕ × List ℕ). (t ≡ z.0 ++ z.1) × IsScalarAt flow spaces z.0 z.1) g.1 (f.cut, inr ((f.quote, (f.ls, f.is)), g.0))

pub scalar_takes : (flow : Bool) (spaces : Option ℕ) (t : List ℕ) (x : List ℕ × List ℕ) → read_scalar flow spaces t ≡ Some x → (t ≡ x.0 ++ x.1) × IsScalarAt flow spaces x.0 x.1
unfolding read_scalar
scalar_takes flow spaces t x h = ⊎_elim {0, 0, 0}
    (λ e. quoted_takes_here flow spaces t x e.1)
    (λ e. let a = plain_takes flow spaces t x e.1 in (a.0, inl a.1))
    (chosen (is_quoted t) h)

plain_no_quote : (flow : Bool) (t : List ℕ) → begins_plain flow t ≡ true → is_quoted t ≡ false
plain_no_quote flow t h1 = search (rules, front_not)

pub scalar_again : (flow : Bool) (spaces : Option ℕ) (p rest : List ℕ) → IsScalarAt flow spaces p rest → read_scalar flow spaces (p ++ rest) ≡ Some (p, rest)
unfolding read_scalar
scalar_again flow spaces p rest h1 = search (rules, plain_no_quote, plain_again, of_quotes, quoted_again)

name_begins : (p rest : List ℕ) → IsName p rest → unless in_name (p ++ rest) ≡ false
name_begins p rest h = search rules

pub name_takes : (t : List ℕ) (x : List ℕ × List ℕ) → name_at t ≡ Some x → (t ≡ x.0 ++ x.1) × IsName x.0 x.1
unfolding name_at upto
name_takes t x h = search (rules, not_then, same_Some, cut_takes, none_in_cut, upto_ends)

pub name_again : (p rest : List ℕ) → IsName p rest → name_at (p ++ rest) ≡ Some (p, rest)
unfolding name_at
name_again p rest h = rw (name_begins p rest h) (ap Some (cut-append (unless in_name) p rest h.inside h.ends))

-- what is between an anchor and its node
abbrev Apart : Bool → List ℕ → List ℕ × List ℕ → Type 0
Apart flow t y = (t ≡ y.0 ++ y.1) × IsApart flow y.0 y.1

pub apart_takes : (flow : Bool) (t : List ℕ) (x : List ℕ × List ℕ) → apart_at flow t ≡ Some x → (t ≡ x.0 ++ x.1) × IsApart flow x.0 x.1
apart_takes true t x h = gap_takes t x h
apart_takes false t x h = subst (Apart false t) (same_Some _ _ h) (cut_takes no_white t, (none_in_cut no_white t, upto_ends no_white t refl))

pub lead_takes : (flow : Bool) (begins : List ℕ → Bool) (t : List ℕ) (x : List ℕ × List ℕ) → lead_at flow begins t ≡ Some x → (t ≡ x.0 ++ x.1) × IsLead flow begins x.0 x.1
unfolding lead_at
lead_takes flow begins t x h =
    let g = bind_some (apart_at flow t) h in
    let gap = apart_takes flow t g.0 g.1 in
    search (rules, same_Some, cond_both)

pub lead_again : (flow : Bool) (begins : List ℕ → Bool) (p rest : List ℕ) → IsLead flow begins p rest → lead_at flow begins (p ++ rest) ≡ Some (p, rest)
unfolding lead_at
lead_again flow begins p rest h = search (rules, ⊎_elim, gap_again, cut-append)

-- the `:` of a key
colon_takes : (p t r : List ℕ) → after_colon p t ≡ Some r → (t ≡ 58 ∷ r) × (ends_key p r ≡ true)
unfolding after_colon
colon_takes p t r h = search rules

-- keys
pub key_takes : (t : List ℕ) (x : Key × List ℕ) → read_flow_key t ≡ Some x → (t ≡ key_text x.0 x.1) × IsInlineKey 125 x.0 x.1
unfolding read_flow_key
key_takes t x h =
    let key = bind_some (read_scalar true None t) h in
    let before = bind_some (read_gap key.0.1) key.2 in
    let rest = bind_some (after_colon key.0.0 before.0.1) before.2 in
    let gap = bind_some (lead_at true (begins_node true) rest.0) rest.2 in
    let a = scalar_takes true None t key.0 key.1 in
    let b = gap_takes key.0.1 before.0 before.1 in
    let c = colon_takes key.0.0 before.0.1 rest.0 rest.1 in
    let d = lead_takes true (begins_node true) rest.0 gap.0 gap.1 in
    let after : before.0.1 ≡ 58 ∷ (gap.0.0 ++ gap.0.1) = c.0 ∙ ap (λ l. 58 ∷ l) d.0 in
    let all : key.0.1 ≡ before.0.0 ++ (58 ∷ (gap.0.0 ++ gap.0.1)) = b.0 ∙ ap (λ l. before.0.0 ++ l) after in
    subst (λ (y : Key × List ℕ). (t ≡ key_text y.0 y.1) × IsInlineKey 125 y.0 y.1) (same_Some _ _ gap.2)
    (a.0 ∙ ap (λ l. key.0.0 ++ l) all, (refl, subst (IsScalarAt true None key.0.0) all a.1, subst (IsInlineGap before.0.0) after b.1, subst (λ (r : List ℕ). ends_key key.0.0 r ≡ true) d.0 c.1, d.1))

pub key_again : (key : Key) (rest : List ℕ) → is_keyed key ≡ true → IsInlineKey 125 key rest → read_flow_key (key_text key rest) ≡ Some (key, rest)
unfolding read_flow_key after_colon
key_again key rest h1 h2 = search (rules, false≢true, scalar_again, gap_again, lead_again)

-- what comes after an item
abbrev Sepd : ℕ → List ℕ → Sep × List ℕ → Type 0
Sepd k t y = (t ≡ sep_text y.0 y.1) × IsSep k y.0 y.1

sep_by : (k : ℕ) (t : List ℕ) (g : List ℕ × List ℕ) (x : Sep × List ℕ) → t ≡ g.0 ++ g.1 → IsInlineGap g.0 g.1 → sep_after k g.0 g.1 ≡ Some x → Sepd k t x
unfolding sep_after
sep_by k t g x is gap h = ⊎_elim {0, 0, 0}
    (λ e.
    let b = bind_some (read_gap (drop 1 g.1)) e.1 in
    let c = gap_takes (drop 1 g.1) b.0 b.1 in
    let front : g.1 ≡ 44 ∷ (b.0.0 ++ b.0.1) = front_is 44 g.1 e.0 ∙ ap (λ l. 44 ∷ l) c.0 in
    subst (Sepd k t) (same_Some _ _ b.2) (is ∙ ap (λ l. g.0 ++ l) front, (subst (IsInlineGap g.0) front gap, c.1)))
    (λ e. let f = cond_some (begins_with k g.1) _ _ e.1 in subst (Sepd k t) f.1 (is, (gap, f.0)))
    (chosen (begins_with 44 g.1) h)

pub sep_takes : (k : ℕ) (t : List ℕ) (x : Sep × List ℕ) → sep_at k t ≡ Some x → (t ≡ sep_text x.0 x.1) × IsSep k x.0 x.1
unfolding sep_at
sep_takes k t x h =
    let g = bind_some (read_gap t) h in
    let gap = gap_takes t g.0 g.1 in
    sep_by k t g.0 x gap.0 gap.1 g.2

pub sep_again : (k : ℕ) (s : Sep) (rest : List ℕ) → eqb k 44 ≡ false → IsSep k s rest → sep_at k (sep_text s rest) ≡ Some (s, rest)
unfolding sep_at sep_after
sep_again k s rest e h = search (rules, gap_again)
