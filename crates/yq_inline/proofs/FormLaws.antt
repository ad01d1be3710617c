-- Steps of reading a node's form, a collection and an item, as the code takes them.
use Rattle.std.proofs.Common.{◌≡◌, ℕ, zero, suc, ◌-◌, Bool, true, false, cond, List, drop, Option, Some, None, refl, sym, ap, ◌∙◌, subst}
use Rattle.std.{proofs.Common.{Result, arith}, proofs.lemmas.Bool.{cond-true, cond-false}, proofs.lemmas.Option.same_Some}
use Rattle.yq_core.specs.Answers.{ReadError, ◌>>=◌, Gives, ReadFails}
use Rattle.yq_core.specs.Nodes.{FlowNode, alias, begins_content, coll, begins_with, scalar, Items}
use Rattle.yq_core.specs.Places.{CoreNode, Placed, bare_placed, holder, locate_items, name, nothing, Parts, placed_between}
use Rattle.yq_core.specs.PlacedReading.{core_between, past_sep, placed_coll, placed_content, placed_item, placed_items, placed_node}
use Rattle.yq_core.specs.PlacedReading.{placed_text}
use Rattle.yq_core.{specs.Reading.{all_items, read_collection, read_core, read_gap, kids_of, name_at, read_scalar}, proofs.Binds.bind_bind}
use Rattle.yq_inline.specs.Forms.{after_item, after_bracket, placed_form}
use Rattle.yq_failure.specs.declared.failure.Failure.TheVariants as errors

-- forms
module _ (flow : Bool) (spaces : Option ℕ) (total d : ℕ) (t : List ℕ) where
  abbrev between : CoreNode × List ℕ → Option (Placed × List ℕ)
  between x = Some (placed_between total t x.1 x.0, x.1)

  content_form : placed_content flow spaces total d t ≡ (placed_form flow spaces total d t >>= between)
  content_form = sym (bind_bind (read_core flow spaces (kids_of d) t) (λ x. Some (core_between total t x.0 x.1, x.1)) between)

  pub content_given : (x : CoreNode) (r : List ℕ) → placed_form flow spaces total d t ≡ Some (x, r) → placed_content flow spaces total d t ≡ Some (placed_between total t r x, r)
  content_given x r h = content_form ∙ ap (λ (o : Option (CoreNode × List ℕ)). o >>= between) h

  pub content_fails : (e : ReadError) → ReadFails e (placed_form flow spaces total d t) → ReadFails e (placed_content flow spaces total d t)
  content_fails errors.Memory h = tt
  content_fails (errors.Fault f) h = content_form ∙ ap (λ (o : Option (CoreNode × List ℕ)). o >>= between) h

  abbrev placing : FlowNode × List ℕ → Option (CoreNode × List ℕ)
  placing x = Some (core_between total t x.0 x.1, x.1)

  abbrev named : List ℕ × List ℕ → Option (CoreNode × List ℕ)
  named x = Some (name x.0, x.1)

  coll_form : (k : ℕ) (u : List ℕ) → (read_collection (kids_of d) k u >>= placing) ≡ placed_coll total d k u
  unfolding read_collection
  coll_form k u = go (read_gap u) where
    go : (o : Option (List ℕ × List ℕ)) → ((o >>= λ gap. kids_of d k gap.1 >>= λ items. Some (coll k gap.0 items.0, items.1)) >>= placing) ≡ (o >>= λ gap. kids_of d k gap.1 >>= λ x. Some (holder k (locate_items total k x.0 x.1), x.1))
    go None = refl
    go (Some gap) = bind_bind (kids_of d k gap.1) (λ items. Some (coll k gap.0 items.0, items.1)) placing

  name_form : begins_with 42 t ≡ true → placed_form flow spaces total d t ≡ (name_at (drop 1 t) >>= named)
  unfolding read_core
  name_form a = ap (λ o. o >>= placing) (cond-true _ _ _ a) ∙ bind_bind (name_at (drop 1 t)) (λ x. Some (alias x.0, x.1)) placing

  pub form_alias : (u n r : List ℕ) → begins_with 42 t ≡ true → u ≡ drop 1 t → name_at u ≡ Some (n, r) → placed_form flow spaces total d t ≡ Some (name n, r)
  form_alias u n r a is h = name_form a ∙ ap (λ (o : Option (List ℕ × List ℕ)). o >>= named) (ap name_at (sym is) ∙ h)

  pub form_unnamed : (u : List ℕ) → begins_with 42 t ≡ true → u ≡ drop 1 t → name_at u ≡ None → placed_form flow spaces total d t ≡ None
  form_unnamed u a is h = name_form a ∙ ap (λ (o : Option (List ℕ × List ℕ)). o >>= named) (ap name_at (sym is) ∙ h)

  pub sequence_form : begins_with 42 t ≡ false → begins_with 91 t ≡ true → placed_form flow spaces total d t ≡ placed_coll total d 93 (drop 1 t)
  unfolding read_core
  sequence_form a b = ap (λ o. o >>= placing) (cond-false _ _ _ a ∙ cond-true _ _ _ b) ∙ coll_form 93 (drop 1 t)

  pub mapping_form : begins_with 42 t ≡ false → begins_with 91 t ≡ false → begins_with 123 t ≡ true → placed_form flow spaces total d t ≡ placed_coll total d 125 (drop 1 t)
  unfolding read_core
  mapping_form a b c = ap (λ o. o >>= placing) (cond-false _ _ _ a ∙ cond-false _ _ _ b ∙ cond-true _ _ _ c) ∙ coll_form 125 (drop 1 t)

  pub text_form : begins_with 42 t ≡ false → begins_with 91 t ≡ false → begins_with 123 t ≡ false → begins_content flow t ≡ true → placed_form flow spaces total d t ≡ placed_text flow spaces total t
  unfolding read_core
  text_form a b c e =
      ap (λ o. o >>= placing) (cond-false _ _ _ a ∙ cond-false _ _ _ b ∙ cond-false _ _ _ c ∙ cond-true _ _ _ e) ∙ bind_bind (read_scalar flow spaces t) (λ x. Some (scalar x.0, x.1)) placing

  pub no_form : begins_with 42 t ≡ false → begins_with 91 t ≡ false → begins_with 123 t ≡ false → begins_content flow t ≡ false → placed_form flow spaces total d t ≡ Some (nothing, t)
  unfolding read_core
  no_form a b c e = ap (λ o. o >>= placing) (cond-false _ _ _ a ∙ cond-false _ _ _ b ∙ cond-false _ _ _ c ∙ cond-false _ _ _ e)

-- an opening bracket
pub unopened_gap : (d : ℕ) (t : List ℕ) → read_gap t ≡ None → after_bracket d t ≡ None
unopened_gap zero t h = refl
unopened_gap (suc d) t h = rw h refl

pub unopened_deep : (d : ℕ) (t : List ℕ) → d ≡ 0 → after_bracket d t ≡ None
unopened_deep d t h = rw h refl

pub opened_gap : (d : ℕ) (t g r : List ℕ) → (d ≡ 0 → ⊥) → read_gap t ≡ Some (g, r) → after_bracket d t ≡ Some r
opened_gap zero t g r some h = absurd (some refl)
opened_gap (suc d) t g r some h = rw h refl

-- collections
abbrev held : ℕ → ℕ → Items × List ℕ → Option (CoreNode × List ℕ)
held total k x = Some (holder k (locate_items total k x.0 x.1), x.1)

abbrev inside : List ℕ × List ℕ → Option (List ℕ)
inside gap = Some gap.1

pub coll_unopened : (total d k : ℕ) (t : List ℕ) → after_bracket d t ≡ None → placed_coll total d k t ≡ None
coll_unopened total zero k t h = go (read_gap t) where
  go : (o : Option (List ℕ × List ℕ)) → (o >>= λ gap. kids_of 0 k gap.1 >>= held total k) ≡ None
  go None = refl
  go (Some gap) = refl
coll_unopened total (suc d) k t h = go (read_gap t) h where
  go : (o : Option (List ℕ × List ℕ)) → (o >>= inside) ≡ None → (o >>= λ gap. kids_of (suc d) k gap.1 >>= held total k) ≡ None
  go None e = refl
  go (Some gap) e = cc

pub coll_opened : (total d k : ℕ) (t r : List ℕ) → after_bracket d t ≡ Some r → placed_coll total d k t ≡ (placed_items total (d - 1) k r >>= λ x. Some (holder k x.0, x.1))
coll_opened total zero k t r h = cc
coll_opened total (suc d) k t r h = go (read_gap t) h where
  held_parts : Parts × List ℕ → Option (CoreNode × List ℕ)
  held_parts x = Some (holder k x.0, x.1)

  go : (o : Option (List ℕ × List ℕ)) → (o >>= inside) ≡ Some r → (o >>= λ gap. kids_of (suc d) k gap.1 >>= held total k) ≡ (placed_items total (suc d - 1) k r >>= held_parts)
  go None e = cc
  go (Some gap) e =
      let less : suc d - 1 ≡ d = omega arith in
      ap (λ (g : List ℕ). all_items d k g >>= held total k) (same_Some _ _ e)
      ∙ sym (ap (λ (n : ℕ). placed_items total n k r >>= held_parts) less ∙ bind_bind (all_items d k r) (λ x. Some (locate_items total k x.0 x.1, x.1)) held_parts)

pub coll_given : (total d k : ℕ) (t r : List ℕ) (s : Parts) (u : List ℕ) → after_bracket d t ≡ Some r → placed_items total (d - 1) k r ≡ Some (s, u) → placed_coll total d k t ≡ Some (holder k s, u)
coll_given total d k t r s u h f = coll_opened total d k t r h ∙ rw f refl

pub coll_fails : (e : ReadError) (total d k : ℕ) (t r : List ℕ) → after_bracket d t ≡ Some r → ReadFails e (placed_items total (d - 1) k r) → ReadFails e (placed_coll total d k t)
coll_fails errors.Memory total d k t r h f = tt
coll_fails (errors.Fault x) total d k t r h f = coll_opened total d k t r h ∙ rw f refl

-- items
item_step : (total d : ℕ) (t : List ℕ) (x : Placed) (r : List ℕ) → placed_node true (Some 0) total d t ≡ Some (x, r) → placed_item total d t ≡ (after_item x r >>= λ u. Some (x, u))
item_step total d t x r h = rw h (go (bare_placed x)) where
  with_item : List ℕ → Option (Placed × List ℕ)
  with_item u = Some (x, u)

  go : (b : Bool) → cond b None (past_sep 93 r >>= with_item) ≡ ((cond b None (past_sep 93 r)) >>= with_item)
  go true = refl
  go false = refl

pub item_given : (total d : ℕ) (t : List ℕ) (x : Placed) (r u : List ℕ) → placed_node true (Some 0) total d t ≡ Some (x, r) → after_item x r ≡ Some u → placed_item total d t ≡ Some (x, u)
item_given total d t x r u h f = item_step total d t x r h ∙ rw f refl

pub item_refused : (total d : ℕ) (t : List ℕ) (x : Placed) (r : List ℕ) → placed_node true (Some 0) total d t ≡ Some (x, r) → after_item x r ≡ None → placed_item total d t ≡ None
item_refused total d t x r h f = item_step total d t x r h ∙ rw f refl

pub item_fails : (e : ReadError) (total d : ℕ) (t : List ℕ) → ReadFails e (placed_node true (Some 0) total d t) → ReadFails e (placed_item total d t)
item_fails errors.Memory total d t h = tt
item_fails (errors.Fault f) total d t h = rw h refl

-- an answer stays that of what is read the same
pub gives_same : {X Y : Type 0} (v : X → Y) (r : Result X ReadError) (o p : Option Y) → p ≡ o → Gives v r o → Gives v r p
gives_same v r o p same answer = subst (Gives v r) (sym same) answer
