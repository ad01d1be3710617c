-- The items and entries in front of a text, as the code passes them.
use Rattle.std.proofs.Common.{◌≡◌, ℕ, zero, suc, ◌-◌, ◌<◌, eq-eqb, Bool, true, false, cond, not, ◌||◌, drop, List, length, Option, Some}
use Rattle.std.{proofs.Common.{None, refl, sym, ap, ◌∙◌, subst, arith}, proofs.lemmas.Bool.false≢true, proofs.lemmas.Option.same_Some}
use Rattle.yq_core.{specs.Answers.◌>>=◌, proofs.Bools.{bind_some, guard_then}, specs.Paths.{Nth, Step, To, further, is_here}}
use Rattle.yq_core.specs.Nodes.{FlowNode, IsInlineKey, Items, Key, bare, begins_with, flow_items_text, is_empty_node, is_keyed, item, keyed}
use Rattle.yq_core.{specs.Nodes.{key_text, none, sep_text}, specs.Places.{Placed, locate}}
use Rattle.yq_core.specs.PlacedReading.{key_piece, past_sep, placed_node, split_key}
use Rattle.yq_core.{specs.Reading.{all_items, all_node, read_flow_key, sep_at}, specs.Scalars.scalar_content, specs.Tree.key_label}
use Rattle.yq_core.{specs.Trees.key_content, proofs.NodeLaws.{all_takes, items_done, items_step, then_node}}
use Rattle.yq_core.{proofs.NodeAgain.{item_longer, sep_longer}, proofs.NodeTakes.{items_takes, key_in_takes}}
use Rattle.yq_core.proofs.NodesPieceLaws.{key_takes, sep_takes}
use Rattle.yq_inline.{specs.Along.parts_read, specs.BorrowedParts.key_before, specs.Measured.{closing_byte, measured}}
use Rattle.yq_inline.{specs.declared.measuring.MeasuredKind.MeasuredKind, specs.declared.before_offset.LeadingParts.LeadingParts}
use Rattle.yq_inline.specs.declared.passing.PassedPart.{PassedPart}
use Rattle.yq_inline.specs.Neighbours.{IsLeadingPart, IsLeadingKey, IsPassed, IsWrittenKey, PartTexts, first_ends, first_read, first_text}
use Rattle.yq_inline.specs.Neighbours.{from_read, key_means, last_ends, last_read, rest_from, passed_view, with_index}
use denote.Bor.{Bor}

pub some_of : {A : Type 0} (o : Option A) → (o ≡ None → ⊥) → (x : A) × (o ≡ Some x)
some_of None h = absurd (h refl)
some_of (Some x) h = (x, refl)

-- ---- the first item or entry

first_by : (p : LeadingParts) (key : Key) (u : List ℕ) → begins_with (closing_byte p.keyed) p.text.now ≡ false → key_before (closing_byte p.keyed) p.text.now ≡ Some (key, u) → (f : IsLeadingPart p u) × (f.key ≡ key)
first_by p key u before read =
    let k = closing_byte p.keyed in
    let t = p.text.now in
    let x = some_of (parts_read p) p.parts in
    let step : then_node p.depth k (key, u) ≡ Some x.0 = sym (items_step p.depth k t before ∙ ap (λ o. o >>= then_node p.depth k) read) ∙ x.1 in
    let node = bind_some (all_node true (Some 0) p.depth u) step in
    let sep = bind_some (cond (is_keyed key || not (is_empty_node node.0.0)) (sep_at k node.0.1) None) node.2 in
    let more = bind_some (all_items p.depth k sep.0.1) sep.2 in
    let some = guard_then (is_keyed key || not (is_empty_node node.0.0)) sep.1 in
    let a = key_in_takes k t (key, u) read in
    let b = all_takes true (Some 0) p.depth u node.0 node.1 in
    let c = sep_takes k node.0.1 sep.0 some.1 in (
      record {
        key = key;
        node = node.0.0;
        sep = sep.0.0;
        items = more.0.0;
        rest = more.0.1;
        following = node.0.1;
        after = sep.0.1;
        read = node.1;
        sep_read = some.1;
        others = more.1;
        all = x.1 ∙ sym more.2;
        fewer = omega (arith, ap length (a.0 ∙ ap (key_text key) b.0), ap length c.0, sep_longer sep.0.0 sep.0.1, item_longer true (Some 0) p.depth key node.0.0 node.0.1 some.0 b.1);
      },
      refl,
    )

-- what an entry's key means
key_is : (key : Key) (rest : List ℕ) → IsInlineKey 125 key rest → key_content key ≡ Some (scalar_content (key_piece key))
key_is bare rest valid = absurd (false≢true (sym valid))
key_is (keyed p b g) rest valid = refl

pub key_written : (p : LeadingParts) (x u : Bor (List ℕ)) → p.keyed ≡ true → begins_with (closing_byte p.keyed) p.text.now ≡ false → split_key p.text.now ≡ Some (x.now, u.now) → IsWrittenKey (Some x) → IsLeadingKey p (Some x, u)
key_written p x u is before split quoted =
    let k = bind_some (read_flow_key p.text.now) split in
    let same = same_Some _ _ k.2 in
    let read : read_flow_key p.text.now ≡ Some (k.0.0, u.now) = k.1 ∙ ap (λ (y : List ℕ × List ℕ). Some (k.0.0, y.1)) same in
    let f = first_by p k.0.0 u.now before (ap (λ (b : Bool). key_before (closing_byte b) p.text.now) is ∙ read) in
    record {
      first = f.0;
      means = ap key_content f.1 ∙ (key_is k.0.0 k.0.1 (key_takes p.text.now k.0 k.1).1 ∙ ap (λ (y : List ℕ × List ℕ). Some (scalar_content y.0)) same);
      quoted = quoted;
    }

pub no_key : (p : LeadingParts) → p.keyed ≡ false → begins_with (closing_byte p.keyed) p.text.now ≡ false → IsLeadingKey p (None, p.text)
no_key p is before =
    let f = first_by p bare p.text.now before (ap (λ (b : Bool). key_before (closing_byte b) p.text.now) is) in
    record { first = f.0; means = ap key_content f.1; quoted = tt }

pub no_entry_key : (p : LeadingParts) → p.keyed ≡ true → begins_with (closing_byte p.keyed) p.text.now ≡ false → split_key p.text.now ≡ None → ⊥
no_entry_key p is before absent =
    p.parts (items_step p.depth (closing_byte p.keyed) p.text.now before ∙ ap (λ o. o >>= then_node p.depth (closing_byte p.keyed))
    (ap (λ (b : Bool). key_before (closing_byte b) p.text.now) is ∙ unread (read_flow_key p.text.now) absent))
  where
    as_piece : Key × List ℕ → Option (List ℕ × List ℕ)
    as_piece x = Some (key_piece x.0, x.1)

    unread : (o : Option (Key × List ℕ)) → (o >>= as_piece) ≡ None → o ≡ None
    unread None e = refl
    unread (Some x) e = cc

-- ---- it is passed

as_placed : FlowNode × List ℕ → Option (Placed × List ℕ)
as_placed x = Some (locate 0 x.0 x.1, x.1)

items_here : (k : ℕ) (t : List ℕ) (is : Items) (rest : List ℕ) → t ≡ flow_items_text k is rest → begins_with k t ≡ false → first_text k is rest ≡ Some t
unfolding flow_items_text
items_here k t none rest text some = absurd (false≢true (sym some ∙ (ap (begins_with k) text ∙ eq-eqb k k refl)))
items_here k t (item key n sep is) rest text some = ap Some (sym text)

module _ (p : LeadingParts) (u : List ℕ) (f : IsLeadingPart p u) where
  abbrev k : ℕ
  k = closing_byte p.keyed

  pub node_there : measured (placed_node true (Some 0) 0 p.depth u) ≡ None → ⊥
  unfolding as_placed
  node_there absent = let e = sym (ap (λ o. measured (o >>= as_placed)) f.read) ∙ absent in cc

  -- the text from it on, and what follows its node
  pub text_is : p.text.now ≡ (first_ends k f.key f.node f.sep f.items f.rest).0
  unfolding flow_items_text
  text_is = (items_takes (suc (length p.text.now)) p.depth k p.text.now (item f.key f.node f.sep f.items, f.rest) f.all).0

  pub following_is : f.following ≡ sep_text f.sep (flow_items_text k f.items f.rest)
  following_is = (sep_takes k f.following (f.sep, f.after) f.sep_read).0 ∙ ap (sep_text f.sep) (items_takes (suc (length f.after)) p.depth k f.after (f.items, f.rest) f.others).0

  module _ (m : Bool × MeasuredKind) (r : List ℕ) (value : measured (placed_node true (Some 0) 0 p.depth u) ≡ Some (m, r)) where
    rest_is : r ≡ f.following
    unfolding as_placed
    rest_is = sym (ap (λ (y : (Bool × MeasuredKind) × List ℕ). y.1) (same_Some _ _ (sym (ap (λ o. measured (o >>= as_placed)) f.read) ∙ value)))

    sep_is : past_sep k r ≡ Some f.after
    sep_is = ap (past_sep k) rest_is ∙ ap (λ o. o >>= λ z. Some z.1) f.sep_read

    pub sep_there : past_sep k r ≡ None → ⊥
    sep_there absent = let e = sym sep_is ∙ absent in cc

    module _ (a : List ℕ) (after : past_sep k r ≡ Some a) where
      after_is : f.after ≡ a
      after_is = same_Some _ _ (sym sep_is ∙ after)

      pub others_there : all_items p.depth k a ≡ Some (f.items, f.rest)
      others_there = ap (all_items p.depth k) (sym after_is) ∙ f.others

      pub passed : (x : PassedPart × LeadingParts) → x.0.text.now ≡ p.text.now → x.0.rest.now ≡ r → x.1.depth ≡ p.depth → x.1.keyed ≡ p.keyed → x.1.text.now ≡ a → IsPassed p u f x
      passed x text rest depth sort at = record {
        others = (λ i. all_items (depth i) (closing_byte (sort i)) (at i)) ∙ others_there;
        keyed = sort;
        fewer = subst (λ (l : List ℕ). length l < length p.text.now) (after_is ∙ sym at) f.fewer;
        ends = λ i. ((text ∙ text_is) i, (rest ∙ (rest_is ∙ following_is)) i);
      }

-- ---- one after the other

-- no item or entry is in front
module _ (p : LeadingParts) (ends : begins_with (closing_byte p.keyed) p.text.now ≡ true) where
  done : parts_read p ≡ Some (none, drop 1 p.text.now)
  done = items_done p.depth (closing_byte p.keyed) p.text.now ends

  pub last_done : (o : Option PartTexts) → last_read o p ≡ o
  last_done o = ap (λ (x : Option (Items × List ℕ)). x >>= λ y. last_ends (closing_byte p.keyed) o y.0 y.1) done

  pub first_done : first_read p ≡ None
  first_done = ap (λ (x : Option (Items × List ℕ)). x >>= λ y. first_text (closing_byte p.keyed) y.0 y.1) done

  pub from_done : (s : Step) (o : Option PartTexts) → from_read s o p ≡ None
  from_done s o = ap (λ (x : Option (Items × List ℕ)). x >>= λ y. rest_from (closing_byte p.keyed) s o y.0 y.1) done

-- one is in front
pub first_there : (p : LeadingParts) → begins_with (closing_byte p.keyed) p.text.now ≡ false → Some p.text.now ≡ first_read p
first_there p some = go (parts_read p) refl
  where
    go : (o : Option (Items × List ℕ)) → parts_read p ≡ o → Some p.text.now ≡ (o >>= λ x. first_text (closing_byte p.keyed) x.0 x.1)
    go None e = absurd (p.parts e)
    go (Some x) e = sym (items_here (closing_byte p.keyed) p.text.now x.0 x.1 (items_takes (suc (length p.text.now)) p.depth (closing_byte p.keyed) p.text.now x e).0 some)

-- whether a step leads to it
module _ (p : LeadingParts) (x : Option (Bor (List ℕ)) × Bor (List ℕ)) (h : IsLeadingKey p x) (s : Step) where
  pub by_first : (o : Option PartTexts) (b : Bool) → is_here s (key_label (key_means x.0)) ≡ b →
      from_read s o p ≡ cond b (Some (o, item h.first.key h.first.node h.first.sep h.first.items, h.first.rest))
      (rest_from (closing_byte p.keyed) (further s) (Some (first_ends (closing_byte p.keyed) h.first.key h.first.node h.first.sep h.first.items h.first.rest)) h.first.items h.first.rest)
  by_first o b is =
      ap (λ (y : Option (Items × List ℕ)). y >>= λ z. rest_from (closing_byte p.keyed) s o z.0 z.1) h.first.all
      ∙ ap (λ (c : Bool). cond c (Some (o, item h.first.key h.first.node h.first.sep h.first.items, h.first.rest))
      (rest_from (closing_byte p.keyed) (further s) (Some (first_ends (closing_byte p.keyed) h.first.key h.first.node h.first.sep h.first.items h.first.rest)) h.first.items h.first.rest))
      (ap (λ (l : Option (List ℕ)). is_here s (key_label l)) h.means ∙ is)

-- it is passed
module _ (p : LeadingParts) (u : List ℕ) (f : IsLeadingPart p u) (x : PassedPart × LeadingParts) (h : IsPassed p u f x) where
  among_others : {B : Type 0} (g : ℕ → Option PartTexts → Items × List ℕ → Option B) →
      g (closing_byte p.keyed) (Some (first_ends (closing_byte p.keyed) f.key f.node f.sep f.items f.rest)) (f.items, f.rest) ≡ (parts_read x.1 >>= g (closing_byte x.1.keyed) (Some (passed_view x.0)))
  among_others g = (λ i. g (closing_byte (sym h.keyed i)) (Some (sym h.ends i)) (f.items, f.rest)) ∙ sym (ap (λ o. o >>= g (closing_byte x.1.keyed) (Some (passed_view x.0))) h.others)

  pub last_further : (o : Option PartTexts) → last_read o p ≡ last_read (Some (passed_view x.0)) x.1
  last_further o = ap (λ (y : Option (Items × List ℕ)). y >>= λ z. last_ends (closing_byte p.keyed) o z.0 z.1) f.all ∙ among_others (λ k e z. last_ends k e z.0 z.1)

  pub from_further : (s : Step) → rest_from (closing_byte p.keyed) (further s) (Some (first_ends (closing_byte p.keyed) f.key f.node f.sep f.items f.rest)) f.items f.rest ≡ from_read (further s) (Some (passed_view x.0)) x.1
  from_further s = among_others (λ k e z. rest_from k (further s) e z.0 z.1)

-- the step that is left after it
pub one_less : (i : ℕ) (s : Step) → further (with_index i s) ≡ with_index (i - 1) s
one_less i (To k) = refl
one_less zero (Nth n) = refl
one_less (suc i) (Nth n) = let less : i ≡ suc i - 1 = omega arith in ap Nth less
