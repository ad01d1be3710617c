-- No line begins with a document marker inside a node.
use Rattle.std.proofs.Common.{◌≡◌, ◌⊎◌, ⊎_elim, ℕ, zero, suc, Bool, true, false, ◌&&◌, ◌||◌, eqb, List, [], ◌∷◌, ◌++◌, Option, refl, sym}
use Rattle.std.proofs.Common.{ap, ◌∙◌, subst, append_assoc, eqb-true, rules}
use Rattle.std.proofs.lemmas.Bool.{cases_Bool, false≢true, not-false, or_cases}
use Rattle.yq_core.{specs.Plain.IsPlain, specs.Quoted.{QuotedLines, IsQuoted, spell_lines}}
use Rattle.yq_core.{specs.Text.{is_feed, is_marker, is_white, no_white, unless, NoneIn}, specs.declared.gap.GapPlace.GapPlace}
use Rattle.yq_core.specs.declared.gap.GapPlace.TheVariants.{Token}
use Rattle.yq_core.specs.Gaps.{goes, next_gap_place, gap_place_after, at_line_start, AllGo, IsInlineGap}
use Rattle.yq_core.specs.Nodes.{FlowNode, empty, alias, scalar, coll, anchored, Items, none, item, Key, bare, keyed, Sep, last, comma}
use Rattle.yq_core.specs.Nodes.{key_text, sep_text, node_text, flow_items_text, opening_bracket, is_close, in_name, begins_node}
use Rattle.yq_core.{specs.Nodes.{begins_content, IsApart, IsLead, IsInlineKey, IsSep, IsFlowNode, AreFlowItems}, specs.Scalars.IsScalarAt}
use Rattle.yq_rows.proofs.LineLaws.{NoFeed, Upto, no_marker_byte, plain_lines, quoted_lines, space_no_marker, upto_byte, upto_line}
use Rattle.yq_rows.proofs.LineLaws.{upto_more, upto_piece}

-- a byte is one of two
pub two_bytes : (b m n : ℕ) → is_feed m ≡ false → is_feed n ≡ false → (eqb b m || eqb b n) ≡ true → is_feed b ≡ false
two_bytes b m n x y h = ⊎_elim {0, 0, 0} (λ (e : eqb b m ≡ true). ap is_feed (eqb-true b m e) ∙ x) (λ (e : eqb b n ≡ true). ap is_feed (eqb-true b n e) ∙ y) (or_cases (eqb b m) (eqb b n) h)

-- ---- scalars, names and gaps

pub scalar_lines : (flow : Bool) (spaces : Option ℕ) (p t rest : List ℕ) → IsScalarAt flow spaces p t → Upto false t rest → Upto false (p ++ t) rest
scalar_lines flow spaces p t rest h k = ⊎_elim {0, 0, 0}
    (λ (a : IsPlain flow spaces p t). plain_lines flow spaces p t rest a.inside k)
    (λ a. in_quotes a.0.0 a.0.1.0 a.0.1.1)
    h
  where
    quote_byte : (q : ℕ) → (q ≡ 34) ⊎ (q ≡ 39) → is_feed q ≡ false
    quote_byte q e = ⊎_elim {0, 0, 0} (λ (x : q ≡ 34). ap is_feed x) (λ (x : q ≡ 39). ap is_feed x) e

    in_quotes : (q : ℕ) (ls : QuotedLines) → IsQuoted q ls p t → Upto false (p ++ t) rest
    in_quotes q ls a =
        let byte = quote_byte q a.quotes in
        let own = upto_byte q _ rest byte (quoted_lines q ls (q ∷ t) rest a.lines (upto_byte q t rest byte k)) in
        subst (λ (l : List ℕ). Upto false l rest) (ap (λ l. q ∷ l) (sym (append_assoc (spell_lines ls) (q ∷ []) t)) ∙ ap (λ l. l ++ t) (sym a.spelled)) own

name_byte : (b : ℕ) (t : List ℕ) → unless in_name (b ∷ t) ≡ false → is_feed b ≡ false
name_byte b t h = search (rules, ⊎_elim, false≢true, eqb-true, not-false, cases_Bool)

pub name_no_feed : (p t : List ℕ) → NoneIn (unless in_name) p t → NoFeed p
name_no_feed [] t h = tt
name_no_feed (b ∷ p) t h = (name_byte b (p ++ t) h.0, name_no_feed p t h.1)

white_byte : (b : ℕ) → is_white b ≡ true → is_feed b ≡ false
white_byte b h = two_bytes b 32 9 refl refl h

pub white_no_feed : (p t : List ℕ) → NoneIn no_white p t → NoFeed p
white_no_feed [] t h = tt
white_no_feed (b ∷ p) t h = (white_byte b (not-false (is_white b) h.0), white_no_feed p t h.1)

next_break : (s : GapPlace) (b : ℕ) → at_line_start (next_gap_place s b) ≡ is_feed b
next_break s b = search rules

goes_no_marker : (s : GapPlace) (b : ℕ) (t : List ℕ) → goes s b t ≡ true → at_line_start s ≡ true → is_marker (b ∷ t) ≡ false
goes_no_marker s b t h1 h2 = search (rules, false≢true, ⊎_elim, space_no_marker, eqb-true, no_marker_byte, or_cases)

gap_ends : (s : GapPlace) (t rest : List ℕ) → (at_line_start s && is_marker t) ≡ false → Upto false t rest → Upto (at_line_start s) t rest
gap_ends s t rest h1 h2 = search (rules, upto_line)

gap_goes : (s : GapPlace) (p t rest : List ℕ) → AllGo s p t → (at_line_start (gap_place_after s p) && is_marker t) ≡ false → Upto false t rest → Upto (at_line_start s) (p ++ t) rest
gap_goes s [] t rest h u k = gap_ends s t rest u k
gap_goes s (b ∷ p) t rest h u k = upto_more (at_line_start s) b (p ++ t) rest (goes_no_marker s b (p ++ t) h.0) (subst (λ (x : Bool). Upto x (p ++ t) rest) (next_break s b) (gap_goes (next_gap_place s b) p t rest h.1 u k))

gap_lines : (p t rest : List ℕ) → IsInlineGap p t → Upto false t rest → Upto false (p ++ t) rest
gap_lines p t rest h k = gap_goes Token p t rest h.inside h.unmarked k

apart_lines : (flow : Bool) (p t rest : List ℕ) → IsApart flow p t → Upto false t rest → Upto false (p ++ t) rest
apart_lines true p t rest h k = gap_lines p t rest h k
apart_lines false p t rest h k = upto_piece p t rest (white_no_feed p t h.0) k

lead_lines : (flow : Bool) (begins : List ℕ → Bool) (p t rest : List ℕ) → IsLead flow begins p t → Upto false t rest → Upto false (p ++ t) rest
lead_lines flow begins p t rest h k = ⊎_elim {0, 0, 0}
    (λ a. apart_lines flow p t rest a.0 k)
    (λ a. subst (λ (l : List ℕ). Upto false (l ++ t) rest) (sym a.0) k)
    h

-- ---- nodes

open_byte : (k : ℕ) → is_feed (opening_bracket k) ≡ false
open_byte k = search rules

key_lines : (k : ℕ) (key : Key) (t rest : List ℕ) → IsInlineKey k key t → Upto false t rest → Upto false (key_text key t) rest
key_lines k bare t rest h u = u
key_lines k (keyed text b g) t rest h u =
    scalar_lines true _ text (b ++ (58 ∷ (g ++ t))) rest h.1 (gap_lines b (58 ∷ (g ++ t)) rest h.2 (upto_byte 58 (g ++ t) rest refl (lead_lines true (begins_node true) g t rest h.4 u)))

sep_lines : (k : ℕ) (s : Sep) (t rest : List ℕ) → IsSep k s t → Upto false t rest → Upto false (sep_text s t) rest
sep_lines k (last b) t rest h u = gap_lines b t rest h.0 u
sep_lines k (comma b g) t rest h u = gap_lines b (44 ∷ (g ++ t)) rest h.0 (upto_byte 44 (g ++ t) rest refl (gap_lines g t rest h.1 u))

mutual
  unfolding IsFlowNode AreFlowItems node_text flow_items_text

  pub node_lines : (flow : Bool) (spaces : Option ℕ) (d : ℕ) (node : FlowNode) (t rest : List ℕ) → IsFlowNode flow spaces d node t → Upto false t rest → Upto false (node_text node t) rest
  node_lines flow spaces d empty t rest h u = u
  node_lines flow spaces d (alias n) t rest h u = upto_byte 42 (n ++ t) rest refl (upto_piece n t rest (name_no_feed n t h.inside) u)
  node_lines flow spaces d (scalar p) t rest h u = scalar_lines flow spaces p t rest h u
  node_lines flow spaces zero (coll k g is) t rest h u = absurd h.2
  node_lines flow spaces (suc d) (coll k g is) t rest h u = upto_byte (opening_bracket k) (g ++ flow_items_text k is t) rest (open_byte k) (gap_lines g (flow_items_text k is t) rest h.1 (items_lines d k is t rest h.0 h.2 u))
  node_lines flow spaces d (anchored n g node) t rest h u =
      upto_byte 38 (n ++ (g ++ node_text node t)) rest refl (upto_piece n (g ++ node_text node t) rest (name_no_feed n (g ++ node_text node t) h.0.inside)
      (lead_lines flow (begins_content flow) g (node_text node t) rest h.1 (node_lines flow spaces d node t rest h.4 u)))

  items_lines : (d k : ℕ) (is : Items) (t rest : List ℕ) → is_close k ≡ true → AreFlowItems d k is t → Upto false t rest → Upto false (flow_items_text k is t) rest
  items_lines d k none t rest close h u = upto_byte k t rest (two_bytes k 93 125 refl refl close) u
  items_lines d k (item key n s is) t rest close h u =
      key_lines k key (node_text n (sep_text s (flow_items_text k is t))) rest h.0
      (node_lines true _ d n (sep_text s (flow_items_text k is t)) rest h.2 (sep_lines k s (flow_items_text k is t) rest h.3 (items_lines d k is t rest close h.4 u)))
