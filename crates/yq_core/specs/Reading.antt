-- Reading (own; you may skip it: the clauses `found` and `only` show that it agrees with the grammar).
use Rattle.std.specs.Prelude.{ℕ, zero, suc, Bool, true, false, ◌||◌, ◌&&◌, not, ◌==◌, List, [], ◌∷◌, length, take, drop, Option, Some, None}
use Rattle.std.specs.Prelude.{if◌then◌else◌}
use Rattle.yq_core.{specs.Answers.◌>>=◌, specs.Plain.plain_at, specs.QuotedReading.quoted_at}
use Rattle.yq_core.{specs.Text.{is_empty, is_marker, cut, unless, no_white}, specs.declared.gap.GapPlace.GapPlace}
use Rattle.yq_core.{specs.declared.gap.GapPlace.TheVariants.Token, specs.Gaps.{goes, next_gap_place, at_line_start}}
use Rattle.yq_core.specs.Nodes.{Key, bare, keyed, Sep, last, comma, FlowNode, empty, alias, scalar, coll, anchored, Items, none, item}
use Rattle.yq_core.specs.Nodes.{begins_with, in_name, begins_content, begins_node, ends_key, is_empty_node, takes_anchor, is_keyed}
use Rattle.yq_core.specs.Scalars.{is_quoted, has_its_lines}

-- how long the gap in front is (own)
unfoldable pub flow_gap_len : GapPlace → List ℕ → ℕ
flow_gap_len before [] = 0
flow_gap_len before (b ∷ bs) = if goes before b bs then suc (flow_gap_len (next_gap_place before b) bs) else 0

-- what comes after it (own)
unfoldable pub gap_end : GapPlace → List ℕ → GapPlace
gap_end before [] = before
gap_end before (b ∷ bs) = if goes before b bs then gap_end (next_gap_place before b) bs else before

-- the gap in front and what follows it, unless this is a marker in column 0 (own)
unfoldable pub read_gap : List ℕ → Option (List ℕ × List ℕ)
read_gap t =
    let n = flow_gap_len Token t in
    if at_line_start (gap_end Token t) && is_marker (drop n t) then None else Some (take n t, drop n t)

-- a quoted scalar with the lines that it may have (own)
abbrev pub with_its_lines : Option ℕ → List ℕ × List ℕ → Option (List ℕ × List ℕ)
with_its_lines spaces x = if has_its_lines spaces x.0 then Some x else None

-- the quoted scalar in front and what follows it (own)
abbrev pub in_quotes_at : Option ℕ → List ℕ → Option (List ℕ × List ℕ)
in_quotes_at spaces t = quoted_at t >>= with_its_lines spaces

-- the scalar in front and what follows it (own)
unfoldable pub read_scalar : Bool → Option ℕ → List ℕ → Option (List ℕ × List ℕ)
read_scalar flow spaces t = if is_quoted t then in_quotes_at spaces t else plain_at flow spaces t

-- the name in front and what follows it (own)
unfoldable pub name_at : List ℕ → Option (List ℕ × List ℕ)
name_at t = if unless in_name t then None else Some (cut (unless in_name) t)

-- what is between an anchor and its node, and what follows it (own)
abbrev pub apart_at : Bool → List ℕ → Option (List ℕ × List ℕ)
apart_at true t = read_gap t
apart_at false t = Some (cut no_white t)

-- the same, if something begins after it (own)
unfoldable pub lead_at : Bool → (List ℕ → Bool) → List ℕ → Option (List ℕ × List ℕ)
lead_at flow begins t = do
  g ← apart_at flow t
  Some (if begins g.1 then g else ([], t))

-- what follows the `:` of a key (own)
unfoldable pub after_colon : List ℕ → List ℕ → Option (List ℕ)
after_colon p t = if begins_with 58 t && ends_key p (drop 1 t) then Some (drop 1 t) else None

-- the key in front with its `:`, and what follows (own)
unfoldable pub read_flow_key : List ℕ → Option (Key × List ℕ)
read_flow_key t = do
  key ← read_scalar true None t
  before ← read_gap key.1
  rest ← after_colon key.0 before.1
  gap ← lead_at true (begins_node true) rest
  Some (keyed key.0 before.0 gap.0, gap.1)

-- a comma or the closing bracket after a gap (own)
unfoldable pub sep_after : ℕ → List ℕ → List ℕ → Option (Sep × List ℕ)
sep_after k after t =
    if begins_with 44 t then (do
      h ← read_gap (drop 1 t)
      Some (comma after h.0, h.1))
    else (if begins_with k t then Some (last after, t) else None)

-- what comes after an item, and what follows it (own)
unfoldable pub sep_at : ℕ → List ℕ → Option (Sep × List ℕ)
sep_at k t = do
  g ← read_gap t
  sep_after k g.0 g.1

-- what reads the items of a collection, by its closing bracket (own)
abbrev pub Kids : Type 0
Kids = ℕ → List ℕ → Option (Items × List ℕ)

-- a collection after its opening bracket (own)
unfoldable pub read_collection : Kids → ℕ → List ℕ → Option (FlowNode × List ℕ)
read_collection kids k t = do
  gap ← read_gap t
  items ← kids k gap.1
  Some (coll k gap.0 items.0, items.1)

-- the node in front that has no anchor (own)
unfoldable pub read_core : Bool → Option ℕ → Kids → List ℕ → Option (FlowNode × List ℕ)
read_core flow spaces kids t =
    if begins_with 42 t then (name_at (drop 1 t) >>= λ x. Some (alias x.0, x.1))
    else (if begins_with 91 t then read_collection kids 93 (drop 1 t)
    else (if begins_with 123 t then read_collection kids 125 (drop 1 t)
    else (if begins_content flow t then (read_scalar flow spaces t >>= λ x. Some (scalar x.0, x.1)) else Some (empty, t))))

-- the node in front (own)
unfoldable pub read_node : Bool → Option ℕ → Kids → List ℕ → Option (FlowNode × List ℕ)
read_node flow spaces kids t =
    if begins_with 38 t then (do
      name ← name_at (drop 1 t)
      gap ← lead_at flow (begins_content flow) name.1
      node ← read_core flow spaces kids gap.1
      if (is_empty_node node.0 || not (is_empty gap.0)) && takes_anchor node.0 then Some (anchored name.0 gap.0 node.0, node.1) else None)
    else read_core flow spaces kids t

-- with one collection less that may be nested (own)
abbrev pub one_level_less : {A : Type 0} → ℕ → (ℕ → Option A) → Option A
one_level_less zero f = None
one_level_less (suc d) f = f d

-- the items in front, in at most n steps (own)
unfoldable pub items_at : ℕ → ℕ → ℕ → List ℕ → Option (Items × List ℕ)
items_at zero d k t = None
items_at (suc n) d k t =
    if begins_with k t then Some (none, drop 1 t) else (do
      key ← (if k == 125 then read_flow_key t else Some (bare, t))
      node ← read_node true (Some 0) (λ j r. one_level_less d (λ e. items_at n e j r)) key.1
      sep ← (if is_keyed key.0 || not (is_empty_node node.0) then sep_at k node.1 else None)
      rest ← items_at n d k sep.1
      Some (item key.0 node.0 sep.0 rest.0, rest.1))

-- the items in front (own)
abbrev pub all_items : ℕ → ℕ → List ℕ → Option (Items × List ℕ)
all_items d k t = items_at (suc (length t)) d k t

-- what reads the items of a collection, with at most d collections nested (own)
abbrev pub kids_of : ℕ → Kids
kids_of d k t = one_level_less d (λ e. all_items e k t)

-- the node in front, with at most d collections nested (own)
abbrev pub all_node : Bool → Option ℕ → ℕ → List ℕ → Option (FlowNode × List ℕ)
all_node flow spaces d t = read_node flow spaces (kids_of d) t
