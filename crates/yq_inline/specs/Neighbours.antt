-- Items and entries of a collection that are passed one after the other: the last one, and those next to one (YAML 1.2.2, 7.4; own).
use Rattle.std.specs.Prelude.{◌≡◌, ℕ, ◌<◌, ◌==◌, Bool, true, List, ◌∷◌, ◌++◌, length, Option, Some, None, is_some, option_map}
use Rattle.std.specs.Prelude.{if◌then◌else◌}
use Rattle.yq_core.{specs.Answers.◌>>=◌, specs.Collections.{CollPieces, coll_along}, specs.Paths.{Nth, Step, To, further, is_here}}
use Rattle.yq_core.specs.Nodes.{FlowNode, Items, Key, Sep, flow_items_text, item, key_text, node_text, none, sep_text}
use Rattle.yq_core.{specs.Reading.{all_items, all_node, sep_at}, specs.Quoted.IsQuotedText, specs.Scalars.{is_quoted, scalar_content}}
use Rattle.yq_core.{specs.Tree.key_label, specs.Trees.key_content}
use Rattle.yq_inline.{specs.Along.{front_read, parts_read}, specs.Measured.closing_byte}
use Rattle.yq_inline.{specs.declared.before_offset.LeadingNode.LeadingNode, specs.declared.before_offset.LeadingParts.LeadingParts}
use Rattle.yq_inline.{specs.declared.passing.FoundPart.FoundPart, specs.declared.passing.PassedPart.PassedPart}
use Rattle.yq_inline.{specs.declared.neighbours.CollectionEnd.CollectionEnd, specs.declared.neighbours.Neighbours.Neighbours}
use denote.Bor.{Bor}

-- ---- what items and entries are next to each other

-- the texts from an item or entry on, and from the end of it on
abbrev pub PartTexts : Type 0
PartTexts = List ℕ × List ℕ

-- those of the first of some items or entries with their closing bracket before a rest
abbrev pub first_ends : ℕ → Key → FlowNode → Sep → Items → List ℕ → PartTexts
first_ends k key n sep is rest = (key_text key (node_text n (sep_text sep (flow_items_text k is rest))), sep_text sep (flow_items_text k is rest))

-- the text from the first one on, if there is one
abbrev pub first_text : ℕ → Items → List ℕ → Option (List ℕ)
first_text k none rest = None
first_text k (item key n sep is) rest = Some (first_ends k key n sep is rest).0

-- those of the last one; of another one, if there is none
abbrev pub last_ends : ℕ → Option PartTexts → Items → List ℕ → Option PartTexts
last_ends k o none rest = o
last_ends k o (item key n sep is) rest = last_ends k (Some (first_ends k key n sep is rest)) is rest

-- An item or entry, the one before it, and the text from the one after it on, if there are such.
pub record PartsAround : Type 0 where
  pub before : Option PartTexts
  pub here : PartTexts
  pub next : Option (List ℕ)

-- the item or entry to which a step leads; before the first one is this one
abbrev pub around_part : ℕ → Step → Option PartTexts → Items → List ℕ → Option PartsAround
around_part k s o none rest = None
around_part k s o (item key n sep is) rest =
    if is_here s (key_label (key_content key)) then Some (record { before = o; here = first_ends k key n sep is rest; next = first_text k is rest })
    else around_part k (further s) (Some (first_ends k key n sep is rest)) is rest

-- the items or entries from the one on to which a step leads, before a rest, and the one before it; before the first one is this one
abbrev pub rest_from : ℕ → Step → Option PartTexts → Items → List ℕ → Option (Option PartTexts × Items × List ℕ)
rest_from k s o none rest = None
rest_from k s o (item key n sep is) rest =
    if is_here s (key_label (key_content key)) then Some (o, item key n sep is, rest)
    else rest_from k (further s) (Some (first_ends k key n sep is rest)) is rest

-- what follows the last item or entry of a collection, or its opening bracket, if it has none
abbrev pub past_last : CollPieces → Option PartTexts → List ℕ
past_last w None = w.gap ++ (w.close ∷ w.rest)
past_last w (Some e) = e.1

-- whether a collection is a mapping, whether it has items or entries, and what follows the last one
abbrev pub coll_end : CollPieces → Bool × Bool × List ℕ
coll_end w = (w.close == 125, is_some (last_ends w.close None w.items w.rest), past_last w (last_ends w.close None w.items w.rest))

-- the item or entry of a collection to which a step leads
abbrev pub coll_around : Step → CollPieces → Option PartsAround
coll_around s w = around_part w.close s None w.items w.rest

-- the collection to which steps lead in a node that was read
abbrev pub coll_read : List Step → Option (FlowNode × List ℕ) → Option CollPieces
coll_read ss o = o >>= λ x. coll_along ss x.0 x.1

-- ---- what the code reports of them

-- the texts that one of the code shows
abbrev pub passed_view : PassedPart → PartTexts
passed_view p = (p.text.now, p.rest.now)

-- what follows the last item or entry that the code has passed; this text, if it has passed none
abbrev pub past_passed : Option PassedPart → List ℕ → List ℕ
past_passed None v = v
past_passed (Some p) v = p.rest.now

-- the items or entries that those of the code show
abbrev pub around_view : Neighbours → PartsAround
around_view x = record { before = option_map passed_view x.before; here = passed_view x.here; next = option_map (λ t. t.now) x.next }

-- the end that one of the code shows
abbrev pub end_view : CollectionEnd → Bool × Bool × List ℕ
end_view x = (x.keyed, x.some, x.rest.now)

-- a step with this index, if it is one
abbrev pub with_index : ℕ → Step → Step
with_index i (To k) = To k
with_index i (Nth n) = Nth i

-- a key as it is written means this
abbrev pub key_means : Option (Bor (List ℕ)) → Option (List ℕ)
key_means o = option_map (λ k. scalar_content k.now) o

-- a key as it is written is a quoted text, if it begins with a quote
abbrev pub IsWrittenKey : Option (Bor (List ℕ)) → Type 0
IsWrittenKey None = Unit {0}
IsWrittenKey (Some k) = is_quoted k.now ≡ true → IsQuotedText k.now

-- The first of the items or entries in front, whose node begins this text.
pub record IsLeadingPart (p : LeadingParts) (u : List ℕ) : Type 0 where
  pub key : Key
  pub node : FlowNode
  pub sep : Sep
  pub items : Items
  pub rest : List ℕ
  pub following : List ℕ
  pub after : List ℕ
  pub read : all_node true (Some 0) p.depth u ≡ Some (node, following)
  pub sep_read : sep_at (closing_byte p.keyed) following ≡ Some (sep, after)
  pub others : all_items p.depth (closing_byte p.keyed) after ≡ Some (items, rest)
  pub all : parts_read p ≡ Some (item key node sep items, rest)
  pub fewer : length after < length p.text.now

-- The key in front, if entries have one, and the text from the node after it on.
pub record IsLeadingKey (p : LeadingParts) (x : Option (Bor (List ℕ)) × Bor (List ℕ)) : Type 0 where
  pub first : IsLeadingPart p x.1.now
  pub means : key_content first.key ≡ key_means x.0
  pub quoted : IsWrittenKey x.0

-- The first item or entry is passed, and the others are those after it.
pub record IsPassed (p : LeadingParts) (u : List ℕ) (f : IsLeadingPart p u) (x : PassedPart × LeadingParts) : Type 0 where
  pub others : parts_read x.1 ≡ Some (f.items, f.rest)
  pub keyed : x.1.keyed ≡ p.keyed
  pub fewer : length x.1.text.now < length p.text.now
  pub ends : passed_view x.0 ≡ first_ends (closing_byte p.keyed) f.key f.node f.sep f.items f.rest

-- the texts of the last of the items or entries in front; of another one, if there is none
abbrev pub last_read : Option PartTexts → LeadingParts → Option PartTexts
last_read o p = parts_read p >>= λ x. last_ends (closing_byte p.keyed) o x.0 x.1

-- the text from the first of them on, if there is one
abbrev pub first_read : LeadingParts → Option (List ℕ)
first_read p = parts_read p >>= λ x. first_text (closing_byte p.keyed) x.0 x.1

-- those from the one on to which a step leads, and the one before it; before the first one is this one
abbrev pub from_read : Step → Option PartTexts → LeadingParts → Option (Option PartTexts × Items × List ℕ)
from_read s o p = parts_read p >>= λ x. rest_from (closing_byte p.keyed) s o x.0 x.1

-- A step leads to the first one of others, of which one is before these, if any, and whose node begins this text.
pub record IsStepPart (s : Step) (p : LeadingParts) (x : FoundPart) : Type 0 where
  pub keyed : x.parts.keyed ≡ p.keyed
  pub first : IsLeadingPart x.parts x.node.now
  pub found : from_read s None p ≡ Some (option_map passed_view x.before, item first.key first.node first.sep first.items, first.rest)

-- what the code finds is where a step leads; nothing, where it leads to none
abbrev pub FindsStep : Step → LeadingParts → Option FoundPart → Type 0
FindsStep s p None = from_read s None p ≡ None
FindsStep s p (Some x) = IsStepPart s p x

-- A collection is in front, by what follows its bracket and by its items or entries.
pub record IsCollectionOf (w : CollPieces) (x : Bor (List ℕ) × LeadingParts) : Type 0 where
  pub close : w.close ≡ closing_byte x.1.keyed
  pub read : parts_read x.1 ≡ Some (w.items, w.rest)
  pub inside : x.0.now ≡ w.gap ++ flow_items_text w.close w.items w.rest

-- what the code finds is a collection, if there is one
abbrev pub FindsCollection : Option CollPieces → Option (Bor (List ℕ) × LeadingParts) → Type 0
FindsCollection o None = o ≡ None
FindsCollection o (Some x) = (w : CollPieces) × (o ≡ Some w) × IsCollectionOf w x

-- what the code finds is the end of the collection to which steps lead in the node in front
abbrev pub FindsEnd : List Step → LeadingNode → Option CollectionEnd → Type 0
FindsEnd ss n o = option_map end_view o ≡ option_map coll_end (coll_read ss (front_read n))

-- what the code finds is the item or entry to which a step more leads
abbrev pub FindsAround : List Step → Step → LeadingNode → Option Neighbours → Type 0
FindsAround ss s n o = option_map around_view o ≡ (coll_read ss (front_read n) >>= coll_around s)
