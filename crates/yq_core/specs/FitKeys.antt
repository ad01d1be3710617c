-- Keys as they are written that may be read (YAML 1.2.2, sections 7.4.2 and 8.2.2; own).
use Rattle.std.{specs.Prelude.{ℕ, nat_le, List, length, Bool, true, not, ◌&&◌, codes}, specs.Str.{bytes_eq, chars}}
use Rattle.yq_core.specs.Nodes.{Key, bare, keyed, FlowNode, empty, alias, scalar, coll, anchored, Items, none, item}

-- how many characters a key's `:` may come after the key's first one (YAML 1.2.2, section 8.2.2)
abbrev pub key_limit : ℕ
key_limit = 1024

-- a key as it is written, if there is one, is no plain `<<` (own)
abbrev pub key_fits : List ℕ → Bool
key_fits key = not (bytes_eq key (codes "<<"))

-- whether a key as it is written is fit
abbrev pub is_fit : List ℕ → Bool
is_fit key = key_fits key && nat_le (length (chars key)) key_limit

-- whether the key of an entry is fit
abbrev pub has_fit_key : Key → Bool
has_fit_key bare = true
has_fit_key (keyed text before gap) = is_fit text

abbrev mutual
  -- whether each key of an inline node is fit
  pub has_fit_keys : FlowNode → Bool
  has_fit_keys empty = true
  has_fit_keys (alias name) = true
  has_fit_keys (scalar p) = true
  has_fit_keys (coll close gap items) = each_has_fit_keys items
  has_fit_keys (anchored name gap node) = has_fit_keys node

  -- the same of each item or entry
  pub each_has_fit_keys : Items → Bool
  each_has_fit_keys none = true
  each_has_fit_keys (item key node sep items) = has_fit_key key && (has_fit_keys node && each_has_fit_keys items)
