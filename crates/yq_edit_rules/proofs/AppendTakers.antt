-- Which collection takes one more item or entry.
use Rattle.std.proofs.Common.{◌≡◌, ℕ, List, Option, refl, rules}
use Rattle.yq_core.{specs.Keys.keys_of, specs.Tree.{Node, Children}}
use Rattle.yq_outline.specs.Group.{level_or}
use Rattle.yq_outline.specs.Outline.{LineMark, Line, level, Outline, end, row, anchored, children, outline_node, value}
use Rattle.yq_edit_rules.{specs.CollectionPlaces.BeginsAt, specs.Siblings.{IsEntry, HasEntries}, specs.SoundRoots.IsNewKey}
use Rattle.yq_edit_rules.{proofs.AppendEntryLaws.entry_level, proofs.EditsFitLaws.new_key}
use Rattle.yq_semantics.specs.Fits.{Takes}

-- ---- the collection that gets more

-- What is known of a collection that takes an item, or an entry of a key: its lines' level, and that it hasn't the key.
pub record IsTaker (key : Option (List ℕ)) (o : Outline) (column : ℕ) : Type 0 where
  pub level_is : level_or 0 o ≡ entry_level key column
  pub key_is : IsNewKey key (keys_of (children o))

taker_of : (key : Option (List ℕ)) (n : Node) (a : Option (List ℕ)) (l : Line) (cs : Children) (column : ℕ) (m : LineMark) → l.mark ≡ m → IsEntry m → Takes key n → n ≡ anchored a (outline_node m cs) → l.column ≡ column →
    (level l ≡ entry_level key column) × IsNewKey key (keys_of cs)
unfolding level
taker_of key n a l cs column m h1 h2 h3 h4 h5 = search (rules, new_key)

pub taker : (key : Option (List ℕ)) (n : Node) (a : Option (List ℕ)) (o : Outline) (column : ℕ) → Takes key n → n ≡ anchored a (value o) → HasEntries o → BeginsAt column o → IsTaker key o column
taker key n a end column t same b at = absurd b
taker key n a (row l u after) column t same b at =
    let x = taker_of key n a l (children (row l u after)) column l.mark refl b t same at in record { level_is = x.0; key_is = x.1 }
