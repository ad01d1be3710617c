-- What an update does at each place, as the code has it.
use Rattle.std.{specs.Prelude.{ℕ, Bool, true, false, List, map}, specs.String.string_bytes}
use Rattle.yq_core.{specs.Tree.{Node, alias, scalar, list}, specs.Values.value_node}
use Rattle.yq_semantics.{specs.Changes.{Room, Changed, put_with_path, add_at, remove_at, comment_at}, specs.Judgement.{Judgement, and_then}}
use Rattle.yq_semantics.{specs.Places.FoundPlace, specs.RightValues.right_value, specs.View.term_of}
use Rattle.yq_core.specs.Tree as tree
use Rattle.yq_expr.specs.declared.plans.effect.Action as effect

-- what is changed at a place of the document of that number, which has such room (own)
abbrev pub effect_at : ℕ → Room → effect.Action → FoundPlace → Judgement (List Changed)
effect_at doc room (effect.TheVariants.Put v) p = put_with_path p (value_node v.now)
effect_at doc room (effect.TheVariants.Modify terms) p = and_then (put_with_path p) (right_value doc (map term_of terms.now) p)
effect_at doc room (effect.TheVariants.Add v) p = add_at p (value_node v.now)
effect_at doc room effect.TheVariants.Remove p = remove_at p
effect_at doc room (effect.TheVariants.SetComment c) p = comment_at room c.now.place (string_bytes c.now.text) p

-- what one value changes at a place, where it is added or put (own)
abbrev pub value_at : Bool → Node → FoundPlace → Judgement (List Changed)
value_at true v p = add_at p v
value_at false v p = put_with_path p v

-- whether a value is a mapping, of which an addition may overwrite entries (own)
abbrev pub is_mapping : Node → Bool
is_mapping (alias name) = false
is_mapping (scalar anchor kind text) = false
is_mapping (list anchor cs) = false
is_mapping (tree.map anchor cs) = true
