-- Reading (own; you may skip it): items and entries in block style, one after the other.
use Rattle.std.{specs.Prelude.{ℕ, ◌+◌, List, [], ◌∷◌, ◌++◌, Bool, true, false, replicate, map, if◌then◌else◌}, specs.Option.is_none}
use Rattle.yq_core.specs.BlockWritten.{break_text}
use Rattle.yq_edit_rules.{specs.declared.layout.Layout.Layout, specs.BlockRows.{inline_of, block_key, indent_step, item_column}}
use Rattle.yq_edit_rules.specs.BlockText.{block_value}
use Rattle.yq_core.specs.Tree as tree

-- a break, and the spaces before a line (own)
abbrev pub break_and_indent : Layout → ℕ → List ℕ
break_and_indent l column = break_text l.br ++ replicate column 32

-- texts with another one between them; first says that nothing comes before them (own)
abbrev pub separated_texts : List ℕ → Bool → List (List ℕ) → List ℕ
separated_texts between first [] = []
separated_texts between true (x ∷ xs) = x ++ separated_texts between false xs
separated_texts between false (x ∷ xs) = between ++ (x ++ separated_texts between false xs)

-- an item (YAML 1.2.2, section 8.2.1)
abbrev pub block_item : Layout → ℕ → tree.Node → List ℕ
block_item l column v = 45 ∷ 32 ∷ block_value l (item_column column) v

-- a key with its `:`, and a space, or a line below it (YAML 1.2.2, section 8.2.2)
abbrev pub block_front : Layout → ℕ → List ℕ → Bool → List ℕ
block_front l below k filled = block_key k ++ (if filled then 58 ∷ break_and_indent l below else 58 ∷ 32 ∷ [])

-- whether a value is written in rows (own)
abbrev pub is_filled : tree.Node → Bool
is_filled v = is_none (inline_of v)

-- an entry (YAML 1.2.2, section 8.2.2)
abbrev pub block_pair : Layout → ℕ → List ℕ × tree.Node → List ℕ
block_pair l column e = block_front l (column + indent_step l e.1) e.0 (is_filled e.1) ++ block_value l (column + indent_step l e.1) e.1

-- the items of a list, or `[]` (YAML 1.2.2, section 8.2.1; own)
abbrev pub block_list : Layout → ℕ → List tree.Node → List ℕ
block_list l column [] = 91 ∷ 93 ∷ []
block_list l column (v ∷ vs) = separated_texts (break_and_indent l column) true (map (block_item l column) (v ∷ vs))

-- the entries of a mapping, or `{}` (YAML 1.2.2, section 8.2.2; own)
abbrev pub block_map : Layout → ℕ → List (List ℕ × tree.Node) → List ℕ
block_map l column [] = 123 ∷ 125 ∷ []
block_map l column (e ∷ es) = separated_texts (break_and_indent l column) true (map (block_pair l column) (e ∷ es))
