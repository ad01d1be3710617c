-- Copies of what a pipe finds (yq manual; own).
use Rattle.std.specs.Prelude.{ℕ, suc, List, [], ◌∷◌, ◌++◌, Option, Some, None}
use Rattle.yq_core.{specs.Tree.{Node, alias, scalar, list, map, Children, none, child}, specs.Values.{items, entries}}
use Rattle.yq_documents.specs.Documents.{Document}
use Rattle.yq_semantics.{specs.declared.refusal.Refusal.TheVariants.ThroughAlias, specs.Conditions.value_of}
use Rattle.yq_semantics.{specs.Judgement.{Judgement, and_then, gives, refuses}, specs.Pipes.places, specs.Places.{FoundPlace, for_each}}
use Rattle.yq_semantics.specs.Program.{Stage}

-- the key of an entry: each one has a key (own)
abbrev pub key_or_empty : Option (List ℕ) → List ℕ
key_or_empty None = []
key_or_empty (Some k) = k

-- an element before others, each of which may be refused (own)
abbrev pub and_others : {A : Type 0} → Judgement (List A) → A → Judgement (List A)
and_others others first = and_then (λ rest. gives (first ∷ rest)) others

-- the value of an entry with its key (own)
abbrev pub keyed : Option (List ℕ) → Node → List ℕ × Node
keyed key n = (key_or_empty key, n)

abbrev mutual
  -- a copy: it has no anchors and no comments, and no alias is copied (own)
  pub copy : Node → Judgement Node
  copy (alias name) = refuses ThroughAlias
  copy (scalar anchor kind text) = gives (scalar None kind text)
  copy (list anchor cs) = and_then (λ vs. gives (list None (items vs))) (item_copies cs)
  copy (map anchor cs) = and_then (λ es. gives (map None (entries es))) (entry_copies cs)

  -- the same of items (own)
  pub item_copies : Children → Judgement (List Node)
  item_copies none = gives []
  item_copies (child label n cs) = and_then (and_others (item_copies cs)) (copy n)

  -- the same of entries, with their keys (own)
  pub entry_copies : Children → Judgement (List (List ℕ × Node))
  entry_copies none = gives []
  entry_copies (child label n cs) = and_then (λ v. and_others (entry_copies cs) (keyed label.key v)) (copy n)

-- a copy of the value at a place (own)
abbrev pub copy_at : FoundPlace → Judgement Node
copy_at p = copy (value_of p)

-- the one match at a place in the document of that number (own)
abbrev pub match_at : ℕ → FoundPlace → Judgement (List (ℕ × Node))
match_at doc p = and_then (λ v. gives ((doc, v) ∷ [])) (copy_at p)

-- copies of what a pipe finds in the document of that number: it is matched first (own)
abbrev pub matches_in : ℕ → List Stage → Node → Judgement (List (ℕ × Node))
matches_in doc pipe root = and_then (for_each (match_at doc)) (places doc pipe root)

-- the same in documents, from the one of that number on (own)
abbrev pub matches_from : ℕ → List Stage → List Document → Judgement (List (ℕ × Node))
matches_from doc pipe [] = gives []
matches_from doc pipe (d ∷ ds) = and_then (λ first. and_then (λ others. gives (first ++ others)) (matches_from (suc doc) pipe ds)) (matches_in doc pipe d.root)

-- copies of what a pipe finds in documents, each with the number of its document, counted from 0 (own)
unfoldable pub matches : List Stage → List Document → Judgement (List (ℕ × Node))
matches pipe docs = matches_from 0 pipe docs
