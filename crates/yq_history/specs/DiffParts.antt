-- Two texts as parts of whole lines, and the hunks that these make (own).
use Rattle.std.specs.Prelude.{◌≡◌, ℕ, ◌+◌, List, [], ◌∷◌, ◌++◌, length, map, flat_map, OnOk, Result}
use Rattle.yq_core.specs.Text.{text_lines}
use Rattle.yq_history.{specs.Hunks.{LineChange, unchanged, deleted, added, old_side, new_side, Hunk}, specs.declared.diff.part.Part.Part}
use Rattle.yq_history.specs.declared.diff.part.Part.TheVariants as part

-- the lines of a part that are in the old text
abbrev pub old_part : Part → List (List ℕ)
old_part (part.Skipped t) = text_lines t.now
old_part (part.Unchanged t) = text_lines t.now
old_part (part.Deleted t) = text_lines t.now
old_part (part.Added t) = []

-- the lines of a part that are in the new text
abbrev pub new_part : Part → List (List ℕ)
new_part (part.Skipped t) = text_lines t.now
new_part (part.Unchanged t) = text_lines t.now
new_part (part.Deleted t) = []
new_part (part.Added t) = text_lines t.now

-- the lines of parts that are in the old text
abbrev pub old_parts : List Part → List (List ℕ)
old_parts ps = flat_map old_part ps

-- the lines of parts that are in the new text
abbrev pub new_parts : List Part → List (List ℕ)
new_parts ps = flat_map new_part ps

-- A success adds the lines of one text to the old lines of parts, and those of another to the new ones.
pub record AddsLines {T E : Type 0} (r : Result T E) (before after : List Part) (old new : List ℕ) : Type 0 where
  pub old_lines : OnOk r (old_parts after ≡ old_parts before ++ text_lines old)
  pub new_lines : OnOk r (new_parts after ≡ new_parts before ++ text_lines new)

-- the lines of a text are those of three texts, one after another
abbrev pub CutsInto : List ℕ → List ℕ → List ℕ → List ℕ → Type 0
CutsInto text kept changed rest = text_lines text ≡ text_lines kept ++ (text_lines changed ++ text_lines rest)

-- Parts are those of two texts, in order.
pub record ArePartsOf (ps : List Part) (old new : List ℕ) : Type 0 where
  pub old_lines : old_parts ps ≡ text_lines old
  pub new_lines : new_parts ps ≡ text_lines new

-- a hunk of these lines, if there are any, with so many lines of either text before it
abbrev pub closed_hunk : ℕ → ℕ → List LineChange → List Hunk
closed_hunk m n [] = []
closed_hunk m n (c ∷ cs) = record { old_before = m; new_before = n; changes = c ∷ cs } ∷ []

-- the hunks of parts, of which the first one has these lines already: skipped lines are between hunks
abbrev pub hunks_from : ℕ → ℕ → List LineChange → List Part → List Hunk
hunks_from m n cs [] = closed_hunk m n cs
hunks_from m n cs (part.Skipped t ∷ ps) =
    closed_hunk m n cs ++
    hunks_from (m + length (old_side cs) + length (text_lines t.now)) (n + length (new_side cs) + length (text_lines t.now)) [] ps
hunks_from m n cs (part.Unchanged t ∷ ps) = hunks_from m n (cs ++ map unchanged (text_lines t.now)) ps
hunks_from m n cs (part.Deleted t ∷ ps) = hunks_from m n (cs ++ map deleted (text_lines t.now)) ps
hunks_from m n cs (part.Added t ∷ ps) = hunks_from m n (cs ++ map added (text_lines t.now)) ps

-- the hunks of parts
abbrev pub hunks_of : List Part → List Hunk
hunks_of ps = hunks_from 0 0 [] ps
