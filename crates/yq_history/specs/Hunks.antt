-- What a diff of two texts is: hunks in order, each of lines that stay, go and come (own).
use Rattle.std.specs.Prelude.{◌≡◌, ℕ, ◌+◌, List, [], ◌∷◌, ◌++◌, length, map}
use Rattle.yq_core.specs.Text.{text_lines}

-- a text ends with a line feed (own)
abbrev pub EndsInFeed : List ℕ → Type 0
EndsInFeed t = (front : List ℕ) × (t ≡ front ++ 10 ∷ [])

-- a line of a hunk, with its break: it is in both texts, or in the old one alone, or in the new one alone (own)
pub data LineChange : Type 0 where
  unchanged : List ℕ → LineChange
  deleted : List ℕ → LineChange
  added : List ℕ → LineChange

-- the lines of a hunk that are in the old text (own)
abbrev pub old_side : List LineChange → List (List ℕ)
old_side [] = []
old_side (unchanged l ∷ cs) = l ∷ old_side cs
old_side (deleted l ∷ cs) = l ∷ old_side cs
old_side (added l ∷ cs) = old_side cs

-- the lines of a hunk that are in the new text (own)
abbrev pub new_side : List LineChange → List (List ℕ)
new_side [] = []
new_side (unchanged l ∷ cs) = l ∷ new_side cs
new_side (deleted l ∷ cs) = new_side cs
new_side (added l ∷ cs) = l ∷ new_side cs

-- A hunk: how many lines of the old text are before it, and how many of the new text, and its lines (own).
pub record Hunk : Type 0 where
  pub old_before : ℕ
  pub new_before : ℕ
  pub changes : List LineChange

-- The first hunk makes new lines of old ones, of which n others are before these: the lines between stay, its old lines are there, and its new lines
-- replace them; a rest of either follows (own).
pub record AppliesFirst (n : ℕ) (h : Hunk) (old new old_rest new_rest : List (List ℕ)) : Type 0 where
  pub between : List (List ℕ)
  pub before : h.old_before ≡ n + length between
  pub old_is : old ≡ between ++ (old_side h.changes ++ old_rest)
  pub new_is : new ≡ between ++ (new_side h.changes ++ new_rest)

-- hunks, applied in order, make new lines of old ones, of which n others are before these; after the last hunk all lines stay (own)
abbrev pub Applies : ℕ → List Hunk → List (List ℕ) → List (List ℕ) → Type 0
Applies n [] old new = new ≡ old
Applies n (h ∷ hs) old new =
    (old_rest : List (List ℕ)) × (new_rest : List (List ℕ)) × AppliesFirst n h old new old_rest new_rest ×
    Applies (h.old_before + length (old_side h.changes)) hs old_rest new_rest

-- a line of a hunk, turned round (own)
abbrev pub reversed_change : LineChange → LineChange
reversed_change (unchanged l) = unchanged l
reversed_change (deleted l) = added l
reversed_change (added l) = deleted l

-- the hunk that takes a hunk back (own)
abbrev pub reversed_hunk : Hunk → Hunk
reversed_hunk h = record { old_before = h.new_before; new_before = h.old_before; changes = map reversed_change h.changes }

-- Hunks are a diff of two texts: applied to the old text they give the new one, and reversed the old one again; there are none where no byte changes (own).
pub record IsDiff (hs : List Hunk) (old new : List ℕ) : Type 0 where
  pub forward : Applies 0 hs (text_lines old) (text_lines new)
  pub backward : Applies 0 (map reversed_hunk hs) (text_lines new) (text_lines old)
  pub none : old ≡ new → hs ≡ []
