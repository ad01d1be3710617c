-- Reading (own; you may skip it): rows whose text lends what they spell, as the cut says it.
use Rattle.std.specs.Prelude.{◌≡◌, ℕ, suc, ◌≤◌, ◌<◌, Bool, true, ◌||◌, ◌&&◌, not, List, [], ◌∷◌, length, Option, Some, IfSome, Vec}
use Rattle.std.{specs.Prelude.slice_get, specs.declared.alloc.Global.Global}
use Rattle.yq_core.{specs.Borrowed.{IsWholeCollection, borrows_text}, specs.Inline.depth_limit, specs.Plain.holds_break}
use Rattle.yq_core.{specs.Runs.is_word_byte, specs.Scalars.is_quoted, specs.Text.{front, is_empty}}
use Rattle.yq_text.specs.declared.halves.Halves.{Halves}
use Rattle.yq_row_table.{specs.Kept.halves_view, specs.View.Slices, specs.declared.places.Places.Places, specs.declared.rows.Other.Other}

-- what is in quotes is on one line, and has no escapes (own)
abbrev pub borrows_quoted : List ℕ → Bool
borrows_quoted p = is_quoted p && borrows_text p

-- a key, if a colon comes after one, begins with a letter, a digit or no ASCII, or is such (own)
abbrev pub is_word_key : (key colon : List ℕ) → Bool
is_word_key key colon = is_empty colon || (front is_word_byte key || borrows_quoted key)

-- a head is nothing, begins so and is on one line, or is such (own)
abbrev pub is_word_head : List ℕ → Bool
is_word_head head = is_empty head || ((front is_word_byte head && not (holds_break head)) || borrows_quoted head)

-- key and head of a row are such (own)
abbrev pub is_word_row : Slices → Bool
is_word_row s = is_word_key s.key s.colon && is_word_head s.head

-- the rows from one on, before another one, are such (own)
abbrev pub AreWordRows : List Slices → ℕ → ℕ → Type 0
AreWordRows rows i j = (n : ℕ) (s : Slices) → i ≤ n → n < j → slice_get rows n ≡ Some s → is_word_row s ≡ true

-- a head is a flow collection that the text lends, with so many collections nested at most, where this is not 0 (own)
abbrev pub KnowsHead : ℕ → List ℕ → Type 0
KnowsHead d head = 0 < d → (d ≤ depth_limit) × IsWholeCollection d head

-- what is known of another row's head is so (own)
abbrev pub KnowsRow : List Slices → Other → Type 0
KnowsRow rows o = (s : Slices) → slice_get rows o.row ≡ Some s → KnowsHead o.depth s.head

-- all rows from one on are such, but for these, in their order (own)
abbrev pub AreOtherRows : List Slices → ℕ → List Other → Type 0
AreOtherRows rows i [] = AreWordRows rows i (length rows)
AreOtherRows rows i (o ∷ os) = (i ≤ o.row) × (o.row < length rows) × AreWordRows rows i o.row × KnowsRow rows o × AreOtherRows rows (suc o.row) os

-- the same of all rows that are kept, where they are known (own)
abbrev pub KnowOthers : Halves → Places → Option (Vec Other Global) → Type 0
KnowOthers text p os = IfSome os (λ v. AreOtherRows (halves_view text p).rows 0 v.items)
