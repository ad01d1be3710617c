-- Which rows and ends of parts of a text an operation exchanges: those that it touches (own).
use Rattle.std.specs.Prelude.{◌≡◌, ℕ, ◌≤◌, List, [], ◌∷◌, ◌++◌, length, Some}
use Rattle.yq_row_table.{specs.Items.{Item, items_of_cut, items_text}, specs.Rows.Cut, specs.Touched.{item_text, TouchesOnly}}
use Rattle.yq_documents.specs.Reading.{read_at}
use Rattle.yq_text.specs.Script.{Segment, new_text, kept_front, kept_back}

-- these bytes lie in the first of items, from its beginning on (own)
abbrev pub InFirst : List ℕ → List Item → Type 0
InFirst lead [] = lead ≡ []
InFirst lead (i ∷ is) = length lead ≤ length (item_text i)

-- these bytes lie in the last of items, up to its end (own)
abbrev pub InLast : List ℕ → List Item → Type 0
InLast trail [] = trail ≡ []
InLast trail (i ∷ []) = length trail ≤ length (item_text i)
InLast trail (i ∷ (j ∷ is)) = InLast trail (j ∷ is)

-- Segments of the text of a cut exchange items between those before and those after, which stay: what is kept in front ends in the first item that
-- goes, or comes, or at its edge, and what is kept after begins in the last one, or at its edge (own).
pub record IsLocal (ss : List Segment) (c new : Cut) : Type 0 where
  pub front : List Item
  pub gone : List Item
  pub come : List Item
  pub back : List Item
  pub lead : List ℕ
  pub trail : List ℕ
  pub old_are : items_of_cut c ≡ front ++ (gone ++ back)
  pub new_are : items_of_cut new ≡ front ++ (come ++ back)
  pub before_is : kept_front ss ≡ items_text front lead
  pub following_is : kept_back ss ≡ trail ++ items_text back []
  pub begins : InFirst lead gone × InFirst lead come
  pub ends : InLast trail gone × InLast trail come

-- Segments exchange items so in the cut of the text that they make, if that has one (own).
abbrev pub IsLocalTo : List Segment → Cut → Type 0
IsLocalTo ss c = (new : Cut) → read_at (new_text ss) ≡ Some new → IsLocal ss c new

-- Segments that are local touch only what they exchange (own).
abbrev pub LocalTouches : Type 0
LocalTouches = (ss : List Segment) (c new : Cut) → IsLocal ss c new → TouchesOnly (length (kept_front ss)) (length (kept_back ss)) c new
