-- Places in an outline, where lines can be exchanged (own).
use Rattle.std.specs.Prelude.{List, [], ◌∷◌, ◌++◌, Option, Some, None, option_map, option_and_then, if◌then◌else◌}
use Rattle.yq_core.{specs.Tree.Node, specs.Paths.{Step, is_here, further}}
use Rattle.yq_outline.specs.Outline.{LineMark, Bare, Key, Dash, Line, Outline, end, row, flatten, anchored, head_or, label, value}

-- an outline with a hole: here, in what is under a line, or in what is after one
pub data Context : Type 0 where
  here : Context
  below : Line → Context → (after : Outline) → Context
  beside : Line → (under : Outline) → Context → Context

-- an outline put into the hole
abbrev pub plug : Context → Outline → Outline
plug here o = o
plug (below l p after) o = row l (plug p o) after
plug (beside l under p) o = row l under (plug p o)

-- the lines before the hole
abbrev pub lines_before : Context → List Line
lines_before here = []
lines_before (below l p after) = l ∷ lines_before p
lines_before (beside l under p) = l ∷ (flatten under ++ lines_before p)

-- the lines after the hole
abbrev pub lines_after : Context → List Line
lines_after here = []
lines_after (below l p after) = lines_after p ++ flatten after
lines_after (beside l under p) = lines_after p

-- the place of a hole in an outline that is put into another hole, as a place of the whole
abbrev pub compose : Context → Context → Context
compose here q = q
compose (below l p after) q = below l (compose p q) after
compose (beside l under p) q = beside l under (compose p q)

-- a line in an outline, with what is under it and after it
pub record FoundLine : Type 0 where
  pub place : Context
  pub line : Line
  pub under : Outline
  pub after : Outline

-- a line that was found, where another one, with those under it, is in front
abbrev pub next_to : Line → Outline → FoundLine → FoundLine
next_to l under f = record f { place = beside l under f.place }

-- the line where a step leads in a collection
abbrev pub find_row : Step → Outline → Option FoundLine
find_row s end = None
find_row s (row l under after) =
    if is_here s (label l) then Some (record { place = here; line = l; under = under; after = after })
    else option_map (next_to l under) (find_row (further s) after)

-- a line found in what is under another one, as a line of the whole
abbrev pub place_inside : FoundLine → FoundLine → FoundLine
place_inside f g = record g { place = compose f.place (below f.line g.place f.after) }

-- the first of two answers where a line is a node itself, else the second
abbrev pub bare_or : LineMark → Option (FoundLine × List Step) → Option (FoundLine × List Step) → Option (FoundLine × List Step)
bare_or Bare x y = x
bare_or (Key k) x y = y
bare_or Dash x y = y

-- the first of two answers where there is a head, else the second
abbrev pub in_head : Option Node → Option (FoundLine × List Step) → Option (FoundLine × List Step) → Option (FoundLine × List Step)
in_head None x y = y
in_head (Some n) x y = x

-- Where a path leads: a line, and the steps that go on in its head.
abbrev pub find : Step → List Step → Outline → Option (FoundLine × List Step)
find s ss end = None
find s [] (row l under after) =
    bare_or l.mark (Some (record { place = here; line = l; under = under; after = after }, s ∷ [])) (option_map (λ f. (f, [])) (find_row s (row l under after)))
find s (t ∷ ts) (row l under after) =
    bare_or l.mark (Some (record { place = here; line = l; under = under; after = after }, s ∷ (t ∷ ts)))
    (option_and_then (λ f. in_head f.line.head (Some (f, t ∷ ts)) (option_map (λ x. (place_inside f x.0, x.1)) (find t ts f.under)))
    (find_row s (row l under after)))

-- what the line of an entry or item and the lines under it mean
abbrev pub content_under : Line → Outline → Node
content_under l under = anchored l.anchor (head_or l.head (value under))
