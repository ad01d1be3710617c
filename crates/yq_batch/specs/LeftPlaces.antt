-- Which bytes go with an item or entry of a flow collection of which only the first ones are left (YAML 1.2.2, 7.4; own).
use Rattle.std.specs.Prelude.{◌≡◌, ℕ, suc, ◌<◌, Bool, false, List, drop, Option, Some, None}
use Rattle.yq_core.{specs.PlainText.begins_marker, specs.Places.Parts}
use Rattle.yq_flow_edits.specs.FlowPlaces.{marks_before}
use Rattle.yq_batch.{specs.LeftItems.{GoesUpTo, place_of_part}, specs.declared.left.LeftPlace.LeftPlace}

-- What goes with one that others follow: up to the next one, whether that is one as it was read or one of those after all that are left (own).
pub record MoreFollow (t : List ℕ) (parts : Parts) (i j : ℕ) (before : Option Bool) (marked : Bool) (x : LeftPlace) : Type 0 where
  pub here : ℕ × ℕ
  pub next : ℕ × ℕ
  pub here_at : place_of_part i parts ≡ Some here
  pub next_at : place_of_part (suc i) parts ≡ Some next
  pub within : i < j
  pub goes : GoesUpTo t here.0 next.0 marked x.start x.end x.after
  pub as_read : suc i < j → begins_marker (drop next.0 t) ≡ marked
  pub others : suc i ≡ j → before ≡ Some marked

-- What goes with the last one: from the end of the one before (own).
pub record NoneFollow (t : List ℕ) (parts : Parts) (i j : ℕ) (before : Option Bool) (x : LeftPlace) : Type 0 where
  pub one : ℕ
  pub index : i ≡ suc one
  pub count : j ≡ suc i
  pub alone : before ≡ None
  pub here : ℕ × ℕ
  pub earlier : ℕ × ℕ
  pub here_at : place_of_part i parts ≡ Some here
  pub earlier_at : place_of_part one parts ≡ Some earlier
  pub start : x.start ≡ earlier.1
  pub finish : x.end ≡ here.1
  pub unmarked : marks_before t earlier.0 earlier.1 ≡ false

-- what goes with the item or entry of an index of which so many are left, and others after them or none (own)
abbrev pub GoesWith : List ℕ → Parts → (i j : ℕ) → (before after : Option Bool) → LeftPlace → Type 0
GoesWith t parts i j before None x = NoneFollow t parts i j before x
GoesWith t parts i j before (Some marked) x = MoreFollow t parts i j before marked x

-- the same of what the code answers (own)
abbrev pub IsLeftPlace : List ℕ → Parts → (i j : ℕ) → Option Bool → LeftPlace → Type 0
IsLeftPlace t parts i j before x = GoesWith t parts i j before x.after x
