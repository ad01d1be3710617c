-- Places of a text at which values are put in any order, and the text then (YAML 1.2.2, 7.4; own).
use Rattle.std.specs.Prelude.{◌≡◌, ⊤, ◌⊎◌, ℕ, ◌+◌, ◌-◌, ◌<◌, ◌≤◌, true, false, List, [], ◌∷◌, ◌++◌, drop, take, length, map, Option, Some}
use Rattle.std.{specs.Prelude.{None, IfSome, option_map, string_bytes, String}, specs.declared.alloc.Global.Global}
use Rattle.yq_batch.{specs.declared.slots.SlotPlace.SlotPlace, specs.declared.slots.Slots.Slots}
use Rattle.yq_batch.specs.declared.slots.Slots.TheVariants.{One, Two'}

-- a place, and the text that was put there (own)
pub record SlotView : Type 0 where
  pub place : SlotPlace
  pub new : Option (List ℕ)

-- that of the code (own)
abbrev pub slot_of : SlotPlace → Option (String Global) → SlotView
slot_of p o = record { place = p; new = option_map string_bytes o }

-- those of the code, in order (own)
abbrev pub slots_of : Slots → List SlotView
slots_of (One p o) = slot_of p o ∷ []
slots_of (Two' p left split olds news q right) = slots_of left ++ slots_of right

-- a place at which nothing was put (own)
abbrev pub empty_slot : SlotPlace → SlotView
empty_slot p = record { place = p; new = None }

-- what was put, or else another text (own)
abbrev pub put_or : Option (List ℕ) → List ℕ → List ℕ
put_or None old = old
put_or (Some w) old = w

-- what was put at a place (own)
abbrev pub put_text : SlotView → List ℕ
put_text s = put_or s.new []

-- how many bytes that takes the place of (own)
abbrev pub count_of : Option (List ℕ) → ℕ → ℕ
count_of None n = 0
count_of (Some w) n = n

-- how many bytes were replaced at places (own)
abbrev pub olds_of : List SlotView → ℕ
olds_of [] = 0
olds_of (s ∷ ss) = count_of s.new (s.place.end - s.place.start) + olds_of ss

-- by how many (own)
abbrev pub news_of : List SlotView → ℕ
news_of [] = 0
news_of (s ∷ ss) = length (put_text s) + news_of ss

-- the counts of the code are those (own)
abbrev pub HasCounts : Slots → Type 0
HasCounts (One p o) = ⊤
HasCounts (Two' p left split olds news q right) = (olds ≡ olds_of (slots_of left)) × (news ≡ news_of (slots_of left)) × HasCounts left × HasCounts right

-- A text is put at a place after a lead, where nothing was put yet, or at the end of a collection that has an item or entry (own).
pub record IsPutAt (s s2 : SlotView) (place : SlotPlace) (lead written : List ℕ) (at was : ℕ) : Type 0 where
  pub place_is : s.place ≡ place
  pub order : place.start ≤ place.end
  pub same : s2.place ≡ place
  pub new : s2.new ≡ Some (put_text s ++ (lead ++ written))
  pub again : (w : List ℕ) → s.new ≡ Some w → (place.more ≡ true) × (lead ≡ [] → ⊥)
  pub at_is : at ≡ place.start + length (put_text s)
  pub was_is : count_of s2.new (place.end - place.start) ≡ was + count_of s.new (place.end - place.start)

-- The same of one of several places (own).
pub record IsPutIn (old new : List SlotView) (place : SlotPlace) (lead written : List ℕ) (at was : ℕ) : Type 0 where
  pub front : List SlotView
  pub slot : SlotView
  pub slot2 : SlotView
  pub back : List SlotView
  pub own : ℕ
  pub old_is : old ≡ front ++ (slot ∷ back)
  pub new_is : new ≡ front ++ (slot2 ∷ back)
  pub put : IsPutAt slot slot2 place lead written own was
  pub at_is : at + olds_of front ≡ own + news_of front

-- what is at a place then (own)
abbrev pub slot_text : List ℕ → SlotView → List ℕ
slot_text t s = put_or s.new (drop s.place.start (take s.place.end t))

-- a text from an offset on, up to where something was put, and on from there (own)
abbrev pub passed : List ℕ → (at start : ℕ) → (stays on : List ℕ) → Option (List ℕ) → List ℕ
passed t at start stays on None = stays
passed t at start stays on (Some w) = drop at (take start t) ++ (w ++ on)

-- a text from an offset on, with what was put at places after that (own)
abbrev pub text_from : List ℕ → ℕ → List SlotView → List ℕ
text_from t at [] = drop at t
text_from t at (s ∷ ss) = passed t at s.place.start (text_from t at ss) (text_from t s.place.end ss) s.new

-- A place comes before another one: something is between them, or a content ends where an item or entry more comes (own).
abbrev pub ComesFirst : SlotPlace → SlotPlace → Type 0
ComesFirst p q = (p.end < q.start) ⊎ ((p.end ≡ q.start) × (p.more ≡ false) × (q.more ≡ true) × (p.start < p.end))

-- the same before the first one of several (own)
abbrev pub IsBeforeFirst : SlotPlace → List SlotPlace → Type 0
IsBeforeFirst p [] = ⊤
IsBeforeFirst p (q ∷ qs) = ComesFirst p q

-- places come one after the other, from an offset on, in a text so long (own)
abbrev pub AreInOrder : ℕ → List SlotPlace → ℕ → Type 0
AreInOrder at [] size = at ≤ size
AreInOrder at (p ∷ ps) size = (at ≤ p.start) × (p.start ≤ p.end) × IsBeforeFirst p ps × AreInOrder p.end ps size

-- the places alone (own)
abbrev pub slot_places : List SlotView → List SlotPlace
slot_places = map (λ s. s.place)

-- places of the code at which nothing was put, if there are any (own)
abbrev pub AreEmpty : List SlotPlace → Option Slots → Type 0
AreEmpty ps o = IfSome o (λ s. (slots_of s ≡ map empty_slot ps) × HasCounts s)
