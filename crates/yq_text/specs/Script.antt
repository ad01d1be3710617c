-- What an edit keeps of a text and what it exchanges, in order, and the splices of that.
use Rattle.std.specs.Prelude.{◌≡◌, ℕ, ◌+◌, ◌-◌, Bool, true, false, List, [], ◌∷◌, ◌++◌, length, take, drop, if◌then◌else◌, ⊤}
use Rattle.std.specs.Str.{bytes_eq}
use Rattle.yq_text.specs.Splice.{Splice}

-- a segment of a text: it stays, or it is replaced by another one (own)
pub data Segment : Type 0 where
  keep : (text : List ℕ) → Segment
  put : (old new : List ℕ) → Segment

-- the text that segments are of (own)
abbrev pub old_text : List Segment → List ℕ
old_text [] = []
old_text (keep t ∷ ss) = t ++ old_text ss
old_text (put o w ∷ ss) = o ++ old_text ss

-- the text that they make of it (own)
abbrev pub new_text : List Segment → List ℕ
new_text [] = []
new_text (keep t ∷ ss) = t ++ new_text ss
new_text (put o w ∷ ss) = w ++ new_text ss

-- the text before what is at its end (own)
abbrev pub script_text_before : List ℕ → List ℕ → List ℕ
script_text_before t after = take (length t - length after) t

-- a kept segment before others; no bytes are no segment (own)
abbrev pub keep_before : List ℕ → List Segment → List Segment
keep_before [] ss = ss
keep_before (b ∷ t) [] = keep (b ∷ t) ∷ []
keep_before (b ∷ t) (keep u ∷ ss) = keep (b ∷ (t ++ u)) ∷ ss
keep_before (b ∷ t) (put o w ∷ ss) = keep (b ∷ t) ∷ (put o w ∷ ss)

-- an exchanged segment before others: with one that it touches it is one, their new bytes in order (own)
abbrev pub put_before : List ℕ → List ℕ → List Segment → List Segment
put_before o w [] = put o w ∷ []
put_before o w (keep t ∷ ss) = put o w ∷ (keep t ∷ ss)
put_before o w (put p x ∷ ss) = put (o ++ p) (w ++ x) ∷ ss

-- segments of which no two of one sort touch (own)
abbrev pub merged : List Segment → List Segment
merged [] = []
merged (keep t ∷ ss) = keep_before t (merged ss)
merged (put o w ∷ ss) = put_before o w (merged ss)

-- an exchange of bytes at an offset; none where they are the same (own)
abbrev pub splice_at : ℕ → List ℕ → List ℕ → List Splice
splice_at n o w = if bytes_eq o w then [] else (record { at = n; old = o; new = w } ∷ [])

-- a splice for each exchanged segment, after n bytes of the text as it then is (own)
abbrev pub splices_at : ℕ → List Segment → List Splice
splices_at n [] = []
splices_at n (keep t ∷ ss) = splices_at (n + length t) ss
splices_at n (put o w ∷ ss) = splice_at n o w ++ splices_at (n + length w) ss

-- the splices of segments that come after n bytes of a text (own)
abbrev pub changes_after : ℕ → List Segment → List Splice
changes_after n ss = splices_at n (merged ss)

-- the splices of an edit (own)
unfoldable pub changes : List Segment → List Splice
changes ss = changes_after 0 ss

-- the segments with each exchange turned round (own)
abbrev pub swapped_segments : List Segment → List Segment
swapped_segments [] = []
swapped_segments (keep t ∷ ss) = keep t ∷ swapped_segments ss
swapped_segments (put o w ∷ ss) = put w o ∷ swapped_segments ss

-- the bytes that stay, in order (own)
abbrev pub kept_text : List Segment → List ℕ
kept_text [] = []
kept_text (keep t ∷ ss) = t ++ kept_text ss
kept_text (put o w ∷ ss) = kept_text ss

-- whether segments are all kept ones (own)
abbrev pub are_kept : List Segment → Bool
are_kept [] = true
are_kept (keep t ∷ ss) = are_kept ss
are_kept (put o w ∷ ss) = false

-- the text of the kept segments in front of the first one that is replaced (own)
abbrev pub kept_front : List Segment → List ℕ
kept_front [] = []
kept_front (keep t ∷ ss) = t ++ kept_front ss
kept_front (put o w ∷ ss) = []

-- the text of the kept segments after the last one that is replaced (own)
abbrev pub kept_back : List Segment → List ℕ
kept_back [] = []
kept_back (keep t ∷ ss) = if are_kept ss then t ++ kept_back ss else kept_back ss
kept_back (put o w ∷ ss) = kept_back ss

-- the segments from the first one that is replaced on (own)
abbrev pub from_first : List Segment → List Segment
from_first [] = []
from_first (keep t ∷ ss) = from_first ss
from_first (put o w ∷ ss) = put o w ∷ ss

-- the segments up to the last one that is replaced (own)
abbrev pub to_last : List Segment → List Segment
to_last [] = []
to_last (keep t ∷ ss) = if are_kept ss then [] else keep t ∷ to_last ss
to_last (put o w ∷ ss) = put o w ∷ to_last ss

-- A range of a text: from an offset up to another one (own).
pub record Extent : Type 0 where
  pub from : ℕ
  pub to : ℕ

-- the places of the exchanged segments in the old text, after n bytes (own)
abbrev pub extents : ℕ → List Segment → List Extent
extents n [] = []
extents n (keep t ∷ ss) = extents (n + length t) ss
extents n (put o w ∷ ss) = record { from = n; to = n + length o } ∷ extents (n + length o) ss

-- the bytes of a text outside extents in order, where it begins at offset n (own)
abbrev pub outside : ℕ → List Extent → List ℕ → List ℕ
outside n [] t = t
outside n (e ∷ es) t = take (e.from - n) t ++ outside e.to es (drop (e.to - n) t)

-- whether bytes are those that a segment has already (own)
abbrev pub Stays : Segment → Type 0
Stays (keep t) = ⊤
Stays (put o w) = o ≡ w

-- each segment stays as it is (own)
abbrev pub AllStay : List Segment → Type 0
AllStay [] = ⊤
AllStay (s ∷ ss) = Stays s × AllStay ss
