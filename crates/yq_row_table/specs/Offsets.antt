-- Reading (own; you may skip it): the rows of a text, as the code keeps them: where they begin in it, and how long their pieces are.
use Rattle.std.{specs.Prelude.{◌≡◌, ℕ, zero, suc, ◌+◌, ◌-◌, ℤ, pos, List, [], ◌∷◌, length, map, take, drop}, specs.List.All}
use Rattle.std.specs.Str.{IsUtf8, IsCharBoundary}
use Rattle.yq_row_table.{specs.Rows.before_column, specs.View.Slices}
use Rattle.yq_row_table.specs.declared.offsets.Offsets as declared

-- a text is the end of the whole one (own)
abbrev pub Ends : List ℕ → List ℕ → Type 0
Ends text whole = drop (length whole - length text) whole ≡ text

-- the parent indentation of what comes after a row's mark, by how many columns its indentation and its dashes take, and by how long its colon is (own)
abbrev pub parent_by : ℕ → ℕ → ℤ
parent_by columns zero = before_column columns
parent_by columns (suc colon) = pos columns

-- the pieces of a row, cut from the front of a text (own)
unfoldable pub pieces_of : List ℕ → declared.Offsets → Slices
pieces_of gap o =
    let indent = drop o.gap gap in
    let dashes = drop o.column indent in
    let key = drop o.dashes dashes in
    let colon = drop o.key key in
    let space = drop o.colon colon in
    let anchor = drop o.space space in
    let apart = drop o.anchor anchor in
    let head = drop o.apart apart in
    let tail = drop o.head head in
    let raw = drop o.tail tail in
    record {
      gap = take o.gap gap;
      column = o.column;
      dashes = take o.dashes dashes;
      key = take o.key key;
      colon = take o.colon colon;
      space = take o.space space;
      anchor = take o.anchor anchor;
      apart = take o.apart apart;
      head = take o.head head;
      tail = take o.tail tail;
      raw = take o.raw raw;
      parent = parent_by (o.column + o.dashes) o.colon;
    }

-- the same where the row is in the text (own)
abbrev pub slices_in : List ℕ → declared.Offsets → Slices
slices_in whole o = pieces_of (drop o.start whole) o

-- the same of several rows (own)
abbrev pub rows_in : List ℕ → List declared.Offsets → List Slices
rows_in whole offsets = map (slices_in whole) offsets

-- pieces of these lengths, one after the other, are in front of a text, each cut between characters (own)
abbrev pub AreCuts : List ℕ → List ℕ → Type 0
AreCuts t [] = Unit {0}
AreCuts t (n ∷ ns) = IsCharBoundary t n × AreCuts (drop n t) ns

-- how long the pieces of a row are, in order (own)
abbrev pub lengths : declared.Offsets → List ℕ
lengths o = o.gap ∷ o.column ∷ o.dashes ∷ o.key ∷ o.colon ∷ o.space ∷ o.anchor ∷ o.apart ∷ o.head ∷ o.tail ∷ o.raw ∷ []

-- what comes before a row, and its pieces, are in a text, each cut between characters (own)
abbrev pub IsCutIn : List ℕ → declared.Offsets → Type 0
IsCutIn whole o = AreCuts whole (o.start ∷ lengths o)

-- the same of several rows (own)
abbrev pub AreRowsIn : List ℕ → List declared.Offsets → Type 0
AreRowsIn whole offsets = All (IsCutIn whole) offsets

-- the pieces of a row tell the parent indentation of what comes after its mark (own)
abbrev pub ParentAgrees : Slices → Type 0
ParentAgrees s = s.parent ≡ parent_by (s.column + length s.dashes) (length s.colon)

-- The pieces of a row are characters, and tell the parent indentation of what comes after its mark (own).
pub record AreTexts (s : Slices) : Type 0 where
  pub gap : IsUtf8 s.gap
  pub dashes : IsUtf8 s.dashes
  pub key : IsUtf8 s.key
  pub colon : IsUtf8 s.colon
  pub space : IsUtf8 s.space
  pub anchor : IsUtf8 s.anchor
  pub apart : IsUtf8 s.apart
  pub head : IsUtf8 s.head
  pub tail : IsUtf8 s.tail
  pub raw : IsUtf8 s.raw
  pub parent : ParentAgrees s

-- how long a row is (own)
abbrev pub row_length : Slices → ℕ
row_length s =
    length s.gap + (s.column + (length s.dashes + (length s.key + (length s.colon
    + (length s.space + (length s.anchor + (length s.apart + (length s.head + (length s.tail + length s.raw)))))))))

-- a row that begins after so many bytes, by its lengths (own)
abbrev pub offsets_of : ℕ → Slices → declared.Offsets
offsets_of start s = record {
  start = start;
  gap = length s.gap;
  column = s.column;
  dashes = length s.dashes;
  key = length s.key;
  colon = length s.colon;
  space = length s.space;
  anchor = length s.anchor;
  apart = length s.apart;
  head = length s.head;
  tail = length s.tail;
  raw = length s.raw;
}

-- how many bytes of a row come before its key (own)
abbrev pub before_key : declared.Offsets → ℕ
before_key o = o.gap + o.column + o.dashes

-- the same before its anchor (own)
abbrev pub before_anchor : declared.Offsets → ℕ
before_anchor o = before_key o + o.key + o.colon + o.space

-- the same before its head (own)
abbrev pub before_head : declared.Offsets → ℕ
before_head o = before_anchor o + o.anchor + o.apart
