-- Reading (own; you may skip it: the clauses `found` and `only` show that it agrees with the grammar).
use Rattle.std.specs.Prelude.{ℕ, zero, suc, ◌+◌, ℤ, Bool, true, false, ◌||◌, ◌&&◌, not, ◌==◌, nat_le, List, [], ◌∷◌, ◌++◌, length, take}
use Rattle.std.{specs.Prelude.{drop, if◌then◌else◌, Option, Some, None}, specs.List.prefix_len, specs.Str.chars}
use Rattle.yq_core.{specs.Answers.◌>>=◌, specs.BlockReading.block_at, specs.Characters.is_text, specs.Piece.deeper}
use Rattle.yq_core.specs.Text.{cut, upto, front, is_empty, unless, no_space, no_white, past_white, ends_line, separates, is_marker}
use Rattle.yq_core.{specs.Text.{line_len, cut_line}, specs.Lines.is_hash, specs.Inline.depth_limit}
use Rattle.yq_core.{specs.Nodes.{begins_with, in_name, begins_node}, specs.Reading.{read_scalar, name_at, all_node}}
use Rattle.yq_core.specs.FitKeys.{key_limit}
use Rattle.yq_text.specs.Limit.{text_limit}
use Rattle.yq_row_table.specs.Grammar.{is_entry, may_be_alone, Limit, unlimited, allows, limit_after, no_rows, begins_document, ends_part}
use Rattle.yq_row_table.specs.Rows.{RowMark, Bare, Dash, Key, Anchor, Content, Nothing, Inline, Block, Row, after_columns, parent_of, Part}
use Rattle.yq_row_table.specs.Rows.{Cut, last, marked}

-- a blank line or a comment line in front (own)
abbrev pub begins_gap : List ℕ → Bool
begins_gap t = not (is_empty t) && (ends_line (past_white t) || is_hash (past_white t))

-- how long the lines of a gap in front are, at most n of them (own)
unfoldable pub gap_lines : ℕ → List ℕ → ℕ
gap_lines zero t = 0
gap_lines (suc n) t = if begins_gap t then line_len t + gap_lines n (drop (line_len t) t) else 0

-- how long the gap in front is (own)
abbrev pub gap_len : List ℕ → ℕ
gap_len t = gap_lines (length t) t

-- the gap in front, and what follows it (own)
abbrev pub cut_gap : List ℕ → List ℕ × List ℕ
cut_gap t = (take (gap_len t) t, drop (gap_len t) t)

-- the `:` of a key in front (own)
abbrev pub is_colon : List ℕ → Bool
is_colon [] = false
is_colon (b ∷ bs) = b == 58 && separates bs

-- white space and the `:` of a key, and what follows (own)
unfoldable pub read_colon : List ℕ → Option (List ℕ × List ℕ)
read_colon t =
    let n = upto no_white t in
    if is_colon (drop n t) then Some (take (suc n) t, drop (suc n) t) else None

-- a key, what comes after it up to its `:`, and what follows (own)
unfoldable pub read_row_key : List ℕ → Option (List ℕ × List ℕ × List ℕ)
read_row_key t = do
  key ← read_scalar false None t
  colon ← read_colon key.1
  if nat_le (length (chars key.0) + length (chars colon.0)) (key_limit + 1) then Some (key.0, colon.0, colon.1) else None

-- a `:` is in front of the end of the line (own)
abbrev pub holds_colon : List ℕ → Bool
holds_colon t = begins_with 58 (drop (prefix_len (λ b. not (b == 58) && not (b == 10)) t) t)

-- a dash in front: `-` before white space, a break or the end (YAML 1.2.2, section 8.2.1)
abbrev pub is_dash : List ℕ → Bool
is_dash [] = false
is_dash (b ∷ bs) = b == 45 && separates bs

-- there is something (own)
abbrev pub is_some : {A : Type 0} → Option A → Bool
is_some None = false
is_some (Some a) = true

-- a dash or a key in front (own)
abbrev pub begins_entry : List ℕ → Bool
begins_entry t = is_dash t || is_some (read_row_key t)

-- the mark of a key that was read, or none, and what follows (own)
abbrev pub key_mark : List ℕ → Option (List ℕ × List ℕ × List ℕ) → RowMark × List ℕ
key_mark t None = (Bare, t)
key_mark t (Some k) = (Key k.0 k.1, k.2)

-- the mark in front that is no dash, and what follows (own)
abbrev pub mark_at : List ℕ → RowMark × List ℕ
mark_at t = key_mark t (read_row_key t)

-- dashes, the mark after them, and what follows (own)
abbrev pub Marks : Type 0
Marks = List ℕ × RowMark × List ℕ

-- one more dash in front, before so many spaces (own)
abbrev pub with_dash : ℕ → Marks → Marks
with_dash n m = (n ∷ m.0, m.1, m.2)

-- no dashes, and a mark (own)
abbrev pub undashed : RowMark × List ℕ → Marks
undashed m = ([], m.0, m.1)

-- the dashes in front, at most n of them, the mark after them, and what follows (own)
unfoldable pub dashes_at : ℕ → List ℕ → Marks
dashes_at zero t = undashed (mark_at t)
dashes_at (suc n) t =
    if is_dash t then (
    let s = cut no_space (drop 1 t) in
    if not (is_empty s.0) && begins_entry s.1 then with_dash (length s.0) (dashes_at n s.1) else ([], Dash, drop 1 t))
    else undashed (mark_at t)

-- all dashes in front, the mark after them, and what follows (own)
abbrev pub read_marks : List ℕ → Marks
read_marks t = dashes_at (length t) t

-- a tail, and what follows (own)
unfoldable pub read_tail : List ℕ → Option (List ℕ × List ℕ)
read_tail t =
    let c = cut no_white t in
    if ends_line c.1 || (not (is_empty c.0) && is_hash c.1) then Some (cut_line t) else None

-- what follows an anchor and white space, if one is in front (own)
abbrev pub past_anchor : List ℕ → List ℕ
past_anchor t = if begins_with 38 t then past_white (drop (upto (unless in_name) (drop 1 t)) (drop 1 t)) else t

-- a block scalar begins here, perhaps after an anchor (YAML 1.2.2, section 8.1)
abbrev pub begins_block : List ℕ → Bool
begins_block t = front (λ b. b == 124 || b == 62) (past_anchor t)

-- the anchor before a block scalar, if there is one, and what follows (own)
unfoldable pub anchor_at : List ℕ → Option (Option Anchor × List ℕ)
anchor_at t =
    if begins_with 38 t then (do
      name ← name_at (drop 1 t)
      Some (Some (record { name = name.0; gap = (cut no_white name.1).0 }), (cut no_white name.1).1))
    else Some (None, t)

-- a block scalar after white space, and what follows (own)
unfoldable pub block_content_at : ℤ → List ℕ → List ℕ → Option (Content × List ℕ)
block_content_at n space t = do
  anchor ← anchor_at t
  block ← block_at (deeper n) anchor.1
  Some (Block space anchor.0 block.0, block.1)

-- an inline node after white space, and its tail, and what follows (own)
unfoldable pub inline_content_at : ℤ → List ℕ → List ℕ → Option (Content × List ℕ)
inline_content_at n space t = do
  node ← all_node false (Some (deeper n)) depth_limit t
  tail ← read_tail node.1
  Some (Inline space node.0 tail.0, tail.1)

-- what comes after a mark, below a parent of this indentation, and what follows (own)
unfoldable pub read_content : ℤ → List ℕ → Option (Content × List ℕ)
read_content n t =
    let c = cut no_white t in
    if begins_block c.1 then block_content_at n c.0 c.1
    else (if begins_node false c.1 then inline_content_at n c.0 c.1
    else (read_tail t >>= λ x. Some (Nothing x.0, x.1)))

-- a mark may come before what was read after it (own)
abbrev pub fits : RowMark → Content → Bool
fits mark content = is_entry mark || may_be_alone content

-- a row after its gap and indentation, whose marks were read, and what follows (own)
unfoldable pub marked_row_at : List ℕ → ℕ → Marks → Option (Row × List ℕ)
marked_row_at gap column m = do
  content ← read_content (parent_of m.1 (after_columns column m.0)) m.2
  if fits m.1 content.0 then Some (record { gap = gap; column = column; dashes = m.0; mark = m.1; content = content.0 }, content.1) else None

-- a row after its gap, and what follows (own)
unfoldable pub row_at : Limit → List ℕ → List ℕ → Option (Row × List ℕ)
row_at limit gap t =
    let indent = cut no_space t in
    let column = length indent.0 in
    if allows limit column && not (column == 0 && is_marker indent.1) then marked_row_at gap column (read_marks indent.1) else None

-- rows before those of a part (own)
abbrev pub with_rows : List Row → Part × List ℕ → Part × List ℕ
with_rows rows x = (record { rows = rows ++ x.0.rows; end = x.0.end }, x.1)

-- the rows of a part, at most n of them, the gap after the last one, and what follows (own)
unfoldable pub rows_at : ℕ → Limit → List ℕ → Option (Part × List ℕ)
rows_at zero limit t = None
rows_at (suc n) limit t =
    let gap = cut_gap t in
    if ends_part gap.1 then Some (record { rows = []; end = gap.0 }, gap.1) else (do
      row ← row_at limit gap.0 gap.1
      rows ← rows_at n (limit_after row.0) row.1
      Some (with_rows (row.0 ∷ []) rows))

-- all the rows of a part, the gap after the last one, and what follows (own)
abbrev pub all_rows : Limit → List ℕ → Option (Part × List ℕ)
all_rows limit t = rows_at (suc (length t)) limit t

-- a part in which a document is open or there are no rows, and what follows (own)
unfoldable pub read_cut_part : Bool → List ℕ → Option (Part × List ℕ)
read_cut_part started t = do
  part ← all_rows unlimited t
  if started || no_rows part.0.rows then Some part else None

-- the line of a marker in front, and what follows (own)
unfoldable pub marker_at : List ℕ → Option (List ℕ × List ℕ)
marker_at t = read_tail (drop 3 t) >>= λ x. Some (take 3 t ++ x.0, x.1)

-- the parts of a text, at most n of them (own)
unfoldable pub parts_at : ℕ → Bool → List ℕ → Option Cut
parts_at zero started t = None
parts_at (suc n) started t = do
  part ← read_cut_part started t
  if is_empty part.1 then Some (last part.0) else (do
    marker ← marker_at part.1
    parts ← parts_at n (begins_document marker.0) marker.1
    Some (marked part.0 marker.0 parts))

-- all parts of a text (own)
abbrev pub all_parts : Bool → List ℕ → Option Cut
all_parts started t = parts_at (suc (length t)) started t

-- a text, cut into its rows and markers (own)
unfoldable pub scan_at : List ℕ → Option Cut
scan_at t = if nat_le (length t) text_limit && is_text t then all_parts true t else None
