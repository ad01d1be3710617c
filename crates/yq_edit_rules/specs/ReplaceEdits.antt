-- Replace: what is exchanged, by what is at the place: a clause for each row of the table (YAML 1.2.2, 7 and 8; own).
use Rattle.std.specs.List.{list_any}
use Rattle.std.specs.Prelude.{ℕ, ◌&&◌, not, List, [], ◌∷◌, ◌++◌, Option, Some, None, Bool, false, option_map, if◌then◌else◌}
use Rattle.yq_core.{specs.Answers.◌>>=◌, specs.BlockWritten.{break_text, chomping_of, header_text}, specs.Paths.Step}
use Rattle.yq_core.{specs.Scalar.ScalarText, specs.Text.{is_empty, is_feed, joined, text_lines}, specs.Tree.Node}
use Rattle.yq_core.{specs.Writable.{can_write, is_string}, specs.Written.double, specs.declared.style.Place.TheVariants.Block as InBlock}
use Rattle.yq_core.specs.declared.style.Style.TheVariants.{Literal}
use Rattle.yq_row_table.specs.Rows.{Cut}
use Rattle.yq_places.specs.NodesAt.{node_in, scalar_in}
use Rattle.yq_places.specs.Placements.{Held, LinesIn, Placement, alone, beside, under, compact, block, root, no_rows, placement_at}
use Rattle.yq_documents.specs.Pieces.{TextPiece}
use Rattle.yq_edit_rules.{specs.declared.layout.Layout.Layout, specs.BlockText.block_value}
use Rattle.yq_edit_rules.{specs.ClosedTexts.{is_closed_text, closed_lines_put}, specs.Layouts.layout_of}
use Rattle.yq_edit_rules.specs.PiecePuts.{lines_replaced, piece_replaced}
use Rattle.yq_edit_rules.specs.WrittenValues.{Written, inline, compact_text, lines, value_text, written_at, written_under}
use Rattle.yq_text.specs.Script.{Segment, keep, put}
use Rattle.yq_core.specs.BlockWritten as literal

-- ---- after a key or dash

-- after a space, where nothing is written (own)
abbrev pub spaced_text : List ℕ → List ℕ → List ℕ
spaced_text old t = if is_empty old then 32 ∷ t else t

-- what is put in the place of what a key or dash holds
abbrev pub held_put : List ℕ → Held → Written → List Segment
-- inline: in the place of the head, or after a space where none is; lines below go, up to the last break
held_put br h (inline t) =
    keep h.before ∷ (keep h.space ∷ (put h.head (spaced_text h.head t) ∷ (keep h.white ∷ (keep h.comment ∷
    (put h.break [] ∷ (put h.lines [] ∷ (keep h.last ∷ (keep h.after ∷ []))))))))
-- compact: a space and the text in the place of the white space and the head; lines below go, up to the last break
held_put br h (compact_text t) =
    keep h.before ∷ (put (h.space ++ h.head) (32 ∷ t) ∷ (keep h.white ∷ (keep h.comment ∷
    (put h.break [] ∷ (put h.lines [] ∷ (keep h.last ∷ (keep h.after ∷ [])))))))
-- block lines: the white space and the head go; a break and the lines come at the end of the line, in the place of lines below, up to the last break
held_put br h (lines t) =
    keep h.before ∷ (put (h.space ++ h.head) [] ∷ (keep h.white ∷ (keep h.comment ∷
    (put h.break [] ∷ (put h.lines (br ++ t) ∷ (keep h.last ∷ (keep h.after ∷ [])))))))

-- ---- a block scalar

-- the break of the line of a key or dash
abbrev pub line_break : Held → List ℕ
line_break h = if is_empty h.break then h.last else h.break

-- the break of the last line, where lines are below
abbrev pub raw_last : Held → List ℕ
raw_last h = if is_empty h.break then [] else h.last

-- the lines of a block scalar are replaced by others, each with its break; what comes after the mark is replaced by a header, or goes (8.1)
abbrev pub raw_put : Held → Segment → Segment → List ℕ → List Segment
raw_put h space head raw = keep h.before ∷ (space ∷ (head ∷ (keep h.white ∷ (keep h.comment ∷
    (keep (line_break h) ∷ (put h.lines [] ∷ (put (raw_last h) raw ∷ (keep h.after ∷ []))))))))

-- a text as a literal block scalar in the place of another block scalar: header and lines (8.1.2)
abbrev pub literal_put : List ℕ → Held → ℕ → List ℕ → List Segment
literal_put br h indent t =
    raw_put h (keep h.space) (put h.head (header_text (chomping_of (text_lines t)))) (joined (literal.raw_written indent br (text_lines t)))

-- a string in the place of a block scalar with a text line: a literal one, if it can be, else in double quotes (8.1)
abbrev pub string_put : List ℕ → Held → ℕ → ScalarText → List Segment
string_put br h indent s = if can_write s Literal InBlock then literal_put br h indent s.text else held_put br h (inline (double s.text))

-- a value in the place of a block scalar: a collection on lines in the place of its lines, without the header; else as in the place of what a key or dash
-- holds (8.1, 8.2)
abbrev pub block_put : List ℕ → Held → Written → List Segment
block_put br h (inline t) = held_put br h (inline t)
block_put br h (compact_text t) = held_put br h (compact_text t)
block_put br h (lines t) = raw_put h (put h.space []) (put h.head []) (t ++ br)

-- a value in the place of a block scalar: a string, where that has a text line, as a string; else as above (8.1)
abbrev pub block_scalar_put : (has_text : Bool) → List ℕ → Held → ℕ → Written → Option ScalarText → List Segment
block_scalar_put has_text br h indent w None = block_put br h w
block_scalar_put has_text br h indent w (Some s) = if has_text && is_string s.kind then string_put br h indent s else block_put br h w

-- ---- elsewhere

-- a value after a dash, in the place of the lines of a compact collection: after a space, or a break and the lines (8.2.1)
abbrev pub compact_put : List ℕ → LinesIn → Written → List Segment
compact_put br w (inline t) = lines_replaced w (32 ∷ t)
compact_put br w (compact_text t) = lines_replaced w (32 ∷ t)
compact_put br w (lines t) = lines_replaced w (br ++ t)

-- a value in one line in the place of a lone node; a collection is in flow style (7)
abbrev pub lone_put : TextPiece → Node → List Segment
lone_put w v = piece_replaced w (spaced_text w.text (value_text InBlock w.text v))

-- a value in block style in the place of a root that is a block collection in a column (8.2, 9.1)
abbrev pub root_put : Layout → Node → (column : ℕ) → LinesIn → List Segment
root_put l v column w = lines_replaced w (block_value l column v)

-- the same on lines of its own after the gap of a document without rows (9.1)
abbrev pub no_rows_put : Layout → Node → TextPiece → List Segment
no_rows_put l v w = piece_replaced w (closed_lines_put (is_closed_text w.before) (break_text l.br) (block_value l 0 v))

-- ---- the table

-- a value put where something is outside flow collections
abbrev pub value_put : (has_text : Bool) → Layout → Node → Placement → List Segment
value_put has_text l v (alone w) = lone_put w v
value_put has_text l v (beside h) = held_put (break_text l.br) h (written_at l h.mark h.head v)
value_put has_text l v (under h column) = held_put (break_text l.br) h (written_under l h.mark v)
value_put has_text l v (compact mark column w) = compact_put (break_text l.br) w (written_at l mark [] v)
value_put has_text l v (block h indent) = block_scalar_put has_text (break_text l.br) h indent (written_at l h.mark [] v) (scalar_in v)
value_put has_text l v (root column w) = root_put l v column w
value_put has_text l v (no_rows w) = no_rows_put l v w

-- whether there is a scalar, and it holds more than line breaks: a block scalar that does has a text line (8.1)
abbrev pub holds_text : Option ScalarText → Bool
holds_text None = false
holds_text (Some s) = list_any (λ b. not (is_feed b)) s.text

-- whether there is a node, and it is a scalar that holds more than line breaks
abbrev pub has_text : Option Node → Bool
has_text n = holds_text (n >>= scalar_in)

-- a value put where steps lead in document n, if something is there outside flow collections
abbrev pub value_put_at : ℕ → List Step → Node → Cut → Option (List Segment)
value_put_at n steps v c = option_map (value_put (has_text (node_in n steps c)) (layout_of n c) v) (placement_at n steps c)
