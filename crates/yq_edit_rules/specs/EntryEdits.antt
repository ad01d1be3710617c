-- Append and Remove: what is exchanged, by what is at the place (YAML 1.2.2, 8.2; own).
use Rattle.std.{specs.Option.option_or, specs.Prelude.{ℕ, not, List, [], ◌∷◌, ◌++◌, replicate, Option, Some, None, option_map}}
use Rattle.yq_core.{specs.Answers.◌>>=◌, specs.BlockWritten.break_text, specs.Paths.Step, specs.Text.is_empty, specs.Tree.Node}
use Rattle.yq_row_table.specs.Rows.{Cut}
use Rattle.yq_places.{specs.FirstPlaces.first_removal, specs.RemovalPlaces.removal_place}
use Rattle.yq_places.specs.Placements.{Held, Placement, alone, beside, under, compact, block, root, no_rows, placement_at}
use Rattle.yq_edit_rules.{specs.declared.layout.Layout.Layout, specs.BlockText.block_value, specs.ClosedTexts.closed_lines_put}
use Rattle.yq_edit_rules.{specs.Layouts.layout_of, specs.PiecePuts.after_lines, specs.Removing.{first_removed, rows_removed}}
use Rattle.yq_text.specs.Script.{Segment, keep, put}
use Rattle.yq_edit_rules.specs.Alone as single

-- ---- Append

-- an item or entry on lines that begin at a column, up to its last break (8.2)
abbrev pub entry_lines : Layout → ℕ → Option (List ℕ) → Node → List ℕ
entry_lines l column key v = replicate column 32 ++ block_value l column (single.singleton key v)

-- the lines of one more item or entry after the last line of a block collection, with a break after them, or in front where that line has none (8.2)
abbrev pub more_lines : Layout → Option (List ℕ) → Node → ℕ → List ℕ → List ℕ
more_lines l key v column last = closed_lines_put (not (is_empty last)) (break_text l.br) (entry_lines l column key v)

-- these lines put after what a key or dash holds
abbrev pub after_held : Held → List ℕ → List Segment
after_held h new =
    keep h.before ∷ (keep h.space ∷ (keep h.head ∷ (keep h.white ∷ (keep h.comment ∷
    (keep h.break ∷ (keep h.lines ∷ (keep h.last ∷ (put [] new ∷ (keep h.after ∷ [])))))))))

-- one more item or entry at the end of what is there, if that is a block collection (8.2)
abbrev pub block_more : Layout → Option (List ℕ) → Node → Placement → Option (List Segment)
block_more l key v (alone w) = None
block_more l key v (beside h) = None
block_more l key v (under h column) = Some (after_held h (more_lines l key v column h.last))
block_more l key v (compact mark column w) = Some (after_lines w (more_lines l key v column w.last))
block_more l key v (block h indent) = None
block_more l key v (root column w) = Some (after_lines w (more_lines l key v column w.last))
block_more l key v (no_rows w) = None

-- the same where steps lead in document n
abbrev pub more_at : ℕ → List Step → Cut → Option (List ℕ) → Node → Option (List Segment)
more_at n steps c key v = placement_at n steps c >>= block_more (layout_of n c) key v

-- ---- Remove

-- one of several items or entries of a block collection taken out: with its rows, if it begins one; else it is the first one of a compact collection (8.2)
abbrev pub one_removed : ℕ → List Step → Cut → Option (List Segment)
one_removed n steps c = option_or (option_map rows_removed (removal_place n steps c)) (option_map first_removed (first_removal n steps c))
