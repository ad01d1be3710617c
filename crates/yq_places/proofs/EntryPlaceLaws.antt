-- The places of entries and of their contents, by lines or in flow.
use Rattle.std.proofs.Common.{◌≡◌, ℕ, suc, ◌+◌, ◌-◌, ◌≤◌, eqb, List, [], ◌∷◌, ◌++◌, length, drop, Option, Some, None, option_map}
use Rattle.std.proofs.Common.{option_and_then, true, false, ap, ◌<◌, take, rules}
use Rattle.std.{proofs.lemmas.Bool.{ltb-false, eq-eqb, eqb-true, false≢true}, proofs.lemmas.Option.same_Some, specs.List.slice_get}
use Rattle.yq_core.{specs.Answers.◌>>=◌, specs.Paths.Step, specs.Entries.{PlacedEntry, entry_place, content_place}, specs.Places.Placed}
use Rattle.yq_row_table.{specs.Exchange.after_row, specs.Rows.{Row, Cut, cut_text}, specs.View.{rows_of, Bound}}
use Rattle.yq_documents.{specs.FlowReading.row_flow, specs.declared.path.Path.Path, specs.LinesInRows.{RowLine, row_line, row_line_at}}
use Rattle.yq_outline.{specs.Places.{lines_before, FoundLine}, specs.Lines.lines_of_rows, specs.Ends.reached, proofs.Values.If}
use Rattle.yq_outline.{proofs.KnownLaws.{get_dropped, get_front}, specs.declared.line_position.Position.Position}
use Rattle.yq_places.specs.EntryReading.{entry_at, content_row_place, entry_within, flow_entry_from, flow_entry_of, line_entry_at}
use Rattle.yq_places.{specs.EntryReading.{line_content_at, flow_entry_at}, specs.RowLineReading.position_in}
use Rattle.yq_places.proofs.FlowPlaceLaws.{flow_agrees}

-- a line is one of its row, and that is one of the rows
abbrev pub IsLineInRow : List Row → RowLine → Type 0
IsLineInRow rs s = (slice_get rs s.before ≡ Some s.row) × (s.line ≤ length s.row.dashes)

line_in_row : (n : ℕ) (rs : List Row) → If (row_line n rs) (IsLineInRow rs)
line_in_row n [] = tt
line_in_row n (r ∷ rs) = search (rules, ltb-false, line_in_row (n - suc (length r.dashes)) rs)

pub row_line_is : (n : ℕ) (rs : List Row) (s : RowLine) → row_line n rs ≡ Some s → IsLineInRow rs s
row_line_is n rs s e = go (row_line n rs) (line_in_row n rs) e
  where
    go : (o : Option RowLine) → If o (IsLineInRow rs) → o ≡ Some s → IsLineInRow rs s
    go o h1 h2 = search (rules, same_Some)

-- the row of a line of rows that are among those of a cut
pub row_there : (c : Cut) (rs more : List Row) (first n : ℕ) (s : RowLine) → drop first (rows_of c) ≡ rs ++ more → row_line n rs ≡ Some s → slice_get (rows_of c) (first + s.before) ≡ Some s.row
row_there c rs more first n s there e = cc (get_dropped (rows_of c) first s.before, get_front rs more s.before s.row (row_line_is n rs s e).0)

-- a place in a text
abbrev pub TextSpan : Type 0
TextSpan = Option (ℕ × ℕ)

-- where steps go on in the head of a line
pub flow_left : (k : ℕ) (c : Cut) (rs : List Row) (steps left : List Step) (n : ℕ) (q : RowLine) (flow : Option Placed) (found : Option PlacedEntry) → row_line n rs ≡ Some q →
    flow ≡ row_flow (length (cut_text c)) q.row (after_row (k + q.before) c) → found ≡ entry_within left flow → Some (n, left) ≡ reached steps (lines_of_rows rs) → false ≡ eqb (length left) 0 → found ≡ flow_entry_of k c rs steps
flow_left k c rs steps left n q flow found h1 h2 h3 h4 h5 = search (rules, false≢true, eq-eqb, flow_agrees)

pub no_flow_left : (k : ℕ) (c : Cut) (rs : List Row) (steps left : List Step) (n : ℕ) → Some (n, left) ≡ reached steps (lines_of_rows rs) → true ≡ eqb (length left) 0 → None ≡ flow_entry_of k c rs steps
no_flow_left k c rs steps left n h1 h2 = search (rules, eqb-true)

pub no_flow : (k : ℕ) (c : Cut) (rs : List Row) (steps : List Step) → None ≡ reached steps (lines_of_rows rs) → None ≡ flow_entry_of k c rs steps
no_flow k c rs steps e = ap (λ (o : Option (ℕ × List Step)). o >>= λ x. flow_entry_from k c rs x.0 x.1) e

-- the place of what is in a line, or in flow
abbrev pub or_flow : TextSpan → TextSpan → TextSpan
or_flow None y = y
or_flow (Some x) y = Some x

-- where a path leads among lines, by the number of the line
abbrev pub by_line : Option (FoundLine × List Step) → Option (ℕ × List Step)
by_line o = option_map (λ x. (length (lines_before x.0.place), x.1)) o

pub entry_either : (p : Path) (c : Cut) → entry_at p c ≡ or_flow (line_entry_at p c) (option_map entry_place (flow_entry_at p c))
entry_either p c = search rules

pub content_either : (p : Path) (c : Cut) → content_row_place p c ≡ or_flow (line_content_at p c) (option_and_then (λ (e : PlacedEntry). content_place e.1) (flow_entry_at p c))
content_either p c = search rules

pub row_line_entry : (p : Path) (c : Cut) (first : ℕ) (x : Position) → Some x ≡ option_map (position_in first) (row_line_at p c) → line_entry_at p c ≡ entry_at p c
row_line_entry p c first x e = search rules

-- ---- the first of the ends of parts before a row

first_taken : (bs : List Bound) (from k : ℕ) (b : Bound) → slice_get bs from ≡ Some b → take (suc k) (drop from bs) ≡ b ∷ take k (drop (suc from) bs)
first_taken (x ∷ bs) (suc from) k b h = first_taken bs from k b h
first_taken bs from k b h = search (rules, same_Some)

pub range_first : (bs : List Bound) (from to : ℕ) (b : Bound) → slice_get bs from ≡ Some b → from < to → take (to - from) (drop from bs) ≡ b ∷ take (to - from - 1) (drop (suc from) bs)
range_first bs from to b h less = search (rules, first_taken)
