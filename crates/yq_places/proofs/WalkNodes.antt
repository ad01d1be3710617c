-- What is under a line or a document, and in which row of a cut a line is.
use Rattle.std.proofs.Common.{rules, ◌≡◌, ◌⊎◌, inl, inr, ℕ, suc, ◌+◌, ◌-◌, ◌<◌, ◌≤◌, eqb, true, false, cond, not, List, [], ◌∷◌, length}
use Rattle.std.proofs.Common.{get_or, Option, Some, None, refl, sym, ap, ◌∙◌, arith}
use Rattle.std.proofs.lemmas.Bool.{cases_lt, false≢true, eq-eqb, ne_eqb, eqb-true, lt-ltb, le-ltb, cond-true, cond-false}
use Rattle.std.{proofs.lemmas.List.drop_all, proofs.lemmas.Option.slice_get_cases, specs.List.slice_get}
use Rattle.yq_core.{specs.Answers.◌>>=◌, specs.Paths.Step}
use Rattle.yq_outline.{specs.Ends.{has_no_lines, part, deeper_count, lines_end}, specs.Outline.{Line, level}}
use Rattle.yq_outline.{proofs.EndsLaws.{drop_at, not_end, part_row, part_stop}, proofs.LineEnds.end_line, proofs.NameLaws.above}
use Rattle.yq_outline.{specs.RowWalk.{IsLine, line_number, lines_stop}, specs.declared.line_position.Position.Position}
use Rattle.yq_outline.{specs.declared.line_position.Stretch.Stretch, proofs.WalkPositions.located}
use Rattle.yq_row_table.{specs.Rows.{Row, Cut}, specs.View.{rows_of, RowsView}}
use Rattle.yq_documents.specs.LinesInRows.{row_line}
use Rattle.yq_places.{specs.RowWalk.InCut, proofs.EntryPlaceLaws.row_there, proofs.WalkDocuments.row_line_number}

-- lines that are deeper than a level end where they begin exactly where there are none
pub stops_here : (ls : List Line) (n floor : ℕ) → eqb n (lines_stop n floor ls) ≡ has_no_lines (part ls n floor)
stops_here ls n floor = go ((slice_get_cases ls n).1)
  where
    go2 : (m : Line) → slice_get ls n ≡ Some m → (floor < level m) ⊎ (level m ≤ floor) → eqb n (lines_stop n floor ls) ≡ has_no_lines (part ls n floor)
    go2 m at deep = search (rules, drop_at, cond-true, lt-ltb, ne_eqb, part_row, cond-false, le-ltb, eq-eqb, part_stop)

    go : ((x : Line) × (n < length ls) × (slice_get ls n ≡ Some x) × (get_or ls n x ≡ x)) ⊎ ((length ls ≤ n) × (slice_get ls n ≡ None)) → eqb n (lines_stop n floor ls) ≡ has_no_lines (part ls n floor)
    go (inr past) = search (rules, drop_all, eq-eqb)
    go (inl there) = go2 there.0 there.2 (cases_lt floor (level there.0))

-- what is said of the first of them
module _ {A : Type 0} (ls : List Line) (n floor : ℕ) (said : Line → Option A) where
  pub none_here : false ≡ not (has_no_lines (part ls n floor)) → None ≡ cond (eqb n (lines_stop n floor ls)) None (slice_get ls n >>= said)
  none_here h0 = search (rules, cond-true, stops_here, false≢true)

  pub first_here : (l : Line) → slice_get ls n ≡ Some l → true ≡ not (has_no_lines (part ls n floor)) → said l ≡ cond (eqb n (lines_stop n floor ls)) None (slice_get ls n >>= said)
  first_here l is some = ap (λ (o : Option Line). o >>= said) (sym is) ∙ sym (cond-false _ None (slice_get ls n >>= said) (stops_here ls n floor ∙ not_end _ some))

-- where the lines under a line end, and those of a document
pub line_stop : (ls : List Line) (n : ℕ) (l : Line) → slice_get ls n ≡ Some l → lines_stop (suc n) (level l) ls ≡ lines_end n ls
line_stop ls n l is = sym (end_line ls n l is)

pub all_stop : (ls : List Line) → lines_stop 0 0 ls ≡ length ls
all_stop ls = omega (arith, all ls)
  where
    all : (ls : List Line) → deeper_count 0 ls ≡ length ls
    all [] = refl
    all (l ∷ ls) = cond-true _ (suc (deeper_count 0 ls)) 0 (lt-ltb 0 (level l) (above l)) ∙ ap suc (all ls)

-- steps of which there are none
pub no_steps : (steps : List Step) → true ≡ eqb (length steps) 0 → steps ≡ []
no_steps [] e = refl
no_steps (s ∷ ss) e = absurd (omega (arith, eqb-true (length (s ∷ ss)) 0 (sym e)))

-- the row of a line among those of a cut
module _ (s : RowsView) (d : Stretch) (c : Cut) (k : InCut s d c) (q : Position) (at : IsLine s d q) where
  abbrev pub row_is : Row
  row_is = (located s d k.document.are_there q at).row

  pub row_line_is : row_line (line_number d k.document.are_there.rows q) k.document.are_there.rows ≡ Some (record { before = q.row - d.first; row = row_is; line = q.line })
  row_line_is = let l = located s d k.document.are_there q at in row_line_number k.document.are_there.rows (q.row - d.first) q.line l.row l.there l.within

  pub before_is : d.first + (q.row - d.first) ≡ q.row
  before_is = omega (arith, at.from)

  pub row_in_cut : slice_get (rows_of c) q.row ≡ Some row_is
  row_in_cut = ap (slice_get (rows_of c)) (sym before_is)
      ∙ row_there c k.document.are_there.rows k.more d.first (line_number d k.document.are_there.rows q)
      (record { before = q.row - d.first; row = row_is; line = q.line }) k.there row_line_is

  -- what is said of that row is said of the line's
  pub row_known : {A : Type 0} (said : ℕ → Row → Option A) (found : Option A) → ((r : Row) → slice_get (rows_of c) q.row ≡ Some r → found ≡ said q.row r) →
      found ≡ (row_line (line_number d k.document.are_there.rows q) k.document.are_there.rows >>= λ s. said (d.first + s.before) s.row)
  row_known said found agrees = search (rules, row_in_cut, before_is, row_line_is)
