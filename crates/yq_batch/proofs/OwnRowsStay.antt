-- The rows of an item or entry, whatever rows come after them.
use Rattle.std.proofs.Common.{◌≡◌, ℕ, suc, ◌+◌, ◌-◌, Bool, true, false, cond, eqb, ltb, List, [], ◌∷◌, ◌++◌, length, take, drop, Option}
use Rattle.std.proofs.Common.{Some, None, option_map, refl, ap, ◌∙◌, arith, length-append}
use Rattle.std.{proofs.Math.Seq.{take-append_seam, drop-append_seam}, proofs.lemmas.Bool.{cond-false, cond-true, le-ltb, lt-ltb}}
use Rattle.yq_core.{specs.Answers.◌>>=◌, specs.Paths.Step}
use Rattle.yq_row_table.specs.Rows.{Row}
use Rattle.yq_outline.{specs.Comments.head_comment, specs.Ends.{deeper_count, line_at_steps, lines_end}}
use Rattle.yq_outline.{specs.Lines.{row_lines, lines_of_rows}, specs.Outline.{Line, level}, proofs.LineEnds.following_end}
use Rattle.yq_outline.proofs.RowLaws.{lines_count}
use Rattle.yq_documents.specs.LinesInRows.{RowLine, one_row_later, row_line}
use Rattle.yq_places.{specs.RemovalPlaces.{OwnRows, in_three, own_rows, row_count}, proofs.UnderExchange.lines_append}
use Rattle.yq_places.proofs.UptoLaws.{line_stays}
use Rattle.yq_edit_rules.{specs.LineRows.Begins, proofs.OwnRowLaws.count_rows}

-- ---- lines

none_deeper : (n : ℕ) (ls : List Line) → Begins n ls → deeper_count n ls ≡ 0
none_deeper n [] h = refl
none_deeper n (l ∷ ls) h = cond-false (ltb n (level l)) (suc (deeper_count n ls)) 0 (le-ltb n (level l) h)

-- lines that are all deeper, before others
all_deeper : (n : ℕ) (xs ys : List Line) → deeper_count n xs ≡ length xs → deeper_count n (xs ++ ys) ≡ length xs + deeper_count n ys
all_deeper n [] ys h = omega arith
all_deeper n (l ∷ xs) ys h = go (λ k. all_deeper n xs ys k) (ltb n (level l)) h
  where
    go : (deeper_count n xs ≡ length xs → deeper_count n (xs ++ ys) ≡ length xs + deeper_count n ys) → (b : Bool) → cond b (suc (deeper_count n xs)) 0 ≡ suc (length xs) →
        cond b (suc (deeper_count n (xs ++ ys))) 0 ≡ suc (length xs) + deeper_count n ys
    go more true h = omega (arith, more (omega (arith, h)))
    go more false h = absurd (omega (arith, h))

-- ---- rows

pub row_size : (r : Row) → length (row_lines r) ≡ suc (length r.dashes)
row_size r = lines_count (head_comment r.gap) r.column r.dashes r.mark r.content

-- the first line of a row after others
row_first : (f : List Row) (r : Row) (rest : List Row) → row_line (length (lines_of_rows f)) (f ++ (r ∷ rest)) ≡ Some (record { before = length f; row = r; line = 0 })
row_first [] r rest = cond-false (ltb (length r.dashes) 0) (option_map one_row_later (row_line (0 - suc (length r.dashes)) rest)) (Some (record { before = 0; row = r; line = 0 })) (le-ltb (length r.dashes) 0 (omega arith))
row_first (x ∷ f) r rest =
    let n : ℕ = length (lines_of_rows (x ∷ f)) in
    let size : n ≡ suc (length x.dashes) + length (lines_of_rows f) = omega (arith, row_size x, length-append (row_lines x) (lines_of_rows f)) in
    let left : n - suc (length x.dashes) ≡ length (lines_of_rows f) = omega (arith, size) in
    cond-true (ltb (length x.dashes) n) (option_map one_row_later (row_line (n - suc (length x.dashes)) (f ++ (r ∷ rest)))) (Some (record { before = 0; row = x; line = n })) (lt-ltb (length x.dashes) n (omega (arith, size)))
    ∙ (ap (λ (m : ℕ). option_map one_row_later (row_line m (f ++ (r ∷ rest)))) left ∙ ap (option_map one_row_later) (row_first f r rest))

-- An item or entry whose rows begin with this line, under which these are, has the same rows where others come after them that are no deeper.
module _ (steps : List Step) (f : List Row) (r : Row) (g : List Row) (l : Line) (us : List Line) (before : List Line) (b : List Row)
    (own_lines : lines_of_rows (r ∷ g) ≡ l ∷ us) (deep : deeper_count (level l) us ≡ length us)
    (there : line_at_steps steps (lines_of_rows f ++ (l ∷ before)) ≡ Some (length (lines_of_rows f))) (begins : Begins (level l) (lines_of_rows b)) where
  abbrev rs : List Row
  rs = f ++ ((r ∷ g) ++ b)

  abbrev n : ℕ
  n = length (lines_of_rows f)

  lines_are : lines_of_rows rs ≡ lines_of_rows f ++ (l ∷ (us ++ lines_of_rows b))
  lines_are = lines_append f ((r ∷ g) ++ b) ∙ ap (λ (ls : List Line). lines_of_rows f ++ ls) (lines_append (r ∷ g) b ∙ ap (λ (ls : List Line). ls ++ lines_of_rows b) own_lines)

  line : line_at_steps steps (lines_of_rows rs) ≡ Some n
  line = ap (line_at_steps steps) lines_are ∙ line_stays steps (lines_of_rows f) l before (us ++ lines_of_rows b) there

  count : lines_end n (lines_of_rows rs) - n ≡ length (lines_of_rows (r ∷ g))
  count =
      let end : lines_end n (lines_of_rows rs) ≡ suc n + deeper_count (level l) (us ++ lines_of_rows b) = ap (lines_end n) lines_are ∙ following_end (lines_of_rows f) (us ++ lines_of_rows b) l in
      omega (arith, end, all_deeper (level l) us (lines_of_rows b) deep, none_deeper (level l) (lines_of_rows b) begins, ap length own_lines)

  after : drop (length f) rs ≡ (r ∷ g) ++ b
  after = drop-append_seam f ((r ∷ g) ++ b)

  rows : row_count (lines_end n (lines_of_rows rs) - n) (drop (length f) rs) ≡ length (r ∷ g)
  rows = (λ i. row_count (count i) (after i)) ∙ count_rows (r ∷ g) b

  three : in_three (length f) (row_count (lines_end n (lines_of_rows rs) - n) (drop (length f) rs)) rs ≡ record { front = f; own = r ∷ g; back = b }
  three =
      ap (λ (m : ℕ). in_three (length f) m rs) rows
      ∙ ((λ i. record { front = take-append_seam f ((r ∷ g) ++ b) i; own = take (length (r ∷ g)) (after i); back = drop (length (r ∷ g)) (after i) })
      ∙ (λ i. record { front = f; own = take-append_seam (r ∷ g) b i; back = drop-append_seam (r ∷ g) b i }))

  -- what is found in a row
  abbrev in_row : ℕ → RowLine → Option OwnRows
  in_row m s = cond (eqb s.line 0) (Some (in_three s.before (row_count (lines_end m (lines_of_rows rs) - m) (drop s.before rs)) rs)) None

  pub own_stays : own_rows steps rs ≡ Some (record { front = f; own = r ∷ g; back = b })
  own_stays =
      ap (λ (o : Option ℕ). o >>= λ m. row_line m rs >>= λ s. in_row m s) line
      ∙ (ap (λ (o : Option RowLine). o >>= λ s. in_row n s) (row_first f r (g ++ b))
      ∙ ap Some three)
