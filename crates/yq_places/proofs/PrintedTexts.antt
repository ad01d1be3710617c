-- The texts of lines, and of runs of them.
use Rattle.std.proofs.Common.{◌≡◌, ℕ, zero, suc, ◌+◌, List, [], ◌∷◌, ◌++◌, length, take, drop, Option, Some, option_map, Bool, cond, refl}
use Rattle.std.{proofs.Common.{sym, ap, ◌∙◌, append_assoc, append-nil, replicate, rules}, proofs.lemmas.Option.{none-some, same_Some}}
use Rattle.std.specs.List.{slice_get}
use Rattle.yq_core.specs.Text.{is_empty}
use Rattle.yq_row_table.specs.Rows.{Content, dashes_text, mark_text, content_text, Row, print_row, rows_text}
use Rattle.yq_row_table.{proofs.SliceLaws.content_slices, proofs.PlaceLaws.content_then}
use Rattle.yq_places.specs.PrintedLines.{is_last_break, less_break, less_last, less_end, last_break, end_break, PrintedLine, line_front}
use Rattle.yq_places.specs.PrintedLines.{line_rest, print_line, print_lines, printed_from, printed_row, printed_lines, run_text, run_break}
use Rattle.yq_row_table.specs.Rows as rows

-- a text less its last break, and that break
pub less_is : (t : List ℕ) → less_break t ++ last_break t ≡ t
unfolding less_break
less_is [] = refl
less_is (b ∷ bs) = go (is_last_break (b ∷ bs)) (less_is bs)
  where
    go : (c : Bool) → less_break bs ++ drop (length (less_break bs)) bs ≡ bs → cond c [] (b ∷ less_break bs) ++ drop (length (cond c [] (b ∷ less_break bs))) (b ∷ bs) ≡ b ∷ bs
    go c h1 = search rules

pub last_is : (tail raw z : List ℕ) → less_last tail raw ++ (cond (is_empty raw) (last_break tail) (last_break raw) ++ z) ≡ tail ++ (raw ++ z)
last_is tail [] z = sym (append_assoc (less_break tail) (last_break tail) z) ∙ ap (λ l. l ++ z) (less_is tail)
last_is tail (b ∷ raw) z =
    append_assoc tail (less_break (b ∷ raw)) (last_break (b ∷ raw) ++ z)
    ∙ ap (λ l. tail ++ l) (sym (append_assoc (less_break (b ∷ raw)) (last_break (b ∷ raw)) z) ∙ ap (λ l. l ++ z) (less_is (b ∷ raw)))

pub four : (a b c d e z : List ℕ) → (a ++ (b ++ (c ++ (d ++ e)))) ++ z ≡ a ++ (b ++ (c ++ (d ++ (e ++ z))))
four a b c d e z = simp append_assoc refl

pub end_is : (c : Content) (z : List ℕ) → less_end c ++ (end_break c ++ z) ≡ content_text c z
end_is c z = simp (four, last_is, content_slices)

pub front_then : (l : PrintedLine) (t u : List ℕ) → line_rest l (t ++ u) ≡ line_rest l t ++ u
front_then l t u = ap (λ x. l.mark ++ x) (content_then l.content t u) ∙ sym (append_assoc l.mark (content_text l.content t) u)

pub line_then : (l : PrintedLine) (t u : List ℕ) → print_line l (t ++ u) ≡ print_line l t ++ u
line_then l t u = ap (λ x. line_front l ++ x) (front_then l t u) ∙ sym (append_assoc (line_front l) (line_rest l t) u)

pub lines_then : (ls : List PrintedLine) (t u : List ℕ) → print_lines ls (t ++ u) ≡ print_lines ls t ++ u
lines_then [] t u = refl
lines_then (l ∷ ls) t u = ap (print_line l) (lines_then ls t u) ∙ line_then l (print_lines ls t) u

pub lines_append : (ls ks : List PrintedLine) (z : List ℕ) → print_lines (ls ++ ks) z ≡ print_lines ls (print_lines ks z)
lines_append [] ks z = refl
lines_append (l ∷ ls) ks z = ap (print_line l) (lines_append ls ks z)

-- a run of lines
pub run_is : (l : PrintedLine) (ls : List PrintedLine) (z : List ℕ) → run_text l ls ++ (run_break l ls ++ z) ≡ line_rest l (print_lines ls z)
run_is l [] z = append_assoc l.mark (less_end l.content) (end_break l.content ++ z) ∙ ap (λ x. l.mark ++ x) (end_is l.content z)
run_is l (k ∷ ks) z = search (rules, front_then, append_assoc, run_is k ks z)

pub map_some : {A B : Type 0} {f : A → B} {y : B} (o : Option A) → option_map f o ≡ Some y → (x : A) × (o ≡ Some x) × (f x ≡ y)
map_some o h1 = search (rules, same_Some)

-- a line of a document
pub line_split : (ls : List PrintedLine) (n : ℕ) (l : PrintedLine) → slice_get ls n ≡ Some l → ls ≡ take n ls ++ (l ∷ drop (suc n) ls)
line_split [] n l e = absurd (none-some _ e)
line_split (k ∷ ls) zero l e = ap (λ x. x ∷ ls) (same_Some _ _ e)
line_split (k ∷ ls) (suc n) l e = ap (λ x. k ∷ x) (line_split ls n l e)

-- the lines of rows
pub alone : (m : rows.RowMark) (t : List ℕ) → mark_text m t ≡ mark_text m [] ++ t
alone m t = search (rules, append_assoc, append-nil)

pub from_is : (gap spaces : List ℕ) (column : ℕ) (ns : List ℕ) (m : rows.RowMark) (c : Content) (rest : List ℕ) →
    print_lines (printed_from gap spaces column ns m c) rest ≡ (gap ++ spaces) ++ dashes_text ns (mark_text m (content_text c rest))
from_is gap spaces column [] m c rest = ap (λ l. (gap ++ spaces) ++ l) (sym (alone m (content_text c rest)))
from_is gap spaces column (n ∷ ns) m c rest = ap (λ l. (gap ++ spaces) ++ (45 ∷ (replicate n 32 ++ l))) (from_is [] [] (suc (column + n)) ns m c rest)

pub row_is : (r : Row) (rest : List ℕ) → print_lines (printed_row r) rest ≡ print_row r rest
row_is r rest = simp (from_is, append_assoc)

pub rows_are : (rs : List Row) (rest : List ℕ) → print_lines (printed_lines rs) rest ≡ rows_text rs rest
rows_are [] rest = refl
rows_are (r ∷ rs) rest = lines_append (printed_row r) (printed_lines rs) rest ∙ (row_is r (print_lines (printed_lines rs) rest) ∙ ap (print_row r) (rows_are rs rest))
