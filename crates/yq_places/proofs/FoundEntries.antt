-- The entries of lines that were found.
use Rattle.std.proofs.Common.{◌≡◌, ℕ, zero, suc, ◌<◌, List, [], ◌∷◌, ◌++◌, length, take, drop, map, Option, Some, option_map, refl, sym, ap}
use Rattle.std.{proofs.Common.{◌∙◌, subst, arith, length-append, rules}, proofs.Math.Seq.take-append_seam}
use Rattle.std.{proofs.lemmas.List.{take-append-drop, take-map, drop-map}, proofs.lemmas.Option.{slice_get-map, same_Some}}
use Rattle.std.specs.List.{slice_get}
use Rattle.yq_core.{specs.Answers.◌>>=◌, specs.Paths.Step, proofs.Bools.bind_some, specs.Tree.Node}
use Rattle.yq_outline.{specs.Group.group, specs.Outline.{Line, flatten, LineMark, Outline, IsWhole}}
use Rattle.yq_outline.{specs.Places.{lines_before, lines_after, FoundLine, find}, proofs.LabelPaths.HasHead}
use Rattle.yq_places.{proofs.RowPathLaws.found_lines, specs.PrintedLines.{PrintedLine, print_lines, line_in}}
use Rattle.yq_places.{specs.PathPieces.{BlockEntry, PrintedDocument, found_entry}, proofs.PrintedTexts.line_split}
use Rattle.yq_places.proofs.PrintedLaws.{ArePrinted, printed_split}

-- ---- lines that were found

pub middle : (xs ys : List Line) (l : Line) → slice_get (xs ++ (l ∷ ys)) (length xs) ≡ Some l
middle [] ys l = refl
middle (x ∷ xs) ys l = middle xs ys l

pub some_head : (t : Step) (ts : List Step) (m : LineMark) (h : Option Node) (after : Outline) → HasHead (t ∷ ts) m h → IsWhole m h after → (n : Node) × (h ≡ Some n)
some_head t ts m h after h1 h2 = search rules

-- ---- the entries of lines that were found

-- Lines between two texts are some of a document.
pub record IsIn (s : PrintedDocument) (before : List ℕ) (ls : List PrintedLine) (after : List ℕ) : Type 0 where
  pub above : List PrintedLine
  pub below : List PrintedLine
  pub lines : s.lines ≡ above ++ (ls ++ below)
  pub start : before ≡ s.before ++ print_lines above []
  pub stop : after ≡ print_lines below s.after

-- An entry of a document is that of the line which was found.
pub record IsFound (s : PrintedDocument) (e : BlockEntry) (f : FoundLine) : Type 0 where
  pub inside : IsIn s e.before (e.line ∷ e.under) e.after
  pub line : e.line.line ≡ f.line
  pub lines : map line_in e.under ≡ flatten f.under
  pub as_printed : ArePrinted (e.line ∷ e.under) e.after

pub drop_line : (xs ys : List Line) (l : Line) → drop (suc (length xs)) (xs ++ (l ∷ ys)) ≡ ys
drop_line [] ys l = refl
drop_line (x ∷ xs) ys l = drop_line xs ys l

pub entry_found : (s : PrintedDocument) (y : Step) (ys rest : List Step) (f : FoundLine) (e : BlockEntry) → find y ys (group (map line_in s.lines)) ≡ Some (f, rest) → ArePrinted s.lines s.after → found_entry s f ≡ Some e → IsFound s e f
entry_found s y ys rest f e is as_printed at =
    let n : ℕ = length (lines_before f.place) in
    let m : ℕ = length (flatten f.under) in
    let l = bind_some (slice_get s.lines n) at in
    let back : List Line = flatten f.after ++ lines_after f.place in
    let found : map line_in s.lines ≡ lines_before f.place ++ (f.line ∷ (flatten f.under ++ back)) = found_lines (map line_in s.lines) y ys rest f is in
    let there : Some (line_in l.0) ≡ Some f.line = ap (option_map line_in) (sym l.1) ∙ (sym (slice_get-map line_in s.lines n) ∙ (ap (λ (k : List Line). slice_get k n) found ∙ middle (lines_before f.place) _ f.line)) in
    let more : List PrintedLine = drop (suc n) s.lines in
    let under : map line_in (take m more) ≡ flatten f.under =
    sym (take-map line_in m more)
    ∙ (ap (take m) (sym (drop-map line_in (suc n) s.lines) ∙ (ap (drop (suc n)) found ∙ drop_line (lines_before f.place) (flatten f.under ++ back) f.line)) ∙ take-append_seam (flatten f.under) back) in
    let split : s.lines ≡ take n s.lines ++ (l.0 ∷ (take m more ++ drop m more)) = line_split s.lines n l.0 l.1 ∙ ap (λ x. take n s.lines ++ (l.0 ∷ x)) (sym (take-append-drop m more)) in
    let all = (printed_split (take n s.lines) (l.0 ∷ (take m more ++ drop m more)) s.after (subst (λ x. ArePrinted x s.after) split as_printed)).1 in
    subst (λ (z : BlockEntry). IsFound s z f) (same_Some _ _ l.2) (record {
      inside = record { above = take n s.lines; below = drop m more; lines = split; start = refl; stop = refl };
      line = same_Some _ _ there;
      lines = under;
      as_printed = (printed_split (l.0 ∷ take m more) (drop m more) s.after all).0;
    })

-- a line that was found is there
pub lines_count : (ls : List PrintedLine) → length (map line_in ls) ≡ length ls
lines_count [] = refl
lines_count (l ∷ ls) = ap suc (lines_count ls)

pub within_some : {A : Type 0} (xs : List A) (n : ℕ) → n < length xs → (x : A) × (slice_get xs n ≡ Some x)
within_some [] n h = absurd (omega (arith, h))
within_some (x ∷ xs) zero h = (x, refl)
within_some (x ∷ xs) (suc n) h = within_some xs n (omega (arith, h))

pub line_there : (s : PrintedDocument) (y : Step) (ys rest : List Step) (f : FoundLine) → find y ys (group (map line_in s.lines)) ≡ Some (f, rest) → (l : PrintedLine) × (slice_get s.lines (length (lines_before f.place)) ≡ Some l)
line_there s y ys rest f is =
    let found : map line_in s.lines ≡ lines_before f.place ++ (f.line ∷ (flatten f.under ++ (flatten f.after ++ lines_after f.place))) = found_lines (map line_in s.lines) y ys rest f is in
    within_some s.lines (length (lines_before f.place)) (omega (arith, lines_count s.lines, ap length found, length-append (lines_before f.place) (f.line ∷ (flatten f.under ++ (flatten f.after ++ lines_after f.place)))))

-- the entry of a line
abbrev pub entry_on : PrintedDocument → FoundLine → PrintedLine → BlockEntry
entry_on s f l =
    let n = length (lines_before f.place) in
    let m = length (flatten f.under) in
    record { before = s.before ++ print_lines (take n s.lines) []; line = l; under = take m (drop (suc n) s.lines); after = print_lines (drop m (drop (suc n) s.lines)) s.after }

pub entry_is : (s : PrintedDocument) (f : FoundLine) (l : PrintedLine) → slice_get s.lines (length (lines_before f.place)) ≡ Some l → found_entry s f ≡ Some (entry_on s f l)
entry_is s f l e = ap (λ (o : Option PrintedLine). o >>= λ x. Some (entry_on s f x)) e

pub entry_there : (s : PrintedDocument) (y : Step) (ys rest : List Step) (f : FoundLine) → find y ys (group (map line_in s.lines)) ≡ Some (f, rest) → (e : BlockEntry) × (found_entry s f ≡ Some e)
entry_there s y ys rest f is = let l = line_there s y ys rest f is in (entry_on s f l.0, entry_is s f l.0 l.1)
