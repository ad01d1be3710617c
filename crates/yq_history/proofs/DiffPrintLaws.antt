-- What is printed part by part is the print of the hunks.
use Rattle.std.proofs.Common.{rules, ◌≡◌, ℕ, ◌+◌, List, [], ◌∷◌, ◌++◌, length, map, refl, sym, ap, ◌∙◌, arith}
use Rattle.std.{proofs.lemmas.List.length-append, proofs.lemmas.List.Concat.flat_map-append, specs.List.flat_map, specs.Prelude.codes}
use Rattle.yq_core.specs.Text.{text_lines}
use Rattle.yq_history.specs.Hunks.{LineChange, unchanged, deleted, added, old_side, new_side}
use Rattle.yq_history.{specs.Unified.{marked_line, print_change, print_changes, print_hunk}, specs.DiffParts.{closed_hunk, hunks_from}}
use Rattle.yq_history.specs.DiffPrinting.{Open, print_closed, marked_lines, print_parts}
use Rattle.yq_history.proofs.HunkLaws.{old_side-append, new_side-append, old_unchanged, new_unchanged, old_deleted, new_deleted, old_added}
use Rattle.yq_history.{proofs.HunkLaws.new_added, specs.declared.diff.part.Part.Part}
use Rattle.yq_history.specs.declared.diff.part.Part.TheVariants as part

-- a hunk of which these lines are printed
abbrev pub printed_open : ℕ → ℕ → List LineChange → Open
printed_open m n cs = record { old_before = m; new_before = n; old_at = m + length (old_side cs); new_at = n + length (new_side cs); body = print_changes cs }

same_open : (m n a b c d : ℕ) (x y : List ℕ) → a ≡ b → c ≡ d → x ≡ y →
    ◌≡◌ {A = Open} (record { old_before = m; new_before = n; old_at = a; new_at = c; body = x }) (record { old_before = m; new_before = n; old_at = b; new_at = d; body = y })
same_open m n a b c d x y h i j = cc

-- a hunk that is closed
closed_is : (m n : ℕ) (cs : List LineChange) → print_closed (printed_open m n cs) ≡ flat_map print_hunk (closed_hunk m n cs)
closed_is m n cs = search rules

-- lines after one mark
lines_unchanged : (ls : List (List ℕ)) → print_changes (map unchanged ls) ≡ marked_lines (codes " ") ls
lines_unchanged [] = refl
lines_unchanged (l ∷ ls) = ap (λ x. marked_line (codes " ") l ++ x) (lines_unchanged ls)

lines_deleted : (ls : List (List ℕ)) → print_changes (map deleted ls) ≡ marked_lines (codes "-") ls
lines_deleted [] = refl
lines_deleted (l ∷ ls) = ap (λ x. marked_line (codes "-") l ++ x) (lines_deleted ls)

lines_added : (ls : List (List ℕ)) → print_changes (map added ls) ≡ marked_lines (codes "+") ls
lines_added [] = refl
lines_added (l ∷ ls) = ap (λ x. marked_line (codes "+") l ++ x) (lines_added ls)

-- more lines of a side are counted
more : (m i : ℕ) (cs ds ls : List (List ℕ)) → cs ≡ ds ++ ls → length ls ≡ i → (m + length ds) + i ≡ m + length cs
more m i cs ds ls h e = omega (arith, ap length h, length-append ds ls, e)

-- a hunk after lines that it goes on with
open_more : (m n k l : ℕ) (cs ds : List LineChange) (body : List ℕ) → length (old_side ds) ≡ k → length (new_side ds) ≡ l → print_changes ds ≡ body →
    ◌≡◌ {A = Open} (record { old_before = m; new_before = n; old_at = m + length (old_side cs) + k; new_at = n + length (new_side cs) + l; body = print_changes cs ++ body }) (printed_open m n (cs ++ ds))
open_more m n k l cs ds body h i j =
    same_open m n _ _ _ _ _ _ (more m k _ (old_side cs) (old_side ds) (old_side-append cs ds) h) (more n l _ (new_side cs) (new_side ds) (new_side-append cs ds) i)
    (sym (flat_map-append print_change cs ds ∙ ap (λ x. print_changes cs ++ x) j))

-- one that has new lines alone, or old ones alone
no_more : (m : ℕ) → m + 0 ≡ m
no_more m = omega arith

pub print_is : (m n : ℕ) (cs : List LineChange) (ps : List Part) → print_parts (printed_open m n cs) ps ≡ flat_map print_hunk (hunks_from m n cs ps)
print_is m n cs [] = closed_is m n cs
print_is m n cs (part.Skipped t ∷ ps) =
    let k : ℕ = m + length (old_side cs) + length (text_lines t.now) in
    let l : ℕ = n + length (new_side cs) + length (text_lines t.now) in
    search (rules, same_open, closed_is, flat_map-append, print_is k l [] ps)
print_is m n cs (part.Unchanged t ∷ ps) =
    let ls : List (List ℕ) = text_lines t.now in
    ap (λ o. print_parts o ps) (open_more m n (length ls) (length ls) cs (map unchanged ls) (marked_lines (codes " ") ls) (ap length (old_unchanged ls)) (ap length (new_unchanged ls)) (lines_unchanged ls)) ∙
    print_is m n (cs ++ map unchanged ls) ps
print_is m n cs (part.Deleted t ∷ ps) =
    let ls : List (List ℕ) = text_lines t.now in
    ap (λ o. print_parts o ps)
    (same_open m n _ _ _ _ _ _ refl (sym (no_more (n + length (new_side cs)))) refl ∙
    open_more m n (length ls) 0 cs (map deleted ls) (marked_lines (codes "-") ls) (ap length (old_deleted ls)) (ap length (new_deleted ls)) (lines_deleted ls)) ∙
    print_is m n (cs ++ map deleted ls) ps
print_is m n cs (part.Added t ∷ ps) =
    let ls : List (List ℕ) = text_lines t.now in
    ap (λ o. print_parts o ps)
    (same_open m n _ _ _ _ _ _ (sym (no_more (m + length (old_side cs)))) refl refl ∙
    open_more m n 0 (length ls) cs (map added ls) (marked_lines (codes "+") ls) (ap length (old_added ls)) (ap length (new_added ls)) (lines_added ls)) ∙
    print_is m n (cs ++ map added ls) ps
