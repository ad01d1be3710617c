-- What is found on a path among lines.
use Rattle.std.proofs.Common.{◌≡◌, List, [], ◌∷◌, Some, true, sym, ap, ◌∙◌, subst, ℕ, ◌≤◌, ◌++◌, arith, rules}
use Rattle.std.proofs.lemmas.Bool.{and_parts}
use Rattle.yq_core.specs.Paths.{Step}
use Rattle.yq_row_table.specs.Rows.{Part}
use Rattle.yq_outline.{specs.Group.{group, level_or, is_fine}, specs.Laws.with_lines, specs.Lines.lines_of_rows}
use Rattle.yq_outline.specs.Outline.{Line, level, Outline, row, flatten, IsEven, end}
use Rattle.yq_outline.{specs.Places.{plug, FoundLine, find, Context, here, below, beside, lines_after}, proofs.Allowing.Allows}
use Rattle.yq_outline.{proofs.Decides.{flatten-group, even_from}, proofs.Finding.{IsFoundIn, path_whole}, proofs.PlaceLaws.{at, placed}}
use Rattle.yq_outline.proofs.Plug.{allows_from}
use Rattle.yq_documents.specs.Reading.{is_document}

-- the lines with the one that was found
pub found_lines : (ls : List Line) (s : Step) (ss rest : List Step) (f : FoundLine) → find s ss (group ls) ≡ Some (f, rest) → ls ≡ with_lines f (f.line ∷ flatten f.under)
found_lines ls s ss rest f is =
    let whole : plug f.place (row f.line f.under f.after) ≡ group ls = at (IsFoundIn (group ls)) (find s ss (group ls)) (f, rest) is (path_whole s ss (group ls)) in
    sym (flatten-group ls) ∙ (ap flatten (sym whole) ∙ placed f f.line f.under)

-- what is found is in an even outline
pub found_place : (ls : List Line) (s : Step) (ss rest : List Step) (f : FoundLine) → find s ss (group ls) ≡ Some (f, rest) → is_fine (group ls) ≡ true →
    Allows (level_or 0 (group ls)) f.place (level f.line) × IsEven (level f.line) (row f.line f.under f.after)
found_place ls s ss rest f is fine =
    let o : Outline = group ls in
    let whole : plug f.place (row f.line f.under f.after) ≡ o = at (IsFoundIn o) (find s ss o) (f, rest) is (path_whole s ss o) in
    allows_from (level_or 0 o) f.place f.line f.under f.after (subst (λ x. IsEven (level_or 0 o) x) (sym whole) (even_from (level_or 0 o) o fine))

-- the lines of a document are even
pub document_fine : (p : Part) → is_document p ≡ true → is_fine (group (lines_of_rows p.rows)) ≡ true
document_fine p e = search (rules, and_parts)

-- ---- after a line and what is under it the next line is no deeper

-- the first of lines, if there is one, is no deeper than a level
abbrev pub StartsAt : ℕ → List Line → Type 0
StartsAt k [] = Unit {0}
StartsAt k (l ∷ ls) = level l ≤ k

starts_joined : (k : ℕ) (a b : List Line) → StartsAt k a → StartsAt k b → StartsAt k (a ++ b)
starts_joined k a b h1 h2 = search rules

even_starts : (n k : ℕ) (o : Outline) → IsEven n o → n ≤ k → StartsAt k (flatten o)
even_starts n k end e h = tt
even_starts n k (row l u a) e h = omega (arith, e.0, h)

-- what comes after a place is no deeper than what it allows
pub allowed_level : (n m : ℕ) (p : Context) → Allows n p m → n ≤ m
allowed_level n m here h = omega (arith, h)
allowed_level n m (below l p a) h = omega (arith, h.3.1, allowed_level h.3.0 m p h.3.2)
allowed_level n m (beside l u p) h = allowed_level n m p h.4

pub after_starts : (n m : ℕ) (p : Context) → Allows n p m → StartsAt m (lines_after p)
after_starts n m here h = tt
after_starts n m (below l p a) h = starts_joined m (lines_after p) (flatten a) (after_starts h.3.0 m p h.3.2) (even_starts n m a h.4 (omega (arith, h.3.1, allowed_level h.3.0 m p h.3.2)))
after_starts n m (beside l u p) h = after_starts n m p h.4

pub found_starts : (ls : List Line) (s : Step) (ss rest : List Step) (f : FoundLine) → find s ss (group ls) ≡ Some (f, rest) → is_fine (group ls) ≡ true → StartsAt (level f.line) (flatten f.after ++ lines_after f.place)
found_starts ls s ss rest f is fine = search (rules, found_place ls s ss rest f is fine, starts_joined, even_starts, after_starts)
