-- The items and entries to which steps lead in a head are those of its row.
use Rattle.std.proofs.Common.{◌≡◌, ◌⊎◌, ℕ, ◌+◌, List, [], ◌∷◌, ◌++◌, length, Option, Some, None, option_map, option_and_then, true, refl}
use Rattle.std.{proofs.Common.rules, proofs.lemmas.Bool.cases_lt, specs.List.slice_get, specs.Prelude.is_some}
use Rattle.yq_core.{specs.Paths.Step, specs.Entries.{parts_of, placed_entry_at}, specs.Nodes.{FlowNode, without_anchor}}
use Rattle.yq_core.specs.Places.{Placed, locate}
use Rattle.yq_row_table.{specs.Exchange.after_row, specs.Rows.{Content, Row, Cut, cut_text}}
use Rattle.yq_places.{specs.EntryReading.{inline_node, flow_entry, entry_within}, proofs.DashLineLaws.row_line_found}
use Rattle.yq_documents.{specs.FlowReading.{alias_or_collection, content_core, row_flow}, specs.LinesInRows.{RowLine, row_line}}
use Rattle.yq_outline.{specs.Lines.{tail_of, lines_of_rows}, specs.Outline.{LineMark, Line, Outline, end, row}}
use Rattle.yq_outline.{specs.Places.{here, FoundLine, find_row, place_inside, bare_or, in_head, find}, specs.Positions.has_no_mark}
use Rattle.yq_outline.proofs.Values.{If}
use Rattle.yq_core.specs.Tree as tree

-- a line in whose head steps may go on: a node itself, or a line that has a head
abbrev pub TakesSteps : Line → Type 0
TakesSteps l = (has_no_mark l.mark ≡ true) ⊎ (is_some l.head ≡ true)

-- the same where steps are left
abbrev pub TakesLeft : Line → List Step → Type 0
TakesLeft l [] = Unit {0}
TakesLeft l (s ∷ ss) = TakesSteps l

abbrev pub Takes : FoundLine × List Step → Type 0
Takes x = TakesLeft x.0.line x.1

-- where a path leads, the steps that are left go on in the line's head
pub takes_left : (s : Step) (ss : List Step) (o : Outline) → If (find s ss o) Takes
takes_left s ss end = tt
takes_left s [] (row k v a) = search rules
takes_left s (t ∷ ts) (row k v a) = go (λ u. takes_left t ts u) k.mark refl (find_row s (row k v a))
  where
    deep : (f : FoundLine) (h : Option tree.Node) → f.line.head ≡ h → (q : Option (FoundLine × List Step)) → If q Takes → If (in_head h (Some (f, t ∷ ts)) (option_map (λ x. (place_inside f x.0, x.1)) q)) Takes
    deep f h h1 q h2 = search rules

    found : ((u : Outline) → If (find t ts u) Takes) → (r : Option FoundLine) → If (option_and_then (λ f. in_head f.line.head (Some (f, t ∷ ts)) (option_map (λ x. (place_inside f x.0, x.1)) (find t ts f.under))) r) Takes
    found h1 r = search rules

    go : ((u : Outline) → If (find t ts u) Takes) → (m : LineMark) → k.mark ≡ m → (r : Option FoundLine) →
        If (bare_or m (Some (record { place = here; line = k; under = v; after = a }, s ∷ (t ∷ ts)))
        (option_and_then (λ f. in_head f.line.head (Some (f, t ∷ ts)) (option_map (λ x. (place_inside f x.0, x.1)) (find t ts f.under))) r)) Takes
    go h1 m h2 r = search rules

-- line n of rows is that of the mark of its row
abbrev pub MarkRowLine : List Row → ℕ → Type 0
MarkRowLine rs n = (q : RowLine) × (row_line n rs ≡ Some q) × (q.line ≡ length q.row.dashes)

pub mark_row_line : (rs : List Row) (n : ℕ) (l : Line) → slice_get (lines_of_rows rs) n ≡ Some l → TakesSteps l → MarkRowLine rs n
mark_row_line rs n l e takes = search (rules, row_line_found, cases_lt)

-- the items and entries of a node are those after its anchor
core_parts : (total : ℕ) (node : FlowNode) (rest : List ℕ) → parts_of (locate total (without_anchor node) rest) ≡ parts_of (locate total node rest)
unfolding locate
core_parts total node rest = search rules

core_is : (x : Content) → content_core x ≡ without_anchor (inline_node x)
core_is x = search rules

-- only aliases and flow collections have items or entries
kept_entry : (t : Step) (ts : List Step) (p : Placed) → entry_within (t ∷ ts) (alias_or_collection p) ≡ placed_entry_at (t ∷ ts) (None, p)
kept_entry t ts p = search rules

row_entry : (total : ℕ) (r : Row) (rest : List ℕ) (t : Step) (ts : List Step) → entry_within (t ∷ ts) (row_flow total r rest) ≡ placed_entry_at (t ∷ ts) (None, locate total (inline_node r.content) (tail_of r.content ++ rest))
row_entry total r rest t ts = simp (core_is, kept_entry, option_and_then, core_parts)

-- what is known of a row's alias or flow collection tells where steps lead in it
pub flow_agrees : (k : ℕ) (c : Cut) (rs : List Row) (n : ℕ) (t : Step) (ts : List Step) (q : RowLine) → row_line n rs ≡ Some q →
    entry_within (t ∷ ts) (row_flow (length (cut_text c)) q.row (after_row (k + q.before) c)) ≡ flow_entry k c rs n (t ∷ ts)
flow_agrees k c rs n t ts q is = cc (row_entry (length (cut_text c)) q.row (after_row (k + q.before) c) t ts)
