-- Flow collections at paths, as the code finds them.
use Rattle.std.proofs.Common.{◌≡◌, ℕ, ◌+◌, cond, List, [], ◌∷◌, ◌++◌, length, Option, Some, None, option_map, refl, sym, ap, ◌∙◌}
use Rattle.std.{proofs.Common.{length-append, rules}, specs.List.slice_get, specs.Prelude.is_some}
use Rattle.yq_core.{specs.Answers.◌>>=◌, specs.Paths.Step, specs.Collections.{coll_along, coll_in}}
use Rattle.yq_core.{specs.Entries.{EntryPieces, PlacedEntry, entry_pieces_at, locate_entry}, specs.Nodes.{bare, FlowNode, coll, anchored}}
use Rattle.yq_core.{specs.Places.{Placed, placed, Parts, holder, locate, locate_items, anchored_node}, proofs.PathLaws.path_places}
use Rattle.yq_outline.{specs.Ends.part, specs.Group.group, specs.Outline.{Line, level, Outline}}
use Rattle.yq_outline.specs.Places.{Context, here, below, lines_before, compose, FoundLine, find, in_head}
use Rattle.yq_outline.{specs.Positions.begins_with_node, proofs.NameLaws.part-all}
use Rattle.yq_places.specs.FlowNodes.{bare_line, head_line, find_head}
use Rattle.yq_places.specs.FlowViews.{placed_collection, if_collection, collection_of, collection_along}
use Rattle.yq_places.specs.NodeReading.{at_head, at_lines, line_place, line_with_steps, with_steps, place_line, head_line_of}
use Rattle.yq_places.proofs.FoundLaws.{before_inside, found_in_lines}
use Rattle.yq_core.specs.Tree as tree
use Rattle.yq_outline.specs.Places as lines

-- ---- collections in nodes with places

holder_is : (k : ℕ) (parts : Parts) (c e : ℕ) → if_collection (placed None c c e (holder k parts)) (holder k parts) ≡ Some (placed None c c e (holder k parts))
holder_is k parts c e = search rules

anchor_kept : (n : List ℕ) (start : ℕ) (p : Placed) → collection_of (anchored_node n start p) ≡ collection_of p
anchor_kept n start (placed a s c e f) = refl

pub node_collection : (total : ℕ) (node : FlowNode) (rest : List ℕ) → option_map (placed_collection total) (coll_in node rest) ≡ collection_of (locate total node rest)
unfolding locate
node_collection total (coll k g is) rest = sym (holder_is k (locate_items total k is rest) _ _)
node_collection total (anchored n g node) rest = node_collection total node rest ∙ sym (anchor_kept n _ (locate total node rest))
node_collection total x rest = refl

pub collection_entry : (ss : List Step) (x : EntryPieces) → coll_along ss x.node x.rest ≡ (entry_pieces_at ss x >>= λ y. coll_in y.node y.rest)
collection_entry [] x = refl
collection_entry (s ∷ ss) x = search (rules, collection_entry ss)

pub collection_placed : (total : ℕ) (ss : List Step) (node : FlowNode) (rest : List ℕ) → option_map (placed_collection total) (coll_along ss node rest) ≡ collection_along ss (locate total node rest)
collection_placed total ss node rest =
    let x : EntryPieces = record { key = bare; node = node; rest = rest } in
    ap (option_map (placed_collection total)) (collection_entry ss x) ∙ (go (entry_pieces_at ss x) ∙ ap (λ (o : Option PlacedEntry). o >>= λ e. collection_of e.1) (sym (path_places total ss x)))
  where
    go : (o : Option EntryPieces) → option_map (placed_collection total) (o >>= λ y. coll_in y.node y.rest) ≡ (option_map (locate_entry total) o >>= λ e. collection_of e.1)
    go o = search (rules, node_collection)

-- ---- the line

-- a line that was found, by its index, and the steps that go on in its head
abbrev pub numbered : FoundLine × List Step → ℕ × List Step
numbered x = (length (lines_before x.0.place), x.1)

pub before_under : (p : Context) (l : Line) (a : Outline) → lines_before (compose p (below l here a)) ≡ lines_before p ++ (l ∷ [])
before_under p l a = before_inside p here l a

-- the line under one that was found
under_found : (f : FoundLine) (u : Outline) →
    option_map numbered (option_map {U = FoundLine × List Step} (λ g. (lines.place_inside f g, [])) (bare_line u)) ≡ with_steps []
    (cond (begins_with_node u) (Some (length (lines_before f.place) + 1)) None)
under_found f u = search (rules, before_under, length-append)

first_line : (o : Outline) → option_map numbered (option_map {U = FoundLine × List Step} (λ f. (f, [])) (bare_line o)) ≡ with_steps [] (cond (begins_with_node o) (Some 0) None)
first_line o = search rules

pub head_found : (ls : List Line) (steps : List Step) → option_map numbered (find_head steps (group ls)) ≡ head_line_of steps ls
head_found ls [] = first_line (group ls) ∙ sym (ap (λ o. with_steps [] (cond (begins_with_node o) (Some 0) None)) (part-all ls))
head_found ls (s ∷ ss) = go (find s ss (group ls)) refl
  where
    own : (f : FoundLine) (h : Option tree.Node) → f.under ≡ part ls (length (lines_before f.place) + 1) (level f.line) →
        option_map numbered (in_head h (Some (f, [])) (option_map {U = FoundLine × List Step} (λ g. (lines.place_inside f g, [])) (bare_line f.under))) ≡
        with_steps [] (place_line ls (cond (is_some h) (at_head (length (lines_before f.place))) (at_lines (length (lines_before f.place) + 1) (level f.line))))
    own f (Some n) under = refl
    own f None under = under_found f f.under ∙ ap (λ o. with_steps [] (cond (begins_with_node o) (Some (length (lines_before f.place) + 1)) None)) under

    line : (f : FoundLine) (left : List Step) → f.under ≡ part ls (length (lines_before f.place) + 1) (level f.line) →
        option_map numbered (head_line f left) ≡ with_steps left (place_line ls (line_place (length (lines_before f.place)) left f.line))
    line f (t ∷ ts) under = refl
    line f [] under = own f f.line.head under

    go : (r : Option (FoundLine × List Step)) → find s ss (group ls) ≡ r → option_map numbered (r >>= λ x. head_line x.0 x.1) ≡
        ((option_map numbered r >>= λ x. line_with_steps x.0 x.1 (slice_get ls x.0)) >>= λ x. with_steps x.1 (place_line ls x.0))
    go None is = refl
    go (Some x) is =
        let found_it = found_in_lines s ss x.1 ls x.0 is in
        cc (line x.0 x.1 found_it.1, found_it.0)
