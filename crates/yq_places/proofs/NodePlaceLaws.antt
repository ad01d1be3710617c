-- What is known of the node at a path, where it is written among lines.
use Rattle.std.proofs.Common.{rules, ◌≡◌, ℕ, suc, ◌+◌, eqb, Bool, true, false, cond, List, [], ◌∷◌, length, Option, Some, None, option_map}
use Rattle.std.{proofs.Common.{refl, sym, ap, ◌∙◌, arith}, proofs.lemmas.Bool.{eq-eqb, false≢true}, specs.List.slice_get}
use Rattle.std.specs.Prelude.{is_some}
use Rattle.yq_core.{specs.Answers.◌>>=◌, specs.Paths.{Step, node_at}, specs.Tree.{Node, child}}
use Rattle.yq_outline.{specs.Ends.{line_at_steps, lines_end, part}, specs.Group.{group, level_or, is_fine}}
use Rattle.yq_outline.specs.Outline.{LineMark, Bare, Line, level, Outline, end, row, IsEven, IsWhole, anchored, head_or, label}
use Rattle.yq_outline.{specs.Outline.{outline_node, shaped, children, value}, specs.Places.{lines_before, FoundLine, content_under, find}}
use Rattle.yq_outline.{specs.Positions.{has_no_mark, begins_with_node}, proofs.Decides.even_from}
use Rattle.yq_outline.{proofs.Finding.{FoundNode, node-anchored, path_node}, proofs.NameLaws.part-all}
use Rattle.yq_places.specs.NodesAt.{node_summary}
use Rattle.yq_places.specs.NodeReading.{NodePlace, at_head, at_lines, line_place, line_with_steps, node_place, summary_in_head}
use Rattle.yq_places.{specs.NodeReading.{summary_in_line, line_or, place_node, said_at}, proofs.FlowPieces.head_there}
use Rattle.yq_places.{proofs.FlowViewLaws.numbered, proofs.PieceSpelling.bare_is, proofs.RowPathLaws.found_place}
use Rattle.yq_places.{proofs.FoundLaws.{first_is, found_in_lines}, proofs.WalkNodes.{all_stop, line_stop, no_steps}}
use Rattle.yq_core.specs.Tree as tree

-- an anchor tells nothing of what a node is
anchored_summary : (a : Option (List ℕ)) (n : Node) → node_summary (anchored a n) ≡ node_summary n
anchored_summary a (tree.alias n) = refl
anchored_summary a _ = refl

-- the node that lines mean
lines_view : (ls : List Line) (n floor m : ℕ) (o : Outline) → part ls n floor ≡ o → IsEven m o → Some (node_summary (value o)) ≡ place_node ls (at_lines n floor) []
lines_view ls n floor m end e even = ap (λ x. line_or (cond (begins_with_node x) (Some n) None) (summary_in_line ls []) (Some (node_summary (value x)))) (sym e)
lines_view ls n floor m (row l u a) e even =
    go (has_no_mark l.mark) refl ∙ ap (λ x. line_or (cond (begins_with_node x) (Some n) None) (summary_in_line ls []) (Some (node_summary (value x)))) (sym e)
  where
    bare : (k : LineMark) (h : Option Node) → k ≡ Bare → IsWhole k h a → Some (node_summary (outline_node k (child (label l) (anchored l.anchor (head_or h (shaped u (children u)))) (children a)))) ≡ summary_in_head [] h
    bare Bare (Some h) is whole = ap Some (anchored_summary l.anchor h)
    bare Bare None is whole = absurd whole
    bare _ h is whole = absurd (cc)

    go : (b : Bool) → has_no_mark l.mark ≡ b → Some (node_summary (value (row l u a))) ≡ line_or (cond b (Some n) None) (summary_in_line ls []) (Some (node_summary (value (row l u a))))
    go false is = refl
    go true is =
        bare l.mark l.head (bare_is l.mark is) even.2
        ∙ sym (ap (λ (o : Option Line). o >>= λ k. summary_in_head [] k.head) (first_is ls n floor l u a e).line)

pub node_found : (ls : List Line) (steps : List Step) → is_fine (group ls) ≡ true → option_map node_summary (node_at steps (value (group ls))) ≡ (node_place steps ls >>= λ x. place_node ls x.0 x.1)
node_found ls [] fine = lines_view ls 0 0 _ (group ls) (part-all ls) (even_from (level_or 0 (group ls)) (group ls) fine)
node_found ls (s ∷ ss) fine = ap (option_map node_summary) (path_node s ss (group ls)) ∙ go (find s ss (group ls)) refl
  where
    own : (f : FoundLine) (h : Option Node) → f.line.head ≡ h → slice_get ls (length (lines_before f.place)) ≡ Some f.line → f.under ≡ part ls (length (lines_before f.place) + 1) (level f.line) → ((m : ℕ) × IsEven m f.under) →
        Some (node_summary (anchored f.line.anchor (head_or h (value f.under)))) ≡ place_node ls (cond (is_some h) (at_head (length (lines_before f.place))) (at_lines (length (lines_before f.place) + 1) (level f.line))) []
    own f (Some k) head there under even =
        ap Some (anchored_summary f.line.anchor k) ∙ (ap (summary_in_head []) (sym head) ∙ sym (ap (λ (o : Option Line). o >>= λ l. summary_in_head [] l.head) there))
    own f None head there under even =
        ap Some (anchored_summary f.line.anchor (value f.under)) ∙ lines_view ls (length (lines_before f.place) + 1) (level f.line) even.0 f.under (sym under) even.1

    line : (f : FoundLine) (left : List Step) → find s ss (group ls) ≡ Some (f, left) → slice_get ls (length (lines_before f.place)) ≡ Some f.line → f.under ≡ part ls (length (lines_before f.place) + 1) (level f.line) →
        option_map node_summary (node_at left (content_under f.line f.under)) ≡ place_node ls (line_place (length (lines_before f.place)) left f.line) left
    line f [] is there under =
        let even = (found_place ls s ss [] f is fine).1.3 in
        own f f.line.head refl there under (even.0, even.2)
    line f (t ∷ ts) is there under = search (rules, head_there, is, f.line.anchor, node-anchored, there)

    go : (r : Option (FoundLine × List Step)) → find s ss (group ls) ≡ r → option_map node_summary (FoundNode r) ≡
        ((option_map numbered r >>= λ x. line_with_steps x.0 x.1 (slice_get ls x.0)) >>= λ x. place_node ls x.0 x.1)
    go None is = refl
    go (Some x) is =
        let found_it = found_in_lines s ss x.1 ls x.0 is in
        line x.0 x.1 is found_it.0 found_it.1 ∙ sym (ap (λ (o : Option Line). line_with_steps (length (lines_before x.0.place)) x.1 o >>= λ y. place_node ls y.0 y.1) found_it.0)

-- what is said of a document, or of the line to which steps lead, is said of where the node is written
module _ {A : Type 0} (head : ℕ → Option A) (lines : ℕ → ℕ → Option A) (ls : List Line) where
  abbrev Under : ℕ → Option A
  Under n = slice_get ls n >>= λ l. cond (is_some l.head) (head n) (lines (suc n) (lines_end n ls))

  under_said : (n : ℕ) (l : Line) → slice_get ls n ≡ Some l → cond (is_some l.head) (head n) (lines (suc n) (lines_end n ls)) ≡ said_at head lines ls (line_place n [] l, [])
  under_said n l is = go (is_some l.head)
    where
      next : suc n ≡ n + 1
      next = omega arith

      go : (b : Bool) → cond b (head n) (lines (suc n) (lines_end n ls)) ≡ said_at head lines ls (cond b (at_head n) (at_lines (n + 1) (level l)), [])
      go b = search (rules, line_stop, next)

  pub node_said : (along : List Step → Option A) → along [] ≡ lines 0 (length ls) →
      ((s : Step) (ss : List Step) → along (s ∷ ss) ≡ (line_at_steps (s ∷ ss) ls >>= Under)) → (steps : List Step) →
      along steps ≡ (node_place steps ls >>= said_at head lines ls)
  node_said along none some [] = none ∙ ap (lines 0) (sym (all_stop ls))
  node_said along none some (s ∷ ss) = search (rules, numbered, found_in_lines, under_said)

  module _ (along : List Step → Option A) (none : along [] ≡ lines 0 (length ls)) (some : (s : Step) (ss : List Step) → along (s ∷ ss) ≡ (line_at_steps (s ∷ ss) ls >>= Under)) (steps : List Step) where
    pub said_nowhere : None ≡ node_place steps ls → None ≡ along steps
    said_nowhere e = ap (λ (o : Option (NodePlace × List Step)). o >>= said_at head lines ls) e ∙ sym (node_said along none some steps)

    pub said_further : (p : NodePlace) (left : List Step) → Some (p, left) ≡ node_place steps ls → false ≡ eqb (length left) 0 → None ≡ along steps
    said_further p [] e more = absurd (false≢true (more ∙ eq-eqb 0 0 refl))
    said_further p (s ∷ ss) e more = ap (λ (o : Option (NodePlace × List Step)). o >>= said_at head lines ls) e ∙ sym (node_said along none some steps)

    pub said_there : (p : NodePlace) (left : List Step) → Some (p, left) ≡ node_place steps ls → true ≡ eqb (length left) 0 → said_at head lines ls (p, []) ≡ along steps
    said_there p left e last =
        ap (λ (l : List Step). said_at head lines ls (p, l)) (sym (no_steps left last))
        ∙ (ap (λ (o : Option (NodePlace × List Step)). o >>= said_at head lines ls) e ∙ sym (node_said along none some steps))
