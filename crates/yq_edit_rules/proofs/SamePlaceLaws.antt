-- A document of which one node is exchanged for itself is the same.
use Rattle.std.proofs.Common.{◌≡◌, ℕ, zero, suc, List, [], ◌∷◌, Option, Some, refl, sym, ap, ◌∙◌, subst, rules}
use Rattle.std.{proofs.lemmas.Option.same_Some, specs.List.slice_get, specs.Prelude.option_and_then}
use Rattle.yq_core.specs.Paths.{Step, further, child_at, change_child, changed_at, node_at}
use Rattle.yq_core.specs.Tree.{Node, list, map, Children, none, child}
use Rattle.yq_row_table.{specs.Rows.{Part, Cut, last, marked}, specs.Splices.nth_part}
use Rattle.yq_documents.{specs.Documents.document_parts, specs.PartNumbers.part_number, proofs.PartNumberLaws.part_there}
use Rattle.yq_documents.specs.TreeEdits.{change_nth}
use Rattle.yq_edit_rules.specs.Changed.{put_part, put_document}

-- one that is put in its own place
part_own : (i : ℕ) (c : Cut) → put_part i (nth_part i c) c ≡ c
part_own i (last q) = refl
part_own zero (marked q marker c) = refl
part_own (suc i) (marked q marker c) = ap (marked q marker) (part_own i c)

pub put_own : (k : ℕ) (c : Cut) (p : Part) → slice_get (document_parts c) k ≡ Some p → put_document k p c ≡ c
put_own k c p e = ap (λ (x : Part). put_document k x c) (sym (part_there c k p e)) ∙ part_own (part_number k c) c

-- an element of a list
pub nth_own : {A : Type 0} (k : ℕ) (x : A) (f : A → A) (xs : List A) → slice_get xs k ≡ Some x → f x ≡ x → change_nth k f xs ≡ xs
nth_own k x f [] e h = refl
nth_own zero x f (y ∷ xs) e h = ap (λ z. z ∷ xs) (subst (λ z. f z ≡ z) (sym (same_Some _ _ e)) h)
nth_own (suc k) x f (y ∷ xs) e h = ap (λ zs. y ∷ zs) (nth_own k x f xs e h)

-- a node at a step
child_own : (s : Step) (g : Node → Node) (at : Node → Option Node) (cs : Children) (n : Node) → ((m : Node) → at m ≡ Some n → g m ≡ m) → option_and_then at (child_at s cs) ≡ Some n → change_child s g cs ≡ cs
child_own s g at none n h e = refl
child_own s g at (child label m cs) n h e = search (rules, child_own (further s) g at cs n h)

-- a node at a path
pub change_own : (ss : List Step) (f : Node → Node) (root n : Node) → node_at ss root ≡ Some n → f n ≡ n → changed_at ss f root ≡ root
change_own [] f root n e h = subst (λ m. f m ≡ m) (sym (same_Some _ _ e)) h
change_own (s ∷ ss) f (list a cs) n e h = ap (list a) (child_own s (changed_at ss f) (node_at ss) cs n (λ m at. change_own ss f m n at h) e)
change_own (s ∷ ss) f (map a cs) n e h = ap (map a) (child_own s (changed_at ss f) (node_at ss) cs n (λ m at. change_own ss f m n at h) e)
change_own (s ∷ ss) f _ n e h = refl
