-- Operations on a document, one after the other: the root, and the lead.
use Rattle.std.proofs.Common.{◌≡◌, ◌≢◌, ℕ, ◌⊎◌, Bool, true, List, [], ◌∷◌, ◌++◌, map, reverse, None, refl, sym, ap, ◌∙◌, inl, inr}
use Rattle.std.{proofs.Common.{append-nil, rules}, proofs.lemmas.Bool.cond_both}
use mathlib.Core.List.{nil≢cons}
use Rattle.yq_core.{specs.Tree.{Label, Node, Children, none, child, children_of}, specs.Paths.{Step, To, relabel_child, append_child}}
use Rattle.yq_core.{specs.PathOrder.Before, specs.Shapes.IsTree}
use Rattle.yq_documents.{specs.Documents.Document, specs.TreeEdits.{at_end, with_line_comment, with_head_comment, lead_by, with_tree}}
use Rattle.yq_semantics.specs.After.{root_after, done_to}
use Rattle.yq_semantics.specs.Changes.{Addition, appends, overwrites, replaces, adds, sets_comment, Changed}
use Rattle.yq_semantics.specs.NodeEdits.{NodeEdits, step_to, at_once}
use Rattle.yq_semantics.specs.Meaning.{head_comment_lines, line_comment_text, node_edit_of, changed_at_once, IsLed}
use Rattle.yq_semantics.specs.Operations.{Operation, replace, append, remove, line_comment, head_comment}
use Rattle.yq_semantics.{specs.Plans.{add_op, change_ops, ops_of, ordered}, proofs.updates.AtOnce.one_more}
use Rattle.yq_semantics.proofs.updates.Spares.{idle, spares_root}
use Rattle.yq_semantics.proofs.updates.Folds.{ToEach, InPairs, IsKept, AreKept, IsGone, MayFold, AreSpared, node_edits_of, path_same}
use Rattle.yq_semantics.{proofs.updates.Folds.{AreGone, ops_join, folds, spared_in_order}, proofs.updates.OneAt.{roots_after, change_after}}
use Rattle.yq_semantics.proofs.updates.Each.{Each, each_join, reverse-cons}
use Rattle.yq_semantics.specs.declared.program.CommentPlace.TheVariants as comments
use Rattle.yq_semantics.specs.Changes as changes

-- what operations make of a document, one after the other
abbrev pub document_after : Bool → List Operation → Document → Document
document_after block [] d = d
document_after block (op ∷ ops) d = document_after block ops (done_to block op d)

pub document_join : (block : Bool) (ops others : List Operation) (d : Document) → document_after block (ops ++ others) d ≡ document_after block others (document_after block ops d)
document_join block [] others d = refl
document_join block (op ∷ ops) others d = document_join block ops others (done_to block op d)

-- ---- where nothing is removed

-- there are no items or entries
abbrev IsNone : Children → Type 0
IsNone none = Unit {0}
IsNone (child label n cs) = ⊥

-- an operation that leaves items or entries, if there are any, and asks for no lead
abbrev pub KeepsSome : Operation → Type 0
KeepsSome (replace doc path v) = (s : Step) × (p : List Step) × (path ≡ s ∷ p)
KeepsSome (remove doc path) = ⊥
KeepsSome _ = Unit {0}

abbrev pub AllKeepSome : List Operation → Type 0
AllKeepSome ops = Each KeepsSome ops

relabel_keeps : (s : Step) (f : Label → Label) (cs : Children) → IsNone (relabel_child s f cs) → IsNone cs
relabel_keeps s f cs h = search (rules, cond_both)

append_keeps : (label : Label) (v : Node) (cs : Children) → IsNone (append_child label v cs) → IsNone cs
append_keeps label v cs h = search rules

end_keeps : (g : Label → Label) (p : List Step) (n : Node) → IsNone (children_of (at_end (λ s. relabel_child s g) p n)) → IsNone (children_of n)
end_keeps g [] n h = h
end_keeps g (s ∷ []) n h = search rules
end_keeps g (s ∷ (t ∷ p)) n h = search rules

op_keeps_some : (block : Bool) (lead : List (List ℕ)) (op : Operation) → KeepsSome op → (n : Node) → IsNone (children_of (root_after block lead op n)) → IsNone (children_of n)
op_keeps_some block lead (replace doc [] v) l n h = absurd (nil≢cons l.2)
op_keeps_some block lead (replace doc (s ∷ p) v) l n h = search rules
op_keeps_some block lead (append doc [] k v) l n h = search rules
op_keeps_some block lead (append doc (s ∷ p) k v) l n h = search rules
op_keeps_some block lead (remove doc path) l n h = absurd l
op_keeps_some block lead (line_comment doc path text) l n h = end_keeps (with_line_comment (line_comment_text text)) path n h
op_keeps_some block lead (head_comment doc path text) l n h = end_keeps (with_head_comment (head_comment_lines text)) path n h

ops_leave : (block : Bool) (lead : List (List ℕ)) (ops : List Operation) → AllKeepSome ops → (n : Node) → IsNone (children_of (roots_after block lead ops n)) → IsNone (children_of n)
ops_leave block lead [] l n h = h
ops_leave block lead (op ∷ ops) l n h = op_keeps_some block lead op l.0 n (ops_leave block lead ops l.1 (root_after block lead op n) h)

pub op_any_lead : (block : Bool) (lead other : List (List ℕ)) (op : Operation) → KeepsSome op → (n : Node) → root_after block lead op n ≡ root_after block other op n
op_any_lead block lead other op h1 n = search rules

ops_any_lead : (block : Bool) (lead other : List (List ℕ)) (ops : List Operation) → AllKeepSome ops → (n : Node) → roots_after block lead ops n ≡ roots_after block other ops n
ops_any_lead block lead other [] l n = refl
ops_any_lead block lead other (op ∷ ops) l n = ap (roots_after block lead ops) (op_any_lead block lead other op l.0 n) ∙ ops_any_lead block lead other ops l.1 (root_after block other op n)

-- a lead by one tree and then by another
lead_twice : (block : Bool) (cs ds : Children) (lead : List (List ℕ)) → (IsNone ds → IsNone cs) → lead_by block ds (lead_by block cs lead) ≡ lead_by block ds lead
lead_twice block cs ds lead h1 = search rules

leaving : (block : Bool) (ops : List Operation) → AllKeepSome ops → (d : Document) → IsLed block d → document_after block ops d ≡ with_tree block (roots_after block d.lead ops d.root) d
leaving block [] l d is = ap (λ (lead : List (List ℕ)). record d { lead = lead }) (sym is)
leaving block (op ∷ ops) l d is =
    let root : Node = root_after block d.lead op d.root in
    let lead : List (List ℕ) = lead_by block (children_of root) d.lead in
    let all : Node = roots_after block lead ops root in
    let same : all ≡ roots_after block d.lead ops root = ops_any_lead block lead d.lead ops l.1 root in
    leaving block ops l.1 (with_tree block root d) (lead_twice block (children_of root) (children_of root) d.lead (λ h. h))
    ∙ (ap (λ (t : List (List ℕ)). record d { lead = t; root = all }) (lead_twice block (children_of root) (children_of all) d.lead (λ h. ops_leave block lead ops l.1 root h))
    ∙ ap (λ (n : Node). with_tree block n d) same)

-- a change at the root is the only one, or each operation leaves items and entries
abbrev pub PutsOrKeeps : ℕ → List Changed → Type 0
PutsOrKeeps doc cs = ((v : Node) × (cs ≡ ([], replaces v) ∷ [])) ⊎ AllKeepSome (ops_of doc cs)

path_end : (p : List Step) (s : Step) → (t : Step) × (q : List Step) × (p ++ s ∷ [] ≡ t ∷ q)
path_end [] s = (s, [], refl)
path_end (t ∷ p) s = (t, p ++ s ∷ [], refl)

adds_leave : (doc : ℕ) (p : List Step) (xs : List Addition) → AllKeepSome (map (add_op doc p) xs)
adds_leave doc p [] = tt
adds_leave doc p (appends k v ∷ xs) = (tt, adds_leave doc p xs)
adds_leave doc p (overwrites k v ∷ xs) = (path_end p (To k), adds_leave doc p xs)

-- below the root each operation leaves them
below_keeps : (doc : ℕ) (c : Changed) → ((s : Step) × (q : List Step) × (c.0 ≡ s ∷ q)) → IsKept c.1 → AllKeepSome (change_ops doc c)
below_keeps doc (p, replaces v) b k = (b, tt)
below_keeps doc (p, adds xs) b k = adds_leave doc p xs
below_keeps doc (p, changes.removes) b k = absurd k
below_keeps doc (p, sets_comment comments.Line text) b k = (tt, tt)
below_keeps doc (p, sets_comment comments.Head text) b k = (tt, tt)

first_below : (p q : List Step) → Before p q → (s : Step) × (r : List Step) × (p ≡ s ∷ r)
first_below [] q h = absurd h
first_below (s ∷ p) q h = (s, p, refl)

second_below : (p q : List Step) → Before p q → (s : Step) × (r : List Step) × (q ≡ s ∷ r)
second_below (t ∷ p) (s ∷ q) h = (s, q, refl)
second_below _ _ h = absurd h

all_below : (doc : ℕ) (p : List Step) (cs : List Changed) → ToEach Before p cs → AreKept cs → AllKeepSome (ops_of doc cs)
all_below doc p [] h k = tt
all_below doc p (c ∷ cs) h k = each_join KeepsSome (change_ops doc c) (ops_of doc cs) (below_keeps doc c (second_below p c.0 h.0) k.0) (all_below doc p cs h.1 k.1)

one_keeps : (doc : ℕ) (c : Changed) → IsKept c.1 → PutsOrKeeps doc (c ∷ [])
one_keeps doc ([], replaces v) k = inl (v, refl)
one_keeps doc (s ∷ p, replaces v) k = inr ((s, p, refl), tt)
one_keeps doc (p, adds xs) k = inr (each_join KeepsSome (map (add_op doc p) xs) [] (adds_leave doc p xs) tt)
one_keeps doc (p, changes.removes) k = absurd k
one_keeps doc (p, sets_comment comments.Line text) k = inr (tt, tt)
one_keeps doc (p, sets_comment comments.Head text) k = inr (tt, tt)

pub puts_or_keeps : (doc : ℕ) (cs : List Changed) → InPairs Before cs → AreKept cs → PutsOrKeeps doc cs
puts_or_keeps doc [] h k = inr tt
puts_or_keeps doc (c ∷ []) h k = one_keeps doc c k.0
puts_or_keeps doc (c ∷ (d ∷ ds)) h k =
    inr (each_join KeepsSome (change_ops doc c) (ops_of doc (d ∷ ds)) (below_keeps doc c (first_below c.0 d.0 h.0.0) k.0) (all_below doc c.0 (d ∷ ds) h.0 k.1))

-- ---- where entries or items are removed

-- none of these is at the path of that one step
abbrev pub NoneAt : Step → List Changed → Type 0
NoneAt s cs = Each (λ (c : Changed). c.0 ≢ s ∷ []) cs

-- none but perhaps the first
abbrev pub NoneLater : Step → List Changed → Type 0
NoneLater s [] = Unit {0}
NoneLater s (c ∷ cs) = NoneAt s cs

-- the first item or entry of a root is changed first
abbrev pub FirstIn : Children → List Changed → Type 0
FirstIn none cs = Unit {0}
FirstIn (child label n ds) cs = NoneLater (step_to 0 label) cs

abbrev pub IsFirst : Node → List Changed → Type 0
IsFirst root cs = FirstIn (children_of root) cs

-- nothing is done at the first item or entry
abbrev FirstFree : NodeEdits → Children → Type 0
FirstFree f none = Unit {0}
FirstFree f (child label n cs) = f (step_to 0 label ∷ []) ≡ None

root_kept : (block : Bool) (f : NodeEdits) (lead : List (List ℕ)) (root : Node) → f [] ≡ None → FirstFree f (children_of root) → lead_by block (children_of (at_once f root)) lead ≡ lead_by block (children_of root) lead
root_kept block f lead root free h = search rules

module _ (block : Bool) (doc : ℕ) (d : Document) (is : IsLed block d) (tree : IsTree d.root) where
  -- nothing is done at a path at which there is no change
  not_done : (s : Step) (cs : List Changed) → NoneAt s cs → node_edits_of block d.lead cs (s ∷ []) ≡ None
  not_done s [] h = refl
  not_done s (c ∷ cs) h = search (rules, cond_both, node_edits_of, path_same, not_done s cs h.1)

  first_free : (kids : Children) (c : Changed) (cs : List Changed) → FirstIn kids (c ∷ cs) → FirstFree (node_edits_of block d.lead cs) kids
  first_free none c cs h = tt
  first_free (child label n ds) c cs h = not_done (step_to 0 label) cs h

  first_rest : (kids : Children) (c : Changed) (cs : List Changed) → FirstIn kids (c ∷ cs) → FirstIn kids cs
  first_rest kids c cs h1 = search rules

  gone_ops : (c : Changed) (lead : List (List ℕ)) → IsGone c.1 → (n : Node) → document_after block (change_ops doc c)
      (record { lead = lead; root = n }) ≡ record { lead = lead_by block (children_of (roots_after block lead (change_ops doc c) n)) lead; root = roots_after block lead (change_ops doc c) n }
  gone_ops c lead h1 n = search rules

  removed_document : (cs : List Changed) → InPairs Before cs → AreGone cs → IsFirst d.root cs → document_after block (ops_of doc (reverse cs)) d ≡ changed_at_once block cs d
  removed_document [] h g f =
      ap (λ (lead : List (List ℕ)). record d { lead = lead }) (sym is) ∙ ap (λ (n : Node). with_tree block n d) (sym (idle (node_edits_of block d.lead []) d.root (λ q. refl)))
  removed_document (c ∷ cs) h g f =
      let later : NodeEdits = node_edits_of block d.lead cs in
      let spared : AreSpared block d.lead (c ∷ cs) = spared_in_order block d.lead (c ∷ cs) h in
      let root : Node = at_once later d.root in
      let kept : lead_by block (children_of root) d.lead ≡ d.lead = root_kept block later d.lead d.root (spares_root later c.0 spared.0) (first_free (children_of d.root) c cs f) ∙ is in
      let created : roots_after block d.lead (change_ops doc c) root ≡ at_once (node_edits_of block d.lead (c ∷ cs)) d.root =
      change_after block d.lead doc c root ∙ sym (one_more c.0 (node_edit_of block d.lead c) later d.root tree spared.0) in
      cc (
        reverse-cons c cs,
        ops_join block d.lead doc (reverse cs) (c ∷ []),
        document_join block (ops_of doc (reverse cs)) (change_ops doc c ++ []) d,
        removed_document cs h.1 g.1 (first_rest (children_of d.root) c cs f),
        append-nil (change_ops doc c),
        gone_ops c d.lead g.0 root,
      )

  -- the operations of changes, one after the other, make all of them in a document
  pub document_folds : (removal : Bool) (cs : List Changed) → InPairs Before cs → MayFold removal cs → (removal ≡ true → IsFirst d.root cs) → document_after block (ops_of doc (ordered removal cs)) d ≡ changed_at_once block cs d
  document_folds removal cs h1 h2 h3 = search (rules, removed_document, puts_or_keeps, roots_after, leaving, folds)
