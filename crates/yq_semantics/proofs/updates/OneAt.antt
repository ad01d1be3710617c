-- What operations do, one after the other, is what is done at single places.
use Rattle.std.proofs.Common.{◌≡◌, ℕ, Bool, cond, List, [], ◌∷◌, ◌++◌, map, Option, Some, refl, sym, ap, ◌∙◌, rules}
use Rattle.yq_core.specs.Tree.{Label, Node, Children, none, child}
use Rattle.yq_core.specs.Paths.{Step, is_here, further, change_child, relabel_child, remove_child, within, changed_at}
use Rattle.yq_semantics.{specs.After.root_after, specs.Changes.{Addition, appends, overwrites, replaces, adds, sets_comment, Changed}}
use Rattle.yq_semantics.specs.NodeEdits.{NodeEdit, becomes, line, head, goes, done_at, child_by, at_child, one_at}
use Rattle.yq_semantics.{specs.Meaning.{add_to, add_all, head_comment_lines, line_comment_text, node_edit_of}, specs.Operations.Operation}
use Rattle.yq_semantics.specs.Plans.{add_op, change_ops}
use Rattle.yq_documents.specs.TreeEdits.{replaced_node, at_end, with_line_comment, with_head_comment, led}
use Rattle.yq_semantics.specs.declared.program.CommentPlace.TheVariants as comments
use Rattle.yq_semantics.specs.Changes as changes

-- ---- changes of one node

within_same : (g h : Children → Children) → ((cs : Children) → g cs ≡ h cs) → (n : Node) → within g n ≡ within h n
within_same g h h1 n = search rules

within_none : (n : Node) → within (λ cs. cs) n ≡ n
within_none n = search rules

child_none : (s : Step) (cs : Children) → change_child s (λ n. n) cs ≡ cs
child_none s none = refl
child_none s (child label n cs) = go (is_here s label) (child_none (further s) cs)
  where
    go : (b : Bool) → change_child (further s) (λ n. n) cs ≡ cs → cond b (child label n cs) (child label n (change_child (further s) (λ n. n) cs)) ≡ child label n cs
    go b ih = search rules

child_twice : (s : Step) (f g : Node → Node) (cs : Children) → change_child s f (change_child s g cs) ≡ change_child s (λ n. f (g n)) cs
child_twice s f g none = refl
child_twice s f g (child label n cs) = go (is_here s label) refl (child_twice (further s) f g cs)
  where
    go : (b : Bool) → is_here s label ≡ b → change_child (further s) f (change_child (further s) g cs) ≡ change_child (further s) (λ n. f (g n)) cs →
        change_child s f (cond b (child label (g n) cs) (child label n (change_child (further s) g cs))) ≡ cond b (child label (f (g n)) cs) (child label n (change_child (further s) (λ n. f (g n)) cs))
    go b is ih = search rules

pub change_none : (p : List Step) (n : Node) → changed_at p (λ m. m) n ≡ n
change_none [] n = refl
change_none (s ∷ p) n =
    within_same (change_child s (changed_at p (λ m. m))) (λ cs. cs) (λ cs. ap (λ (h : Node → Node). change_child s h cs) (λ i m. change_none p m i) ∙ child_none s cs) n ∙ within_none n

-- two changes of one node
pub change_twice : (p : List Step) (f g : Node → Node) (n : Node) → changed_at p f (changed_at p g n) ≡ changed_at p (λ m. f (g m)) n
change_twice [] f g n = refl
change_twice (s ∷ p) f g n =
    search rules
    ∙ within_same (λ cs. change_child s (changed_at p f) (change_child s (changed_at p g) cs)) (change_child s (changed_at p (λ m. f (g m))))
    (λ cs. child_twice s (changed_at p f) (changed_at p g) cs ∙ ap (λ (h : Node → Node). change_child s h cs) (λ i m. change_twice p f g m i)) n

-- a change further on
pub change_join : (p q : List Step) (f : Node → Node) (n : Node) → changed_at (p ++ q) f n ≡ changed_at p (changed_at q f) n
change_join [] q f n = refl
change_join (s ∷ p) q f n = ap (λ (h : Node → Node). within (change_child s h) n) (λ i m. change_join p q f m i)

-- ---- what is done at one place

at_child_same : (s : Step) (h k : Label → Node → Children → Children) → ((label : Label) (n : Node) (cs : Children) → h label n cs ≡ k label n cs) → (cs : Children) → at_child s h cs ≡ at_child s k cs
at_child_same s h k same cs = ap (λ (j : Label → Node → Children → Children). at_child s j cs) (λ i label n ds. same label n ds i)

at_child_change : (s : Step) (g : Node → Node) (cs : Children) → at_child s (λ label m ds. child label (g m) ds) cs ≡ change_child s g cs
at_child_change s g none = refl
at_child_change s g (child label n cs) = ap (λ ds. cond (is_here s label) (child label (g n) cs) (child label n ds)) (at_child_change (further s) g cs)

at_child_relabel : (s : Step) (g : Label → Label) (cs : Children) → at_child s (λ label m ds. child (g label) m ds) cs ≡ relabel_child s g cs
at_child_relabel s g none = refl
at_child_relabel s g (child label n cs) = ap (λ ds. cond (is_here s label) (child (g label) n cs) (child label n ds)) (at_child_relabel (further s) g cs)

at_child_remove : (s : Step) (cs : Children) → at_child s (λ label m ds. ds) cs ≡ remove_child s cs
at_child_remove s none = refl
at_child_remove s (child label n cs) = ap (λ ds. cond (is_here s label) cs (child label n ds)) (at_child_remove (further s) cs)

-- a node that becomes another
pub one_becomes : (p : List Step) (g : Node → Node) (n : Node) → one_at p (becomes g) n ≡ changed_at p g n
one_becomes [] g n = refl
one_becomes (s ∷ []) g n = within_same (at_child s (λ label m cs. child label (g m) cs)) (change_child s g) (at_child_change s g) n
one_becomes (s ∷ (t ∷ p)) g n =
    within_same (at_child s (λ label m cs. child label (one_at (t ∷ p) (becomes g) m) cs)) (change_child s (changed_at (t ∷ p) g))
    (λ cs. at_child_same s (λ label m ds. child label (one_at (t ∷ p) (becomes g) m) ds) (λ label m ds. child label (changed_at (t ∷ p) g m) ds) (λ label m ds. ap (λ k. child label k ds) (one_becomes (t ∷ p) g m)) cs
    ∙ at_child_change s (changed_at (t ∷ p) g) cs) n

-- what is done among the items or entries where a path ends
module _ (x : NodeEdit) (e : Step → Children → Children) (root : (n : Node) → done_at (Some x) n n ≡ n)
    (at : (s : Step) (cs : Children) → at_child s (λ label m ds. child_by (Some x) label (done_at (Some x) m m) ds) cs ≡ e s cs) where
  one_end : (p : List Step) (n : Node) → one_at p x n ≡ at_end e p n
  one_end [] n = root n
  one_end (s ∷ []) n = within_same (at_child s (λ label m cs. child_by (Some x) label (done_at (Some x) m m) cs)) (e s) (at s) n
  one_end (s ∷ (t ∷ p)) n =
      within_same (at_child s (λ label m cs. child label (one_at (t ∷ p) x m) cs)) (change_child s (at_end e (t ∷ p)))
      (λ cs. at_child_same s (λ label m ds. child label (one_at (t ∷ p) x m) ds) (λ label m ds. child label (at_end e (t ∷ p) m) ds) (λ label m ds. ap (λ k. child label k ds) (one_end (t ∷ p) m)) cs
      ∙ at_child_change s (at_end e (t ∷ p)) cs) n

pub one_line : (text : Option (List ℕ)) (p : List Step) (n : Node) → one_at p (line text) n ≡ at_end (λ s. relabel_child s (with_line_comment text)) p n
one_line text p n = one_end (line text) (λ s. relabel_child s (with_line_comment text)) (λ m. refl) (λ s cs. at_child_relabel s (with_line_comment text) cs) p n

pub one_head : (texts : List (List ℕ)) (p : List Step) (n : Node) → one_at p (head texts) n ≡ at_end (λ s. relabel_child s (with_head_comment texts)) p n
one_head texts p n = one_end (head texts) (λ s. relabel_child s (with_head_comment texts)) (λ m. refl) (λ s cs. at_child_relabel s (with_head_comment texts) cs) p n

-- ---- operations on a root

-- what operations make of a root, one after the other
abbrev pub roots_after : Bool → List (List ℕ) → List Operation → Node → Node
roots_after block lead [] n = n
roots_after block lead (op ∷ ops) n = roots_after block lead ops (root_after block lead op n)

pub roots_join : (block : Bool) (lead : List (List ℕ)) (ops others : List Operation) (n : Node) → roots_after block lead (ops ++ others) n ≡ roots_after block lead others (roots_after block lead ops n)
roots_join block lead [] others n = refl
roots_join block lead (op ∷ ops) others n = roots_join block lead ops others (root_after block lead op n)

led_below : (block : Bool) (lead : List (List ℕ)) (p : List Step) (s : Step) (v : Node) → led block lead (p ++ s ∷ []) v ≡ v
led_below block lead [] s v = refl
led_below block lead (t ∷ p) s v = refl

pub add_after : (block : Bool) (lead : List (List ℕ)) (doc : ℕ) (p : List Step) (x : Addition) (n : Node) → root_after block lead (add_op doc p x) n ≡ changed_at p (within (add_to x)) n
add_after block lead doc p (appends k v) n = refl
add_after block lead doc p (overwrites k v) n = simp (led_below, change_join)

adds_after : (block : Bool) (lead : List (List ℕ)) (doc : ℕ) (p : List Step) (xs : List Addition) (n : Node) → roots_after block lead (map (add_op doc p) xs) n ≡ changed_at p (add_all xs) n
adds_after block lead doc p [] n = sym (change_none p n)
adds_after block lead doc p (x ∷ xs) n = search (rules, add_after, change_twice, adds_after block lead doc p xs (changed_at p (within (add_to x)) n))

-- the operations of a change do what is done at its place
pub change_after : (block : Bool) (lead : List (List ℕ)) (doc : ℕ) (c : Changed) (n : Node) → roots_after block lead (change_ops doc c) n ≡ one_at c.0 (node_edit_of block lead c) n
change_after block lead doc (p, replaces v) n = sym (one_becomes p (replaced_node (led block lead p v)) n)
change_after block lead doc (p, adds xs) n = adds_after block lead doc p xs n ∙ sym (one_becomes p (add_all xs) n)
change_after block lead doc (p, changes.removes) n = sym (one_end goes remove_child (λ m. refl) (λ s cs. at_child_remove s cs) p n)
change_after block lead doc (p, sets_comment comments.Line text) n = sym (one_line (line_comment_text text) p n)
change_after block lead doc (p, sets_comment comments.Head text) n = sym (one_head (head_comment_lines text) p n)
