-- Items and entries in flow, and the trees of their nodes.
use Rattle.std.proofs.Common.{◌≡◌, ℕ, List, [], ◌∷◌, ◌++◌, Option, Some, None, option_map, option_and_then, Bool, true, cond, refl, sym, ap}
use Rattle.std.{proofs.Common.{◌∙◌, rules}, proofs.lemmas.Option.{none-some, same_Some}}
use Rattle.yq_core.{specs.declared.kind.Kind.TheVariants.Text, specs.Answers.◌>>=◌, specs.BlockContent.block_content}
use Rattle.yq_core.{specs.Paths.{Step, is_here, further}, specs.Tree.key_label, specs.Entries.{EntryPieces, entry_pieces_at, path_inside}}
use Rattle.yq_core.specs.Nodes.{bare, FlowNode, empty, alias, scalar, coll, anchored, Items, none, item, key_text, sep_text}
use Rattle.yq_core.specs.Nodes.{opening_bracket, node_text, flow_items_text, IsFlowNode}
use Rattle.yq_core.{specs.Trees.{key_content, tree_of, items_tree, tree_collection, with_name, node_head}, proofs.PathLaws.path_holds}
use Rattle.yq_outline.{specs.Group.{group, is_fine}, specs.Labelled.{Labelled, labelled_at, labelled_from}, proofs.Finding.entry_of}
use Rattle.yq_outline.{proofs.LabelPaths.{reach, HasHead, rest_head}, proofs.PlaceLaws.at, specs.Lines.head_of}
use Rattle.yq_outline.{specs.Outline.{Line, first_anchor, head_or, value}, specs.Places.{FoundLine, find}}
use Rattle.yq_places.{proofs.RowPathLaws.found_place, specs.PrintedLines.{line_front, print_lines}}
use Rattle.yq_places.specs.PathPieces.{BlockEntry, FlowEntry, flow_in, flow_under, flow_at, content_inline, line_inline, PrintedDocument}
use Rattle.yq_places.{proofs.PrintedLaws.{IsValid, IsWritten}, proofs.FoundEntries.{IsFound, some_head}}
use Rattle.yq_row_table.specs.Rows.{Content, Nothing, Inline, Block}
use Rattle.yq_core.specs.Tree as tree
use Rattle.yq_core.specs.Entries as entries
use Rattle.yq_outline.specs.Outline as outlines

-- a node after another anchor
pub none_anchored : (n : tree.Node) → n ≡ outlines.anchored None n
none_anchored n = search rules

pub first_first : (a b c : Option (List ℕ)) → first_anchor a (first_anchor b c) ≡ first_anchor (first_anchor a b) c
first_first a b c = search rules

pub twice : (a b : Option (List ℕ)) (n : tree.Node) → outlines.anchored a (outlines.anchored b n) ≡ outlines.anchored (first_anchor a b) n
twice a b n = search (rules, first_first)

-- items by their pieces
abbrev pub pieces : FlowEntry → EntryPieces
pieces x = record { key = x.key; node = x.node; rest = x.after }

pub then_same : {A B C D : Type 0} (f : A → Option B) (g : C → Option D) (u : A → C) (v : B → D) → ((x : A) → option_map v (f x) ≡ g (u x)) → (o : Option A) → option_map v (option_and_then f o) ≡ option_and_then g (option_map u o)
then_same f g u v h1 o = search rules

pub in_pieces : (k : ℕ) (s : Step) (before : List ℕ) (is : Items) (after : List ℕ) → option_map pieces (flow_in k s before is after) ≡ entries.item_at k s is after
in_pieces k s before none after = refl
in_pieces k s before (item key n sep is) after = go (is_here s (key_label (key_content key))) (in_pieces k (further s) (before ++ key_text key (node_text n (sep_text sep []))) is after)
  where
    go : (b : Bool) → option_map pieces (flow_in k (further s) (before ++ key_text key (node_text n (sep_text sep []))) is after) ≡ entries.item_at k (further s) is after →
        option_map pieces (cond b (Some (record { before = before; key = key; node = n; after = sep_text sep (flow_items_text k is after) })) (flow_in k (further s) (before ++ key_text key (node_text n (sep_text sep []))) is after)) ≡
        cond b (Some (record { key = key; node = n; rest = sep_text sep (flow_items_text k is after) })) (entries.item_at k (further s) is after)
    go b h1 = search rules

pub under_pieces : (s : Step) (before : List ℕ) (node : FlowNode) (after : List ℕ) → option_map pieces (flow_under s before node after) ≡ path_inside s node after
under_pieces s before (coll k gap is) after = in_pieces k s (before ++ opening_bracket k ∷ gap) is after
under_pieces s before (anchored n gap node) after = under_pieces s (before ++ 38 ∷ (n ++ gap)) node after
under_pieces s before x after = refl

pub at_pieces : (ss : List Step) (x : FlowEntry) → option_map pieces (flow_at ss x) ≡ entry_pieces_at ss (pieces x)
at_pieces [] x = refl
at_pieces (s ∷ ss) x =
    then_same (flow_at ss) (entry_pieces_at ss) pieces pieces (at_pieces ss) (flow_under s (x.before ++ key_text x.key []) x.node x.after)
    ∙ ap (option_and_then (entry_pieces_at ss)) (under_pieces s (x.before ++ key_text x.key []) x.node x.after)

-- the item or entry at a path in another, by its key and node
abbrev pub flow_label : FlowEntry → Labelled
flow_label x = (key_label (key_content x.key), tree_of x.node)

in_labels : (k : ℕ) (s : Step) (before : List ℕ) (is : Items) (after : List ℕ) → labelled_at s (items_tree is) ≡ option_map flow_label (flow_in k s before is after)
unfolding items_tree
in_labels k s before none after = refl
in_labels k s before (item key n sep is) after = go (is_here s (key_label (key_content key))) (in_labels k (further s) (before ++ key_text key (node_text n (sep_text sep []))) is after)
  where
    go : (b : Bool) → labelled_at (further s) (items_tree is) ≡ option_map flow_label (flow_in k (further s) (before ++ key_text key (node_text n (sep_text sep []))) is after) →
        cond b (Some (key_label (key_content key), tree_of n)) (labelled_at (further s) (items_tree is)) ≡
        option_map flow_label (cond b (Some (record { before = before; key = key; node = n; after = sep_text sep (flow_items_text k is after) })) (flow_in k (further s) (before ++ key_text key (node_text n (sep_text sep []))) is after))
    go b h1 = search rules

collection_children : (k : ℕ) (cs : tree.Children) → tree.children_of (tree_collection k cs) ≡ cs
collection_children k cs = search rules

named_children : (a : List ℕ) (n : tree.Node) → tree.children_of (with_name a n) ≡ tree.children_of n
named_children a n = search rules

under_labels : (s : Step) (before : List ℕ) (node : FlowNode) (after : List ℕ) → labelled_at s (tree.children_of (tree_of node)) ≡ option_map flow_label (flow_under s before node after)
unfolding tree_of
under_labels s before empty after = refl
under_labels s before (alias n) after = refl
under_labels s before (scalar p) after = refl
under_labels s before (coll k gap is) after = ap (labelled_at s) (collection_children k (items_tree is)) ∙ in_labels k s (before ++ opening_bracket k ∷ gap) is after
under_labels s before (anchored n gap node) after = ap (labelled_at s) (named_children n (tree_of node)) ∙ under_labels s (before ++ 38 ∷ (n ++ gap)) node after

pub at_labels : (ss : List Step) (x : FlowEntry) → labelled_from ss (flow_label x) ≡ option_map flow_label (flow_at ss x)
at_labels [] x = refl
at_labels (s ∷ ss) x = ap (option_and_then (labelled_from ss)) (under_labels s (x.before ++ key_text x.key []) x.node x.after) ∙ go (λ y. at_labels ss y) (flow_under s (x.before ++ key_text x.key []) x.node x.after)
  where
    go : ((y : FlowEntry) → labelled_from ss (flow_label y) ≡ option_map flow_label (flow_at ss y)) → (o : Option FlowEntry) →
        option_and_then (labelled_from ss) (option_map flow_label o) ≡ option_map flow_label (option_and_then (flow_at ss) o)
    go h1 o = search rules

pub item_valid : (s : Step) (ss : List Step) (x y : FlowEntry) → flow_at (s ∷ ss) x ≡ Some y → IsValid x.node x.after → (depth : ℕ) × IsFlowNode true (Some 0) depth y.node y.after
item_valid s ss x y e v = let k = path_holds v.0 v.1 v.2 s ss (pieces x) (pieces y) v.3 (sym (at_pieces (s ∷ ss) x) ∙ ap (option_map pieces) e) in (k.0, k.2)

-- the tree of a node by its head
pub named_is : (a : List ℕ) (n : tree.Node) → with_name a n ≡ outlines.anchored (Some a) n
named_is a x = refl

pub head_tree : (node : FlowNode) (h : tree.Node) → node_head node ≡ Some h → (a : Option (List ℕ)) × (tree_of node ≡ outlines.anchored a h)
unfolding tree_of
head_tree empty h e = absurd (none-some _ e)
head_tree (alias n) h e = (None, same_Some _ _ e ∙ none_anchored h)
head_tree (scalar p) h e = (None, same_Some _ _ e ∙ none_anchored h)
head_tree (coll k g is) h e = (None, same_Some _ _ e ∙ none_anchored h)
head_tree (anchored n g node) h e = let k = head_tree node h e in (first_anchor (Some n) k.0, named_is n (tree_of node) ∙ (ap (outlines.anchored (Some n)) k.1 ∙ twice (Some n) k.0 h))

-- the item or entry at a path in a line's head
reach_anchored : (a : Option (List ℕ)) (s : Step) (ss : List Step) (n : tree.Node) → reach s ss (outlines.anchored a n) ≡ reach s ss n
reach_anchored a s ss n = search rules

head_labels : (t : Step) (ts : List Step) (before : List ℕ) (c : Content) (rest : List ℕ) (f : FoundLine) (h : tree.Node) → f.line.head ≡ Some h → head_of c ≡ Some h →
    labelled_from (t ∷ ts) (entry_of f.line f.under) ≡ option_map flow_label (content_inline before c rest >>= flow_at (t ∷ ts))
head_labels t ts before (Nothing tail) rest f h head e = absurd (none-some _ e)
head_labels t ts before (Block space anchor block) rest f h head e = cc (reach_anchored f.line.anchor t ts (tree.scalar None Text (block_content block)))
head_labels t ts before (Inline space node tail) rest f h head e =
    let a = head_tree node h e in
    ap (λ o. reach t ts (outlines.anchored f.line.anchor (head_or o (value f.under)))) head
    ∙ (reach_anchored f.line.anchor t ts h
    ∙ (sym (reach_anchored a.0 t ts h)
    ∙ (ap (reach t ts) (sym a.1) ∙ at_labels (t ∷ ts) (record { before = before ++ space; key = bare; node = node; after = tail ++ rest }))))

pub line_labels : (s : PrintedDocument) (t : Step) (ts : List Step) (e : BlockEntry) (f : FoundLine) (h : tree.Node) → IsFound s e f → f.line.head ≡ Some h →
    labelled_from (t ∷ ts) (entry_of f.line f.under) ≡ option_map flow_label (line_inline e >>= flow_at (t ∷ ts))
line_labels s t ts e f h found head = search (rules, head_labels)

-- steps go on in the head of a line that was found
pub head_there : (ls : List Line) (y : Step) (ys : List Step) (t : Step) (ts : List Step) (f : FoundLine) → find y ys (group ls) ≡ Some (f, t ∷ ts) → is_fine (group ls) ≡ true → (h : tree.Node) × (f.line.head ≡ Some h)
head_there ls y ys t ts f is fine =
    some_head t ts f.line.mark f.line.head f.after (at (λ x. HasHead x.1 x.0.line.mark x.0.line.head) (find y ys (group ls)) (f, t ∷ ts) is (rest_head y ys (group ls))) (found_place ls y ys (t ∷ ts) f is fine).1.2

-- An item in a line's head is at its path, and is valid.
pub record IsItemAt (ss : List Step) (f : FoundLine) (y : FlowEntry) : Type 0 where
  pub labelled : labelled_from ss (entry_of f.line f.under) ≡ Some (flow_label y)
  pub valid : (depth : ℕ) × IsFlowNode true (Some 0) depth y.node y.after

content_valid : (t : Step) (ts : List Step) (before : List ℕ) (c : Content) (rest : List ℕ) (x y : FlowEntry) → content_inline before c rest ≡ Some x → flow_at (t ∷ ts) x ≡ Some y → IsWritten c rest →
    (depth : ℕ) × IsFlowNode true (Some 0) depth y.node y.after
content_valid t ts before c rest x y h1 h2 h3 = search (rules, at, none-some, item_valid, same_Some)

pub head_item_at : (s : PrintedDocument) (t : Step) (ts : List Step) (e : BlockEntry) (f : FoundLine) (h : tree.Node) (x y : FlowEntry) → IsFound s e f → f.line.head ≡ Some h → line_inline e ≡ Some x →
    flow_at (t ∷ ts) x ≡ Some y → IsItemAt (t ∷ ts) f y
head_item_at s t ts e f h x y found head is at = record {
  labelled = line_labels s t ts e f h found head ∙ ap (option_map flow_label) (ap (λ o. o >>= flow_at (t ∷ ts)) is ∙ at);
  valid = content_valid t ts (e.before ++ (line_front e.line ++ e.line.mark)) e.line.content (print_lines e.under e.after) x y is at found.as_printed.0.written;
}
