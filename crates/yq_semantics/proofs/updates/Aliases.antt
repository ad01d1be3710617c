-- No change brings an alias that was not there.
use Rattle.std.proofs.Common.{◌≡◌, ℕ, suc, ◌⊎◌, Bool, List, [], ◌∷◌, map, Option, Some, None, refl, subst, inl, inr, rules}
use Rattle.std.{proofs.lemmas.Bool.cond_both, proofs.lemmas.Option.{none-some, same_Some}}
use Rattle.yq_core.{specs.Tree.{Label, Node, list, Children, none, child}, specs.Paths.{Step, further, change_child, append_child, within}}
use Rattle.yq_semantics.specs.Changes.{Addition, Change, replaces, adds, Changed, value_in}
use Rattle.yq_semantics.specs.NodeEdits.{NodeEdit, becomes, NodeEdits, step_to, under, done_at, child_by, node_edit_inside, each_at_once}
use Rattle.yq_semantics.{specs.NodeEdits.{at_once, same_path, done_by}, specs.Meaning.{add_to, add_all, placed_edit, node_edit_of}}
use Rattle.yq_semantics.{proofs.updates.Mentions.{Mentions, AnyMentions, HasNoAlias, MentionsNoMore}, proofs.updates.Each.Each}
use Rattle.yq_semantics.proofs.updates.Spares.{child_kept_or_gone}
use Rattle.yq_documents.specs.TreeEdits.{replaced_node, led}
use Rattle.yq_core.specs.Tree as tree

-- what is done at a place brings no alias
abbrev BringsNone : NodeEdit → Type 0
BringsNone (becomes g) = (m : Node) → MentionsNoMore (g m) m
BringsNone _ = Unit {0}

abbrev pub BringNone : NodeEdits → Type 0
BringNone f = (q : List Step) (x : NodeEdit) → f q ≡ Some x → BringsNone x

child_no_more : (a : List ℕ) (d : Option NodeEdit) (label : Label) (m n : Node) (rest cs : Children) → (Mentions a m → Mentions a n) → (AnyMentions a rest → AnyMentions a cs) → AnyMentions a (child_by d label m rest) →
    AnyMentions a (child label n cs)
child_no_more a d label m n rest cs f g = search (rules, child_kept_or_gone)

done_no_more : (a : List ℕ) (d : Option NodeEdit) → ((x : NodeEdit) → d ≡ Some x → BringsNone x) → (n m : Node) → (Mentions a m → Mentions a n) → Mentions a (done_at d n m) → Mentions a n
done_no_more a None b n m f h = f h
done_no_more a (Some (becomes g)) b n m f h = b (becomes g) refl n a h
done_no_more a (Some _) b n m f h = h

mutual
  inside_no_more : (a : List ℕ) (f : NodeEdits) → BringNone f → (n : Node) → Mentions a (node_edit_inside f n) → Mentions a n
  inside_no_more a f b (list anchor cs) h = each_no_more a f b 0 cs h
  inside_no_more a f b (tree.map anchor cs) h = each_no_more a f b 0 cs h
  inside_no_more a f b _ h = h

  each_no_more : (a : List ℕ) (f : NodeEdits) → BringNone f → (i : ℕ) (cs : Children) → AnyMentions a (each_at_once f i cs) → AnyMentions a cs
  each_no_more a f b i none h = h
  each_no_more a f b i (child label n cs) h =
      child_no_more a (f (step_to i label ∷ [])) label (done_at (f (step_to i label ∷ [])) n (node_edit_inside (under (step_to i label) f) n)) n (each_at_once f (suc i) cs) cs
      (done_no_more a (f (step_to i label ∷ [])) (b (step_to i label ∷ [])) n (node_edit_inside (under (step_to i label) f) n) (inside_no_more a (under (step_to i label) f) (λ q. b (step_to i label ∷ q)) n))
      (each_no_more a f b (suc i) cs) h

-- all that is done brings none
pub at_once_no_more : (f : NodeEdits) → BringNone f → (n : Node) → MentionsNoMore (at_once f n) n
at_once_no_more f b n a h = done_no_more a (f []) (b []) n (node_edit_inside f n) (inside_no_more a f b n) h

-- ---- changes

replaced_mentions : (a : List ℕ) (v old : Node) → Mentions a (replaced_node v old) → Mentions a v
replaced_mentions a v old h1 = search rules

led_mentions : (a : List ℕ) (block : Bool) (lead : List (List ℕ)) (p : List Step) (v : Node) → Mentions a (led block lead p v) → Mentions a v
led_mentions a block lead p v h1 = search rules

append_mentions : (a : List ℕ) (label : Label) (v : Node) (cs : Children) → AnyMentions a (append_child label v cs) → Mentions a v ⊎ AnyMentions a cs
append_mentions a label v none (inl h) = inl h
append_mentions a label v none (inr h) = inr h
append_mentions a label v (child first n cs) (inl h) = inr (inl h)
append_mentions a label v (child first n cs) (inr h) = elim (append_mentions a label v cs h) [ inl k ↦ inl k | inr k ↦ inr (inr k) ]

change_mentions : (a : List ℕ) (s : Step) (v : Node) (cs : Children) → AnyMentions a (change_child s (replaced_node v) cs) → Mentions a v ⊎ AnyMentions a cs
change_mentions a s v none h = inr h
change_mentions a s v (child label n cs) h = search (rules, replaced_mentions, change_mentions a (further s) v cs)

added_mentions : (a : List ℕ) (x : Addition) (n : Node) → Mentions a (within (add_to x) n) → Mentions a (value_in x) ⊎ Mentions a n
added_mentions a x n h1 = search (rules, append_mentions, change_mentions)

-- values without aliases are added
abbrev pub AddNone : List Addition → Type 0
AddNone xs = Each (λ (x : Addition). HasNoAlias (value_in x)) xs

pub one_no_more : (x : Addition) → HasNoAlias (value_in x) → (n : Node) → MentionsNoMore (within (add_to x) n) n
one_no_more x free n a h = elim (added_mentions a x n h) [ inl e ↦ absurd (free a e) | inr e ↦ e ]

pub all_no_more : (xs : List Addition) → AddNone xs → (n : Node) → MentionsNoMore (add_all xs n) n
all_no_more [] free n a h = h
all_no_more (x ∷ xs) free n a h = one_no_more x free.0 n a (all_no_more xs free.1 (within (add_to x) n) a h)

-- a change writes no alias
abbrev pub WritesNone : Change → Type 0
WritesNone (replaces v) = HasNoAlias v
WritesNone (adds xs) = AddNone xs
WritesNone _ = Unit {0}

abbrev pub AllWriteNone : List Changed → Type 0
AllWriteNone cs = Each (λ (c : Changed). WritesNone c.1) cs

node_edit_brings : (block : Bool) (lead : List (List ℕ)) (c : Changed) → WritesNone c.1 → BringsNone (node_edit_of block lead c)
node_edit_brings block lead c h1 = search (rules, led_mentions, replaced_mentions, all_no_more)

-- what a list of changes does brings none
pub all_bring : (block : Bool) (lead : List (List ℕ)) (cs : List Changed) → AllWriteNone cs → BringNone (done_by (map (placed_edit block lead) cs))
all_bring block lead [] w q x h = absurd (none-some _ h)
all_bring block lead (c ∷ cs) w q x h =
    cond_both (same_path c.0 q) (Some (node_edit_of block lead c)) (done_by (map (placed_edit block lead) cs) q) (λ d. d ≡ Some x → BringsNone x)
    (λ e same. subst BringsNone (same_Some _ _ same) (node_edit_brings block lead c w.0)) (λ e later. all_bring block lead cs w.1 q x later) h
