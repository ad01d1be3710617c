-- Operations on a root, one after the other, make all changes at once.
use Rattle.std.proofs.Common.{◌≡◌, ℕ, Bool, true, false, cond, List, [], ◌∷◌, ◌++◌, map, reverse, Some, refl, sym, ap, subst, ◌∙◌, inl, inr}
use Rattle.std.{proofs.Common.{append-nil, append_assoc, rules}, proofs.lemmas.List.reverse-reverse}
use Rattle.std.proofs.lemmas.Bool.{false≢true, eqb-true, and_parts, cond_both}
use Rattle.yq_core.{specs.Tree.Node, specs.Paths.Step, specs.PathOrder.{Before, Apart}, specs.Shapes.IsTree}
use Rattle.yq_semantics.specs.Changes.{Change, sets_comment, Changed}
use Rattle.yq_semantics.specs.NodeEdits.{NodeEdit, NodeEdits, at_once, same_step, same_path, and_at, done_by}
use Rattle.yq_semantics.{specs.Meaning.{placed_edit, node_edit_of}, specs.Plans.{change_ops, ops_of, is_removal, ordered}}
use Rattle.yq_semantics.{specs.Program.{Update, assign, delete, comment}, proofs.updates.AtOnce.one_more}
use Rattle.yq_semantics.{proofs.PathLaws.{bytes_same, parts_not}, proofs.updates.Spares.{idle, IsSpared, Spares, node_edits_same}}
use Rattle.yq_semantics.proofs.updates.OneAt.{roots_after, roots_join, change_after}
use Rattle.yq_semantics.proofs.updates.Each.{Each, each_join, each_reverse, each_weaker, reverse-cons}
use Rattle.yq_semantics.specs.Changes as changes

-- ---- which path is which

step_same : (s t : Step) → same_step s t ≡ true → s ≡ t
step_same s t h1 = search (rules, bytes_same, false≢true, eqb-true)

pub path_same : (p q : List Step) → same_path p q ≡ true → p ≡ q
path_same [] [] h = refl
path_same (s ∷ p) (t ∷ q) h =
    let parts = and_parts (same_step s t) (same_path p q) h in
    ap (λ (r : Step). r ∷ p) (step_same s t parts.0) ∙ ap (λ (r : List Step). t ∷ r) (path_same p q parts.1)
path_same _ _ h = absurd (false≢true h)

before_irrefl : (p : List Step) → Before p p → ⊥
before_irrefl [] h = h
before_irrefl (s ∷ p) (inl h) = parts_not s h
before_irrefl (s ∷ p) (inr h) = before_irrefl p h.1

pub apart_irrefl : (p : List Step) → Apart p p → ⊥
apart_irrefl p h = search (rules, before_irrefl)

pub apart_sym : (p q : List Step) → Apart p q → Apart q p
apart_sym p q h = search rules

-- ---- changes whose paths are related

-- a path is so related to that of each change
abbrev pub ToEach : (List Step → List Step → Type 0) → List Step → List Changed → Type 0
ToEach R p cs = Each (λ (c : Changed). R p c.0) cs

-- that of each change is so related to those of later ones
abbrev pub InPairs : (List Step → List Step → Type 0) → List Changed → Type 0
InPairs R [] = Unit {0}
InPairs R (c ∷ cs) = ToEach R c.0 cs × InPairs R cs

pairs_last : (R : List Step → List Step → Type 0) (cs : List Changed) (c : Changed) → InPairs R cs → ((p : List Step) → R c.0 p → R p c.0) → ToEach R c.0 cs → InPairs R (cs ++ c ∷ [])
pairs_last R [] c h flip k = (tt, tt)
pairs_last R (d ∷ ds) c h flip k = (each_join (λ (e : Changed). R d.0 e.0) ds (c ∷ []) h.0 (flip d.0 k.0, tt), pairs_last R ds c h.1 flip k.1)

pub pairs_reverse : (R : List Step → List Step → Type 0) → ((p q : List Step) → R p q → R q p) → (cs : List Changed) → InPairs R cs → InPairs R (reverse cs)
pairs_reverse R flip [] h = tt
pairs_reverse R flip (c ∷ cs) h = subst (InPairs R) (sym (reverse-cons c cs)) (pairs_last R (reverse cs) c (pairs_reverse R flip cs h.1) (flip c.0) (each_reverse (λ (d : Changed). R c.0 d.0) cs h.0))

pub pairs_apart : (cs : List Changed) → InPairs Before cs → InPairs Apart cs
pairs_apart [] h = tt
pairs_apart (c ∷ cs) h = (each_weaker (λ (d : Changed). Before c.0 d.0) (λ d. Apart c.0 d.0) (λ d b. inl b) cs h.0, pairs_apart cs h.1)

-- ---- what is kept

-- each change is so
abbrev pub AllAre : (Change → Type 0) → List Changed → Type 0
AllAre P cs = Each (λ (c : Changed). P c.1) cs

-- nothing is removed
abbrev pub IsKept : Change → Type 0
IsKept changes.removes = ⊥
IsKept _ = Unit {0}

abbrev pub AreKept : List Changed → Type 0
AreKept cs = AllAre IsKept cs

-- something is removed
abbrev pub IsGone : Change → Type 0
IsGone changes.removes = Unit {0}
IsGone _ = ⊥

abbrev pub AreGone : List Changed → Type 0
AreGone cs = AllAre IsGone cs

-- nodes are exchanged, or get items or entries
abbrev pub IsWritten : Change → Type 0
IsWritten changes.removes = ⊥
IsWritten (sets_comment place text) = ⊥
IsWritten _ = Unit {0}

-- a comment is set
abbrev pub IsSaid : Change → Type 0
IsSaid (sets_comment place text) = Unit {0}
IsSaid _ = ⊥

-- each is of the kind of the update
abbrev pub IsOf : Update → Change → Type 0
IsOf (assign left operator right) = IsWritten
IsOf (delete left) = IsGone
IsOf (comment left place text) = IsSaid

-- each is a removal, or none is
abbrev pub MayFold : Bool → List Changed → Type 0
MayFold true cs = AreGone cs
MayFold false cs = AreKept cs

pub of_may_fold : (u : Update) (cs : List Changed) → AllAre (IsOf u) cs → MayFold (is_removal u) cs
of_may_fold u cs h1 = search (rules, each_weaker)

-- ---- what is done is the same in any order

module _ (block : Bool) (lead : List (List ℕ)) where
  abbrev pub node_edits_of : List Changed → NodeEdits
  node_edits_of cs = done_by (map (placed_edit block lead) cs)

  -- one done last is done as if it were the first, where it is apart from the others
  done_last : (cs : List Changed) (c : Changed) → ToEach Apart c.0 cs → node_edits_of (cs ++ c ∷ []) ≡ and_at c.0 (node_edit_of block lead c) (node_edits_of cs)
  done_last [] c h = refl
  done_last (d ∷ ds) c h =
      node_edits_same (node_edits_of ((d ∷ ds) ++ c ∷ [])) (and_at c.0 (node_edit_of block lead c) (node_edits_of (d ∷ ds)))
      (λ q. ap (λ (f : NodeEdits). and_at d.0 (node_edit_of block lead d) f q) (done_last ds c h.1) ∙ exchanged q)
    where
      exchanged : (q : List Step) → and_at d.0 (node_edit_of block lead d) (and_at c.0 (node_edit_of block lead c) (node_edits_of ds)) q ≡ and_at c.0 (node_edit_of block lead c) (and_at d.0 (node_edit_of block lead d) (node_edits_of ds)) q
      exchanged q = go (same_path d.0 q) (same_path c.0 q) refl refl
        where
          go : (a b : Bool) → same_path d.0 q ≡ a → same_path c.0 q ≡ b → cond a (Some (node_edit_of block lead d)) (cond b (Some (node_edit_of block lead c)) (node_edits_of ds q)) ≡ cond b (Some (node_edit_of block lead c))
              (cond a (Some (node_edit_of block lead d)) (node_edits_of ds q))
          go true true x y = absurd (apart_irrefl c.0 (subst (Apart c.0) (path_same d.0 q x ∙ sym (path_same c.0 q y)) h.0))
          go true false x y = refl
          go false true x y = refl
          go false false x y = refl

  done_reverse : (cs : List Changed) → InPairs Apart cs → node_edits_of (reverse cs) ≡ node_edits_of cs
  done_reverse [] h = refl
  done_reverse (c ∷ cs) h = search (rules, reverse-cons, done_last, each_reverse, done_reverse cs h.1)

  -- ---- one after the other

  -- what is done later spares each
  abbrev pub AreSpared : List Changed → Type 0
  AreSpared [] = Unit {0}
  AreSpared (c ∷ cs) = Spares (node_edits_of cs) c.0 × AreSpared cs

  spared_by : (p : List Step) (x : NodeEdit) (r : List Step) (f : NodeEdits) → IsSpared (Some x) p r → Spares f p → Spares (and_at r x f) p
  spared_by p x r f h k q = cond_both (same_path r q) (Some x) (f q) (λ d. IsSpared d p q) (λ e. subst (IsSpared (Some x) p) (path_same r q e) h) (λ e. k q)

  spares_later : (p : List Step) (cs : List Changed) → ToEach Before p cs → Spares (node_edits_of cs) p
  spares_later p [] h = λ q. tt
  spares_later p (c ∷ cs) h = spared_by p (node_edit_of block lead c) c.0 (node_edits_of cs) (search rules) (spares_later p cs h.1)

  pub spared_in_order : (cs : List Changed) → InPairs Before cs → AreSpared cs
  spared_in_order [] h = tt
  spared_in_order (c ∷ cs) h = (spares_later c.0 cs h.0, spared_in_order cs h.1)

  pub ops_join : (doc : ℕ) (cs ds : List Changed) → ops_of doc (cs ++ ds) ≡ ops_of doc cs ++ ops_of doc ds
  ops_join doc [] ds = refl
  ops_join doc (c ∷ cs) ds = ap (λ ops. change_ops doc c ++ ops) (ops_join doc cs ds) ∙ sym (append_assoc (change_ops doc c) (ops_of doc cs) (ops_of doc ds))

  -- those of changes from the last one to the first make all of them at once, where each is spared by what is done later
  pub fold_back : (doc : ℕ) (n : Node) → IsTree n → (cs : List Changed) → AreSpared cs → roots_after block lead (ops_of doc (reverse cs)) n ≡ at_once (node_edits_of cs) n
  fold_back doc n tree [] h = sym (idle (node_edits_of []) n (λ q. refl))
  fold_back doc n tree (c ∷ cs) h =
      cc (
        reverse-cons c cs,
        ops_join doc (reverse cs) (c ∷ []),
        roots_join block lead (ops_of doc (reverse cs)) (ops_of doc (c ∷ [])) n,
        fold_back doc n tree cs h.1,
        append-nil (change_ops doc c),
        change_after block lead doc c (at_once (node_edits_of cs) n),
        one_more c.0 (node_edit_of block lead c) (node_edits_of cs) n tree h.0,
      )

  spares_kept : (p : List Step) (cs : List Changed) → AreKept cs → ToEach Apart p cs → Spares (node_edits_of cs) p
  spares_kept p [] k h = λ q. tt
  spares_kept p (c ∷ cs) k h = spared_by p (node_edit_of block lead c) c.0 (node_edits_of cs) (search rules) (spares_kept p cs k.1 h.1)

  pub spared_apart : (cs : List Changed) → AreKept cs → InPairs Apart cs → AreSpared cs
  spared_apart [] k h = tt
  spared_apart (c ∷ cs) k h = (spares_kept c.0 cs k.1 h.0, spared_apart cs k.1 h.1)

  -- the operations of changes, one after the other, make all of them at once
  pub folds : (doc : ℕ) (n : Node) → IsTree n → (removal : Bool) (cs : List Changed) → InPairs Before cs → MayFold removal cs → roots_after block lead (ops_of doc (ordered removal cs)) n ≡ at_once (node_edits_of cs) n
  folds doc n tree removal cs h k =
      search (rules, fold_back, spared_in_order, pairs_reverse, apart_sym, pairs_apart, roots_after, reverse-reverse, spared_apart, each_reverse, done_reverse)
