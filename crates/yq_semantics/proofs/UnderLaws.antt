-- Changes and operations at and below a node, and what they are by their paths from the root.
use Rattle.std.proofs.Common.{rules, ◌≡◌, ℕ, Bool, true, false, List, [], ◌∷◌, ◌++◌, map, refl, sym, ap, ◌∙◌, append_assoc, append-nil}
use Rattle.std.{proofs.Common.{arith, length}, proofs.lemmas.List.map-append}
use Rattle.yq_core.{specs.Entries.tree_step, specs.Paths.Step}
use Rattle.yq_semantics.specs.Changes.{Addition, appends, overwrites, Changed, replaces, adds, removes, sets_comment}
use Rattle.yq_semantics.specs.Operations.{Operation, replace, append, remove, line_comment, head_comment, operation_of, operations_of}
use Rattle.yq_semantics.{specs.Plans.{add_op, change_ops, ops_of, ordered}, proofs.Lists.map_reverse}
use Rattle.yq_semantics.{specs.Under.{all_under, change_under, operation_under, ops_under, part_ops}, specs.declared.op.Op.Op}
use Rattle.yq_semantics.specs.declared.under.OpsUnder.{OpsUnder}
use Rattle.yq_core.specs.declared.path.Step as declared
use Rattle.yq_semantics.specs.declared.program.CommentPlace.TheVariants as comments

-- ---- at the root

pub same_changes : (cs : List Changed) → map (change_under []) cs ≡ cs
same_changes [] = refl
same_changes (c ∷ cs) = ap (λ xs. c ∷ xs) (same_changes cs)

same_op : (op : Operation) → operation_under [] op ≡ op
same_op (replace doc steps v) = refl
same_op (append doc steps key v) = refl
same_op (remove doc steps) = refl
same_op (line_comment doc steps text) = refl
same_op (head_comment doc steps text) = refl

same_ops : (ops : List Operation) → map (operation_under []) ops ≡ ops
same_ops [] = refl
same_ops (op ∷ ops) = λ i. same_op op i ∷ same_ops ops i

-- operations are what they are by their own paths
pub ops_whole : (ops : List Op) → ops_under [] ops ≡ operations_of ops
ops_whole ops = same_ops (operations_of ops)

pub none_there : {X : Type 0} (xs : List X) → length xs ≡ 0 → xs ≡ []
none_there [] none = refl
none_there (x ∷ xs) none = absurd (omega (arith, none))

pub part_at_root : (x : OpsUnder) → length x.front.items ≡ 0 → operations_of x.ops.items ≡ part_ops x
part_at_root x root = sym (ap (λ (steps : List declared.Step). ops_under steps x.ops.items) (none_there x.front.items root) ∙ ops_whole x.ops.items)

-- ---- after others

pub steps_after : (xs ys : List declared.Step) → map tree_step (xs ++ ys) ≡ map tree_step xs ++ map tree_step ys
steps_after xs ys = map-append tree_step xs ys

pub ops_after : (xs ys : List Op) → operations_of (xs ++ ys) ≡ operations_of xs ++ operations_of ys
ops_after xs ys = map-append operation_of xs ys

-- ---- operations of changes

module _ (front : List Step) where
  add_under : (doc : ℕ) (path : List Step) (x : Addition) → add_op doc (front ++ path) x ≡ operation_under front (add_op doc path x)
  add_under doc path (appends k v) = refl
  add_under doc path (overwrites k v) = search (rules, append_assoc)

  adds_under : (doc : ℕ) (path : List Step) (xs : List Addition) → map (add_op doc (front ++ path)) xs ≡ map (operation_under front) (map (add_op doc path) xs)
  adds_under doc path [] = refl
  adds_under doc path (x ∷ xs) = (λ i. add_under doc path x i ∷ adds_under doc path xs i)

  change_ops_under : (doc : ℕ) (c : Changed) → change_ops doc (change_under front c) ≡ map (operation_under front) (change_ops doc c)
  change_ops_under doc (path, replaces v) = refl
  change_ops_under doc (path, adds xs) = adds_under doc path xs
  change_ops_under doc (path, removes) = refl
  change_ops_under doc (path, sets_comment comments.Line text) = refl
  change_ops_under doc (path, sets_comment comments.Head text) = refl

  ops_of_under : (doc : ℕ) (cs : List Changed) → ops_of doc (map (change_under front) cs) ≡ map (operation_under front) (ops_of doc cs)
  ops_of_under doc [] = refl
  ops_of_under doc (c ∷ cs) =
      (λ i. change_ops_under doc c i ++ ops_of_under doc cs i) ∙ sym (map-append (operation_under front) (change_ops doc c) (ops_of doc cs))

  ordered_under : (removal : Bool) (cs : List Changed) → map (change_under front) (ordered removal cs) ≡ ordered removal (map (change_under front) cs)
  ordered_under true cs = map_reverse (change_under front) cs
  ordered_under false cs = refl

  -- the operations of changes, in the order in which these are made
  pub in_order_under : (doc : ℕ) (removal : Bool) (cs : List Changed) → map (operation_under front) (ops_of doc (ordered removal cs)) ≡ ops_of doc (ordered removal (map (change_under front) cs))
  in_order_under doc removal cs = sym (ops_of_under doc (ordered removal cs)) ∙ ap (ops_of doc) (ordered_under removal cs)

-- ---- parts

-- one more
pub parts_more : (xs : List OpsUnder) (x : OpsUnder) → all_under (xs ++ x ∷ []) ≡ all_under xs ++ part_ops x
parts_more [] x = append-nil (part_ops x)
parts_more (y ∷ ys) x = ap (λ os. part_ops y ++ os) (parts_more ys x) ∙ sym (append_assoc (part_ops y) (all_under ys) (part_ops x))
