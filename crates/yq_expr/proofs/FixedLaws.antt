-- What an update of one node at a fixed path plans, and that no update brings an alias.
use Rattle.std.proofs.Common.{rules, not, ◌==◌, ◌≡◌, ℕ, cond, pos, Bool, true, false, List, [], ◌∷◌, ◌++◌, length, map, slice_get, Option}
use Rattle.std.proofs.Common.{Some, None, if◌then◌else◌, is_some, option_map, refl, sym, ap, subst, ◌∙◌, arith, append-nil, append_assoc}
use Rattle.std.{proofs.lemmas.Bool.false≢true, proofs.lemmas.Bool.Decides.nat_tests, proofs.lemmas.Option.{none-some, same_Some}}
use Rattle.std.{proofs.lemmas.Simd.map-map, specs.List.list_any, specs.Borrow.Bor, specs.Prelude.{IfSome, Result, Ok, Err}}
use Rattle.std.specs.declared.alloc.AllocError.{AllocError}
use Rattle.yq_core.{specs.Scalar.ScalarText, specs.Entries.tree_step, specs.Anchors.names_of, specs.Shapes.{AreItems, IsTree}}
use Rattle.yq_core.specs.Paths.{Step, To, Nth, child_at, key_is, node_at}
use Rattle.yq_core.specs.Tree.{Node, scalar, list, Children, none, child, children_of}
use Rattle.yq_semantics.{specs.View.{stage_of, term_of, program_step, update_of}, specs.declared.program.CommentPlace.CommentPlace}
use Rattle.yq_semantics.specs.Judgement.{Judgement, and_then, gives, refuses}
use Rattle.yq_semantics.specs.Changes.{replaces, Changed, Room, allowed, at_each, changes_at, changes_in, can_be_comment, has_comment}
use Rattle.yq_semantics.specs.Changes.{is_too_deep, is_too_long, is_used_in, is_used_inside, put_with_path, takes_used, update_changes}
use Rattle.yq_semantics.{specs.Fits.IsBelow, specs.Meaning.{AreReady, all_changed, changed_at_once, meaning, placed_edit}}
use Rattle.yq_semantics.{specs.NodeEdits.done_by, specs.Operations.{Operation, operation_of}, specs.Pipes.places}
use Rattle.yq_semantics.{specs.Plans.{all_ops, comment_op, is_removal, plan}, specs.Places.{FoundPlace, step_there, traverse}}
use Rattle.yq_semantics.specs.Program.{PathStep, key, index, Stage, path, literal, Update, UpdatesHold, assign, delete, comment}
use Rattle.yq_semantics.{specs.Rooms.room_of, specs.declared.refusal.Refusal.TheVariants.BadCommentText}
use Rattle.yq_semantics.{proofs.ChildPlaces.{child_tree, children_tree}, proofs.JudgementLaws.{gives_same, then_gives}}
use Rattle.yq_semantics.{proofs.RoomLaws.rooms_are_ready, proofs.updates.Aliases.{AllWriteNone, WritesNone, all_bring, at_once_no_more}}
use Rattle.yq_semantics.{proofs.updates.Each.each_weaker, proofs.updates.FitChanges.update_fit, proofs.updates.FitsInOrder.MayChange}
use Rattle.yq_semantics.{proofs.updates.Mentions.in_less, specs.declared.op.Op.Op, proofs.updates.Apart.no_entry}
use Rattle.yq_documents.{specs.Documents.Document, specs.Reading.{documents_of, cut_of, read_at}, proofs.ReadLaws.read_takes}
use Rattle.yq_documents.proofs.ReadyLaws.{read_ready}
use Rattle.yq_outline.{proofs.ShapeLaws.{shaped_by_lines, shaped_is_tree}, specs.Names.is_reference}
use Rattle.yq_places.specs.NodesAt.{NodeAt, node_in, node_summary}
use Rattle.yq_planner.{specs.ValidChanges.HasValidValue, proofs.UsedLaws.{none_refer, none_used}}
use Rattle.yq_flow_edits.specs.Valued.{IsValueTree}
use Rattle.yq_expr.specs.FixedPaths.{AreFixed, CommentsOne, IfAny, IsFixed, IsFixedOp, IsOpOf, FindsNode, IsSole, LeadsToOne, PlansOnly}
use Rattle.yq_expr.specs.FixedPaths.{fixed_step}
use Rattle.yq_core.specs.declared.path.Step as core_step
use Rattle.yq_semantics.specs.declared.program.PathStep as declared_step
use Rattle.yq_semantics.specs.declared.program.Stage as declared_stage
use Rattle.yq_semantics.specs.declared.program.Term as declared_term
use Rattle.yq_semantics.specs.declared.program.Update as declared_update
use Rattle.yq_semantics.specs.Operations as operations
use Rattle.yq_semantics.specs.declared.program.CommentPlace.TheVariants as comments
use Rattle.yq_semantics.specs.declared.program.Operator.TheVariants as operator

-- ---- where fixed steps lead

-- a place that is there
abbrev there : List Step → Node → FoundPlace
there y m = record { path = y; node = m; missing = [] }

-- an item has no key, and an entry has one
no_key : (k : List ℕ) (cs : Children) → AreItems cs → child_at (To k) cs ≡ None
no_key k none h = refl
no_key k (child label n cs) h = ap (λ (o : Option (List ℕ)). cond (key_is k o) (Some n) (child_at (To k) cs)) h.0 ∙ no_key k cs h.1

key_there : (j : List ℕ) (y : List Step) (m k : Node) → IsTree m → child_at (To j) (children_of m) ≡ Some k → step_there (key j) (there y m) ≡ gives (there (y ++ To j ∷ []) k ∷ [])
key_there j y m k tree at = search (rules, none-some, no_key)

item_there : (i : ℕ) (y : List Step) (m k : Node) → IsTree m → child_at (Nth i) (children_of m) ≡ Some k → step_there (index (pos i)) (there y m) ≡ gives (there (y ++ Nth i ∷ []) k ∷ [])
item_there i y m k tree at = search (rules, none-some, no_entry)

fixed_there : (s : PathStep) (x : Step) (y : List Step) (m k : Node) → fixed_step s ≡ Some x → IsTree m → child_at x (children_of m) ≡ Some k → step_there s (there y m) ≡ gives (there (y ++ x ∷ []) k ∷ [])
fixed_there s x y m k is tree at = search (rules, same_Some, key_there, item_there, none-some)

-- the child on a path to a node
on_way : (x : Step) (xs : List Step) (m n : Node) → node_at (x ∷ xs) m ≡ Some n → (k : Node) × (child_at x (children_of m) ≡ Some k) × (node_at xs k ≡ Some n)
on_way x xs m n at = search (rules, none-some)

walked : (ss : List PathStep) (xs y : List Step) (m n : Node) → IsTree m → map fixed_step ss ≡ map (λ s. Some s) xs → node_at xs m ≡ Some n → traverse ss (there y m ∷ []) ≡ gives (there (y ++ xs) n ∷ [])
walked [] [] y m n tree same at = (λ i. gives (there (sym (append-nil y) i) (same_Some _ _ at i) ∷ []))
walked [] (x ∷ xs) y m n tree same at = absurd (cc)
walked (s ∷ ss) [] y m n tree same at = absurd (cc)
walked (s ∷ ss) (x ∷ xs) y m n tree same at = search (rules, on_way, child_tree, children_tree, fixed_there, append_assoc, walked ss xs (y ++ x ∷ []))

-- where a pipe leads that is one fixed path
pub place_found : (pipe : List Stage) (xs : List Step) (root n : Node) → IsTree root → IsFixed pipe xs → node_at xs root ≡ Some n → places 0 pipe root ≡ gives (there xs n ∷ [])
place_found pipe xs root n tree h at = search (rules, walked)

-- ---- one change

-- the one change at a place
at_one : (root : Node) (f : FoundPlace → Judgement (List Changed)) (p : FoundPlace) (c : Changed) → f p ≡ gives (c ∷ []) → allowed root c ≡ gives c → at_each root f (p ∷ []) ≡ gives (c ∷ [])
at_one root f p c is free = search rules

-- the plan of one change in one document
plan_one : (u : Update) (rooms : ℕ → Room) (d : Document) (c : Changed) → has_comment u ≡ true → changes_in u 0 (rooms 0) d.root ≡ gives (c ∷ []) → plan u rooms (d ∷ []) ≡ gives (all_ops (is_removal u) 0 ((c ∷ []) ∷ []))
plan_one u rooms d c can is = search rules

-- ---- what an update of one node plans

module _ (rooms : ℕ → Room) (d : Document) (tree : IsTree d.root) (free : (n : Node) → is_used_in (names_of d.root) (Some n) ≡ false) where
  -- the node to which a path leads in the one document
  in_document : (xs : List Step) → LeadsToOne (d ∷ []) 0 xs → (n : Node) × (node_at xs d.root ≡ Some n)
  in_document xs h = (h.node, subst (λ (e : Document). node_at xs e.root ≡ Some h.node) (sym (same_Some _ _ h.there)) h.at)

  put_planned : (left : List Stage) (xs : List Step) (n v : Node) → IsFixed left xs → node_at xs d.root ≡ Some n → is_too_long (replaces v) ≡ false → is_too_deep (length xs) (replaces v) ≡ false →
      plan (assign left operator.Set (literal v ∷ [])) rooms (d ∷ []) ≡ gives (operations.replace 0 xs v ∷ [])
  put_planned left xs n v fixed at short near =
      let u : Update = assign left operator.Set (literal v ∷ []) in
      let taken : takes_used d.root xs (replaces v) ≡ false = ap (λ (o : Option Node). is_used_inside (names_of d.root) o) at ∙ free (list None (children_of n)) in
      let one : changes_in u 0 (rooms 0) d.root ≡ gives ((xs, replaces v) ∷ []) =
      ap (and_then (changes_at 0 (rooms 0) d.root u)) (place_found left xs d.root n tree fixed at)
      ∙ at_one d.root (λ q. put_with_path q v) (there xs n) (xs, replaces v) refl (search rules) in
      plan_one u rooms d (xs, replaces v) refl one

  removal_planned : (left : List Stage) (xs : List Step) (n : Node) → IsBelow xs → IsFixed left xs → node_at xs d.root ≡ Some n → plan (delete left) rooms (d ∷ []) ≡ gives (operations.remove 0 xs ∷ [])
  removal_planned left xs n below fixed at = search (rules, place_found, at_one, plan_one)

  comment_planned : (left : List Stage) (xs : List Step) (n : Node) (place : CommentPlace) (text : List ℕ) → can_be_comment place text ≡ true → IsFixed left xs →
      node_at xs d.root ≡ Some n → (rooms 0).has place xs ≡ true → plan (comment left place text) rooms (d ∷ []) ≡ gives (comment_op 0 xs place text ∷ [])
  comment_planned left xs n place text can fixed at room = search (rules, place_found, at_one, plan_one)

  -- an update of one node at a fixed path that is there plans its operation
  pub fixed_plans : (u : Update) (op : Operation) → IsFixedOp u op → FindsNode rooms (d ∷ []) op → plan u rooms (d ∷ []) ≡ gives (op ∷ [])
  fixed_plans u (operations.replace doc xs v) h r =
      let at = in_document xs (subst (λ (k : ℕ). LeadsToOne (d ∷ []) k xs) h.first r) in
      let near : is_too_deep (length xs) (replaces (scalar None h.kind h.text)) ≡ false = grind (arith, nat_tests, h.near) in
      ap (λ (w : Update). plan w rooms (d ∷ [])) (h.is ∙ ap (λ (w : Node). assign h.left operator.Set (literal w ∷ [])) h.scalar)
      ∙ (put_planned h.left xs at.0 (scalar None h.kind h.text) h.fixed at.1 refl near
      ∙ (λ i. gives (operations.replace (sym h.first i) xs (sym h.scalar i) ∷ [])))
  fixed_plans u (operations.append doc xs k v) h r = absurd h
  fixed_plans u (operations.remove doc xs) h r =
      let at = in_document xs (subst (λ (k : ℕ). LeadsToOne (d ∷ []) k xs) h.first r) in
      ap (λ (w : Update). plan w rooms (d ∷ [])) h.is ∙ (removal_planned h.left xs at.0 h.below h.fixed at.1 ∙ (λ i. gives (operations.remove (sym h.first i) xs ∷ [])))
  fixed_plans u (operations.line_comment doc xs text) h r =
      let at = in_document xs (subst (λ (k : ℕ). LeadsToOne (d ∷ []) k xs) h.first r.0) in
      let room = subst (λ (k : ℕ). (rooms k).has comments.Line xs ≡ true) h.first r.1 in
      ap (λ (w : Update). plan w rooms (d ∷ [])) h.is ∙ (comment_planned h.left xs at.0 comments.Line text h.can h.fixed at.1 room ∙ (λ i. gives (operations.line_comment (sym h.first i) xs text ∷ [])))
  fixed_plans u (operations.head_comment doc xs text) h r =
      let at = in_document xs (subst (λ (k : ℕ). LeadsToOne (d ∷ []) k xs) h.first r.0) in
      let room = subst (λ (k : ℕ). (rooms k).has comments.Head xs ≡ true) h.first r.1 in
      ap (λ (w : Update). plan w rooms (d ∷ [])) h.is ∙ (comment_planned h.left xs at.0 comments.Head text h.can h.fixed at.1 room ∙ (λ i. gives (operations.head_comment (sym h.first i) xs text ∷ [])))

-- the value of such an operation is valid
pub fixed_valid : (u : Update) (op : Operation) → IsFixedOp u op → HasValidValue op
fixed_valid u (operations.replace doc xs v) h = subst IsValueTree (sym h.scalar) (refl, h.valid)
fixed_valid u (operations.append doc xs k v) h = absurd h
fixed_valid u (operations.remove doc xs) h = tt
fixed_valid u (operations.line_comment doc xs text) h = tt
fixed_valid u (operations.head_comment doc xs text) h = tt

-- the same of an answer, if it has one
pub any_valid : (u : declared_update.Update) (r : Result (Option Op) AllocError) → IfAny r (IsOpOf u) → IfAny r (λ op. HasValidValue (operation_of op))
any_valid u (Ok (Some x)) h = fixed_valid (update_of u) (operation_of x) h
any_valid u (Ok None) h = tt
any_valid u (Err e) h = tt

-- ---- on a text

-- the documents of a text that reads are ready
pub text_ready : (t : List ℕ) → read_at t ≡ Some (cut_of t) → AreReady (room_of t) 0 (documents_of t)
text_ready t is = rooms_are_ready t (read_ready shaped_by_lines shaped_is_tree t (documents_of t) (read_takes t (cut_of t) is))

pub fixed_only : (t : List ℕ) (u : Update) (op : Operation) → read_at t ≡ Some (cut_of t) → IsSole (documents_of t) → IsFixedOp u op → FindsNode (room_of t) (documents_of t) op → PlansOnly u t op
fixed_only t u op is sole h r =
    let ready : AreReady (room_of t) 0 (sole.document ∷ []) = subst (AreReady (room_of t) 0) sole.is (text_ready t is) in
    search (rules, fixed_plans)

-- a node of a document that is there
pub one_there : (t : List ℕ) (doc : ℕ) (xs : List Step) → is_some (node_in doc xs (cut_of t)) ≡ true → LeadsToOne (documents_of t) doc xs
one_there t doc xs h = search (rules, false≢true)

-- documents of which one is read, without aliases
pub sole_of : (docs : List Document) (d : Document) → docs ≡ d ∷ [] → list_any is_reference (names_of d.root) ≡ false → IsSole docs
sole_of docs d is unreferred = record { document = d; is = is; free = λ n. none_used (names_of d.root) (names_of n) (λ k. none_refer (names_of d.root) k unreferred) }

-- ---- after an update

-- what was chosen
chosen_so : {A : Type 0} (b : Bool) (j : Judgement A) (x : A) → (if b then j else refuses BadCommentText) ≡ gives x → (b ≡ true) × (j ≡ gives x)
chosen_so b j x h = search rules

-- an update brings no alias into the one document
pub sole_stays : (u : Update) (rooms : ℕ → Room) (docs after : List Document) → AreReady rooms 0 docs → UpdatesHold (u ∷ []) → meaning u rooms docs ≡ gives after → IsSole docs → IsSole after
sole_stays u rooms docs after ready holds meant sole =
    let d : Document = sole.document in
    let one : meaning u rooms (d ∷ []) ≡ gives after = ap (λ (ds : List Document). meaning u rooms ds) (sym sole.is) ∙ meant in
    let tree : IsTree d.root = (subst (AreReady rooms 0) sole.is ready).0.0 in
    let x = then_gives (λ (css : List (List Changed)). gives (all_changed rooms 0 css (d ∷ []))) (update_changes u rooms (d.root ∷ [])) after one in
    let chosen = chosen_so (has_comment u) (and_then (λ a. and_then (λ b. gives (a ∷ b)) (gives [])) (changes_in u 0 (rooms 0) d.root)) x.0 x.1 in
    let y = then_gives (λ a. and_then (λ b. gives (a ∷ b)) (gives [])) (changes_in u 0 (rooms 0) d.root) x.0 chosen.1 in
    let cs : List Changed = y.0 in
    let is : after ≡ changed_at_once (rooms 0).block cs d ∷ [] = sym (gives_same x.2) ∙ ap (λ (css : List (List Changed)). all_changed rooms 0 css (d ∷ [])) (sym (gives_same y.2)) in
    let fit = update_fit u 0 (rooms 0) d.root cs tree holds chosen.0 y.1 in
    let brings : AllWriteNone cs = each_weaker (λ (c : Changed). MayChange (rooms 0) d.root c × WritesNone c.1) (λ (c : Changed). WritesNone c.1) (λ c both. both.1) cs fit in
    record {
      document = changed_at_once (rooms 0).block cs d;
      is = is;
      free = λ n. in_less (changed_at_once (rooms 0).block cs d).root d.root (at_once_no_more (done_by (map (placed_edit (rooms 0).block d.lead) cs)) (all_bring (rooms 0).block d.lead cs brings) d.root) (Some n) (sole.free n);
    }

-- ---- what calls answer

-- one document of a text, without aliases
pub sole_by : (docs : List Document) → length docs ≡ 1 → ((d : Document) → slice_get docs 0 ≡ Some d → list_any is_reference (names_of d.root) ≡ false) → IsSole docs
sole_by (d ∷ []) one all = sole_of (d ∷ []) d refl (all d refl)
sole_by _ one all = absurd (omega (arith, one))

-- what isn't so
pub not_so : (b : Bool) → not b ≡ true → b ≡ false
not_so b h = search rules

-- of two things of which the same is known, one is there where the other is
both_there : {A B C : Type 0} (f : A → C) (g : B → C) (a : Option A) (b : Option B) → option_map f a ≡ option_map g b → is_some a ≡ true → is_some b ≡ true
both_there f g a b e h = search rules

-- a node of which something is known in a text
pub leads_so : {A : Type 0} (f : A → NodeAt) (o : Option A) (t u : List ℕ) (doc : ℕ) (xs ys : List Step) → u ≡ t → ys ≡ xs → option_map f o ≡ option_map node_summary (node_in doc ys (cut_of u)) → is_some o ≡ true →
    LeadsToOne (documents_of t) doc xs
leads_so f o t u doc xs ys text steps e h = search (rules, one_there, both_there)

-- the steps of a pipe that is one path
pub fixed_by : (own : List declared_step.PathStep) (steps : List core_step.Step) → AreFixed own steps → map fixed_step (map program_step own) ≡ map (λ s. Some s) (map tree_step steps)
fixed_by own steps h = map-map fixed_step program_step own ∙ (h ∙ sym (map-map (λ s. Some s) tree_step steps))

-- steps of which there are some
pub some_below : (xs : List core_step.Step) (b : Bool) → b ≡ (length xs == 0) → b ≡ false → IsBelow (map tree_step xs)
some_below [] b is none_there = absurd (false≢true (sym none_there ∙ is))
some_below (x ∷ xs) b is none_there = tt

-- an update that sets a comment at a fixed path
pub comments_one : (u : Update) (left own : List Stage) (doc : ℕ) (steps : List Step) (place given : CommentPlace) (text written : List ℕ) → u ≡ comment own given text → given ≡ place → written ≡ text → doc ≡ 0 →
    IsFixed left steps → left ≡ own → has_comment u ≡ true → CommentsOne u doc steps place written
comments_one u left own doc steps place given text written is put same first fixed_left mine can = search rules

-- what is so of the steps, or of the scalar, that are there
pub alone_by : (pipe : List declared_stage.Stage) (o : Option (Bor (List declared_step.PathStep))) (x : Bor (List declared_step.PathStep)) → o ≡ Some x →
    IfSome o (λ y. map stage_of pipe ≡ path (map program_step y.now) ∷ []) → map stage_of pipe ≡ path (map program_step x.now) ∷ []
alone_by pipe o x is h = subst (λ z. IfSome z (λ y. map stage_of pipe ≡ path (map program_step y.now) ∷ [])) is h

pub term_by : (right : List declared_term.Term) (o : Option (Bor ScalarText)) (x : Bor ScalarText) → o ≡ Some x →
    IfSome o (λ y. map term_of right ≡ literal (scalar None y.now.kind y.now.text) ∷ []) → map term_of right ≡ literal (scalar None x.now.kind x.now.text) ∷ []
term_by right o x is h = subst (λ z. IfSome z (λ y. map term_of right ≡ literal (scalar None y.now.kind y.now.text) ∷ [])) is h
