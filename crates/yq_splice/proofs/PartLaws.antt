-- An update that is planned and carried out part by part.
use Rattle.std.proofs.Common.{◌≡◌, ◌⊎◌, inl, inr, ℕ, ◌≤◌, List, [], ◌∷◌, ◌++◌, length, Some, refl, sym, ap, ◌∙◌, subst, append_assoc}
use Rattle.std.proofs.Common.{append-nil}
use Rattle.yq_documents.{specs.Documents.{Document, ReadsDocuments}, specs.Reading.{cut_of, documents, documents_of, read_at}}
use Rattle.yq_documents.{proofs.ReadLaws.{one_reading, read_takes}, proofs.ReadyLaws.read_ready}
use Rattle.yq_outline.proofs.ShapeLaws.{shaped_by_lines, shaped_is_tree}
use Rattle.yq_semantics.{specs.After.{after_op, all_after, op_document}, specs.Changes.Room, specs.Fits.AllFit, specs.Meaning.AreReady}
use Rattle.yq_semantics.{specs.Judgement.{Judgement, MatchFails, gives, refuses, ExprError}, specs.Operations.Operation, specs.Plans.plan}
use Rattle.yq_semantics.{specs.Program.{Update, UpdatesHold}, specs.Rooms.room_of}
use Rattle.yq_semantics.specs.RoomsKept.{BlockLasts, KeepsBlockIn, LeavesRooms, MayFollow, NoneOn, SetComments, SetNoComment}
use Rattle.yq_semantics.{proofs.JudgementLaws.gives_same, proofs.RoomLaws.rooms_are_ready, proofs.updates.AlikeRooms.rest_follow}
use Rattle.yq_semantics.proofs.updates.RoomsLast.{plan_follows}
use Rattle.yq_eval.specs.PlaceView.{put_after}
use Rattle.yq_expr.{specs.Parts.{LeavesOps, rest_ops}, proofs.PartLaws.{nothing_left, whole_plan}}
use Rattle.yq_text.specs.Splice.{Splice}
use Rattle.yq_edit_laws.{specs.Answers.EditFails, specs.Carried.{carried, carry_all, carry_out, updated}}
use Rattle.yq_edit_laws.specs.Edit.{Edit, by_reading, edit_after, edit_then, in_order, unreadable}
use Rattle.yq_edit_laws.specs.Theorems.{IsApplied, IsFitting, IsLarge, Leading, StopsInOrder}
use Rattle.yq_edit_laws.{specs.Valid.{AreServed, FailsAt, HaveOperands, IsStep, UpdateFails}, proofs.ApplyLaws.applied_by}
use Rattle.yq_edit_laws.{proofs.MeaningLaws.{UpdateComes, plan_comes}, proofs.ServeLaws.{OperationsCome, all_come}}
use Rattle.yq_edit_laws.{proofs.OrderLaws.{after_both, following_none, fails_after, fails_itself, fails_on}, proofs.UpdateLaws.memory_fails}
use Rattle.yq_edit_rules.proofs.DoneLaws.{read_cut}
use Rattle.yq_splice.specs.Parts.{Awaits, IsJudged}
use Rattle.yq_failure.specs.declared.failure.Failure.TheVariants as failure
use Rattle.yq_edit_laws.specs.Edit as edits

-- ---- what is left of a plan

-- what operations and what is left after them are of what there was
record SplitsOff (xs zs : List Operation) (j : Judgement (List Operation)) : Type 0 where
  rest : List Operation
  is : j ≡ gives rest
  all : zs ≡ xs ++ rest

splits : (xs zs : List Operation) (j : Judgement (List Operation)) → put_after xs j ≡ gives zs → SplitsOff xs zs j
splits xs zs (gives ys) h = record { rest = ys; is = refl; all = sym (gives_same h) }
splits xs zs (refuses why) h = absurd (cc)

join_operands : (xs ys : List Operation) → HaveOperands xs → HaveOperands ys → HaveOperands (xs ++ ys)
join_operands [] ys h k = k
join_operands (x ∷ xs) ys h k = (h.0, join_operands xs ys h.1 k)

-- ---- operations and those after them

then_after : (g : List ℕ → Edit) (ds : List Splice) (r : Edit) → edit_after ds (edit_then g r) ≡ edit_then g (edit_after ds r)
then_after g ds unreadable = refl
then_after g ds (edits.refuses why) = refl
then_after g ds (edits.gives t es) = sym (after_both ds es (g t))

-- one thing, and others after it
order_one : {A : Type 0} (f : A → List ℕ → Edit) (xs ys : List A) → ((m : List ℕ) → in_order f (xs ++ ys) m ≡ edit_then (in_order f ys) (in_order f xs m)) →
    (e : Edit) → edit_then (in_order f (xs ++ ys)) e ≡ edit_then (in_order f ys) (edit_then (in_order f xs) e)
order_one f xs ys all unreadable = refl
order_one f xs ys all (edits.refuses why) = refl
order_one f xs ys all (edits.gives m ds) = ap (edit_after ds) (all m) ∙ then_after (in_order f ys) ds (in_order f xs m)

-- things in order, and others after them
in_order_both : {A : Type 0} (f : A → List ℕ → Edit) (xs ys : List A) (t : List ℕ) → in_order f (xs ++ ys) t ≡ edit_then (in_order f ys) (in_order f xs t)
in_order_both f [] ys t = sym (following_none (in_order f ys t))
in_order_both f (x ∷ xs) ys t = order_one f xs ys (λ m. in_order_both f xs ys m) (f x t)

first_none_on : (n : ℕ) (xs ys : List Operation) → NoneOn n (xs ++ ys) → NoneOn n xs
first_none_on n [] ys h = tt
first_none_on n (x ∷ xs) ys h = (h.0, first_none_on n xs ys h.1)

first_fit : (rooms : ℕ → Room) (xs ys : List Operation) (docs : List Document) → AllFit rooms (xs ++ ys) docs → AllFit rooms xs docs
first_fit rooms [] ys docs h = tt
first_fit rooms (x ∷ xs) ys docs h = (h.0, first_fit rooms xs ys (after_op rooms x docs) h.1)

first_last : (rooms : ℕ → Room) (xs ys : List Operation) (docs : List Document) → BlockLasts rooms (xs ++ ys) docs → BlockLasts rooms xs docs
first_last rooms [] ys docs h = tt
first_last rooms (x ∷ xs) ys docs h = (go h.0, first_last rooms xs ys (after_op rooms x docs) h.1)
  where
    go : (KeepsBlockIn x (after_op rooms x docs) ⊎ NoneOn (op_document x) (xs ++ ys)) → (KeepsBlockIn x (after_op rooms x docs) ⊎ NoneOn (op_document x) xs)
    go (inl k) = inl k
    go (inr k) = inr (first_none_on (op_document x) xs ys k)

first_set : (xs ys : List Operation) → SetComments (xs ++ ys) → SetComments xs
first_set [] ys h = tt
first_set (x ∷ xs) ys h = (h.0, first_set xs ys h.1)

first_set_none : (xs ys : List Operation) → SetNoComment (xs ++ ys) → SetNoComment xs
first_set_none [] ys h = tt
first_set_none (x ∷ xs) ys h = (h.0, first_set_none xs ys h.1)

first_comments : (xs ys : List Operation) → SetComments (xs ++ ys) ⊎ SetNoComment (xs ++ ys) → SetComments xs ⊎ SetNoComment xs
first_comments xs ys (inl h) = inl (first_set xs ys h)
first_comments xs ys (inr h) = inr (first_set_none xs ys h)

first_follow : (rooms : ℕ → Room) (xs ys : List Operation) (docs : List Document) → MayFollow rooms (xs ++ ys) docs → MayFollow rooms xs docs
first_follow rooms xs ys docs h = record {
  fit = first_fit rooms xs ys docs h.fit;
  last = record { block = first_last rooms xs ys docs h.last.block; comments = first_comments xs ys h.last.comments };
}

-- the first ones are served
pub first_served : (xs ys : List Operation) (m : List ℕ) → Awaits (xs ++ ys) m → HaveOperands xs → AreServed xs m
first_served xs ys m h operands = (
  h.documents,
  record { read = h.read; operands = operands; follow = first_follow (room_of m) xs ys h.documents h.follow },
)

-- after one operation the others may follow
pub next_await : (x : Operation) (xs : List Operation) (m n : List ℕ) (ds : List Splice) (h : Awaits (x ∷ xs) m) → IsApplied x m n ds → Awaits xs n
next_await x xs m n ds h a =
    let same : a.before ≡ h.documents = one_reading m a.before h.documents a.read h.read in
    record {
      documents = after_op (room_of m) x h.documents;
      read = subst (λ (docs : List Document). ReadsDocuments n (after_op (room_of m) x docs)) same a.reads;
      follow = rest_follow x xs (room_of m) (room_of n) h.documents
          (subst (λ (docs : List Document). LeavesRooms x (room_of m) (room_of n) (after_op (room_of m) x docs)) same a.room) h.follow;
    }

pub fitting : (x : Operation) (xs : List Operation) (m : List ℕ) → Awaits (x ∷ xs) m → IsFitting x m
fitting x xs m h = record { before = h.documents; read = h.read; fits = h.follow.fit.0 }

-- an edit that gives a text after splices gives it without them
after : (es fs : List Splice) (n : List ℕ) (r : Edit) → edit_after es r ≡ edits.gives n fs → (gs : List Splice) × (r ≡ edits.gives n gs)
after es fs n unreadable k = absurd (cc)
after es fs n (edits.refuses why) k = absurd (cc)
after es fs n (edits.gives o gs) k = (gs, cc)

-- what an edit gave, where another one of that text gave one in its turn
pub record GaveBetween (g : List ℕ → Edit) (r : Edit) (n : List ℕ) : Type 0 where
  pub between : List ℕ
  pub first : List Splice
  pub later : List Splice
  pub gave : r ≡ edits.gives between first
  pub then_gave : g between ≡ edits.gives n later

pub gave_between : (g : List ℕ → Edit) (r : Edit) (n : List ℕ) (ds : List Splice) → edit_then g r ≡ edits.gives n ds → GaveBetween g r n
gave_between g unreadable n ds k = absurd (cc)
gave_between g (edits.refuses why) n ds k = absurd (cc)
gave_between g (edits.gives o es) n ds k =
    let b = after es ds n (g o) k in
    record { between = o; first = es; later = b.0; gave = refl; then_gave = b.1 }

-- after the first ones the others may follow
others_await : (xs ys : List Operation) (m n : List ℕ) (ds : List Splice) → Awaits (xs ++ ys) m → HaveOperands xs → carry_all xs m ≡ edits.gives n ds → Awaits ys n
others_await [] ys m n ds h operands e = let text : m ≡ n = cc in subst (Awaits ys) text h
others_await (x ∷ xs) ys m n ds h operands e =
    let g : GaveBetween (carry_all xs) (carried x m) n = gave_between (carry_all xs) (carried x m) n ds e in
    let a : IsApplied x m g.between g.first = applied_by x m operands.0 (fitting x (xs ++ ys) m h) g.between g.first g.gave in
    others_await xs ys g.between n g.later (next_await x (xs ++ ys) m g.between g.first h a) operands.1 g.then_gave

-- ---- carrying out

-- what stops some of several stops all
stops_more : {A : Type 0} (R : Leading A) (S : A → List ℕ → Type 0) (xs ys : List A) (t : List ℕ) → StopsInOrder R S xs t → StopsInOrder R S (xs ++ ys) t
stops_more R S [] ys t h = absurd h
stops_more R S (x ∷ xs) ys t (inl s) = inl s
stops_more R S (x ∷ xs) ys t (inr h) = inr (h.0, h.1, h.2, stops_more R S xs ys h.0 h.3)

-- Some operations of an update's plan were carried out on a text, and the others are left (own).
pub record IsUnderWay (u : Update) (t : List ℕ) (before : List Splice) (doc place : ℕ) (m : List ℕ) (cs : List Splice) : Type 0 where
  pub made : List Operation
  pub rest : List Operation
  pub own : List Splice
  pub planned : plan u (room_of t) (documents_of t) ≡ gives (made ++ rest)
  pub left : rest_ops u (room_of t) (documents_of t) doc place ≡ gives rest
  pub operands : HaveOperands made
  pub carried : carry_all made t ≡ edits.gives m own
  pub all : cs ≡ before ++ own

module _ (u : Update) (t : List ℕ) (before : List Splice) (is : read_at t ≡ Some (cut_of t)) (holds : UpdatesHold (u ∷ [])) where
  ready : AreReady (room_of t) 0 (documents_of t)
  ready = subst (AreReady (room_of t) 0) (ap documents (read_cut t (cut_of t) is)) (rooms_are_ready t (read_ready shaped_by_lines shaped_is_tree t (documents_of t) (read_takes t (cut_of t) is)))

  all_await : (ops : List Operation) → plan u (room_of t) (documents_of t) ≡ gives ops → Awaits ops t
  all_await ops planned = record {
    documents = documents_of t;
    read = read_takes t (cut_of t) is;
    follow = plan_follows u (room_of t) (documents_of t) ops ready holds planned;
  }

  done : (ops : List Operation) → plan u (room_of t) (documents_of t) ≡ gives ops → updated u t ≡ carry_all ops t
  done ops planned = ap (by_reading (λ k. carry_out t (plan u (room_of t) (documents k)))) is ∙ ap (carry_out t) planned

  pub begun : (m : List ℕ) → m ≡ t → IsJudged u t → IsUnderWay u t before 0 0 m before
  begun m same judged = record {
    made = [];
    rest = judged.operations;
    own = [];
    planned = judged.planned;
    left = sym (whole_plan u (room_of t) (documents_of t) judged.order) ∙ judged.planned;
    operands = tt;
    carried = ap (λ (x : List ℕ). edits.gives x []) (sym same);
    all = sym (append-nil before);
  }

  module _ (doc place : ℕ) (m : List ℕ) (cs : List Splice) (h : IsUnderWay u t before doc place m cs) where
    pub unplanned : (e : ExprError) → MatchFails e (rest_ops u (room_of t) (documents_of t) doc place) → FailsAt e u t
    unplanned (failure.Fault why) k = absurd (let left = h.left in cc)
    unplanned failure.Memory k = memory_fails u t

    pub rest_awaits : Awaits h.rest m
    rest_awaits = others_await h.made h.rest t m h.own (all_await (h.made ++ h.rest) h.planned) h.operands h.carried

    pub all_carried : length (documents_of t) ≤ doc → (ds : List Splice) × IsStep u t m ds × (cs ≡ before ++ ds)
    all_carried past =
        let none : h.rest ≡ [] = gives_same (sym h.left ∙ nothing_left u (room_of t) (documents_of t) doc place past) in
        let planned : plan u (room_of t) (documents_of t) ≡ gives h.made = h.planned ∙ ap gives (ap (λ (xs : List Operation). h.made ++ xs) none ∙ append-nil h.made) in (
          h.own,
          record {
            exact = done h.made planned ∙ h.carried;
            is = subst (UpdateComes u t) h.carried (plan_comes u t (cut_of t) is h.made planned h.operands holds);
          },
          h.all,
        )

  -- some of the operations that are left, and the others
  module _ (doc place : ℕ) (m : List ℕ) (cs : List Splice) (h : IsUnderWay u t before doc place m cs) (ops others : List Operation) (split : h.rest ≡ ops ++ others) where
    abbrev so_far : List Operation
    so_far = h.made ++ ops

    whole : plan u (room_of t) (documents_of t) ≡ gives (so_far ++ others)
    whole = h.planned ∙ ap gives (ap (λ (xs : List Operation). h.made ++ xs) split ∙ sym (append_assoc h.made ops others))

    comes : carry_all so_far t ≡ edit_after h.own (carry_all ops m)
    comes = in_order_both carried h.made ops t ∙ ap (edit_then (carry_all ops)) h.carried

    module _ (operands : HaveOperands ops) where
      some_served : AreServed ops m
      some_served = first_served ops others m (subst (λ (xs : List Operation). Awaits xs m) split (rest_awaits doc place m cs h)) operands

      all_operands : HaveOperands so_far
      all_operands = join_operands h.made ops h.operands operands

      served : AreServed so_far t
      served = first_served so_far others t (all_await (so_far ++ others) whole) all_operands

      come : OperationsCome (all_after (room_of t) so_far served.0) so_far t (carry_all so_far t)
      come = all_come served.0 so_far t served.1

      stopped : (e : ExprError) → EditFails e (carry_all so_far t) → UpdateFails e u t
      stopped failure.Memory k = tt
      stopped (failure.Fault why) k =
          let large = subst (OperationsCome (all_after (room_of t) so_far served.0) so_far t) k come in
          inr (
            large.0,
            record {
              before = documents_of t;
              read = read_takes t (cut_of t) is;
              operations = so_far ++ others;
              planned = whole;
              stops = stops_more IsApplied IsLarge so_far others t large.1;
            },
          )

      pub some_fail : (e : ExprError) → EditFails e (edit_after cs (carry_all ops m)) → FailsAt e u t
      some_fail e k =
          let here : EditFails e (carry_all so_far t) = subst (EditFails e) (sym comes) (fails_after e h.own (carry_all ops m) (fails_itself e cs (carry_all ops m) k)) in
          record {
            fails = subst (EditFails e) (sym (done (so_far ++ others) whole ∙ in_order_both carried so_far others t)) (fails_on e (carry_all others) (carry_all so_far t) here);
            why = stopped e here;
          }

  -- those of a part
  module _ (doc place doc_after place_after : ℕ) (m : List ℕ) (cs : List Splice) (h : IsUnderWay u t before doc place m cs) (ops : List Operation)
      (leaves : LeavesOps u (room_of t) (documents_of t) doc place ops doc_after place_after) (operands : HaveOperands ops) where
    split : SplitsOff ops h.rest (rest_ops u (room_of t) (documents_of t) doc_after place_after)
    split = splits ops h.rest (rest_ops u (room_of t) (documents_of t) doc_after place_after) (sym leaves ∙ h.left)

    pub part_served : AreServed ops m
    part_served = some_served doc place m cs h ops split.rest split.all operands

    go_on : (n : List ℕ) (ds : List Splice) (r : Edit) → carry_all ops m ≡ r → edit_after cs r ≡ edits.gives n ds → IsUnderWay u t before doc_after place_after n ds
    go_on n ds unreadable gone k = absurd (cc)
    go_on n ds (edits.refuses why) gone k = absurd (cc)
    go_on n ds (edits.gives o es) gone k =
        let text : o ≡ n = cc in
        let splices : cs ++ es ≡ ds = cc in
        record {
          made = h.made ++ ops;
          rest = split.rest;
          own = h.own ++ es;
          planned = whole doc place m cs h ops split.rest split.all;
          left = split.is;
          operands = join_operands h.made ops h.operands operands;
          carried = comes doc place m cs h ops split.rest split.all ∙ (ap (edit_after h.own) gone ∙ ap (λ (x : List ℕ). edits.gives x (h.own ++ es)) text);
          all = sym splices ∙ (ap (λ (xs : List Splice). xs ++ es) h.all ∙ append_assoc before h.own es);
        }

    pub part_done : (n : List ℕ) (ds : List Splice) → edit_after cs (carry_all ops m) ≡ edits.gives n ds → IsUnderWay u t before doc_after place_after n ds
    part_done n ds k = go_on n ds (carry_all ops m) refl k

    pub part_fails : (e : ExprError) → EditFails e (edit_after cs (carry_all ops m)) → FailsAt e u t
    part_fails e k = some_fail doc place m cs h ops split.rest split.all operands e k

-- memory that ran out where an update was weighed
pub weighing_fails : (e : ExprError) (u : Update) (t : List ℕ) → e ≡ failure.Memory → FailsAt e u t
weighing_fails e u t is = subst (λ (x : ExprError). FailsAt x u t) (sym is) (memory_fails u t)
