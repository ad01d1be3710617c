-- What an update comes to on a text that reads, once its operations are planned.
use Rattle.std.proofs.Common.{rules, ◌≡◌, inl, inr, ℕ, List, [], ◌∷◌, Some, ap, subst}
use Rattle.yq_row_table.specs.Rows.{Cut}
use Rattle.yq_documents.{specs.Reading.{read_at, documents}, proofs.ReadLaws.read_takes, proofs.ReadyLaws.read_ready}
use Rattle.yq_outline.proofs.ShapeLaws.{shaped_by_lines, shaped_is_tree}
use Rattle.yq_semantics.{proofs.RoomLaws.rooms_are_ready, proofs.updates.PlanMeans.{plan_means, plan_refused}}
use Rattle.yq_semantics.{proofs.updates.RoomsLast.plan_follows, specs.After.all_after, specs.Meaning.AreReady, specs.Operations.Operation}
use Rattle.yq_semantics.{specs.declared.refusal.Refusal.Refusal, specs.Plans.plan, specs.Program.{Update, UpdatesHold}, specs.Rooms.room_of}
use Rattle.yq_edit_rules.proofs.DoneLaws.{read_cut}
use Rattle.yq_edit_laws.{specs.Carried.carry_all, specs.Edit.{Edit, unreadable, refuses, gives}, specs.Theorems.{IsUpdated, UpdateRefused}}
use Rattle.yq_edit_laws.{specs.Valid.{HaveOperands, Serves}, proofs.ServeLaws.{OperationsCome, all_come}}
use Rattle.yq_semantics.specs.Judgement as judgement

-- the documents of a text that reads are ready for updates
ready : (t : List ℕ) (c : Cut) → read_at t ≡ Some c → AreReady (room_of t) 0 (documents c)
ready t c read = subst (AreReady (room_of t) 0) (ap documents (read_cut t c read)) (rooms_are_ready t (read_ready shaped_by_lines shaped_is_tree t (documents c) (read_takes t c read)))

-- what an update comes to on a text that reads: it is carried out or refused
abbrev pub UpdateComes : Update → List ℕ → Edit → Type 0
UpdateComes u t unreadable = ⊥
UpdateComes u t (refuses why) = UpdateRefused why u t
UpdateComes u t (gives new cs) = IsUpdated u t new cs

module _ (u : Update) (t : List ℕ) (c : Cut) (read : read_at t ≡ Some c) where
  -- an update that is refused
  pub plan_stops : (why : Refusal) → plan u (room_of t) (documents c) ≡ judgement.refuses why → UpdateRefused why u t
  plan_stops why is = inl (record {
    before = documents c;
    read = read_takes t c read;
    meant = plan_refused u (room_of t) (documents c) why is;
  })

  module _ (ops : List Operation) (planned : plan u (room_of t) (documents c) ≡ judgement.gives ops) where
    update_by : (e : Edit) → OperationsCome (all_after (room_of t) ops (documents c)) ops t e → UpdateComes u t e
    update_by unreadable h = h
    update_by (refuses why) h = inr (
      h.0,
      record { before = documents c; read = read_takes t c read; operations = ops; planned = planned; stops = h.1 },
    )
    update_by (gives new cs) h = search (rules, read_takes, plan_means, ready)

    pub plan_serves : HaveOperands ops → UpdatesHold (u ∷ []) → Serves (documents c) ops t
    plan_serves operands holds = search (rules, read_takes, plan_follows, ready)

    pub plan_comes : HaveOperands ops → UpdatesHold (u ∷ []) → UpdateComes u t (carry_all ops t)
    plan_comes operands holds = update_by (carry_all ops t) (all_come (documents c) ops t (plan_serves operands holds))
