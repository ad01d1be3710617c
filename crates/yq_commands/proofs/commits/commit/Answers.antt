use Rattle.std.proofs.Common.{◌≡◌, ◌≢◌, ℕ, List, Some, length, string_bytes, ◌∙◌, sym, ap, subst, true≢false}
use Rattle.std.{proofs.lemmas.Result.{err_from_is_err_and, on_ok_weaker}, proofs.lemmas.Slice.Eq.bytes_eq-Decides}
use Rattle.yq_history.{specs.Calls.Makes, proofs.CallLaws.{fails, makes_none}, proofs.MoveLaws.IsMove}
use Rattle.yq_fault.specs.Faults.{is_outer_fault}
use Rattle.yq_commands.{specs.CommandEffects.edit_effect, specs.Editing.{edited, program_edits}, specs.Edits.edit_record}
use Rattle.yq_commands.{proofs.EditLaws.{edit_done, edit_ends}, proofs.EditEffects.{edit_moves, edit_works}, proofs.DoneLaws.cut_edits}
use Rattle.yq_journal.{specs.Record.{Record, done}, specs.declared.moves.Move.TheVariants.Edit}
use Rattle.yq_commands.proofs.commits.commit.Goals as goal

pub returns : goal.returns
returns g c =
    let e = c.carry_out.ensures in
    let o = c.args.open in
    let t = o.text.items in
    let u : List ℕ = c.as_bytes-new.result.now in
    let splices = c.args.edited.splices.items in
    let is : u ≡ string_bytes c.args.edited.text = c.as_bytes-new.ensures.value in
    let changes : u ≢ t = λ same.
    true≢false (sym ((bytes_eq-Decides u c.as_slice.result.now).1 (same ∙ sym c.as_slice.ensures.value)) ∙ sym c.eq.ensures ∙ c.if-eq.false) in
    let made = c.in_ok-edit.ensures ∙ ap (λ (b : List ℕ). edit_record c.args.expr.now splices (length b) (length u)) c.deref.ensures.value in
    let leads = ap (λ (r : Record). done r t) made ∙ edit_done c.args.expr.now _ t u (c.requires.leads ∙ ap Some (sym is)) in
    record {
      done = λ keeps apart p gives.
          let makes = gives ∙ ap (λ (x : List ℕ). edited x splices) (sym is) in
          let move : IsMove (g.D.Store.content c.args.store.now) (g.D.Store.content c.carry_out.new.store) o.pair.file.now o.pair.journal.now o.state t u (Edit c.in_ok-edit.edit) c.carry_out.result =
          record {
            leads = leads;
            ok = e.ok keeps apart;
            err = e.err keeps apart;
            text = e.text keeps apart;
            beside = e.moved keeps;
            cut = e.cut keeps apart;
            fault = e.fault;
            refused = e.refused;
            barred = e.barred keeps;
          } in
          record {
            arrives = λ h k. edit_ends _ _ _ h _ p _ _ k _ _ _ _ made makes changes c.carry_out.result move;
            effect = edit_works o.pair.file.now o.pair.journal.now (g.D.Store.content c.args.store.now) c.args.expr.now o.state t _ _ _ made
                (program_edits p t) _ c.carry_out.result makes changes move;
          };
      text = λ keeps apart there. on_ok_weaker c.carry_out.result (λ held. held ∙ ap Some is) (e.text keeps apart);
      leaves = e.leaves;
      calls = λ p gives.
          subst (λ x. Makes g.D.Store.leads c.carry_out.result o.pair.file.now o.pair.journal.now t x c.args.store.now c.carry_out.new.store)
          (sym (edit_moves o.pair.file.now o.pair.journal.now (g.D.Store.content c.args.store.now) c.args.expr.now o.state t _ _ _ made (program_edits p t) (gives ∙ ap (λ (x : List ℕ). edited x splices) (sym is)) changes leads)) e.calls;
    }

pub returns-in_err-edit-clause-done : goal.returns-in_err-edit-clause-done
returns-in_err-edit-clause-done g c = λ keeps apart p gives.
    let r = err_from_is_err_and c.from_residual.result c.from_residual.ensures.1 in
    cut_edits p c.args.expr.now c.args.open (g.D.Store.content c.args.store.now) c.from_residual.result r.0 r.1 (ap is_outer_fault r.2)

pub returns-in_err-edit-clause-calls : goal.returns-in_err-edit-clause-calls
returns-in_err-edit-clause-calls g c = λ p gives.
    let r = err_from_is_err_and c.from_residual.result c.from_residual.ensures.1 in
    let o = c.args.open in
    makes_none g.D.Store.leads c.from_residual.result o.pair.file.now o.pair.journal.now o.text.items (edit_effect c.args.expr.now (program_edits p o.text.items) o.text.items o.state) c.args.store.now
    (fails c.from_residual.result _ r.1)
