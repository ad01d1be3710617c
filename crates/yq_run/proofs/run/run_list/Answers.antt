use Rattle.std.proofs.Common.{rules, ◌≡◌, ◌∷◌, ◌++◌, [], ◌+◌, ◌-◌, ◌^◌, ◌<◌, min, take, length, sym, ap, ◌∙◌, subst, arith, is_ok, true}
use Rattle.std.{proofs.Common.{vec_len, if◌then◌else◌}, specs.List.list_all, proofs.lemmas.Grind.common_steps}
use Rattle.std.proofs.lemmas.List.{append-nil, take_more}
use Rattle.yq_store.specs.Count.{count_plus_one}
use Rattle.yq_commands.specs.CommandNames.{IsNotNamed}
use Rattle.yq_commands.{specs.Lists.{Keeps, failures_in, output_failures_in, reports_failure, reports_output}, specs.Calls.CallsOfAll}
use Rattle.yq_commands.{proofs.CommandCalls.calls_more, proofs.CountLaws.{count_more, no_answers, put_more, put_passing}}
use Rattle.yq_commands.{proofs.KeepLaws.{keeps_more, left_by, run_of}, proofs.ListLaws.{all_inside, exact_run, is_inside}}
use Rattle.yq_commands.proofs.ReplyLaws.{answers_more, reply, taken_more}
use Rattle.yq_history.specs.Report.{report_by}
use Rattle.yq_run.proofs.run.run_list.Goals as goal

pub commands-init : goal.commands-init
commands-init g c = record {
  count = search rules;
  room = search rules;
  run = λ keeps. ([], search rules, (λ none observable. sym (append-nil (g.W.Out.taken c.args.out.now))), search rules);
  others = search rules;
  calls = search rules;
  sum = λ small. no_answers reports_failure c.in_ok-answers.answers.items (g.D.Store.failures c.args.store.now) (search rules) small;
  out_sum = λ small. no_answers reports_output c.in_ok-answers.answers.items (g.W.Out.failures c.args.out.now) (search rules) small;
}

pub commands-preserved : goal.commands-preserved
commands-preserved g c =
    let content = g.D.Store.content in
    let failures = g.W.Out.failures in
    let before = c.commands.invariant in
    let cmd = c.command-item.result in
    let done = c.execute-done.result in
    let answer = c.answer_of-answer.result in
    let report = report_by c.execute-done.new.report in
    let answered = c.answer_of-answer.ensures.answered in
    let ran = c.execute-done.ensures in
    let within : c.commands.command-index < length c.args.commands.now = omega arith in
    let more : take (c.commands.command-index + 1) c.args.commands.now ≡ take c.commands.command-index c.args.commands.now ++ cmd ∷ [] =
    take_more c.args.commands.now c.commands.command-index cmd within ∙ ap (λ x. take c.commands.command-index c.args.commands.now ++ x ∷ []) (sym c.command-item.is) in
    let ok : is_ok c.push.result ≡ true = ap is_ok c.unwrap.ensures in
    let pushed : c.push.new.self.items ≡ c.commands.answers.items ++ answer ∷ [] =
    c.push.ensures.items ∙ ap (λ b. if b then c.commands.answers.items ++ answer ∷ [] else c.commands.answers.items) ok in
    let put : failures c.answer_of-answer.new.out ≡ (if reports_output answer then count_plus_one (failures c.commands.out) else failures c.commands.out) =
    put_passing done answer report (failures c.commands.out) _ answered ran.leaves.no_output c.answer_of-answer.ensures.count in
    record {
      count = c.push.ensures.len ∙ ap (λ b. if b then vec_len c.commands.answers + 1 else vec_len c.commands.answers) ok ∙ ap (λ n. n + 1) before.count;
      room = omega (arith, c.push.ensures.capacity);
      run = λ keeps.
          let now = before.run keeps in (
            now.0 ++ reply answer report.printed ∷ [],
            answers_more now.0 c.commands.answers.items answer report.printed now.1 ∙ sym pushed,
            (λ none observable. taken_more done answer report now.0 (g.W.Out.taken c.args.out.now) (g.W.Out.taken c.commands.out) _ (output_failures_in c.commands.answers.items) (failures c.args.out.now) (failures c.commands.out) _ answered
                before.out_sum put none.stays none.below (λ stays below. now.2 (record { stays = stays; below = below }) observable) (c.answer_of-answer.ensures.taken observable)),
            subst (λ cs. Keeps (content c.args.store.now) cs (now.0 ++ reply answer report.printed ∷ []) (content c.execute-done.new.store)) (sym more)
                (keeps_more (content c.args.store.now) (content c.commands.store) (content c.execute-done.new.store) _ now.0 cmd (reply answer report.printed) now.3
                (left_by (content c.commands.store) (content c.execute-done.new.store) cmd done answer report (record {
                  answered = answered;
                  done = ran.done keeps;
                  silent = ran.silent;
                  no_output = ran.leaves.no_output;
                  unparsed = ran.unparsed;
                  helped = ran.helped;
                }))),
          );
      others = λ keeps q not_named.
          (ran.done keeps).names.others q (subst (IsNotNamed q) (sym c.command-item.is) (not_named c.commands.command-index cmd within)) ∙ before.others keeps q not_named;
      calls = subst (λ rs. CallsOfAll g.D.Store.leads (take (c.commands.command-index + 1) c.args.commands.now) rs c.args.store.now c.execute-done.new.store) (sym pushed)
          (subst (λ cs. CallsOfAll g.D.Store.leads cs (c.commands.answers.items ++ answer ∷ []) c.args.store.now c.execute-done.new.store) (sym more)
          (calls_more g.D.Store.leads (take c.commands.command-index c.args.commands.now) c.commands.answers.items cmd done answer report c.args.store.now c.commands.store c.execute-done.new.store before.calls answered ran.calls));
      sum = λ small. subst (λ rs. g.D.Store.failures c.execute-done.new.store ≡ min (g.D.Store.failures c.args.store.now + failures_in rs) (2 ^ 64 - 1)) (sym pushed)
          (count_more done c.commands.answers.items answer report (g.D.Store.failures c.args.store.now) _ _ answered (before.sum small) c.execute-done.ensures.leaves.count);
      out_sum = λ small. subst (λ rs. failures c.answer_of-answer.new.out ≡ min (failures c.args.out.now + output_failures_in rs) (2 ^ 64 - 1)) (sym pushed)
          (put_more c.commands.answers.items answer (failures c.args.out.now) (failures c.commands.out) _ (before.out_sum small) put);
    }

pub returns-clause-run : goal.returns-clause-run
returns-clause-run g c = λ keeps.
    let now = c.commands.invariant.run keeps in
    let all : take c.commands.command-index c.args.commands.now ≡ c.args.commands.now = grind (arith, common_steps) in
    let kept = subst (λ cs. Keeps (g.D.Store.content c.args.store.now) cs now.0 (g.D.Store.content c.commands.store)) all now.3 in
    record {
      replies = now.0;
      answered = now.1;
      printed = now.2;
      kept = kept;
      histories = λ file journal h start.
          let run = run_of file journal start.two_names c.args.commands.now now.0 _ _ h kept start.on_or_apart start.good in
          record { after = run.0; leads = run.1; good = run.2 };
    }

pub returns-clause-calls : goal.returns-clause-calls
returns-clause-calls g c =
    let all : take c.commands.command-index c.args.commands.now ≡ c.args.commands.now = grind (arith, common_steps) in
    subst (λ cs. CallsOfAll g.D.Store.leads cs c.commands.answers.items c.args.store.now c.commands.store) all c.commands.invariant.calls

pub returns-clause-exact : goal.returns-clause-exact
returns-clause-exact g c = λ keeps none none_out memory.
    let sum = c.commands.invariant.sum (omega (arith, none.stays, none.below)) in
    let out_sum = c.commands.invariant.out_sum (omega (arith, none_out.stays, none_out.below)) in
    let no_failure : failures_in c.commands.answers.items ≡ 0 = omega (arith, sum, none.stays, none.below) in
    let no_output : output_failures_in c.commands.answers.items ≡ 0 = omega (arith, out_sum, none_out.stays, none_out.below) in
    let now = c.commands.invariant.run keeps in
    let inside = subst (λ rs. list_all is_inside rs ≡ true) (sym now.1) (all_inside c.commands.answers.items no_failure no_output memory) in
    let all : take c.commands.command-index c.args.commands.now ≡ c.args.commands.now = grind (arith, common_steps) in
    let kept = subst (λ cs. Keeps (g.D.Store.content c.args.store.now) cs now.0 (g.D.Store.content c.commands.store)) all now.3 in
    record {
      replies = now.0;
      answered = now.1;
      printed = now.2 none_out;
      kept = kept;
      histories = λ file journal h start.
          let run = run_of file journal start.two_names c.args.commands.now now.0 _ _ h kept start.on_or_apart start.good in
          record { after = run.0; leads = exact_run file journal c.args.commands.now now.0 h run.0 run.1 inside; good = run.2 };
    }
