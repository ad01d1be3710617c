use Rattle.std.proofs.Common.{◌≡◌, ◌+◌, ◌-◌, ◌^◌, ◌<◌, ◌≤◌, ℕ, List, IsTrue, take, length, min, vec_len, vec_capacity, All}
use Rattle.std.specs.FinMap.{get}
use Rattle.yq_commands.{specs.Calls.CallsOfAll, specs.CommandNames.IsNotNamed, specs.ListRuns.HasTakenUnlessFailed}
use Rattle.yq_commands.specs.Lists.{Keeps, Reply, answers_in, printed_in, failures_in, output_failures_in}
use Rattle.yq_run.proofs.run.run_list.Given as goal

abbrev pub invariant-commands : goal.invariant-commands
invariant-commands g l =
    let content = g.D.Store.content in
    record {
      count : vec_len l.answers ≡ l.command-index;
      room : length l.commands ≤ vec_capacity l.answers;
      run : IsTrue g.D.Store.keeps → (replies : List Reply) × (answers_in replies ≡ l.answers.items)
          × HasTakenUnlessFailed g.W.Out.failures g.W.Out.observable g.W.Out.taken l.fn.out l.out (printed_in replies)
          × Keeps (content l.fn.store) (take l.command-index l.commands) replies (content l.store);
      others : IsTrue g.D.Store.keeps → (q : List ℕ) → All (IsNotNamed q) l.commands → get (content l.store) q ≡ get (content l.fn.store) q;
      calls : CallsOfAll g.D.Store.leads (take l.command-index l.commands) l.answers.items l.fn.store l.store;
      sum : g.D.Store.failures l.fn.store < 2 ^ 64 → g.D.Store.failures l.store ≡ min (g.D.Store.failures l.fn.store + failures_in l.answers.items) (2 ^ 64 - 1);
      out_sum : g.W.Out.failures l.fn.out < 2 ^ 64 → g.W.Out.failures l.out ≡ min (g.W.Out.failures l.fn.out + output_failures_in l.answers.items) (2 ^ 64 - 1);
    }
