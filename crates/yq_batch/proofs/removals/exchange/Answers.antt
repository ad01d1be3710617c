use Rattle.std.{proofs.Common.{◌≡◌, ℕ, List, ◌++◌, length, drop, take, refl, sym, ap, ◌∙◌, subst, arith}, specs.Str.IsCharBoundary}
use Rattle.yq_text.{specs.Halves.whole, specs.Script.splice_at, specs.TextGapBuffer.buffer_text}
use Rattle.yq_batch.proofs.Exchanges.{exchanged}
use Rattle.yq_batch.proofs.removals.exchange.Goals as goal

pub between-requires-clause-from : goal.between-requires-clause-from
between-requires-clause-from c = subst (λ (l : List ℕ). IsCharBoundary l c.args.start) (λ i. sym c.halves.ensures.front i ++ sym c.halves.ensures.back i) c.requires.start

pub between-requires-clause-to : goal.between-requires-clause-to
between-requires-clause-to c = subst (λ (l : List ℕ). IsCharBoundary l c.args.end) (λ i. sym c.halves.ensures.front i ++ sym c.halves.ensures.back i) c.requires.end

pub returns-clause-ok : goal.returns-clause-ok
returns-clause-ok c =
    let t : List ℕ = buffer_text c.args.run.now.text in
    let text =
    exchanged t c.move_split.new.self.front c.move_split.new.self.back c.args.new.now c.exchange.new.self.front c.exchange.new.self.back c.args.start c.args.end c.requires.order
    c.move_split.ensures.front c.move_split.ensures.back c.exchange.ensures.front c.exchange.ensures.back in
    let whole_is : whole c.halves.result ≡ t = λ i. c.halves.ensures.front i ++ c.halves.ensures.back i in
    record {
      text = text;
      keep = refl;
      splices =
          c.in_ok-push_splice.ensures
          ∙ λ i. c.args.run.now.splices.items
          ++ splice_at c.args.start
          ((c.in_ok-old.ensures ∙ (c.between.ensures ∙ ap (λ (l : List ℕ). drop c.args.start (take c.args.end l)) whole_is)) i)
          ((c.in_ok-written.ensures.items ∙ c.as_bytes.ensures.value) i);
      size = omega (arith, ap length text, c.len.ensures, c.if-len-gt-TEXT_LIMIT.false);
    }
