use Rattle.std.{proofs.Common.{ℕ, List, ◌++◌, length, length-append, drop, append_assoc, refl, ap, ◌∙◌, arith}, specs.String.string_bytes}
use Rattle.yq_text.{specs.Halves.whole, specs.Script.splice_at}
use Rattle.yq_batch.specs.Runs.{run_front}
use Rattle.yq_batch.proofs.run.PutRun.put.Goals as goal

pub split_at-requires : goal.split_at-requires
split_at-requires c = c.requires.end

pub overflow_sub-rest : goal.overflow_sub-rest
overflow_sub-rest c = c.if-rest-gt-TEXT_LIMIT.false

pub returns-clause-ok : goal.returns-clause-ok
returns-clause-ok c =
    let front = c.in_ok-push_str-2.ensures.bytes
    ∙ (ap (λ (x : List ℕ). x ++ c.between-kept.result.back.now) c.in_ok-push_str.ensures.bytes
    ∙ (append_assoc (string_bytes c.args.self.now.text) c.between-kept.result.front.now c.between-kept.result.back.now ∙ ap (λ (x : List ℕ). string_bytes c.args.self.now.text ++ x) c.between-kept.ensures)) in
    let text = c.in_ok-push_str-3.ensures.bytes ∙ (λ i. front i ++ c.deref.ensures i) in
    record {
      text = text;
      done = refl;
      splices =
          c.in_ok-push_splice.ensures
          ∙ λ i. c.args.self.now.splices.items ++ splice_at ((c.len-at.ensures ∙ (c.push_str-2.new.self.bytes.ok.0 ∙ ap length front)) i) ((c.in_ok-old.ensures ∙ c.between.ensures) i) (c.into_bytes.ensures.value i).items;
      size = omega (
        arith,
        length-append (run_front (whole c.args.text) c.args.self.now c.args.range.start ++ string_bytes c.args.written) (drop c.args.range.end (whole c.args.text)),
        ap length text,
        ap length c.split_at.ensures.back,
        c.len.ensures,
        c.push_str-3.new.self.bytes.ok.0,
        c.len-rest.ensures,
        c.if-rest-gt-TEXT_LIMIT.false,
        c.if-len-rest.false,
      );
    }

pub len-rest-requires : goal.len-rest-requires
len-rest-requires c = omega (arith, length-append c.split_at.result.1.front.now c.split_at.result.1.back.now)
