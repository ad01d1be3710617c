use Rattle.std.proofs.Common.{◌≡◌, ◌++◌, [], List, ℕ, take, drop, ap, ap₂, sym, ◌∙◌, rules}
use Rattle.yq_core.{specs.ContentReading.{content_on, within, ends_run}, specs.Text.upto}
use Rattle.yq_core.proofs.ItemLaws.{boundary_run, content_run, cut_within, cut_shorter}
use Rattle.yq_scalar_reader.proofs.folded.split_run.Goals as goal

pub split_at-requires : goal.split_at-requires
split_at-requires c = boundary_run c.args.quote c.args.text.now _ (rw c.as_bytes.ensures.value at c.run_len.ensures)

pub returns-in-None-clause-value : goal.returns-in-None-clause-value
returns-in-None-clause-value c =
    let t : List ℕ = c.args.text.now in
    let q = c.args.quote in
    let n : c.run_len.result ≡ upto (ends_run q) t = (rw c.as_bytes.ensures.value at c.run_len.ensures) in
    content_run q t
    ∙ ap₂ ◌++◌ (sym (c.split_at.ensures.front ∙ ap (λ k. take k t) n)) (ap (content_on q 0 within []) (sym (c.split_at.ensures.back ∙ ap (λ k. drop k t) n)))

pub returns-in-None-clause-within : goal.returns-in-None-clause-within
returns-in-None-clause-within c = search (rules, cut_within)

pub returns-in-None-clause-shorter : goal.returns-in-None-clause-shorter
returns-in-None-clause-shorter c = search (rules, cut_shorter)
