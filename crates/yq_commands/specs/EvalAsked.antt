-- What `eval` is asked, as bytes (own).
use Rattle.std.{specs.Prelude.{ℕ, List}, specs.String.string_bytes}
use Rattle.yq_args.{specs.declared.eval_options.EvalOptions.EvalOptions, specs.declared.eval_words.EvalWords.EvalWords}

-- What `eval` is asked, but for whether it is carried out in place: an expression, options, and the names of a file and its journal.
pub record EvalAsked : Type 0 where
  pub expr : List ℕ
  pub options : EvalOptions
  pub file : List ℕ
  pub journal : List ℕ

-- what its words ask
abbrev pub asked_in : EvalWords → EvalAsked
asked_in w = record { expr = string_bytes w.expr; options = w.options; file = string_bytes w.file; journal = string_bytes w.journal }
