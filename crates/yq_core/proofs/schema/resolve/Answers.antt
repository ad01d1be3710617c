use Rattle.std.proofs.Common.{sym, ◌∙◌, subst}
use Rattle.yq_core.{specs.Schema.Resolves, specs.declared.kind.Kind.Kind, proofs.SchemaLaws.{resolve_takes, resolve_again}}
use Rattle.yq_core.proofs.schema.resolve.Goals as goal

pub returns : goal.returns
returns c =
    let text = c.args.text.now in
    record {
      exact = c.kind_of.ensures;
      found = subst (λ (k : Kind). Resolves text k) (sym c.kind_of.ensures) (resolve_takes text);
      only = λ k h. c.kind_of.ensures ∙ resolve_again text k h;
    }
