use Rattle.yq_core.proofs.QuotedFound.{quoted_takes, quoted_again, quoted_one}
use Rattle.yq_scalar.proofs.quoted_laws.one_quoted.Goals as goal

pub returns : goal.returns
returns c = record {
  takes = λ t x h. let f = quoted_takes t x h in (f.cut, (f.quote, (f.ls, f.is)));
  again = λ p rest h. quoted_again h.0 h.1.0 p rest h.1.1;
  one = λ p q rest other same a b. quoted_one a.0 b.0 a.1.0 b.1.0 p rest q other same a.1.1 b.1.1;
}
