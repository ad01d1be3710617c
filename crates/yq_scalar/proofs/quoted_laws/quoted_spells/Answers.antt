use Rattle.yq_core.{specs.Quoted.last, specs.Written.{double, single}, proofs.WrittenLaws.{double_spells, single_spells}}
use Rattle.yq_core.proofs.WrittenText.{line_is_text, line_holds, double_is_line, single_is_line}
use Rattle.yq_scalar.proofs.quoted_laws.quoted_spells.Goals as goal

pub returns : goal.returns
returns c = record {
  double = λ t rest u. let s = double_spells t rest u in (last s.chars, (s.is, s.same));
  double_line = λ t u. let l = double_is_line t u in (line_is_text (double t) l, line_holds (double t) l.bytes);
  single = λ t rest u all front_is. let s = single_spells t rest u all front_is in (last s.chars, (s.is, s.same));
  single_line = λ t u all. let l = single_is_line t u all in (line_is_text (single t) l, line_holds (single t) l.bytes);
}
