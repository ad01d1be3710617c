use Rattle.std.{proofs.Common.◌≤◌, specs.Prelude.IfSome}
use Rattle.yq_lookup.specs.KnownDocuments.{NumbersGoOn, IsKnownDocument}
use Rattle.yq_lookup.proofs.known_document.find_document.Given as goal

abbrev pub invariant-parts : goal.invariant-parts
invariant-parts l = record {
  order : l.count ≤ l.doc;
  goes_on : NumbersGoOn l.rows.bounds l.part l.count l.is_document;
  before : IfSome l.before (IsKnownDocument l.rows.bounds);
}
