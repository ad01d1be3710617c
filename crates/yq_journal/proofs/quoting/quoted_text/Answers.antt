use Rattle.std.{proofs.Common.{◌≡◌, sym, subst, rules}, proofs.lemmas.List.take_all, specs.Str.IsUtf8}
use Rattle.json.{specs.Print.quoted, proofs.Printed.Utf8.IsUtf8-quoted}
use Rattle.yq_journal.proofs.BareLaws.{escape_more}
use Rattle.yq_journal.proofs.quoting.quoted_text.Goals as goal

pub bytes-preserved : goal.bytes-preserved
bytes-preserved c = search (rules, escape_more)

pub unwrap-requires : goal.unwrap-requires
unwrap-requires c =
    let made : c.push-2.new.self.items ≡ quoted c.args.text.now = search (rules, take_all) in
    c.from_utf8.ensures.succeeds (subst IsUtf8 (sym made) (IsUtf8-quoted c.args.text.now c.utf8.text))
