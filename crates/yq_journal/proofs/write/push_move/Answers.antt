use Rattle.std.{proofs.Common.{true, subst, sym, rules, refl}, specs.String.string_bytes}
use Rattle.yq_journal.{specs.Added.Adds, specs.Json.{kind_text, move_data, move_of}, proofs.ReadBackLaws.kept_edit}
use Rattle.yq_journal.proofs.write.push_move.Goals as goal

pub returns-in_ok-push_record-in-Edit : goal.returns-in_ok-push_record-in-Edit
returns-in_ok-push_record-in-Edit c = search (rules, kept_edit)

pub returns-in_ok-push_str-in-Undo : goal.returns-in_ok-push_str-in-Undo
unfolding move_of
returns-in_ok-push_str-in-Undo c =
    subst (λ m. Adds move_data (move_of true (kind_text m)) m (string_bytes c.args.text.now) (string_bytes c.push_str.new.self)) (sym c.in-Undo.is)
    (record { text_is = c.in_ok-push_str-in-Undo.ensures.bytes; kept = (record { numbers = tt; reads = refl; reads_same = refl }) })

pub returns-in_ok-push_str-in-Redo : goal.returns-in_ok-push_str-in-Redo
unfolding move_of
returns-in_ok-push_str-in-Redo c =
    subst (λ m. Adds move_data (move_of true (kind_text m)) m (string_bytes c.args.text.now) (string_bytes c.push_str-in-Redo.new.self)) (sym c.in-Redo.is)
    (record { text_is = c.in_ok-push_str-in-Redo.ensures.bytes; kept = (record { numbers = tt; reads = refl; reads_same = refl }) })
