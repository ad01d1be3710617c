use Rattle.std.proofs.Common.{◌++◌, List, [], ◌∷◌, ℕ, ap, ◌∙◌, string_bytes}
use Rattle.yq_core.specs.Values.{value_node}
use Rattle.yq_edit_rules.{proofs.ReadLaws.printed_read, specs.Print.{print_text, printed_value}}
use Rattle.yq_edit_rules.proofs.printing.print.Goals as goal

pub returns-clause-read : goal.returns-clause-read
unfolding print_text
returns-clause-read c = printed_read (value_node c.args.value.now) (string_bytes c.push_str.new.self) c.in_ok-push_printed.ensures.valid
    (c.in_ok-push_str.ensures.bytes ∙ ap (λ (t : List ℕ). t ++ 10 ∷ []) (c.in_ok-push_printed.ensures.text ∙ ap (λ (t : List ℕ). t ++ printed_value (value_node c.args.value.now)) c.new-out.ensures.bytes))
