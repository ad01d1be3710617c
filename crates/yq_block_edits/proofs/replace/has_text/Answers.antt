use Rattle.std.{proofs.Common.{option_map, sym, ap, ◌∙◌}, specs.List.list_any, specs.Prelude.not}
use Rattle.yq_core.specs.Text.{is_feed}
use Rattle.yq_documents.{specs.Located.steps_of, specs.Reading.cut_of}
use Rattle.yq_places.specs.NodesAt.{node_in, scalar_view}
use Rattle.yq_edit_rules.proofs.ScalarAnswers.{no_text, has_text_agrees}
use Rattle.yq_block_edits.proofs.replace.has_text.Goals as goal

pub returns-in_default : goal.returns-in_default
returns-in_default c = no_text (node_in c.args.path.now.doc (steps_of c.args.path.now) (cut_of c.args.cut.now)) (sym (ap (option_map scalar_view) c.in_default.is) ∙ c.in_ok-found.ensures)

pub returns : goal.returns
returns c =
    has_text_agrees (node_in c.args.path.now.doc (steps_of c.args.path.now) (cut_of c.args.cut.now)) _ c.holds_text.result (sym (ap (option_map scalar_view) c.in-Some.is) ∙ c.in_ok-found.ensures)
    (c.holds_text.ensures ∙ ap (list_any (λ b. not (is_feed b))) c.text.ensures)
