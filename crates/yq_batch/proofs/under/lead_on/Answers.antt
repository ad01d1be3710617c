use Rattle.std.proofs.Common.{◌≡◌, ◌++◌, List, map, refl, ap, ◌∙◌}
use Rattle.yq_core.specs.Entries.{tree_step}
use Rattle.yq_documents.{specs.Located.steps_of, specs.declared.path.Path.Path}
use Rattle.yq_batch.proofs.UnderLaws.{begins_on, leads_on}
use Rattle.yq_core.specs.declared.path.Step as declared
use Rattle.yq_batch.proofs.under.lead_on.Goals as goal

pub returns-clause-stays : goal.returns-clause-stays
returns-clause-stays c =
    let own : List declared.Step = c.path_of-own.result.now.steps.items in
    let both : map tree_step c.push_steps.new.all.items ≡ map tree_step c.truncate.new.self.items ++ map tree_step own =
    c.in_ok-push_steps.ensures ∙ ap (λ (ss : List declared.Step). map tree_step c.truncate.new.self.items ++ map tree_step ss) c.deref.ensures.value in
    begins_on c.args.front.now c.push_steps.new.all.items (map tree_step own) (leads_on c.args.front.now own c.args.path.now.steps.items c.truncate.new.self.items c.push_steps.new.all.items _ refl c.requires c.truncate.ensures.items both)

pub returns-clause-path : goal.returns-clause-path
returns-clause-path c = λ some.
    let own : List declared.Step = c.path_of-own.result.now.steps.items in
    let both : map tree_step c.push_steps.new.all.items ≡ map tree_step c.truncate.new.self.items ++ map tree_step own =
    c.in_ok-push_steps.ensures ∙ ap (λ (ss : List declared.Step). map tree_step c.truncate.new.self.items ++ map tree_step ss) c.deref.ensures.value in
    let led = leads_on c.args.front.now own c.args.path.now.steps.items c.truncate.new.self.items c.push_steps.new.all.items _ refl c.requires c.truncate.ensures.items both in
    (ap (λ (p : Path). p.doc) c.path_of-own.ensures, led ∙ ap (λ (p : Path). map tree_step c.args.front.now ++ steps_of p) c.path_of-own.ensures)
