use Rattle.std.proofs.Common.{length, rules}
use Rattle.yq_journal.{specs.Turned.flipped_if, proofs.StepLaws.{first_lie, goes_on, rest_lie, stops}}
use Rattle.yq_journal.proofs.piece_table.spliced.Goals as goal

pub few_spliced-requires : goal.few_spliced-requires
few_spliced-requires c = first_lie _ _ (flipped_if c.args.back c.parted.result.1.now) (length c.args.text.now) c.parted.ensures.parts c.requires

pub returns-in_default : goal.returns-in_default
returns-in_default c = search (rules, stops)

pub texts-init : goal.texts-init
texts-init c = search (rules, rest_lie, goes_on)

pub few_spliced-requires-in-texts : goal.few_spliced-requires-in-texts
few_spliced-requires-in-texts c = search (rules, first_lie)

pub returns-in-None : goal.returns-in-None
returns-in-None c = search (rules, stops)

pub texts-preserved : goal.texts-preserved
texts-preserved c = search (rules, rest_lie, goes_on)
