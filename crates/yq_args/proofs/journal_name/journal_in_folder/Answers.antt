use Rattle.yq_args.proofs.JournalNameLaws.{is_name, one_path}
use Rattle.yq_args.proofs.journal_name.journal_in_folder.Goals as goal

pub returns-in_err-name-clause-one_name : goal.returns-in_err-name-clause-one_name
returns-in_err-name-clause-one_name c = is_name c.args.path.now

pub returns-in_err-name-clause-reversible : goal.returns-in_err-name-clause-reversible
returns-in_err-name-clause-reversible c = λ other same. one_path c.args.folder.now other c.args.path.now same

pub returns-then-len-gt-MOST-clause-one_name : goal.returns-then-len-gt-MOST-clause-one_name
returns-then-len-gt-MOST-clause-one_name c = is_name c.args.path.now

pub returns-then-len-gt-MOST-clause-reversible : goal.returns-then-len-gt-MOST-clause-reversible
returns-then-len-gt-MOST-clause-reversible c = λ other same. one_path c.args.folder.now other c.args.path.now same

pub returns-in_err-format-clause-one_name : goal.returns-in_err-format-clause-one_name
returns-in_err-format-clause-one_name c = is_name c.args.path.now

pub returns-in_err-format-clause-reversible : goal.returns-in_err-format-clause-reversible
returns-in_err-format-clause-reversible c = λ other same. one_path c.args.folder.now other c.args.path.now same

pub returns-clause-one_name : goal.returns-clause-one_name
returns-clause-one_name c = is_name c.args.path.now

pub returns-clause-reversible : goal.returns-clause-reversible
returns-clause-reversible c = λ other same. one_path c.args.folder.now other c.args.path.now same
