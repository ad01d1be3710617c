use Rattle.std.{proofs.Common.rules, proofs.lemmas.Result.err_from_is_err_and}
use Rattle.yq_journal.proofs.JoinLaws.{slice_run, bad_count, good_count, split_first}
use Rattle.yq_journal.proofs.squash.join_last.Goals as goal

pub returns-then-not-meets-clause-err : goal.returns-then-not-meets-clause-err
returns-then-not-meets-clause-err c = search (rules, bad_count, slice_run)

pub returns-in_ok-join_all-in-len1-up-clause-free : goal.returns-in_ok-join_all-in-len1-up-clause-free
returns-in_ok-join_all-in-len1-up-clause-free c = search (rules, good_count, slice_run)

pub returns-in_ok-join_all-in-len1-up-clause-ok : goal.returns-in_ok-join_all-in-len1-up-clause-ok
returns-in_ok-join_all-in-len1-up-clause-ok c = search (rules, slice_run, split_first)

pub returns-in_err-join_all-in-len1-up-clause-err : goal.returns-in_err-join_all-in-len1-up-clause-err
returns-in_err-join_all-in-len1-up-clause-err c = search (rules, err_from_is_err_and, slice_run, good_count)

pub join_all-requires : goal.join_all-requires
join_all-requires c = search (rules, split_first)
