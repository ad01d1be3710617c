use Rattle.std.proofs.Common.{length-append, rules}
use Rattle.yq_text.proofs.exchanging.new_len.Goals as goal

pub len-len-requires : goal.len-len-requires
len-len-requires c = search (rules, length-append)

pub overflow_add-len : goal.overflow_add-len
overflow_add-len c = search (rules, length-append)
