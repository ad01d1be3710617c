use Rattle.yq_documents.specs.Reading.{cut_of}
use Rattle.yq_splice.proofs.SessionLaws.{has_cut, reading_cut}
use Rattle.yq_splice.proofs.others.together_again.Goals as goal

pub new-requires : goal.new-requires
new-requires c =
    let t = c.args.text.now in
    has_cut t (cut_of t) _ (reading_cut t (c.requires.0, c.requires.1.read)) c.in_ok-rows.ensures
