use Rattle.std.{proofs.Common.{◌-◌, ◌∙◌, ℕ, sym, ap, get_or, length, Option, slice_set, refl}, proofs.lemmas.Option.get_or_from_slice_get}
use Rattle.yq_row_table.specs.declared.ends.EndPlace.{EndPlace}
use Rattle.yq_rows.{specs.Reading.settled_ends, proofs.ReadLaws.settled_set}
use Rattle.yq_rows.proofs.session_reading.settle.Goals as goal

pub returns-in-Some : goal.returns-in-Some
returns-in-Some c =
    let es = c.args.ends.now in
    c.set_last.ensures
    ∙ (ap (slice_set es (length es - 1)) c.marked_as.ensures
    ∙ (settled_set es c.in-Some.end c.at.result (length es - 1) c.args.more refl c.requires
    (sym (get_or_from_slice_get es (c.len.result - 1) c.at.result c.at.result c.at.ensures)
    ∙ ap (λ (n : ℕ). get_or es (n - 1) c.at.result) c.len.ensures)
    ∙ ap (λ (u : Option EndPlace). settled_ends es u c.args.more) (sym c.in-Some.is)))
