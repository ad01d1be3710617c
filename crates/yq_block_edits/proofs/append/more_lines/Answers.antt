use Rattle.std.{proofs.Common.{◌≡◌, ◌∙◌, Bool, Bor, IfOk, List, Option, Some, None, refl, string_bytes, subst, ℕ}, specs.Option.is_some}
use Rattle.yq_core.specs.Values.{value_node}
use Rattle.yq_outline.specs.Bodies.{borrowed}
use Rattle.yq_documents.specs.Reading.{cut_of}
use Rattle.yq_edit_rules.{specs.Layouts.{LooksLike, layout_of}, proofs.LayoutLaws.more_like}
use Rattle.yq_block_edits.proofs.append.more_lines.Goals as goal

some_borrowed : (key : Option (Bor (List ℕ))) → is_some key ≡ is_some (borrowed key)
some_borrowed None = refl
some_borrowed (Some k) = refl

pub returns : goal.returns
returns c =
    let k = layout_of c.args.doc (cut_of c.args.cut.now) in
    let v = value_node c.args.child.value.now in
    let some = c.is_some.ensures ∙ some_borrowed c.args.child.key in
    let like = subst (λ (b : Bool). LooksLike b v c.layout_for-layout.result k) some c.layout_for-layout.ensures in
    let same = more_like (borrowed c.args.child.key) v c.layout_for-layout.result k c.args.column c.args.last.now like in
    subst (λ (t : List ℕ). IfOk c.entry_text.result (λ s. string_bytes s ≡ t)) same c.entry_text.ensures
