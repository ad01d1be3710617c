use Rattle.std.{proofs.Common.{◌≡◌, ◌∙◌, ℕ, List, refl, sym, ap, subst, arith}, specs.Prelude.{Some, string_bytes}}
use Rattle.yq_core.specs.Values.{value_node}
use Rattle.yq_documents.{specs.Located.steps_of, specs.Reading.{cut_of, read_at}}
use Rattle.yq_places.specs.NodesAt.{node_in}
use Rattle.yq_semantics.specs.Operations.{operation_of}
use Rattle.yq_batch.{specs.RowRuns.{IsWrittenSo, bytes_in}, proofs.RowOpenAnswers.puts_here, proofs.RowPutLaws.value_fits}
use Rattle.yq_batch.proofs.any_row.put_inside.Goals as goal

pub overflow_add-stop : goal.overflow_add-stop
overflow_add-stop c =
    let t : List ℕ = c.args.cut.now in
    let read : read_at t ≡ Some (cut_of t) = subst (λ (u : List ℕ). read_at u ≡ Some (cut_of u)) c.in-Some.ensures.same c.text-text.ensures.read in
    let fits = value_fits t c.in-Replace.path.doc (steps_of c.in-Replace.path) (value_node c.in-Replace.value) c.in-Some.at read c.in-Some.ensures.row c.if-not-at.false (sym c.is_filled.ensures ∙ c.if-is_filled.false) in
    omega (arith, fits)

pub returns-clause-puts : goal.returns-clause-puts
returns-clause-puts c e is_end =
    let t : List ℕ = c.args.cut.now in
    let path = c.in-Replace.path in
    let read : read_at t ≡ Some (cut_of t) = subst (λ (u : List ℕ). read_at u ≡ Some (cut_of u)) c.in-Some.ensures.same c.text-text.ensures.read in
    let doc : path.doc ≡ c.args.doc = omega (arith, c.if-path-doc.false) in
    let written =
    subst (λ (u : List ℕ). IsWrittenSo (node_in path.doc (steps_of path) (cut_of u)) (value_node c.in-Replace.value) c.in-Some.at.head.now (bytes_in string_bytes c.in_ok-written.written)) c.in-Some.ensures.same c.in_ok-written.ensures in
    puts_here t (operation_of c.args.op.now) path.doc c.args.doc c.args.end.now e (steps_of path) (value_node c.in-Replace.value) c.in-Some.at _ doc
    is_end (c.is_before_end.ensures c.if-not-is_before_end.false) (ap operation_of c.in-Replace.is) read c.in-Some.ensures.row c.if-not-at.false
    (sym c.is_filled.ensures ∙ c.if-is_filled.false) c.requires refl refl refl refl written
