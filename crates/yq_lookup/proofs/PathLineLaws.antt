-- The line of the item or entry at a path, as the code finds it by a walk.
use Rattle.std.{proofs.Common.{◌≡◌, ℕ, List, [], Option, None, Some, option_map, refl, sym, subst}, specs.Prelude.IfSome}
use Rattle.yq_core.specs.Paths.{Step}
use Rattle.yq_documents.{specs.Located.steps_of, specs.Reading.cut_of, specs.declared.path.Path.Path}
use Rattle.yq_outline.{proofs.PathLines.last_line, specs.Lines.lines_of_rows, specs.RowWalk.{line_number, stretch_view}}
use Rattle.yq_outline.specs.declared.line_position.Position.{Position}
use Rattle.yq_places.{specs.RowWalk.{HasCut, document_row_range}, proofs.WalkDocuments.{row_line_found, row_line_reached}}
use Rattle.yq_row_walk.{specs.declared.walk.KnownLine.KnownLine, specs.declared.walk.Walk.Walk, specs.Walk.IsLineAt}
use Rattle.yq_lookup.{specs.PathLines.IsLineOf, proofs.CutRows.walk_found}

-- the line of a path, by that to which its steps lead
pub line_is_of : (t : List ℕ) (p : Path) (w : Walk) (steps : List Step) (o : Option KnownLine) → HasCut t w.rows.now → Some (stretch_view w.document) ≡ document_row_range p.doc (cut_of t) → steps ≡ steps_of p →
    IfSome o (λ k. IsLineAt w.rows.now w.document steps k.at) → IfSome o (λ k. IsLineOf p (cut_of t) k.at)
line_is_of t p w steps None h e same at = tt
line_is_of t p w steps (Some k) h e same at =
    let f = walk_found t p.doc w h e in
    let rows = f.document.are_there.rows in
    row_line_found w.rows.now (cut_of t) p w.document steps (Some k.at) f same
    (row_line_reached w.rows.now w.document f.document.are_there steps (Some k.at) at.line
    (last_line steps [] (lines_of_rows rows) (line_number w.document rows k.at) (sym (at.leads f.document)) refl))

-- where a line is, if that is known
pub at_known : (P : Position → Type 0) (o : Option KnownLine) (r : Option Position) → r ≡ option_map (λ k. k.at) o → IfSome o (λ k. P k.at) → IfSome r P
at_known P None r e h = subst (λ (x : Option Position). IfSome x P) (sym e) tt
at_known P (Some k) r e h = subst (λ (x : Option Position). IfSome x P) (sym e) h
