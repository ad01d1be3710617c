-- Nodes that were measured after a mark, as the code lends them.
use Rattle.std.proofs.Common.{◌≡◌, ℕ, Bool, false, List, Option, Some, None, refl, sym, ap, ◌∙◌, subst, ℤ}
use Rattle.yq_core.{specs.Piece.deeper, specs.declared.style.Style.Style, specs.Inline.depth_limit}
use Rattle.yq_core.{specs.Places.{Placed, placed, nothing, name, text, sequence, mapping}, specs.PlacedReading.placed_node}
use Rattle.yq_inline.specs.Measured.{kind_of_style, node_measure, measured, is_nothing}
use Rattle.yq_inline.{specs.declared.measuring.MeasuredKind.MeasuredKind, proofs.MeasureSteps.{found, unread}}
use Rattle.yq_rows.specs.ReadPieces.{is_plain_kind}
use Rattle.yq_row_table.specs.Slicing.{nothing_placed, is_plain_style, plain_placed, inline_sliced}
use Rattle.yq_row_table.proofs.InlineSlicing.{Read, node_read, inline_no_node}
use Rattle.yq_core.specs.declared.style.Style.TheVariants as styles

style_nothing : (y : Style) → false ≡ is_nothing (kind_of_style y)
style_nothing styles.Plain = refl
style_nothing styles.Single = refl
style_nothing styles.Double = refl
style_nothing styles.Literal = refl
style_nothing styles.Folded = refl

nothing_by_kind : (s : Placed) → nothing_placed s ≡ is_nothing (node_measure s).1
nothing_by_kind (placed a s c e nothing) = refl
nothing_by_kind (placed a s c e (name n)) = refl
nothing_by_kind (placed a s c e (text t p)) = style_nothing p.style
nothing_by_kind (placed a s c e (sequence x)) = refl
nothing_by_kind (placed a s c e (mapping x)) = refl

style_plain : (y : Style) → is_plain_style y ≡ is_plain_kind (kind_of_style y)
style_plain styles.Plain = refl
style_plain styles.Single = refl
style_plain styles.Double = refl
style_plain styles.Literal = refl
style_plain styles.Folded = refl

plain_by_kind : (s : Placed) → plain_placed s ≡ is_plain_kind (node_measure s).1
plain_by_kind (placed a s c e nothing) = refl
plain_by_kind (placed a s c e (name n)) = refl
plain_by_kind (placed a s c e (text t p)) = style_plain p.style
plain_by_kind (placed a s c e (sequence x)) = refl
plain_by_kind (placed a s c e (mapping x)) = refl

-- What the code knows of a node that it measured in front of a text.
pub record Known (spaces : Option ℕ) (t rest : List ℕ) (k : MeasuredKind) : Type 0 where
  pub node : Placed
  pub read : Read spaces t rest node
  pub nothing_is : is_nothing k ≡ nothing_placed node
  pub plain_is : is_plain_kind k ≡ plain_placed node

pub known : (n : ℤ) (spaces : Option ℕ) (t rest : List ℕ) (a : Bool) (k : MeasuredKind) → spaces ≡ Some (deeper n) → measured (placed_node false spaces 0 depth_limit t) ≡ Some ((a, k), rest) → Known (Some (deeper n)) t rest k
known n spaces t rest a k e h =
    let y = found (placed_node false (Some (deeper n)) 0 depth_limit t) a k rest (subst (λ (o : Option ℕ). measured (placed_node false o 0 depth_limit t) ≡ Some ((a, k), rest)) e h) in
    let kind : (node_measure y.node).1 ≡ k = ap (λ (m : Bool × MeasuredKind). m.1) y.measured_as in
    record {
      node = y.node;
      read = node_read (Some (deeper n)) 0 t rest y.node y.read;
      nothing_is = sym (nothing_by_kind y.node ∙ ap is_nothing kind);
      plain_is = sym (plain_by_kind y.node ∙ ap is_plain_kind kind);
    }

pub none_known : (n : ℤ) (spaces : Option ℕ) (space t : List ℕ) → spaces ≡ Some (deeper n) → measured (placed_node false spaces 0 depth_limit t) ≡ None → inline_sliced n space t ≡ None
none_known n spaces space t e h = inline_no_node n space t 0 (unread (placed_node false (Some (deeper n)) 0 depth_limit t) (subst (λ (o : Option ℕ). measured (placed_node false o 0 depth_limit t) ≡ None) e h))
