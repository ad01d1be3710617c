-- Small values in the place of large ones, where it is judged whether an update is refused (own).
use Rattle.std.{specs.Prelude.{◌≡◌, ℕ, suc, min, false, List, Option}, specs.List.list_any}
use Rattle.yq_core.{specs.Inline.depth_limit, specs.Keys.depth, specs.Tree.{Label, Node, scalar, list, map, Children, child}}
use Rattle.yq_core.specs.Anchors.{Name}
use Rattle.yq_semantics.{specs.Changes.{has_long_key, refers_to}, specs.Judgement.{Judgement, gives, refuses}}
use Rattle.yq_core.specs.declared.kind.Kind.TheVariants as kinds

-- two values are texts, lists with items, or mappings with entries (own)
pub data AreOneKind : Node → Node → Type 0 where
  texts : {a b : Option (List ℕ)} {t u : List ℕ} → AreOneKind (scalar a kinds.Text t) (scalar b kinds.Text u)
  lists : {a b : Option (List ℕ)} {l m : Label} {n o : Node} {cs ds : Children} → AreOneKind (list a (child l n cs)) (list b (child m o ds))
  maps : {a b : Option (List ℕ)} {l m : Label} {n o : Node} {cs ds : Children} → AreOneKind (map a (child l n cs)) (map b (child m o ds))

-- A small value is refused where a large one is: they are of one kind, and no key of either is too long. It is nested as deep as the large one, or,
-- where that is too deep, just too deep (own).
pub record IsSubstitute (v w : Node) : Type 0 where
  pub kind : AreOneKind v w
  pub fit : has_long_key v ≡ false
  pub short : has_long_key w ≡ false
  pub deep : depth w ≡ min (suc depth_limit) (depth v)

-- none of these names is that of an alias (own)
abbrev pub HaveNoAlias : List Name → Type 0
HaveNoAlias names = (k : List ℕ) → list_any (refers_to k) names ≡ false

-- whether something comes of it, or the refusal (own)
abbrev pub verdict : {A : Type 0} → Judgement A → Judgement (Unit {0})
verdict (gives x) = gives tt
verdict (refuses why) = refuses why
