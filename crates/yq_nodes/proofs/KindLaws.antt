-- The anchor of a node changes neither its kind nor its text.
use Rattle.std.proofs.Common.{◌≡◌, ℕ, List, Option, Some, None, refl}
use Rattle.yq_core.{specs.Tree.{Node, alias, scalar, list, map, Children, anchor_of}, specs.declared.kind.Kind.Kind}
use Rattle.yq_core.specs.Trees.{with_anchor_name}
use Rattle.yq_nodes.specs.Nodes.{kind_of, text_of}
use Rattle.yq_outline.specs.Outline.{first_anchor, anchored}

pub kind_anchored : (a : Option (List ℕ)) (n : Node) → kind_of (anchored a n) ≡ kind_of n
kind_anchored a (alias n) = refl
kind_anchored a (scalar c k t) = refl
kind_anchored a (list c cs) = refl
kind_anchored a (map c cs) = refl

pub text_anchored : (a : Option (List ℕ)) (n : Node) → text_of (anchored a n) ≡ text_of n
text_anchored a (alias n) = refl
text_anchored a (scalar c k t) = refl
text_anchored a (list c cs) = refl
text_anchored a (map c cs) = refl

pub kind_named : (a : Option (List ℕ)) (n : Node) → kind_of (with_anchor_name a n) ≡ kind_of n
kind_named None n = refl
kind_named (Some a) (alias n) = refl
kind_named (Some a) (scalar c k t) = refl
kind_named (Some a) (list c cs) = refl
kind_named (Some a) (map c cs) = refl

pub text_named : (a : Option (List ℕ)) (n : Node) → text_of (with_anchor_name a n) ≡ text_of n
text_named None n = refl
text_named (Some a) (alias n) = refl
text_named (Some a) (scalar c k t) = refl
text_named (Some a) (list c cs) = refl
text_named (Some a) (map c cs) = refl

-- the anchor of a node without one, after two
pub anchor_scalar : (a b : Option (List ℕ)) (k : Kind) (t : List ℕ) → anchor_of (anchored a (with_anchor_name b (scalar None k t))) ≡ first_anchor a b
anchor_scalar a None k t = refl
anchor_scalar a (Some b) k t = refl

pub anchor_list : (a b : Option (List ℕ)) (cs : Children) → anchor_of (anchored a (with_anchor_name b (list None cs))) ≡ first_anchor a b
anchor_list a None cs = refl
anchor_list a (Some b) cs = refl

pub anchor_map : (a b : Option (List ℕ)) (cs : Children) → anchor_of (anchored a (with_anchor_name b (map None cs))) ≡ first_anchor a b
anchor_map a None cs = refl
anchor_map a (Some b) cs = refl

pub anchor_alias : (a b : Option (List ℕ)) (n : List ℕ) → anchor_of (anchored a (with_anchor_name b (alias n))) ≡ None
anchor_alias a None n = refl
anchor_alias a (Some b) n = refl
