use Rattle.yq_explain.proofs.value_place.+aliases.Given as goal

abbrev pub decreases-first_alias : goal.decreases-first_alias
decreases-first_alias l = l.depth

abbrev pub invariant-children : goal.invariant-children
invariant-children l = (goal.iterator-children).can_next l.child-iterator × (goal.iterator-children).is_finite l.child-iterator
