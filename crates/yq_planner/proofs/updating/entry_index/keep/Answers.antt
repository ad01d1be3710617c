use Rattle.std.proofs.Common.{option_map, sym, ap, ◌∙◌, bytes_eq}
use Rattle.yq_nodes.specs.Nodes.{label_of, node_of}
use Rattle.yq_planner.{specs.Indexes.get_text, proofs.IndexLaws.{put_text, map_put, new_kept, map_none}}
use Rattle.yq_planner.proofs.updating.entry_index.keep.Goals as goal

pub returns-in_ok-insert : goal.returns-in_ok-insert
returns-in_ok-insert c = λ k.
    let a = c.in-Some.key.now in
    let m = c.args.index.now in
    let none = map_none node_of (get_text a m) (sym c.contains_key.ensures ∙ c.if-not-contains_key.true) in
    ap (option_map node_of) (put_text m c.insert.new.self a c.args.entry.now c.in_ok-insert.ensures.updates k)
    ∙ (map_put node_of (bytes_eq a k) c.args.entry.now (get_text k m)
    ∙ new_kept a k (λ j. option_map node_of (get_text j m)) (label_of c.args.entry.now) (node_of c.args.entry.now) (sym c.in-Some.ensures) none)
