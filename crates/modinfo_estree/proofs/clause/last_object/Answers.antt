-- The node that `pop` takes is the last one.
use Rattle.std.proofs.Common.{◌≡◌, List, [], ◌∷◌, ◌++◌, refl, sym, ap, ◌∙◌}
use Rattle.deno_graph_source.specs.declared.tree.node.Node.{Node}
use Rattle.modinfo_estree.specs.Kind.{if_object, last_object}
use Rattle.modinfo_estree.proofs.clause.last_object.Goals as goal

last_object-end : (nodes : List Node) (last : Node) → last_object (nodes ++ last ∷ []) ≡ if_object last
last_object-end [] last = refl
last_object-end (node ∷ []) last = refl
last_object-end (_ ∷ node ∷ nodes) last = last_object-end (node ∷ nodes) last

pub returns-in-Some : goal.returns-in-Some
returns-in-Some c =
    let nodes : c.args.nodes ≡ c.pop.new.self.items ++ c.in-Some.node ∷ [] =
    sym c.into_vec.ensures ∙ (rw c.in-Some.is at c.pop.ensures.items) in
    let last : last_object c.args.nodes ≡ if_object c.in-Some.node =
    ap last_object nodes ∙ last_object-end c.pop.new.self.items c.in-Some.node in
    rw last c.if_object.ensures
