-- The maps are compared entry by entry.
use Rattle.std.proofs.Common.{◌&&◌, nat_eq, sym, ◌∙◌, List, ℕ, Bool}
use Rattle.std.specs.Cmp.Lexicographic.{pointwise}
use Rattle.deno_graph_base.specs.TextMap.{entry_of}
use Rattle.deno_graph_base.proofs.TextEntries.{pointwise-map}
use Rattle.deno_graph_base.proofs.values.text_map.TextMapPartialEq.eq.Goals as goal

pub returns : goal.returns
returns g c =
    let same : List ℕ × g.row.V.Denot → List ℕ × g.row.V.Denot → Bool =
    λ p q. pointwise nat_eq p.0 q.0 && g.V.PartialEq.eq p.1 q.1 in
    c.eq.ensures
    ∙ sym (pointwise-map entry_of same c.self.inside.map.entries c.other.inside.map.entries)
    ∙ (λ i. pointwise same (c.self.view_is i) (c.other.view_is i))
