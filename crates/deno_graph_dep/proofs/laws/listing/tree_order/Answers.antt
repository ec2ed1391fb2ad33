use Rattle.deno_graph_dep.proofs.Listings.{Precedes-asymmetric, Precedes-total, Precedes-transitive}
use Rattle.deno_graph_dep.proofs.laws.listing.tree_order.Goals as goal

pub returns : goal.returns
returns c = record { one = Precedes-total; not_both = Precedes-asymmetric; transitive = Precedes-transitive }
