use Rattle.deno_graph_source.proofs.SourceFaults.{place_stands}
use Rattle.deno_graph_source.proofs.tree.fault_place.SourceFaultPlace.law_of_places.Goals as goal

pub returns : goal.returns
returns c = λ text program comments h.
    place_stands text program comments c.args.self.now.fault c.args.self.now.place h
