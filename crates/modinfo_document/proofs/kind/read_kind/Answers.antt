use Rattle.deno_graph_json.proofs.Reading.{member_on}
use Rattle.modinfo_document.specs.Kind.{reads_kind}
use Rattle.modinfo_document.proofs.kind.read_kind.Goals as goal

pub returns : goal.returns
unfolding reads_kind
returns c = member_on _ _ _ _ _ _ c.in_ok-name.ensures c.read_kind_named.ensures.read
