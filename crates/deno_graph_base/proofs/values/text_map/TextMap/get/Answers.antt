-- A look-up by strings finds the same value as one by their bytes.
use Rattle.std.proofs.Common.{◌∙◌, ap}
use Rattle.deno_graph_base.specs.TextMap.{value_at}
use Rattle.deno_graph_base.proofs.TextEntries.{lookup-entries}
use Rattle.deno_graph_base.proofs.values.text_map.TextMap.get.Goals as goal

pub returns : goal.returns
returns g c =
    c.get.ensures.value ∙ lookup-entries c.args.key.now c.self.inside.map.entries
    ∙ ap (λ es. value_at es c.args.key.now) c.self.view_is
