use Rattle.std.proofs.Common.{refl}
use Rattle.deno_graph_json.specs.ObjectReader.{readable}
use Rattle.deno_graph_json.proofs.Reading.{goes_on}
use Rattle.modinfo_document.specs.Literal.{reads_literal}
use Rattle.modinfo_document.proofs.literal.StrLitFromJsonDocument.from_json.Goals as goal

pub returns : goal.returns
unfolding reads_literal
returns c = goes_on _ _ (readable c.in_ok-object.object) _ c.in_ok-object.ensures
    (goes_on _ _ c.in_ok-range.range _ c.in_ok-range.ensures
    (goes_on _ _ c.in_ok-value.value _ c.in_ok-value.ensures refl))
