use Rattle.deno_graph_module_info.proofs.ExactRanges.{exact_ranges}
use Rattle.deno_graph_module_info.proofs.SomeInfo.{some_info}
use Rattle.deno_graph_module_info.proofs.SpelledDependencies.{described_spell}
use Rattle.deno_graph_module_info.proofs.laws.each_source_has_info.Goals as goal

pub returns : goal.returns
returns c = λ text media_type program comments valid utf8.
    let info = some_info text media_type program comments valid utf8 in (
      info.0,
      record {
        is = info.1;
        ranges = exact_ranges text media_type program comments info.0 valid utf8 info.1;
        spells = described_spell text program comments info.0.dependencies valid info.1.dependencies;
      },
    )
