use Rattle.deno_graph_info.proofs.WrittenInfo.{written_is_read, written_without_float}
use Rattle.deno_graph_info.proofs.analysis.module_info.ModuleInfo.to_value.Goals as goal

pub returns-clause-read_back : goal.returns-clause-read_back
returns-clause-read_back c =
    written_is_read c.to_value.result c.args.self.now c.to_value.ensures.form
    c.to_value.ensures.held

pub returns-clause-no_float : goal.returns-clause-no_float
returns-clause-no_float c =
    written_without_float c.to_value.result c.args.self.now c.to_value.ensures.form
