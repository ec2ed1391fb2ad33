use Rattle.modinfo_c.specs.Call.{IsInfoLine, IsNoInfoLine}
use Rattle.modinfo_c.proofs.LinesWritten.{answer_of}
use Rattle.modinfo_c.proofs.modinfo_analyze_source.Goals as goal

-- The line is the information.
pub returns-clause-media_type : goal.returns-clause-media_type
returns-clause-media_type c is =
    answer_of (IsInfoLine c.args.text.now c.args.specifier.now c.args.media_type)
    (IsNoInfoLine c.args.text.now c.args.specifier.now c.args.media_type) c.source_line.result _ _ _ _
    c.source_line.ensures c.write_line.ensures
