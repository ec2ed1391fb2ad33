use Rattle.std.proofs.Common.{◌≡◌, None, refl, sym}
use Rattle.deno_graph_json.specs.Read.Partial.{as_usize, reads_pair}
use Rattle.deno_graph_json.specs.Data.{data_of}
use Rattle.deno_graph_json.proofs.Reading.{goes_on}
use Rattle.modinfo_document.specs.Literal.{reads_source_range}
use Rattle.modinfo_document.proofs.literal.SourceRangeFromJsonDocument.from_json.Goals as goal

pub returns-in-Some : goal.returns-in-Some
unfolding reads_source_range
returns-in-Some c = goes_on _ _ (c.in-Some.start, c.in-Some.end) _ (sym c.in-Some.ensures) refl

pub returns-in-None : goal.returns-in-None
unfolding reads_source_range
returns-in-None c =
    let none : reads_pair as_usize (data_of c.args.value) ≡ None = sym c.in-None.ensures in
    rw c.expected.ensures (rw none refl, none)
