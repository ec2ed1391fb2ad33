use Rattle.std.proofs.Common.{◌≡◌, codes, true, Some, option_map, sym, ap, ◌∙◌}
use Rattle.serde_json.specs.Find.{get_member}
use Rattle.deno_graph_json.proofs.Reading.{step_error}
use Rattle.deno_graph_json.specs.Data.{data_of}
use Rattle.deno_graph_json.specs.ObjectReader.{readable, value_of}
use Rattle.modinfo_estree.specs.Kind.{external_in, reads_import_equals}
use Rattle.modinfo_estree.specs.Member.{has_type}
use Rattle.modinfo_estree.specs.Source.{source_of}
use Rattle.modinfo_estree.proofs.JsonMembers.{error_of_member}
use Rattle.modinfo_estree.proofs.reading.Reading.import_equals.Goals as goal

pub returns-in-Some : goal.returns-in-Some
unfolding reads_import_equals
returns-in-Some c =
    let declared = c.args.declared.now in
    let reference = data_of c.in-Some.reference in
    let name = codes "moduleReference" in
    let reads = external_in (source_of c.args.self.now.source.now) in
    let here : get_member name (readable declared) ≡ Some reference =
    sym c.get.ensures ∙ ap (option_map data_of) c.in-Some.is in
    let is_external : has_type name (codes "TSExternalModuleReference") (readable declared) ≡ true =
    sym c.has_type.ensures ∙ c.if-has_type.true in
    rw is_external
    (step_error _ _ _ _
    (error_of_member (readable declared) name reference reads _ _ here
    (c.in_member.ensures.place (value_of declared) reference here) c.in_member.ensures.mismatch
    c.in-Err.ensures))
