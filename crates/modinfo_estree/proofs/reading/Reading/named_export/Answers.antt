use Rattle.std.proofs.Common.{◌≡◌, codes, true, false, Some, option_map, sym, ap, ◌∙◌}
use Rattle.serde_json.specs.Find.{get_member}
use Rattle.deno_graph_json.specs.Data.{data_of}
use Rattle.deno_graph_json.specs.ObjectReader.{readable}
use Rattle.modinfo_estree.specs.Kind.{reads_exported, reads_named_export}
use Rattle.modinfo_estree.specs.Member.{has_type, is_present}
use Rattle.modinfo_estree.specs.Parts.{parts_of}
use Rattle.modinfo_estree.proofs.reading.Reading.named_export.Goals as goal

pub returns-in-Some : goal.returns-in-Some
unfolding reads_named_export
returns-in-Some c =
    let reading = c.args.self.now in
    let members = readable reading.members in
    let declaration = data_of c.in-Some.declaration in
    let name = codes "declaration" in
    let reads = reads_exported (parts_of reading) c.args.children.items in
    let here : get_member name members ≡ Some declaration =
    sym c.get.ensures ∙ ap (option_map data_of) c.in-Some.is in
    let no_source : is_present (codes "source") members ≡ false =
    sym c.is_present.ensures ∙ c.if-is_present.false in
    let is_import : has_type name (codes "TSImportEqualsDeclaration") members ≡ true =
    sym c.has_type.ensures ∙ c.if-has_type.true in
    rw (no_source, is_import)
    (c.in_member.ensures declaration reads here c.exported-read.ensures)
