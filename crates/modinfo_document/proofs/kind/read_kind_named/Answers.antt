use Rattle.std.proofs.Common.{◌≡◌, None, rules}
use Rattle.serde_json.specs.Data.{string}
use Rattle.deno_graph_json.specs.ObjectReader.{readable, value_of}
use Rattle.deno_graph_json.proofs.Reading.{read_error}
use Rattle.modinfo_document.specs.Named.{named}
use Rattle.modinfo_document.specs.Kind.{kinds, reads_kind_named}
use Rattle.modinfo_document.proofs.NoKeys.{is_no_kind}
use Rattle.modinfo_document.proofs.kind.read_kind_named.Goals as goal

pub returns-in_default-clause-read : goal.returns-in_default-clause-read
unfolding reads_kind_named named
returns-in_default-clause-read c =
    let name = c.args.name.now in
    let members = readable c.args.object.now in
    let unknown : named (kinds members) name ≡ None = search rules in
    let none : reads_kind_named members name ≡ None = search rules in
    read_error (value_of c.args.object.now) _ c.member_error.result none
    (c.member_error.ensures.place (string name) c.requires (is_no_kind members name unknown))
