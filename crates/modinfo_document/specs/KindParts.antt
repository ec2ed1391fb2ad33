-- Arguments of calls, and keys of properties.
use Rattle.std.specs.Prelude.{codes, bytes_eq, false, Option, Some, None, if◌then◌else◌}
use Rattle.serde_json.specs.Data.{Data, null, boolean, number, string, array, object, Members}
use Rattle.serde_json.specs.Find.{as_bool, as_object, as_str, get_member}
use Rattle.deno_graph_json.specs.Read.Partial.{◌>>=◌, member_at, member_or}
use Rattle.deno_graph_source.specs.declared.tree.node.Arg.{Arg}
use Rattle.deno_graph_source.specs.declared.tree.node.PropKey.{PropKey}
use Rattle.deno_graph_source.specs.declared.tree.node.PropKey.TheVariants.{Str as StrKey, Ident as IdentKey}
use Rattle.deno_graph_source.specs.declared.tree.node.PropKey.TheVariants.{Other as OtherKey}
use Rattle.modinfo_document.specs.Literal.{reads_source_range, reads_string}

-- An argument: `{"range":[START,END],"spread":BOOL}`.
unfoldable pub reads_arg : Data → Option Arg
reads_arg value = do
  members ← as_object value
  range ← member_at reads_source_range (codes "range") members
  spread ← member_or as_bool (codes "spread") false members
  Some (record { spread = spread; range = range })

-- The key by the values of `str` and `ident`, of which exactly one is present.
abbrev pub string_or_identifier : Option Data → Option Data → Option PropKey
string_or_identifier (Some value) None = do
  text ← reads_string value
  Some (StrKey text)
string_or_identifier None (Some value) = do
  text ← as_str value
  Some (IdentKey text)
string_or_identifier None None = None
string_or_identifier (Some _) (Some _) = None

-- A key that is known: `{"str":STRING}` or `{"ident":TEXT}`.
unfoldable pub reads_static_key : Members → Option PropKey
reads_static_key members =
    string_or_identifier (get_member (codes "str") members) (get_member (codes "ident") members)

-- A key: `"other"`, or one that is known.
unfoldable pub reads_key : Data → Option PropKey
reads_key null = None
reads_key (boolean _) = None
reads_key (number _) = None
reads_key (string text) = if bytes_eq text (codes "other") then Some OtherKey else None
reads_key (array _) = None
reads_key (object members) = reads_static_key members
