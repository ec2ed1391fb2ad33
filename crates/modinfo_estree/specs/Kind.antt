-- Which node of a module document a node of a parser's tree is, by its type: those of the ESTree
-- specification, of typescript-estree (with `TS`), and of Babel where they have other names. A node of a type
-- that isn't here, or that lacks what is asked for here, is an `Other` with all nodes below it.
use Rattle.std.specs.Prelude.{ℕ, ◌+◌, ◌&&◌, ◌||◌, List, [], ◌∷◌, ◌++◌, map, filter, codes, bytes_eq, Bool}
use Rattle.std.specs.Prelude.{true, false, not, Option, option_map, length, min, slice_get, Some, None}
use Rattle.std.specs.Prelude.{is_some, nat_lt, unwrap_or, if◌then◌else◌}
use Rattle.serde_json.specs.Data.{Data, Members}
use Rattle.serde_json.specs.Find.{as_array, as_object, get_item, get_member}
use Rattle.deno_graph_base.specs.declared.text.position.SourceRange.{SourceRange}
use Rattle.deno_graph_base.specs.JsString.{readable_text}
use Rattle.deno_graph_json.specs.Read.Partial.{◌>>=◌, member_at, reads_array}
use Rattle.deno_graph_source.specs.declared.tree.node.Arg.{Arg}
use Rattle.deno_graph_source.specs.declared.tree.node.BinaryOp.{BinaryOp}
use Rattle.deno_graph_source.specs.declared.tree.node.BinaryOp.TheVariants.{Add, Other as OtherOperator}
use Rattle.deno_graph_source.specs.declared.tree.node.Callee.{Callee}
use Rattle.deno_graph_source.specs.declared.tree.node.Callee.TheVariants.{Import, Expr}
use Rattle.deno_graph_source.specs.declared.tree.node.ImportPhase.{ImportPhase}
use Rattle.deno_graph_source.specs.declared.tree.node.ImportPhase.TheVariants as phase
use Rattle.deno_graph_source.specs.declared.tree.node.Kind.{Kind}
use Rattle.deno_graph_source.specs.declared.tree.node.Kind.TheVariants as kind
use Rattle.deno_graph_source.specs.declared.tree.node.Node.{Node, roll-Node}
use Rattle.deno_graph_source.specs.declared.tree.node.PropKey.{PropKey}
use Rattle.deno_graph_source.specs.declared.tree.node.PropKey.TheVariants as key
use Rattle.deno_graph_source.specs.Node.{children_of, kind_of, range_of}
use Rattle.deno_graph_source.specs.declared.tree.node.StrLit.{StrLit}
use Rattle.deno_graph_source.specs.Node.{is_object}
use Rattle.modinfo_document.specs.Named.{named, reads_named}
use Rattle.modinfo_document.specs.Kind.{phases}
use Rattle.modinfo_document.specs.Literal.{reads_string}
use Rattle.modinfo_estree.specs.Child.{around, has_group, in_extent, is_read, lacks_group, node_of, nodes_in}
use Rattle.modinfo_estree.specs.Child.{nodes_outside}
use Rattle.modinfo_estree.specs.Member.{has_items, has_name, has_text, has_type, is_present, is_true}
use Rattle.modinfo_estree.specs.Member.{reads_range, text_at}
use Rattle.modinfo_estree.specs.Literal.{if_spelled, reads_literal}
use Rattle.modinfo_estree.specs.Offsets.{Counted}
use Rattle.modinfo_estree.specs.Parentheses.{extent_in_call, is_byte}
use Rattle.modinfo_estree.specs.Parts.{Parts}
use Rattle.modinfo_estree.specs.Source.{EstreeSource, byte_of, gaps}
use Rattle.modinfo_estree.specs.Tokens.{token_start}
use Rattle.modinfo_estree.specs.declared.child.Child.{Child}
use Rattle.modinfo_estree.specs.declared.role.Group.{Group}
use Rattle.modinfo_estree.specs.declared.role.Group.TheVariants as group

-- A node of this kind.
abbrev pub made : Kind → SourceRange → List Node → Node
made kind range nodes = roll-Node (record { range = range; kind = kind; children = nodes })

-- A string literal that a node is.
abbrev pub literal_of_kind : SourceRange → Kind → Option StrLit
literal_of_kind range (kind.Str text) = Some (record { value = text; range = range })
literal_of_kind range _ = None

abbrev pub first_literal : List Node → Option StrLit
first_literal [] = None
first_literal (node ∷ _) = literal_of_kind (range_of node) (kind_of node)

-- The key of a property that isn't computed.
abbrev pub key_of_kind : Kind → PropKey
key_of_kind (kind.Str text) = key.Str text
key_of_kind (kind.Ident name) = key.Ident name
key_of_kind _ = key.Other

abbrev pub first_key : List Node → PropKey
first_key [] = key.Other
first_key (node ∷ _) = key_of_kind (kind_of node)

-- Whether a key is `with`, or `assert` as it was once.
abbrev pub is_with : List ℕ → Bool
is_with name = bytes_eq name (codes "with") || bytes_eq name (codes "assert")

abbrev pub is_with_text : Option (List ℕ) → Bool
is_with_text None = false
is_with_text (Some text) = is_with text

abbrev pub is_with_key : Kind → Bool
is_with_key (kind.KeyValue (key.Ident name)) = is_with name
is_with_key (kind.KeyValue (key.Str text)) = is_with_text (readable_text text)
is_with_key _ = false

-- A node, if it is an object literal.
abbrev pub if_object : Node → List Node
if_object node = if is_object (kind_of node) then node ∷ [] else []

-- The last of some nodes, if it is an object literal.
abbrev pub last_object : List Node → List Node
last_object [] = []
last_object (node ∷ []) = if_object node
last_object (_ ∷ node ∷ others) = last_object (node ∷ others)

-- The attributes among the properties of the options of an import type: the value of the first property
-- `with`.
abbrev pub clause_among : List Node → List Node
clause_among [] = []
clause_among (property ∷ others) =
    if is_with_key (kind_of property) then last_object (children_of property) else clause_among others

abbrev pub clause_of : List Node → List Node
clause_of [] = []
clause_of (options ∷ _) = clause_among (children_of options)

-- The phase of an import, by its name. An import without a phase is evaluated.
unfoldable pub reads_phase : Members → Option ImportPhase
reads_phase members = if is_present (codes "phase") members
    then member_at (reads_named phases) (codes "phase") members else Some phase.Evaluation

-- The operator of a binary expression.
abbrev pub operator_of : Bool → BinaryOp
operator_of true = Add
operator_of false = OtherOperator

-- The text of a part of a template, whose `cooked` is null where an escape is no text.
abbrev pub reads_texts : Data → Option (List ℕ)
reads_texts value = do
  texts ← as_object value
  member_at reads_string (codes "cooked") texts

unfoldable pub reads_cooked : Data → Option (List ℕ)
reads_cooked value = do
  part ← as_object value
  member_at reads_texts (codes "value") part

-- The literal of an import type: `source`, or `argument` in older trees, a literal or a node with a
-- `literal`.
module _ (counted : Counted) where
  abbrev pub literal_or : Data → Option Data → Option StrLit
  literal_or argument None = reads_literal counted argument
  literal_or argument (Some literal) = reads_literal counted literal

  unfoldable pub reads_literal_in : Data → Option StrLit
  reads_literal_in argument = do
    members ← as_object argument
    literal_or argument (get_member (codes "literal") members)

  unfoldable pub reads_argument : Members → Option StrLit
  reads_argument members =
      if is_present (codes "source") members then member_at (reads_literal counted) (codes "source") members
      else member_at reads_literal_in (codes "argument") members

-- The first decorator.
unfoldable pub first_decorator : Members → Option Data
first_decorator members = do
  found ← get_member (codes "decorators") members
  decorators ← as_array found
  get_item 0 decorators

-- The start of the first decorator, which may be before `export`.
module _ (byte_of : ℕ → ℕ) where
  abbrev pub start_in : Data → Option ℕ
  start_in decorator = do
    members ← as_object decorator
    range ← reads_range byte_of members
    Some range.start

  unfoldable pub decorators_start : Members → Option ℕ
  decorators_start members = do
    first ← first_decorator members
    start_in first

  unfoldable pub declaration_start : Members → Option ℕ
  declaration_start members = do
    found ← get_member (codes "declaration") members
    declared ← as_object found
    decorators_start declared

-- The first of two offsets, the second of which may not be there.
abbrev pub first_start : ℕ → Option ℕ → ℕ
first_start start None = start
first_start start (Some other) = min start other

-- The `with` clause of a declaration, if there is one, with the range of the declaration.
abbrev pub clause : SourceRange → List Node → Bool → List Node
clause range attributes true = made kind.Object range attributes ∷ []
clause range attributes false = []

-- A module whose name is a string. A namespace is an `Other`.
abbrev pub module_kind : Option StrLit → Kind
module_kind None = kind.Other
module_kind (Some name) = kind.ModuleDecl (Some name)

-- What the members of a node say alone.
module _ (members : Members) where
  -- A string. A BigInt of Babel has its digits as `value`.
  abbrev pub string_value : Option (List ℕ)
  string_value = if is_some (text_at (codes "bigint") members) then None
      else member_at reads_string (codes "value") members

  -- The texts of a template.
  abbrev pub quasis : Option (List (List ℕ))
  quasis = member_at (reads_array reads_cooked) (codes "quasis") members

  -- Whether a property is `key: value`, no method, accessor or shorthand.
  abbrev pub is_key_value : Bool
  is_key_value = bytes_eq (unwrap_or (text_at (codes "kind") members) (codes "init")) (codes "init")
      && not (is_true (codes "method") members) && not (is_true (codes "shorthand") members)

  abbrev pub key_of : List Node → PropKey
  key_of nodes = if is_true (codes "computed") members then key.Other else first_key nodes

  -- `import.meta`.
  abbrev pub is_import_meta : Bool
  is_import_meta =
      has_name (codes "meta") (codes "import") members
      && has_name (codes "property") (codes "meta") members

  abbrev pub await_if : Bool → Kind
  await_if true = kind.Await
  await_if false = kind.Other

  -- The kinds of the types that have all nodes below them.
  abbrev pub kinds : List (List ℕ × Kind)
  kinds =
      (codes "AwaitExpression", kind.Await)
      ∷ (codes "ForOfStatement", await_if (is_true (codes "await") members))
      ∷ (codes "VariableDeclaration", await_if (has_text (codes "kind") (codes "await using") members))
      ∷ (codes "MetaProperty", if is_import_meta then kind.ImportMeta else kind.Other)
      ∷ (codes "FunctionDeclaration", kind.Function)
      ∷ (codes "FunctionExpression", kind.Function)
      ∷ (codes "ArrowFunctionExpression", kind.Function) ∷ []

  unfoldable pub kind_of_type : List ℕ → Kind
  kind_of_type type = unwrap_or (named kinds type) kind.Other

  -- Whether a callee is `import`, as Babel has it, or as an identifier.
  abbrev pub is_import : Bool
  is_import = has_type (codes "callee") (codes "Import") members
      || has_name (codes "callee") (codes "import") members

  -- The callee of a call that isn't optional: `import`, if the call has an argument, or an expression.
  unfoldable pub callee : List Child → Option Callee
  callee children =
      if is_true (codes "optional") members
      || not (nat_lt 0 (length (nodes_in group.Callee children))) then None
      else (if is_import && nat_lt 0 (length (nodes_in group.Arguments children))
      then Some (Import phase.Evaluation) else Some Expr)

-- The nodes of a callee, of which an import has none.
abbrev pub nodes_of_callee : Callee → List Node → List Node
nodes_of_callee Expr nodes = nodes
nodes_of_callee _ nodes = []

-- A node from its parts.
module _ (parts : Parts) where
  -- Whether a declaration has a `with` clause: it has attributes; or a token follows its source that isn't
  -- `;`, since a clause without attributes is in no tree.
  abbrev pub has_clause : List Node → StrLit → Bool
  has_clause attributes src = nat_lt 0 (length attributes)
      || (nat_lt (token_start (gaps parts.source) src.range.end) parts.range.end
      && not (is_byte 59 (slice_get parts.source.text (token_start (gaps parts.source) src.range.end))))

  -- The callee or an argument of a call with the parentheses around it, within these bounds.
  abbrev pub in_call : SourceRange → Child → Node
  in_call bounds child = around (extent_in_call parts.source bounds (range_of child.node)) child.node

  abbrev pub argument : SourceRange → Child → Arg
  argument bounds child = record {
    spread = child.is_spread;
    range = extent_in_call parts.source bounds (range_of child.node);
  }

  -- The offset after the byte at an offset, or the end of the text.
  abbrev pub after_byte : ℕ → ℕ
  after_byte at = if nat_lt at (length parts.source.text) then at + 1 else length parts.source.text

  -- Where parentheses around arguments are: after the first token that follows the callee, which opens the
  -- arguments or type arguments, and before the end of the call.
  abbrev pub argument_bounds : List Node → SourceRange
  argument_bounds [] = parts.range
  argument_bounds (callee ∷ _) = record {
    start = after_byte (token_start (gaps parts.source) (range_of callee).end);
    end = parts.range.end;
  }

  -- A call: nodes of its callee, its arguments, and other nodes as type arguments.
  unfoldable pub call_of : Callee → SourceRange → List Node → List Child → Node
  call_of callee bounds callee_nodes below =
      made (kind.Call callee (map (argument bounds) (filter (has_group group.Arguments) below))) parts.range
      (callee_nodes ++ map (in_call bounds) (filter (has_group group.Arguments) below)
      ++ nodes_outside group.Arguments below)

  -- A call of a callee, with the nodes of that.
  abbrev pub call_by : Callee → List Node → List Child → Node
  call_by callee nodes below =
      call_of callee (argument_bounds nodes) (nodes_of_callee callee nodes) below

-- The module that an `import name = require("..")` names.
abbrev pub external_in : EstreeSource → Data → Option StrLit
external_in source reference = do
  members ← as_object reference
  member_at (reads_literal source.counted) (codes "expression") members

-- Whether a declaration imports types only.
abbrev pub is_type_import : Members → Bool
is_type_import = has_text (codes "importKind") (codes "type")

-- `import name = require("..")`.
abbrev pub external_import : SourceRange → Bool → Bool → StrLit → Node
external_import range type_only is_export external =
    made (kind.ImportEquals type_only is_export (Some external)) range []

-- A node from its parts and the nodes below it.
module _ (parts : Parts) (children : List Child) where
  -- The node with all nodes below it.
  abbrev pub whole : Kind → Node
  whole kind = made kind parts.range (map node_of children)

  -- The node of a kind that is there, or an `Other`.
  abbrev pub whole_or_other : Option Kind → Node
  whole_or_other None = whole kind.Other
  whole_or_other (Some kind) = whole kind

  unfoldable pub module_of : Node
  module_of = whole (module_kind (first_literal (nodes_in group.Id children)))

  unfoldable pub object_literal : Node
  object_literal = made kind.Object parts.range (nodes_in group.Properties children)

  abbrev pub template_with : Option (List (List ℕ)) → Node
  template_with None = whole kind.Other
  template_with (Some texts) =
      made (kind.Template texts) parts.range (nodes_in group.Expressions children)

  unfoldable pub template : Node
  template = template_with (quasis parts.members)

  unfoldable pub binary : Node
  binary = made (kind.Binary (operator_of (has_text (codes "operator") (codes "+") parts.members)))
      parts.range (map (in_extent parts.range) (filter (has_group group.Operands) children))

  unfoldable pub identifier : Node
  identifier = whole_or_other (option_map kind.Ident (text_at (codes "name") parts.members))

  unfoldable pub key_value : Node
  key_value = made (kind.KeyValue (key_of parts.members (nodes_in group.Property children))) parts.range
      (map (in_extent parts.range) (filter (has_group group.Property) children))

  unfoldable pub property : Node
  property = if is_key_value parts.members then key_value else whole kind.Other

  -- A method of Babel: a function, and outside of it its decorators and its computed key, as ESTree has them.
  abbrev pub method_of : Group → Node
  method_of group = made kind.Other parts.range
      (nodes_in group children ++ made kind.Function parts.range (nodes_outside group children) ∷ [])

  unfoldable pub method : Node
  method = if is_true (codes "computed") parts.members then method_of group.DecoratorsAndKey
      else method_of group.Decorators

  -- The range of an export, which begins at the first decorator of what it declares, if that is before.
  abbrev pub export_range : SourceRange
  export_range = record {
    start = first_start parts.range.start (declaration_start (byte_of parts.source) parts.members);
    end = parts.range.end;
  }

  -- An export of a declaration or of names of this module.
  unfoldable pub export_of : Node
  export_of = made kind.ExportOther export_range (map node_of children)

  abbrev pub attributes : List Node
  attributes = nodes_in group.Attributes children

  unfoldable pub reads_import : Option Node
  reads_import = do
    src ← member_at (reads_literal parts.source.counted) (codes "source") parts.members
    phase ← reads_phase parts.members
    Some (made
        (kind.ImportDecl (has_text (codes "importKind") (codes "type") parts.members)
        phase src (has_items (codes "specifiers") parts.members) (has_clause parts attributes src))
        parts.range (clause parts.range attributes (has_clause parts attributes src)))

  -- An export from a module. `export *` and `export { .. }` give the same information.
  unfoldable pub reads_export_from : Option Node
  reads_export_from = do
    src ← member_at (reads_literal parts.source.counted) (codes "source") parts.members
    Some (made
        (kind.NamedExport (has_text (codes "exportKind") (codes "type") parts.members) (Some src)
        (has_clause parts attributes src))
        parts.range (clause parts.range attributes (has_clause parts attributes src)))

  -- The call of a callee, if there is one.
  abbrev pub call_with : Option Callee → Node
  call_with None = whole kind.Other
  call_with (Some callee) = call_by parts callee
      (map (in_call parts parts.range) (filter (has_group group.Callee) children))
      (filter (lacks_group group.Callee) children)

  unfoldable pub call : Node
  call = call_with (callee parts.members children)

  -- The children of an `ImportExpression`. Some trees have the options as `attributes` too.
  abbrev pub import_children : List Node → List Child
  import_children [] = children
  import_children (_ ∷ _) = filter (lacks_group group.Attributes) children

  unfoldable pub reads_import_call : Option Node
  reads_import_call = do
    phase ← reads_phase parts.members
    Some (call_of parts (Import phase) parts.range []
        (import_children (nodes_in group.Options children)))

  unfoldable pub reads_import_type : Option Node
  reads_import_type = do
    arg ← reads_argument parts.source.counted parts.members
    Some (made (kind.ImportType arg (nat_lt 0 (length (clause_of (nodes_in group.Options children)))))
        parts.range (clause_of (nodes_in group.Options children) ++ nodes_outside group.Options children))

  -- The nodes of the types that lack nothing.
  abbrev pub total_types : List (List ℕ × Node)
  total_types =
      (codes "ExportDefaultDeclaration", export_of)
      ∷ (codes "TSModuleDeclaration", module_of)
      ∷ (codes "CallExpression", call)
      ∷ (codes "TemplateLiteral", template)
      ∷ (codes "BinaryExpression", binary)
      ∷ (codes "Identifier", identifier)
      ∷ (codes "ObjectExpression", object_literal)
      ∷ (codes "Property", property)
      ∷ (codes "ObjectProperty", property)
      ∷ (codes "ImportAttribute", key_value)
      ∷ (codes "ObjectMethod", method)
      ∷ (codes "ClassMethod", method)
      ∷ (codes "ClassPrivateMethod", method) ∷ []

  unfoldable pub total_type : List ℕ → Node
  total_type type = unwrap_or (named total_types type) (whole (kind_of_type parts.members type))

  -- `import name = ..`, by the members of the declaration; an `Other` if it names no module.
  unfoldable pub reads_import_equals : Bool → Members → Option Node
  reads_import_equals is_export declared =
      if has_type (codes "moduleReference") (codes "TSExternalModuleReference") declared
      then (do
        external ← member_at (external_in parts.source) (codes "moduleReference") declared
        Some (external_import parts.range (is_type_import declared) is_export external))
      else Some (whole kind.Other)

  abbrev pub reads_exported : Data → Option Node
  reads_exported declaration = do
    declared ← as_object declaration
    reads_import_equals true declared

  -- An export: from a module, of an `import name = ..`, or of a declaration or names of this module.
  unfoldable pub reads_named_export : Option Node
  reads_named_export =
      if is_present (codes "source") parts.members then reads_export_from
      else (if has_type (codes "declaration") (codes "TSImportEqualsDeclaration") parts.members
      then member_at reads_exported (codes "declaration") parts.members
      else Some export_of)

  -- The node of a string. If a rule may read the string, the text has to spell it.
  abbrev pub reads_spelled : List ℕ → Option Node
  reads_spelled text = if is_read parts.role then (do
    spelled ← if_spelled parts.source.counted.text parts.range text
    Some (whole (kind.Str spelled))) else Some (whole (kind.Str text))

  -- A literal, which is a string or an `Other`.
  abbrev pub reads_string_with : Option (List ℕ) → Option Node
  reads_string_with None = Some (whole kind.Other)
  reads_string_with (Some text) = reads_spelled text

  unfoldable pub reads_string_node : Option Node
  reads_string_node = reads_string_with (string_value parts.members)

  -- The nodes of the types that need a member.
  abbrev pub types : List (List ℕ × Option Node)
  types =
      (codes "ImportDeclaration", reads_import)
      ∷ (codes "ExportAllDeclaration", reads_export_from)
      ∷ (codes "ExportNamedDeclaration", reads_named_export)
      ∷ (
        codes "TSImportEqualsDeclaration",
        reads_import_equals (is_true (codes "isExport") parts.members) parts.members,
      )
      ∷ (codes "ImportExpression", reads_import_call)
      ∷ (codes "Literal", reads_string_node)
      ∷ (codes "StringLiteral", reads_string_node)
      ∷ (codes "TSImportType", reads_import_type) ∷ []

  -- The node of a type.
  unfoldable pub reads_type : List ℕ → Option Node
  reads_type type = unwrap_or (named types type) (Some (total_type type))
