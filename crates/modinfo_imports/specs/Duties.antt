-- What a word asks of the tokens after it where a dependency may begin: they show that none begins, or that
-- the tree has its specifier and its attributes. ⏎ is a line end.
use Rattle.std.specs.Prelude.{ℕ, ◌==◌, Bool, true, false, not, ◌&&◌, ◌||◌, List, [], ◌∷◌, Option, Some, None}
use Rattle.std.specs.Prelude.{codes, if◌then◌else◌, slice_index, slice_range}
use Rattle.std.specs.List.{list_any}
use Rattle.std.specs.Str.{bytes_eq}
use Rattle.modinfo_imports.specs.declared.claims.Form.{Form}
use Rattle.modinfo_imports.specs.declared.claims.Form.TheVariants as forms
use Rattle.modinfo_imports.specs.declared.duty.Duty.{Duty}
use Rattle.modinfo_imports.specs.declared.duty.Duty.TheVariants as duties
use Rattle.modinfo_imports.specs.declared.duty.Name.{Name}
use Rattle.modinfo_imports.specs.declared.duty.Name.TheVariants as names
use Rattle.modinfo_imports.specs.declared.duty.Phase.TheVariants as phases
use Rattle.modinfo_imports.specs.declared.duty.Sight.{Sight}
use Rattle.modinfo_imports.specs.declared.duty.Sight.TheVariants.{Byte, Other, String, Word}
use Rattle.modinfo_pieces.specs.WordClasses.{is_among}
use Rattle.modinfo_pieces.specs.declared.piece.Piece.{Piece}
use Rattle.modinfo_pieces.specs.declared.piece.PieceKind.{PieceKind}
use Rattle.modinfo_pieces.specs.declared.piece.PieceKind.TheVariants as kinds

-- Words that begin a type, or an expression, and are none.
abbrev pub operators : List (List ℕ)
operators = codes "infer" ∷ codes "keyof" ∷ codes "readonly" ∷ codes "super" ∷ codes "unique" ∷ []

-- The words that a rule names.
unfoldable pub name_of : List ℕ → Name
name_of word =
    (if bytes_eq word (codes "from") then names.From
    else (if bytes_eq word (codes "as") then names.As
    else (if bytes_eq word (codes "type") then names.Type
    else (if bytes_eq word (codes "source") then names.Source
    else (if bytes_eq word (codes "defer") then names.Defer
    else (if bytes_eq word (codes "with") then names.With
    else (if bytes_eq word (codes "assert") then names.Assert
    else (if is_among operators word then names.Operator else names.Other))))))))

-- A token, as far as duties tell tokens apart.
unfoldable pub sight_of : List ℕ → Piece → PieceKind → Sight
sight_of text piece kinds.Word = Word (name_of (slice_range text piece.start piece.end))
sight_of text piece kinds.String = String
sight_of text piece kinds.Punctuation = Byte (slice_index text piece.start)
sight_of text piece _ = Other

-- A byte is one of these.
abbrev pub is_one_of : List ℕ → ℕ → Bool
is_one_of bytes byte = list_any (λ one. one == byte) bytes

-- A token is one of these bytes of punctuation.
abbrev pub is_byte : List ℕ → Sight → Bool
is_byte bytes (Byte byte) = is_one_of bytes byte
is_byte bytes sight = false

-- A name: a word, or a string as in `{ "a" as b }`.
abbrev pub is_name : Sight → Bool
is_name (Word name) = true
is_name String = true
is_name sight = false

-- This duty, if a token is right.
abbrev pub only : Bool → Duty → Option Duty
only is_right duty = (if is_right then Some duty else None)

-- After `import` and a byte of punctuation: `a = { import: 1 }`, `{ import }`, `class A { import = 1 }`,
-- `class A { import; }`, `type A = { import?: 1 }`, `import<T>()`. Of the bytes that an import goes on
-- with, `(` may begin the parameters of a method, and `*` another member on the next line; `{` and `.`
-- can't follow a name.
abbrev pub after_import : Bool → Bool → ℕ → Option Duty
after_import may_be_method may_end byte =
    (if byte == 40 then only may_be_method duties.Parenthesis
    else only ((may_end && (byte == 42)) || not (is_one_of (codes "*{.") byte)) duties.Nothing)

-- After `export` and a byte of punctuation: a node must begin at `export {` and `export *`. A `*` may begin
-- another member on the next line.
abbrev pub after_export : Bool → Bool → ℕ → Option Duty
after_export claimed may_end byte =
    (if byte == 123 then only claimed duties.ExportNames
    else (if (byte == 42) && not may_end then only claimed duties.ExportStar else Some duties.Nothing))

-- After `require` at which no call begins: `(` may be that of a method, `{ require() {} }`, or on another
-- line, after the name of a variable or a type: `let require⏎(a)`, `let a: require⏎(b)`. Types may follow a
-- `<`.
abbrev pub after_require : Bool → Bool → Bool → ℕ → Option Duty
after_require may_be_method after is_typed byte =
    (if byte == 40 then (if may_be_method then Some duties.Parenthesis else only after duties.Nothing)
    else Some (if ((byte == 60) && is_typed) && not (may_be_method || after) then duties.TypeName
    else duties.Nothing))

-- Between `import` and the specifier, or the `=` of an alias: whether the specifier may be next, after
-- `from`, and whether something is named. A `from` that no specifier follows is a name.
abbrev pub after_names : Bool → Bool → Sight → Option Duty
after_names true _ String = None
after_names is_next is_named (Word names.From) = Some (duties.Names true (is_named || is_next))
after_names is_next is_named sight =
    Some (if is_name sight || is_byte (codes "*") sight then duties.Names false true
    else (if is_byte (codes "{,}") sight then duties.Names false (is_named || is_next)
    else (if is_byte (codes "=") sight then duties.NoCall else duties.Nothing)))

-- After an `import` at which a node begins, where no `type`, `source` or `defer` is more than a name.
abbrev pub after_start : Sight → Option Duty
after_start String = None
after_start (Word names.Type) = Some duties.TypeWord
after_start (Word name) = Some duties.Name
after_start sight = after_names false false sight

-- After `import type`, where that is a name: `import type from "a"`, `import type, { b } from "a"`, or where
-- an alias is of types.
abbrev pub after_type : Sight → Option Duty
after_type (Word names.From) = Some duties.TypeFrom
after_type (Word name) = Some duties.Alias
after_type sight = after_names false true sight

-- After the name that an import begins with: `import a from "a"`, `import a, { b } from "a"`, `import a = b`.
abbrev pub after_name : Sight → Option Duty
after_name (Word names.From) = Some (duties.Names true true)
after_name sight = (if is_byte (codes ",=") sight then after_names false true sight else None)

-- After `type`, `source` or `defer`: `import type A from "a"`, `import source from from "a"`,
-- `import defer * as a from "a"`.
abbrev pub after_phase : Sight → Option Duty
after_phase (Word name) = Some (duties.Names false true)
after_phase sight = only (is_byte (codes "{*") sight) (duties.Names false (is_byte (codes "*") sight))

-- After the specifier of a declaration: `with`, or `assert` on its line, where the tree has attributes, as in
-- `import a from "a" with { type: "json" }`.
abbrev pub after_specifier : ℕ → Bool → Sight → Bool → Option Duty
after_specifier at has_with (Word names.With) after = only has_with (duties.With at)
after_specifier at has_with (Word names.Assert) false = only has_with (duties.With at)
after_specifier at has_with sight after = only (not has_with) duties.Nothing

-- The duty after a token that meets this duty, if the token meets it, and whether the token is on another
-- line than the one before. By rows:
-- * `import`: a member on the next line ends the one before, as in `class A { import⏎ foo() {} }`,
--   `class A { import⏎ "x"() {} }`. On its line no name is before another but in `{ import as a }`.
-- * `import as`: another name, then a comma or the brace. An import's name `as` has `from` and a string
--   after it.
-- * a method's `import(`: `import() {}`, `import(a) {}`, `import({ a }) {}`, `import([a]) {}`,
--   `import(@A a) {}`, `import(...a) {}`. A string or a template is no parameter. After the parameters
--   comes the body, or in TypeScript a type or the end of the member, as in
--   `interface A { import(a): B; import(a); }`.
-- * `require <`: in TypeScript names and literals between `,`, `|` or `&` are types, after which `(` begins
--   a call: `require<A | "b">("c")`. Other types need their grammar: `require < f(x) > (c)` is a
--   comparison, `require<(x) => y>(c)` a call.
-- * `import` at which a node begins: names up to the specifier, which follows `from` or the `import`, as in
--   `import a, { "b" as c } from "d"`, `import "a"`; or up to the `=` of `import type a = require("a")`. A
--   declaration is of types, or in the phase `source` or `defer`, exactly where that word and more than a
--   name follow: `import type A from "a"`, `import type { A } from "a"`, `import source from from "a"`, but
--   `import type from "a"`, `import defer, { b } from "a"`.
-- * `new`, `function`: `function *require() {}`.
-- * `export`: `export type { a } from "a"`, `export { a } from "a"`, `export * from "a"`,
--   `export * as a from "a"`. It is of types exactly where `type` follows.
-- * a top level's `export` at which no node begins: `export = a`, `export as namespace A`.
-- * `module`: a string on its line is a specifier of the tree.
-- * attributes: `{ a: "b", "c": "d", }`, keys and values that the tree has.
unfoldable pub met_by : Duty → Sight → Bool → Bool → Option Duty
met_by (duties.Import true _) (Word name) true _ = Some duties.Nothing
met_by (duties.Import true _) String true _ = Some duties.Nothing
met_by (duties.Import _ _) (Word names.As) _ _ = Some duties.As
met_by (duties.Import in_braces method) (Byte byte) after _ = after_import method (in_braces && after) byte
met_by (duties.Import _ _) _ _ _ = None
met_by duties.As sight _ _ = only (is_name sight) duties.AsName
met_by duties.AsName sight _ _ = only (is_byte (codes ",}") sight) duties.Nothing
met_by duties.Parenthesis (Word name) _ _ = Some duties.Nothing
met_by duties.Parenthesis sight _ _ = only (is_byte (codes "){[@.") sight) duties.Nothing
met_by duties.Parameters sight after is_typed =
    only (is_byte (codes "{:") sight || (is_typed && (after || is_byte (codes ";,}") sight))) duties.Nothing
met_by (duties.Require method) (Byte byte) after is_typed = after_require method after is_typed byte
met_by duties.TypeName (Word names.Operator) _ _ = Some duties.Nothing
met_by duties.TypeName sight _ _ = Some (if is_name sight then duties.TypeEnd else duties.Nothing)
met_by duties.TypeEnd sight _ _ =
    Some (if is_byte (codes ",|&") sight then duties.TypeName
    else (if is_byte (codes ">") sight then duties.NoParenthesis else duties.Nothing))
met_by duties.NoParenthesis sight after _ = only (after || not (is_byte (codes "(") sight)) duties.Nothing
met_by (duties.Start phases.Plain) sight _ _ = after_start sight
met_by (duties.Start phases.Types) (Word names.Type) _ _ = Some duties.Phase
met_by (duties.Start phases.Source) (Word names.Source) _ _ = Some duties.Phase
met_by (duties.Start phases.Defer) (Word names.Defer) _ _ = Some duties.Phase
met_by (duties.Start _) _ _ _ = None
met_by duties.Phase sight _ _ = after_phase sight
met_by duties.Name sight _ _ = after_name sight
met_by (duties.Names is_next is_named) sight _ _ = after_names is_next is_named sight
met_by duties.TypeWord sight _ _ = after_type sight
met_by duties.TypeFrom sight _ _ = only (is_byte (codes "=") sight) duties.NoCall
met_by duties.Alias sight _ _ = only (is_byte (codes "=") sight) duties.NoCall
met_by duties.NoCall sight _ _ = Some (if is_byte (codes "*") sight then duties.NoCall else duties.Nothing)
met_by (duties.Export true _ _) (Word name) true _ = Some duties.Nothing
met_by (duties.Export _ claimed of_types) (Word names.Type) _ _ =
    Some (duties.Export false (claimed && of_types) false)
met_by (duties.Export member claimed of_types) (Byte byte) after _ =
    after_export (claimed && not of_types) (member && after) byte
met_by duties.ExportNames sight _ _ =
    (if is_byte (codes "}") sight then Some duties.ExportEnd
    else only (is_name sight || is_byte (codes ",") sight) duties.ExportNames)
met_by duties.ExportStar (Word names.From) _ _ = Some duties.From
met_by duties.ExportStar (Word names.As) _ _ = Some duties.ExportAs
met_by duties.ExportStar _ _ _ = None
met_by duties.ExportAs sight _ _ = only (is_name sight) duties.ExportEnd
met_by duties.ExportEnd (Word names.From) _ _ = Some duties.From
met_by duties.From _ _ _ = None
met_by duties.ExportAlone (Word names.As) _ _ = Some duties.Nothing
met_by duties.ExportAlone sight _ _ = only (is_byte (codes "=") sight) duties.Nothing
met_by duties.Module String false _ = None
met_by (duties.Specifier at has_with) sight after _ = after_specifier at has_with sight after
met_by (duties.With at) sight _ _ = only (is_byte (codes "{") sight) (duties.Key at)
met_by (duties.Key at) sight _ _ = only (is_byte (codes "}") sight) duties.Nothing
met_by (duties.Colon at value) sight _ _ = only (is_byte (codes ":") sight) (duties.Value at value)
met_by (duties.Value _ _) _ _ _ = None
met_by (duties.Comma at) sight _ _ =
    (if is_byte (codes ",") sight then Some (duties.Key at)
    else only (is_byte (codes "}") sight) duties.Nothing)
met_by _ _ _ _ = Some duties.Nothing

-- A specifier of the tree is right after `import`, after the `from` of a declaration, or after `module`, and
-- nowhere else; whether the declaration names something: not in `import "a"`, `import {} from "a"`.
abbrev pub takes_specifier : Bool → Duty → Bool
takes_specifier has_names (duties.Start phases.Plain) = not has_names
takes_specifier has_names (duties.Names true is_named) = (if has_names then is_named else not is_named)
takes_specifier has_names duties.TypeFrom = has_names
takes_specifier has_names duties.From = true
takes_specifier has_names duties.Module = true
takes_specifier has_names duty = false

-- The duty after a specifier at an offset: `declare module "a"` has no attributes.
abbrev pub specified : ℕ → Bool → Duty → Duty
specified at has_with duties.Module = duties.Nothing
specified at has_with duty = duties.Specifier at has_with

-- The duty after a key or a value of the attributes of the specifier at an offset, by where the value begins.
abbrev pub attributed : ℕ → ℕ → Duty → Sight → Option Duty
attributed of value (duties.Key at) sight = only (is_name sight && (at == of)) (duties.Colon of value)
attributed of value (duties.Value at expected) sight =
    only ((at == of) && (expected == value)) (duties.Comma of)
attributed of value duty sight = None

-- The duty after a token at an offset, by what the tree says of the token: that it is a specifier, or a key
-- or a value of attributes, or something else.
unfoldable pub met_duty : Option Form → ℕ → Duty → Sight → Bool → Bool → Option Duty
met_duty (Some (forms.Specifier has_names has_with)) at duty sight _ _ =
    only (takes_specifier has_names duty) (specified at has_with duty)
met_duty (Some (forms.Attribute of value)) at duty sight _ _ = attributed of value duty sight
met_duty form at duty sight after is_typed = met_by duty sight after is_typed
