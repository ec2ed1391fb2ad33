-- The pieces of a text that the nodes of its tree have: the word that each node begins with which may report
-- a dependency, and each string, name and template of the tree.
use Rattle.std.specs.Prelude.{ℕ, ◌+◌, ◌-◌, ◌==◌, Bool, true, false, ◌&&◌, ◌||◌, List, [], ◌∷◌, ◌++◌, Option}
use Rattle.std.specs.Prelude.{Some, None, codes, if◌then◌else◌, length, map, nat_le, nat_lt, not, option_map}
use Rattle.std.specs.Prelude.{slice_index}
use Rattle.std.specs.List.{flat_map}
use Rattle.std.specs.List.Sorted.{IsPermutation}
use Rattle.std.specs.Option.{option_to_list}
use Rattle.std.specs.Str.{bytes_eq}
use Rattle.deno_graph_base.specs.declared.text.position.SourceRange.{SourceRange}
use Rattle.deno_graph_source.specs.Node.{children_of, has_with, kind_of, literal_of, nodes_of, range_of}
use Rattle.deno_graph_source.specs.declared.tree.node.Callee.TheVariants as callees
use Rattle.deno_graph_source.specs.declared.tree.node.Kind.{Kind}
use Rattle.deno_graph_source.specs.declared.tree.node.Kind.TheVariants as kinds
use Rattle.deno_graph_source.specs.declared.tree.node.Node.{Node}
use Rattle.deno_graph_source.specs.declared.tree.node.Program.{Program}
use Rattle.deno_graph_source.specs.declared.tree.node.StrLit.{StrLit}
use Rattle.deno_graph_source.specs.declared.tree.node.ImportPhase.{ImportPhase}
use Rattle.deno_graph_source.specs.declared.tree.node.ImportPhase.TheVariants as phases
use Rattle.modinfo_imports.specs.declared.claims.Form.{Form}
use Rattle.modinfo_imports.specs.declared.claims.Form.TheVariants as forms
use Rattle.modinfo_imports.specs.declared.claims.Mark.{Mark}
use Rattle.modinfo_imports.specs.Attributes.{attribute_marks, entries_of, hidden_claim, key_claims}
use Rattle.modinfo_imports.specs.Keywords.{has_escape, may_be_require}
use Rattle.modinfo_imports.specs.Spans.{bytes_at, no_piece, piece_at, word_claim}
use Rattle.modinfo_pieces.specs.Comments.{has_bytes}
use Rattle.modinfo_pieces.specs.declared.piece.Piece.{Piece}
use Rattle.modinfo_pieces.specs.declared.piece.PieceKind.TheVariants.{Punctuation, String, Template, Word}

-- `export` is at an offset, or the `@` of a decorator before it, as in `@a export class B {}`.
abbrev pub export_claim : List ℕ → ℕ → Piece
export_claim text at =
    (if slice_index text at == 64 then record { kind = Punctuation; start = at; end = at + 1 }
    else word_claim text at (codes "export"))

-- `module` is at an offset, or the `declare` before it.
abbrev pub module_claim : List ℕ → ℕ → Piece
module_claim text at =
    word_claim text at (if has_bytes text at (codes "module") then codes "module" else codes "declare")

-- What a node begins with: `import "a"`, `export { a } from "b"`, `export * from "a"`, `export const a = 1`,
-- `export import a = require("b")`, `import a = require("b")`, the type `import("a")`,
-- `declare module "a" {}`, `import("a")` or `import.source("a")`, `import.meta`. Calls of expressions, as
-- `require("a")`, begin with a node.
abbrev pub begin_claim : List ℕ → ℕ → Kind → Option Piece
begin_claim text at (kinds.ImportDecl _ _ _ _ _) = Some (word_claim text at (codes "import"))
begin_claim text at (kinds.NamedExport _ _ _) = Some (word_claim text at (codes "export"))
begin_claim text at (kinds.ExportAll _ _ _) = Some (word_claim text at (codes "export"))
begin_claim text at kinds.ExportOther = Some (export_claim text at)
begin_claim text at (kinds.ImportEquals _ true _) = Some (word_claim text at (codes "export"))
begin_claim text at (kinds.ImportEquals _ false _) = Some (word_claim text at (codes "import"))
begin_claim text at (kinds.ImportType _ _) = Some (word_claim text at (codes "import"))
begin_claim text at (kinds.ModuleDecl _) = Some (module_claim text at)
begin_claim text at (kinds.Call (callees.Import _) _) = Some (word_claim text at (codes "import"))
begin_claim text at kinds.ImportMeta = Some (word_claim text at (codes "import"))
begin_claim text at _ = None

-- A literal is a whole string inside its node.
abbrev pub literal_claim : SourceRange → StrLit → Piece
literal_claim range literal =
    (if nat_le range.start literal.range.start && nat_le literal.range.end range.end
    then piece_at String literal.range else no_piece literal.range.start)

-- A name is a whole word, spelled as the name or with escapes, and isn't `import`.
abbrev pub name_claim : List ℕ → SourceRange → List ℕ → Piece
name_claim text range name =
    let word = bytes_at text range in
    (if bytes_eq word (codes "import") || not (has_escape word || bytes_eq word name)
    then no_piece range.start else piece_at Word range)

-- What a value is: the string "a", the name `require`.
abbrev pub value_claim : List ℕ → SourceRange → Kind → Option Piece
value_claim text range (kinds.Str value) = Some (piece_at String range)
value_claim text range (kinds.Ident name) = Some (name_claim text range name)
value_claim text range _ = None

-- A part of a template, with the marks around it: the backtick or `}` before, the backtick or `${` after.
abbrev pub part_claim : List ℕ → SourceRange → Piece
part_claim text part =
    let end_mark = (if slice_index text part.end == 96 then 1 else 2) in
    (if nat_lt part.end (length text)
    then record { kind = Template; start = part.start - 1; end = part.end + end_mark }
    else no_piece part.start)

-- The pieces that a node has.
abbrev pub claims_of : List ℕ → Node → List Piece
claims_of text node =
    option_to_list (begin_claim text (range_of node).start (kind_of node))
    ++ (option_to_list (option_map (literal_claim (range_of node)) (literal_of (kind_of node)))
    ++ (option_to_list (value_claim text (range_of node) (kind_of node))
    ++ (option_to_list (hidden_claim (range_of node).start (kind_of node) (children_of node))
    ++ flat_map (key_claims text) (entries_of (kind_of node) (children_of node)))))

-- What a tree says of the token at an offset, if it says something.
abbrev pub mark_at : ℕ → Option Form → List Mark
mark_at at None = []
mark_at at (Some form) = record { start = at; form = form } ∷ []

-- The word at a range that a call of a callee begins with is a call's, if it is a name that may be `require`.
abbrev pub call_form : List ℕ → SourceRange → Kind → Option Form
call_form text range (kinds.Ident _) =
    (if may_be_require (bytes_at text range) then Some forms.Call else None)
call_form text range _ = None

abbrev pub phase_form : ImportPhase → Option Form
phase_form phases.Evaluation = None
phase_form phases.Source = Some forms.Source
phase_form phases.Defer = Some forms.Defer

-- What a node says of the token that it begins with: of the `require` of `require("a")`, of the first word of
-- a declaration of types alone, `import type A from "a"`, `export type * from "a"`, and of an import in
-- another phase, `import source a from "b"`, `import defer * as a from "b"`.
abbrev pub begin_form : List ℕ → SourceRange → List Node → Kind → Option Form
begin_form text range (callee ∷ _) (kinds.Call callees.Expr _) =
    call_form text (record { start = range.start; end = (range_of callee).end }) (kind_of callee)
begin_form text range _ (kinds.ImportDecl true _ _ _ _) = Some forms.Types
begin_form text range _ (kinds.ImportDecl false phase _ _ _) = phase_form phase
begin_form text range _ (kinds.NamedExport true _ _) = Some forms.Types
begin_form text range _ (kinds.ExportAll true _ _) = Some forms.Types
begin_form text range children _ = None

-- An import that names something: not `import "a"` and `import {} from "a"`.
abbrev pub has_names : Kind → Bool
has_names (kinds.ImportDecl _ _ _ has_specifiers _) = has_specifiers
has_names _ = true

-- The specifier of a declaration: the string of `import a from "a"`, `export * from "a"`,
-- `declare module "a" {}`.
abbrev pub specifier_of : Kind → Option StrLit
specifier_of (kinds.ImportEquals _ _ _) = None
specifier_of (kinds.ImportType _ _) = None
specifier_of kind = literal_of kind

-- The marks of a declaration's specifier, and of its attributes.
abbrev pub specifier_marks : Kind → List Node → Option StrLit → List Mark
specifier_marks kind children None = []
specifier_marks kind children (Some literal) =
    record { start = literal.range.start; form = forms.Specifier (has_names kind) (has_with kind) }
    ∷ flat_map (attribute_marks literal.range.start) (entries_of kind children)

-- The marks of a node.
abbrev pub marks_of : List ℕ → Node → List Mark
marks_of text node =
    mark_at (range_of node).start (begin_form text (range_of node) (children_of node) (kind_of node))
    ++ specifier_marks (kind_of node) (children_of node) (specifier_of (kind_of node))

-- The claims of a tree are those of its nodes, and the parts of its templates, in the order of the text.
abbrev pub AreClaims : List ℕ → Program → List SourceRange → List Piece → Type 0
AreClaims text program parts claims =
    IsPermutation (map (part_claim text) parts ++ flat_map (claims_of text) (nodes_of program)) claims

-- The marks of a tree, likewise.
abbrev pub AreMarks : List ℕ → Program → List Mark → Type 0
AreMarks text program marks = IsPermutation (flat_map (marks_of text) (nodes_of program)) marks
