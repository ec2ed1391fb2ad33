-- What a tree says of the attributes of a declaration, as those of `import a from "a" with { type: "json" }`.
use Rattle.std.specs.Prelude.{ℕ, Bool, true, false, not, ◌&&◌, List, [], ◌∷◌, Option, Some, None}
use Rattle.std.specs.Prelude.{if◌then◌else◌}
use Rattle.std.specs.List.{list_all}
use Rattle.deno_graph_base.specs.declared.text.position.SourceRange.{SourceRange}
use Rattle.deno_graph_source.specs.Node.{children_of, has_with, is_object, kind_of, range_of}
use Rattle.deno_graph_source.specs.declared.tree.node.Kind.{Kind}
use Rattle.deno_graph_source.specs.declared.tree.node.Kind.TheVariants as kinds
use Rattle.deno_graph_source.specs.declared.tree.node.Node.{Node}
use Rattle.deno_graph_source.specs.declared.tree.node.PropKey.TheVariants as keys
use Rattle.modinfo_imports.specs.Keywords.{has_escape}
use Rattle.modinfo_imports.specs.Spans.{bytes_at, no_piece, word_claim}
use Rattle.modinfo_imports.specs.declared.claims.Form.TheVariants as forms
use Rattle.modinfo_imports.specs.declared.claims.Mark.{Mark}
use Rattle.modinfo_pieces.specs.Comments.{has_bytes}
use Rattle.modinfo_pieces.specs.declared.piece.Piece.{Piece}

-- A declaration, as a rule reads it: by itself, not by the nodes below.
abbrev pub is_declaration : Kind → Bool
is_declaration (kinds.ImportDecl _ _ _ _ _) = true
is_declaration (kinds.NamedExport _ _ _) = true
is_declaration (kinds.ExportAll _ _ _) = true
is_declaration (kinds.ImportEquals _ _ _) = true
is_declaration _ = false

-- A string, without nodes below.
abbrev pub is_string : Kind → List Node → Bool
is_string (kinds.Str _) [] = true
is_string _ _ = false

-- A key and a string: `type: "json"`.
abbrev pub is_entry : Kind → List Node → Bool
is_entry (kinds.KeyValue keys.Other) _ = false
is_entry (kinds.KeyValue _) (value ∷ []) = is_string (kind_of value) (children_of value)
is_entry _ _ = false

-- Nothing, or a clause of attributes.
abbrev pub is_clause : List Node → Bool
is_clause [] = true
is_clause (clause ∷ []) =
    is_object (kind_of clause)
    && list_all (λ entry. is_entry (kind_of entry) (children_of entry)) (children_of clause)
is_clause _ = false

-- A declaration hides no node: below it there is a clause of attributes at most.
abbrev pub hidden_claim : ℕ → Kind → List Node → Option Piece
hidden_claim at kind children =
    (if is_declaration kind && not (is_clause children) then Some (no_piece at) else None)

-- The attributes of a declaration of this kind with these children.
abbrev pub entries_of : Kind → List Node → List Node
entries_of kind [] = []
entries_of kind (clause ∷ _) = (if is_declaration kind && has_with kind then children_of clause else [])

-- A key that is no string is a word, spelled as the key or with escapes, which end before the value.
abbrev pub key_claim : List ℕ → ℕ → ℕ → Kind → List Piece
key_claim text at value (kinds.KeyValue (keys.Ident name)) =
    let key : SourceRange = record { start = at; end = value } in
    (if has_escape (bytes_at text key) && not (has_bytes text at name) then []
    else word_claim text at name ∷ [])
key_claim text at value kind = []

-- Where the value of an attribute begins.
abbrev pub value_start : List Node → ℕ
value_start [] = 0
value_start (value ∷ _) = (range_of value).start

abbrev pub key_claims : List ℕ → Node → List Piece
key_claims text entry =
    key_claim text (range_of entry).start (value_start (children_of entry)) (kind_of entry)

-- The marks of an attribute's key and value: of which specifier it is, and where the value begins.
abbrev pub attribute_marks : ℕ → Node → List Mark
attribute_marks specifier entry =
    let value : ℕ = value_start (children_of entry) in
    record { start = (range_of entry).start; form = forms.Attribute specifier value }
    ∷ record { start = value; form = forms.Attribute specifier value } ∷ []
