-- The tokens of a report.
use Rattle.std.proofs.Common.{◌≡◌, ℕ, List, [], ◌∷◌, ◌++◌, Option, Some, None, refl, sym, ap, ◌∙◌}
use Rattle.json.specs.Json.{Json}
use Rattle.json.specs.Token.{Token, begin_object, end_object}
use Rattle.json.specs.Tree.{json_tokens, members_tokens}
use Rattle.deno_graph_json.specs.Text.{Text, with_tokens}
use Rattle.deno_graph_json.proofs.Texts.{with_tokens-twice}
use Rattle.modinfo_document.specs.ReportText.{Entry, json_object, members_of}
use Rattle.modinfo_document.specs.internal.ReportText.{member_tokens}

-- the tokens of members, followed by the brace that closes the object
abbrev entries_tokens : List Entry → List Token
entries_tokens entries = members_tokens (members_of entries)

one_more : (name : List ℕ) (value : Option Json) (entries : List Entry)
    → entries_tokens ((name, value) ∷ entries) ≡ member_tokens name value ++ entries_tokens entries
one_more name None entries = refl
one_more name (Some value) entries = refl

-- the text after members
abbrev pub with_entries : List Entry → Text → Text
with_entries [] text = text
with_entries (entry ∷ entries) text =
    with_entries entries (with_tokens (member_tokens entry.0 entry.1) text)

entries_written : (entries : List Entry) (text : Text)
    → with_tokens (end_object ∷ []) (with_entries entries text) ≡ with_tokens (entries_tokens entries) text
entries_written [] text = refl
entries_written (entry ∷ entries) text =
    let first = member_tokens entry.0 entry.1 in
    entries_written entries (with_tokens first text)
    ∙ with_tokens-twice first (entries_tokens entries) text
    ∙ ap (λ ts. with_tokens ts text) (sym (one_more entry.0 entry.1 entries))

-- the members in braces are the object
pub object_written : (entries : List Entry) (text begun last new : Text)
    → begun ≡ with_tokens (begin_object ∷ []) text
    → last ≡ with_entries entries begun
    → new ≡ with_tokens (end_object ∷ []) last
    → new ≡ with_tokens (json_tokens (json_object entries)) text
object_written entries text begun last new begins writes closes =
    closes ∙ ap (with_tokens (end_object ∷ [])) (writes ∙ ap (with_entries entries) begins)
    ∙ entries_written entries (with_tokens (begin_object ∷ []) text)
    ∙ with_tokens-twice (begin_object ∷ []) (entries_tokens entries) text
