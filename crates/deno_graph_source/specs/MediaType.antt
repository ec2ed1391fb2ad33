-- Media types.
use Rattle.std.specs.Prelude.{ℕ, Bool, true, false, ◌||◌, ◌==◌, nat_eq, nat_lt, List, [], ◌∷◌, length, codes}
use Rattle.std.specs.Prelude.{bytes_eq, if◌then◌else◌}
use Rattle.std.specs.Char.{is_ascii_whitespace}
use Rattle.std.specs.List.{after_last, before_first, before_last, ends_with, position_or_len}
use Rattle.std.specs.Str.{str_eq_ignore_ascii_case}
use Rattle.url.specs.Ascii.{dot, slash}
use Rattle.url.specs.Input.{trim_end, trim_start}
use Rattle.url.specs.Parts.{Parts}
use Rattle.deno_graph_source.specs.declared.tree.media_type.MediaType.{MediaType}
use Rattle.deno_graph_source.specs.declared.tree.media_type.MediaType.TheVariants.{JavaScript, Jsx, Mjs, Cjs}
use Rattle.deno_graph_source.specs.declared.tree.media_type.MediaType.TheVariants.{TypeScript, Mts, Cts, Dts}
use Rattle.deno_graph_source.specs.declared.tree.media_type.MediaType.TheVariants.{Dmts, Dcts, Tsx, Json}
use Rattle.deno_graph_source.specs.declared.tree.media_type.MediaType.TheVariants.{Other}

-- whether files of this media type hold types
abbrev pub is_typed : MediaType → Bool
is_typed TypeScript = true
is_typed Mts = true
is_typed Cts = true
is_typed Dts = true
is_typed Dmts = true
is_typed Dcts = true
is_typed Tsx = true
is_typed _ = false

-- The media type of the first key that equals the text, without regard to case, and `Other` if none does.
unfoldable pub in_table : List (List ℕ × MediaType) → List ℕ → MediaType
in_table [] text = Other
in_table ((key, media_type) ∷ table) text =
    if str_eq_ignore_ascii_case text key then media_type else in_table table text

-- ---- by the name of a file, as Deno and TypeScript read it

-- The endings of names.
abbrev pub endings : List (List ℕ × MediaType)
endings = (codes "js", JavaScript) ∷ (codes "jsx", Jsx) ∷ (codes "mjs", Mjs) ∷ (codes "cjs", Cjs)
    ∷ (codes "ts", TypeScript) ∷ (codes "mts", Mts) ∷ (codes "cts", Cts) ∷ (codes "tsx", Tsx)
    ∷ (codes "json", Json) ∷ []

-- The name of the file at a path: what is after the last slash.
abbrev pub file_name : List ℕ → List ℕ
file_name path = after_last (λ b. b == slash) path

-- What is before, and what is after, the last dot.
abbrev pub stem_of : List ℕ → List ℕ
stem_of name = before_last (λ b. b == dot) name

abbrev pub ending_of : List ℕ → List ℕ
ending_of name = after_last (λ b. b == dot) name

-- A text that ends in `.d`, in either case.
abbrev pub ends_in_d : List ℕ → Bool
ends_in_d text = ends_with nat_eq text (codes ".d") || ends_with nat_eq text (codes ".D")

-- The media type of a file, by the stem of its name and the media type of its ending. The stem of a
-- declaration file ends in `.d`. In TypeScript's name for the declarations of another file, that file's
-- ending follows: `a.d.css.ts` declares `a.css`.
abbrev pub by_stem : List ℕ → MediaType → MediaType
by_stem stem TypeScript = if ends_in_d stem || ends_in_d (stem_of stem) then Dts else TypeScript
by_stem stem Mts = if ends_in_d stem then Dmts else Mts
by_stem stem Cts = if ends_in_d stem then Dcts else Cts
by_stem stem media_type = media_type

-- The media type of a file with this name. A dot that begins the name begins no ending.
abbrev pub media_type_of_name : List ℕ → MediaType
media_type_of_name name =
    if length (stem_of name) == 0 then Other else by_stem (stem_of name) (in_table endings (ending_of name))

-- The media type of the file at a path.
abbrev pub media_type_at : List ℕ → MediaType
media_type_at path = media_type_of_name (file_name path)

-- ---- by the MIME type of a `data:` URL, as Deno reads it

-- `b','` and `b';'`
abbrev pub comma : ℕ
comma = 44

abbrev pub semicolon : ℕ
semicolon = 59

-- The MIME types.
abbrev pub mime_types : List (List ℕ × MediaType)
mime_types = (codes "application/javascript", JavaScript) ∷ (codes "application/ecmascript", JavaScript)
    ∷ (codes "application/x-javascript", JavaScript) ∷ (codes "application/node", JavaScript)
    ∷ (codes "text/javascript", JavaScript) ∷ (codes "text/ecmascript", JavaScript)
    ∷ (codes "application/typescript", TypeScript) ∷ (codes "application/x-typescript", TypeScript)
    ∷ (codes "text/typescript", TypeScript) ∷ (codes "video/mp2t", TypeScript)
    ∷ (codes "video/vnd.dlna.mpeg-tts", TypeScript) ∷ (codes "text/jsx", Jsx) ∷ (codes "text/tsx", Tsx)
    ∷ (codes "application/json", Json) ∷ (codes "text/json", Json) ∷ []

-- A MIME type without its parameters, which follow the first semicolon, and without outer white space.
abbrev pub essence : List ℕ → List ℕ
essence mime_type =
    let front = before_first (λ b. b == semicolon) mime_type in
    trim_end is_ascii_whitespace (trim_start is_ascii_whitespace front)

-- The path has a comma, which ends the MIME type.
abbrev pub has_comma : List ℕ → Bool
has_comma path = nat_lt (position_or_len (λ b. b == comma) path) (length path)

-- The media type that a `data:` URL with this path names.
abbrev pub media_type_named : List ℕ → MediaType
media_type_named path =
    if has_comma path then in_table mime_types (essence (before_first (λ b. b == comma) path)) else Other

-- ---- of a URL

-- The media type of the file at a URL.
unfoldable pub media_type_of : Parts → MediaType
media_type_of url =
    if bytes_eq url.scheme (codes "data") then media_type_named url.path else media_type_at url.path
