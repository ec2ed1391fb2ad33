-- Source texts: documents of `analyze --source`, the parts that C hands in, and the information on a text.
use Rattle.std.specs.Prelude.{◌≡◌, ◌==◌, ◌⊎◌, ℕ, List, codes, Option, None, Some, IsUtf8, Err, Ok, unwrap_or}
use Rattle.std.specs.Prelude.{Bool, is_some, if◌then◌else◌, length}
use Rattle.serde_json.specs.Data.{Data}
use Rattle.serde_json.specs.Find.{as_object, as_str}
use Rattle.serde_json.specs.Read.{read as read_text}
use Rattle.serde_json.specs.Written.{compact_text}
use Rattle.url.specs.Parser.{parse_url}
use Rattle.url.specs.Parts.{Parts}
use Rattle.url.specs.declared.error.ParseError.{ParseError}
use Rattle.deno_graph_json.specs.Read.Partial.{◌>>=◌, member_at, member_or, reads_optional}
use Rattle.deno_graph_source.specs.MediaType.{is_typed, media_type_of}
use Rattle.deno_graph_source.specs.ParsedSource.{ParsedModule}
use Rattle.deno_graph_source.specs.Source.{IsValid}
use Rattle.deno_graph_source.specs.declared.tree.media_type.MediaType.{MediaType}
use Rattle.deno_graph_source.specs.declared.tree.media_type.MediaType.TheVariants as media
use Rattle.deno_graph_info.specs.Json.ModuleInfo.{json_of_info}
use Rattle.deno_graph_info.specs.declared.analysis.module_info.ModuleInfo.{ModuleInfo}
use Rattle.deno_graph_module_info.specs.InfoOfModule.{IsInfoOfModule}
use Rattle.modinfo_document.specs.Kind.{media_types}
use Rattle.modinfo_document.specs.Named.{reads_named}
use Rattle.modinfo_source.specs.OfText.{IsOfText}
use Rattle.modinfo_source.specs.Spelled.{IsSpelled}
use Rattle.modinfo.specs.declared.fault.Fault.{Fault}
use Rattle.modinfo.specs.declared.fault.Fault.TheVariants.{Input, Json, Tree, Specifier, Syntax, Defect}
use Rattle.modinfo.specs.declared.fault.Fault.TheVariants.{OutOfMemory}
use Rattle.modinfo.specs.declared.source.SourceText.{SourceText}

-- The three members of an object. Other members are ignored.
unfoldable pub reads_text : Data → Option SourceText
reads_text value = do
  members ← as_object value
  specifier ← member_at as_str (codes "specifier") members
  source ← member_at as_str (codes "source") members
  media_type ← member_or (reads_optional (reads_named media_types)) (codes "mediaType") None members
  Some (record { specifier = specifier; source = source; media_type = media_type })

-- The media type of a text: the one that is named, else that of its URL.
abbrev pub media_type_in : Parts → Option MediaType → MediaType
media_type_in url named = unwrap_or named (media_type_of url)

-- A valid source that is its text's: nothing in its tree and comments is invented, no dependency is lost, and
-- the literals have the values that the text spells.
pub record IsRead (module_ : ParsedModule) : Type 0 where
  pub valid : IsValid module_.text module_.program module_.comments
  pub spelled : IsSpelled module_.text module_.program
  pub of_text : IsOfText module_.text (is_typed module_.media_type) module_.program module_.comments
  pub range : module_.program.range ≡ record { start = 0; end = length module_.text }

-- Such a source with the URL, the text and the media type.
pub record IsParsed (text : SourceText) (module_ : ParsedModule) : Type 0 where
  pub specifier : parse_url None text.specifier ≡ Ok module_.specifier
  pub source : module_.text ≡ text.source
  pub media_type : module_.media_type ≡ media_type_in module_.specifier text.media_type
  pub read : IsRead module_

-- The compact JSON of the information on such a source.
abbrev pub IsInfoOfText : SourceText → List ℕ → Type 0
IsInfoOfText text printed = (module_ : ParsedModule) × IsParsed text module_
    × (info : ModuleInfo) × IsInfoOfModule module_ info
    × (printed ≡ compact_text (json_of_info info))

-- Why a text has no information: its specifier is no URL, or else the parser reported a syntax error, or read
-- what isn't the text's; or an allocation failed. Of the parser this says only that the specifier is a URL.
abbrev pub IsNoInfoOfText : SourceText → Fault → Type 0
IsNoInfoOfText text Specifier = (error : ParseError) × (parse_url None text.specifier ≡ Err error)
IsNoInfoOfText text Syntax = (url : Parts) × (parse_url None text.specifier ≡ Ok url)
IsNoInfoOfText text Defect = (url : Parts) × (parse_url None text.specifier ≡ Ok url)
IsNoInfoOfText text OutOfMemory = Unit {0}
IsNoInfoOfText text fault = ⊥

-- There is a source of the text. That the parser accepts the text isn't said.
abbrev pub CanBeParsed : SourceText → Type 0
CanBeParsed text = (module_ : ParsedModule) × IsParsed text module_

-- The bytes are a document of `analyze --source` with this text.
abbrev pub IsTextIn : List ℕ → SourceText → Type 0
IsTextIn document text = (value : Data) × (read_text document ≡ Some value) × (reads_text value ≡ Some text)

-- The compact JSON of the information on the text of a document.
abbrev pub IsTextInfo : List ℕ → List ℕ → Type 0
IsTextInfo document printed = (text : SourceText) × IsTextIn document text × IsInfoOfText text printed

-- Why a document has no text: it isn't JSON, or JSON of another form; or an allocation failed.
abbrev pub IsNoText : List ℕ → Fault → Type 0
IsNoText document Input = ¬ IsUtf8 document
IsNoText document Json = read_text document ≡ None
IsNoText document Tree = (value : Data) × (read_text document ≡ Some value) × (reads_text value ≡ None)
IsNoText document OutOfMemory = Unit {0}
IsNoText document fault = ⊥

-- Why a document has no information: it has no text, or its text has none.
abbrev pub IsNoTextInfo : List ℕ → Fault → Type 0
IsNoTextInfo document fault = IsNoText document fault
    ⊎ ((text : SourceText) × IsTextIn document text × IsNoInfoOfText text fault)

-- The bytes are a document with a text of which there is a source.
abbrev pub IsSourceDocument : List ℕ → Type 0
IsSourceDocument document = (text : SourceText) × IsTextIn document text × CanBeParsed text

-- The media type with a number: 0 for that of the specifier, else its place among all from 1 on.
unfoldable pub media_type_at : ℕ → Option (Option MediaType)
media_type_at number =
    if number == 0 then Some None
    else if number == 1 then Some (Some media.JavaScript)
    else if number == 2 then Some (Some media.Jsx)
    else if number == 3 then Some (Some media.Mjs)
    else if number == 4 then Some (Some media.Cjs)
    else if number == 5 then Some (Some media.TypeScript)
    else if number == 6 then Some (Some media.Mts)
    else if number == 7 then Some (Some media.Cts)
    else if number == 8 then Some (Some media.Dts)
    else if number == 9 then Some (Some media.Dmts)
    else if number == 10 then Some (Some media.Dcts)
    else if number == 11 then Some (Some media.Tsx)
    else if number == 12 then Some (Some media.Json)
    else if number == 13 then Some (Some media.Other)
    else None

-- Whether the number is that of a media type, or 0 for the media type of the specifier.
abbrev pub is_media_type : ℕ → Bool
is_media_type number = is_some (media_type_at number)

-- The text has these parts: its bytes, those of its specifier, and the number of its media type.
pub record HasParts (bytes name : List ℕ) (number : ℕ) (text : SourceText) : Type 0 where
  pub are_utf8 : IsUtf8 bytes × IsUtf8 name
  pub source : text.source ≡ bytes
  pub specifier : text.specifier ≡ name
  pub media_type : media_type_at number ≡ Some text.media_type

-- Why parts are no text: one isn't UTF-8, or no media type has the number; or an allocation failed.
abbrev pub AreNoParts : List ℕ → List ℕ → ℕ → Fault → Type 0
AreNoParts bytes name number Input = (¬ IsUtf8 bytes) ⊎ (¬ IsUtf8 name)
AreNoParts bytes name number Tree = media_type_at number ≡ None
AreNoParts bytes name number OutOfMemory = Unit {0}
AreNoParts bytes name number fault = ⊥
