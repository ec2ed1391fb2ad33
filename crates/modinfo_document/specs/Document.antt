-- Module documents: reading one from a text, and making its source.
use Rattle.std.specs.Prelude.{◌≡◌, ◌⊎◌, List, codes, ℕ, Option, Some, None, Ok, Err, false, IsSomeAnd}
use Rattle.std.specs.Rc.{rc_str_bytes}
use Rattle.serde_json.specs.Data.{Data}
use Rattle.serde_json.specs.Find.{as_object, as_str}
use Rattle.serde_json.specs.Read.{read as read_text}
use Rattle.deno_graph_json.specs.Read.Error.{IsIn}
use Rattle.deno_graph_json.specs.Read.Partial.{◌>>=◌, member_at}
use Rattle.deno_graph_json.specs.declared.error.ReadError.TheVariants.{Mismatch}
use Rattle.deno_graph_source.specs.declared.tree.media_type.MediaType.{MediaType}
use Rattle.deno_graph_source.specs.declared.tree.node.Program.{Program}
use Rattle.deno_graph_source.specs.ParsedSource.{ParsedModule}
use Rattle.deno_graph_source.specs.Source.{HasFault, IsValid}
use Rattle.url.specs.Parser.{parse_url}
use Rattle.url.specs.declared.error.ParseError.{ParseError}
use Rattle.modinfo_document.specs.Kind.{media_types}
use Rattle.modinfo_document.specs.Named.{reads_named}
use Rattle.modinfo_document.specs.Comments.{Sides, reads_sides, AreThoseOf}
use Rattle.modinfo_document.specs.Node.{reads_program}
use Rattle.modinfo_document.specs.declared.document.Document.{Document}
use Rattle.modinfo_document.specs.declared.error.DocumentError.{DocumentError}
use Rattle.modinfo_document.specs.declared.error.DocumentError.TheVariants.{Json, Tree, Specifier, Source}
use Rattle.modinfo_document.specs.declared.error.DocumentError.TheVariants.{OutOfMemory}

-- The contents of a document.
pub record Contents : Type 0 where
  pub specifier : List ℕ
  pub media_type : MediaType
  pub source : List ℕ
  pub comments : Sides
  pub program : Program

-- `{"specifier":TEXT,"mediaType":NAME,"source":TEXT,"leading":[ENTRY ..],"trailing":[ENTRY
-- ..],"program":PROGRAM}`.
unfoldable pub reads_document : Data → Option Contents
reads_document value = do
  members ← as_object value
  specifier ← member_at as_str (codes "specifier") members
  media_type ← member_at (reads_named media_types) (codes "mediaType") members
  source ← member_at as_str (codes "source") members
  comments ← reads_sides members
  program ← member_at reads_program (codes "program") members
  Some (record {
    specifier = specifier;
    media_type = media_type;
    source = source;
    comments = comments;
    program = program;
  })

-- The document has these contents.
pub record Has (contents : Contents) (document : Document) : Type 0 where
  pub specifier : document.specifier ≡ contents.specifier
  pub media_type : document.media_type ≡ contents.media_type
  pub source : rc_str_bytes document.source ≡ contents.source
  pub comments : AreThoseOf contents.comments document.comments
  pub program : document.program ≡ contents.program

-- Documents of a form: `reads` reads the contents of a document from JSON of this form.
module _ (reads : Data → Option Contents) where
  -- The text is JSON, and the document has the contents of its value.
  abbrev pub IsDocumentIn : List ℕ → Document → Type 0
  IsDocumentIn text document = (value : Data) × (read_text text ≡ Some value)
      × IsSomeAnd (reads value) (λ contents. Has contents document)

  -- Why the text is no document: it isn't JSON, or JSON of another form, with a value that isn't as expected;
  -- or an allocation failed.
  abbrev pub IsNoDocumentIn : List ℕ → DocumentError → Type 0
  IsNoDocumentIn text (Json _) = read_text text ≡ None
  IsNoDocumentIn text (Tree mismatch) = (value : Data) × (read_text text ≡ Some value)
      × (reads value ≡ None) × IsIn value (Mismatch mismatch)
  IsNoDocumentIn text OutOfMemory = Unit {0}
  IsNoDocumentIn text Specifier = ⊥
  IsNoDocumentIn text (Source _) = ⊥

-- The text is that of a module document.
abbrev pub IsDocumentOf : List ℕ → Document → Type 0
IsDocumentOf = IsDocumentIn reads_document

-- Why the text is no module document.
abbrev pub IsNoDocument : List ℕ → DocumentError → Type 0
IsNoDocument = IsNoDocumentIn reads_document

-- The source has the URL and the parts of the document, which fit one another.
pub record IsSourceOf (document : Document) (module_ : ParsedModule) : Type 0 where
  pub specifier : parse_url None document.specifier ≡ Ok module_.specifier
  pub text : module_.text ≡ rc_str_bytes document.source
  pub media_type : module_.media_type ≡ document.media_type
  pub program : module_.program ≡ document.program
  pub comments : module_.comments ≡ document.comments
  pub scope_analysis : module_.scope_analysis ≡ false
  pub valid : IsValid (rc_str_bytes document.source) document.program document.comments

-- Why the document has no URL: its specifier is none, or an allocation failed.
abbrev pub IsNoUrl : Document → DocumentError → Type 0
IsNoUrl document Specifier = (error : ParseError) × (parse_url None document.specifier ≡ Err error)
IsNoUrl document OutOfMemory = Unit {0}
IsNoUrl document (Json _) = ⊥
IsNoUrl document (Tree _) = ⊥
IsNoUrl document (Source _) = ⊥

-- Why the document has no source: its specifier is no URL, or the tree or the comments don't fit the source;
-- or an allocation failed.
abbrev pub IsNoSource : Document → DocumentError → Type 0
IsNoSource document Specifier = (error : ParseError) × (parse_url None document.specifier ≡ Err error)
IsNoSource document (Source fault) = HasFault
    (rc_str_bytes document.source) document.program document.comments fault
IsNoSource document OutOfMemory = Unit {0}
IsNoSource document (Json _) = ⊥
IsNoSource document (Tree _) = ⊥

-- The error of a text in a form: the text is no document, or the document has no source.
abbrev pub HasErrorIn : (Data → Option Contents) → List ℕ → DocumentError → Type 0
HasErrorIn reads text fault = IsNoDocumentIn reads text fault
    ⊎ ((document : Document) × IsDocumentIn reads text document × IsNoSource document fault)
