-- Source texts: the faults of each step.
use Rattle.std.proofs.Common.{◌≡◌, ◌⊎◌, ◌∙◌, ap, inl, inr, refl, subst, sym, ℕ, List, Option, Some, None}
use Rattle.std.proofs.Common.{Result, Ok, Err, IfOk, MatchResult, String, Global, length, string_bytes}
use Rattle.url.specs.Parts.{Parts}
use Rattle.deno_graph_source.specs.MediaType.{is_typed}
use Rattle.deno_graph_source.specs.ParsedSource.{ParsedModule}
use Rattle.deno_graph_source.specs.Source.{IsValid}
use Rattle.modinfo_source.specs.OfText.{IsOfText}
use Rattle.modinfo_source.specs.Spelled.{IsSpelled}
use Rattle.modinfo_source.specs.declared.error.TextError.{TextError}
use Rattle.serde_json.specs.Data.{Data}
use Rattle.serde_json.specs.Read.{read as read_text}
use Rattle.url.specs.Parser.{IsOutOfRoom, parse_url}
use Rattle.url.specs.declared.error.ParseError.{ParseError}
use Rattle.deno_graph_json.specs.Read.Result.{IsReadError}
use Rattle.deno_graph_json.specs.declared.error.ReadError.{ReadError}
use Rattle.deno_graph_json.specs.declared.error.ReadError.TheVariants as read
use Rattle.deno_graph_json.specs.declared.flat.error.TapeError.{TapeError}
use Rattle.deno_graph_json.specs.declared.flat.error.TapeError.TheVariants as tape
use Rattle.modinfo_document.specs.Error.{of_read, of_tape, of_url}
use Rattle.modinfo_document.proofs.Urls.{by_url}
use Rattle.modinfo.specs.Fault.{fault_of_document}
use Rattle.modinfo.specs.FileUrl.{IsNoUrl}
use Rattle.modinfo.specs.Source.{IsInfoOfText, IsNoInfoOfText, IsNoText, IsNoTextInfo, IsParsed, IsTextIn}
use Rattle.modinfo.specs.Source.{IsTextInfo, media_type_in, reads_text}
use Rattle.modinfo.specs.declared.fault.Fault.{Fault}
use Rattle.modinfo.specs.declared.source.SourceText.{SourceText}

-- A text of which no flat list can be made.
pub no_tape : (document : List ℕ) (inner : TapeError)
    → ((offset : ℕ) → inner ≡ tape.Json offset → read_text document ≡ None)
    → IsNoText document (fault_of_document (of_tape inner))
no_tape document (tape.Json offset) none = none offset refl
no_tape document tape.OutOfMemory none = tt

-- The error in the value of a document is one of the document.
pub no_value : (document : List ℕ) (value : Data) (error : ReadError) → read_text document ≡ Some value
    → IsReadError value (reads_text value) error → IsNoText document (fault_of_document (of_read error))
no_value document value (read.Mismatch found) is h = (value, is, h.0)
no_value document value read.OutOfMemory is h = tt

-- The specifier is no URL, or an allocation failed.
pub no_info : (text : SourceText) (error : ParseError)
    → ((parse_url None text.specifier ≡ Err error) ⊎ IsOutOfRoom error)
    → IsNoInfoOfText text (fault_of_document (of_url error))
no_info text error why =
    by_url (λ inner. IsNoInfoOfText text (fault_of_document inner)) text.specifier error tt (λ none. none) why

-- The text is no URL, or an allocation failed.
pub no_url : (text : List ℕ) (error : ParseError) → ((parse_url None text ≡ Err error) ⊎ IsOutOfRoom error)
    → IsNoUrl text (fault_of_document (of_url error))
no_url text error why =
    by_url (λ inner. IsNoUrl text (fault_of_document inner)) text error tt (λ none. none) why

-- The answer to a text is that to its document.
pub text_answer : (document : List ℕ) (text : SourceText) (answer : Result (String Global) Fault)
    → IsTextIn document text
    → MatchResult answer (λ printed. IsInfoOfText text (string_bytes printed)) (IsNoInfoOfText text)
    → MatchResult answer (λ printed. IsTextInfo document (string_bytes printed)) (IsNoTextInfo document)
text_answer document text (Ok printed) is h = (text, is, h)
text_answer document text (Err fault) is h = inr (text, is, h)

-- What the parser makes of a text is a source of that text.
pub is_parsed : (text : SourceText) (url : Parts) (answer : Result ParsedModule TextError)
    → parse_url None text.specifier ≡ Ok url
    → IfOk answer (λ source. source.specifier ≡ url)
    → IfOk answer (λ source. source.text ≡ text.source)
    → IfOk answer (λ source. source.media_type ≡ media_type_in url text.media_type)
    → IfOk answer (λ source. IsValid source.text source.program source.comments)
    → IfOk answer (λ source. IsSpelled text.source source.program)
    → IfOk answer (λ source.
    IsOfText text.source (is_typed (media_type_in url text.media_type)) source.program source.comments)
    → IfOk answer (λ source. source.program.range ≡ record { start = 0; end = length text.source })
    → IfOk answer (IsParsed text)
is_parsed text url (Ok source) parses specifier same media_type valid spelled of_text range = record {
  specifier = parses ∙ ap Ok (sym specifier);
  source = same;
  media_type = media_type ∙ ap (λ u. media_type_in u text.media_type) (sym specifier);
  read = record {
    valid = valid;
    spelled = subst (λ t. IsSpelled t source.program) (sym same) spelled;
    of_text = subst (λ m. IsOfText source.text (is_typed m) source.program source.comments) (sym media_type)
        (subst (λ t. IsOfText t (is_typed (media_type_in url text.media_type)) source.program source.comments)
        (sym same) of_text);
    range = subst (λ t. source.program.range ≡ record { start = 0; end = length t }) (sym same) range;
  };
}
is_parsed text url (Err error) parses specifier same media_type valid spelled of_text range = tt
