-- Documents as they were read.
use Rattle.std.specs.Prelude.{ℕ, List}
use Rattle.std.specs.String.{string_bytes}
use Rattle.modinfo_document.specs.Document.{IsDocumentIn, reads_document}
use Rattle.modinfo_estree.specs.Document.{reads_estree}
use Rattle.modinfo.specs.Answer.{IsConvertedText}
use Rattle.modinfo.specs.Source.{IsTextIn}
use Rattle.modinfo.specs.internal.Reach.{IsQuestionOf}
use Rattle.modinfo.specs.declared.request.Request.{Request}
use Rattle.modinfo.specs.declared.request.Request.TheVariants as request
use Rattle.modinfo.specs.declared.format.Format.{Format}
use Rattle.modinfo.specs.declared.format.Format.TheVariants as format

-- The format of the document.
abbrev pub format_of : Request → Format
format_of (request.Module document) = format.Module
format_of (request.Estree document) = format.Estree
format_of (request.Source text) = format.Source
format_of (request.Stored text) = format.Stored
format_of (request.Modules question) = format.Modules

-- The document was read from these bytes, and converted if it is one of `convert`.
abbrev pub IsReadFrom : List ℕ → Request → Type 0
IsReadFrom bytes (request.Module document) = IsDocumentIn reads_document bytes document
IsReadFrom bytes (request.Estree document) = IsDocumentIn reads_estree bytes document
IsReadFrom bytes (request.Source text) = IsTextIn bytes text
IsReadFrom bytes (request.Stored text) = IsConvertedText bytes (string_bytes text)
IsReadFrom bytes (request.Modules question) = IsQuestionOf bytes question
