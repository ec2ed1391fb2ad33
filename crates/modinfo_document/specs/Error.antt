-- The errors in reading a document's text, its JSON, its specifier and its source, each as an error of the
-- document; and the printed names.
use Rattle.std.specs.Prelude.{ℕ, List, codes}
use Rattle.deno_graph_json.specs.declared.error.ReadError.{ReadError}
use Rattle.deno_graph_json.specs.declared.error.ReadError.TheVariants as read
use Rattle.deno_graph_json.specs.declared.flat.error.TapeError.{TapeError}
use Rattle.deno_graph_json.specs.declared.flat.error.TapeError.TheVariants.{Json as NoJson}
use Rattle.deno_graph_json.specs.declared.flat.error.TapeError.TheVariants.{OutOfMemory as NoMemory}
use Rattle.url.specs.declared.error.ParseError.{ParseError}
use Rattle.url.specs.declared.error.ParseError.TheVariants as url
use Rattle.deno_graph_source.specs.FaultName.{fault_name}
use Rattle.deno_graph_source.specs.declared.tree.fault.SourceFault.{SourceFault}
use Rattle.deno_graph_source.specs.declared.tree.fault.SourceFault.TheVariants as source
use Rattle.modinfo_document.specs.declared.error.DocumentError.{DocumentError}
use Rattle.modinfo_document.specs.declared.error.DocumentError.TheVariants.{Json, Tree, Specifier, Source}
use Rattle.modinfo_document.specs.declared.error.DocumentError.TheVariants.{OutOfMemory}

-- The text isn't JSON, or an allocation failed.
abbrev pub of_tape : TapeError → DocumentError
of_tape (NoJson offset) = Json offset
of_tape NoMemory = OutOfMemory

-- The JSON has another form, or an allocation failed.
abbrev pub of_read : ReadError → DocumentError
of_read (read.Mismatch mismatch) = Tree mismatch
of_read read.OutOfMemory = OutOfMemory

-- The specifier isn't a URL, or an allocation failed. A URL of 4 GB counts as a failed allocation.
abbrev pub of_url : ParseError → DocumentError
of_url url.EmptyHost = Specifier
of_url url.IdnaError = Specifier
of_url url.InvalidPort = Specifier
of_url url.InvalidIpv4Address = Specifier
of_url url.InvalidIpv6Address = Specifier
of_url url.InvalidDomainCharacter = Specifier
of_url url.RelativeUrlWithoutBase = Specifier
of_url url.RelativeUrlWithCannotBeABaseBase = Specifier
of_url url.SetHostOnCannotBeABaseUrl = Specifier
of_url url.CannotSet = Specifier
of_url url.Overflow = OutOfMemory
of_url url.OutOfMemory = OutOfMemory

-- The tree or the comments don't fit the source, or an allocation failed.
abbrev pub of_source : SourceFault → DocumentError
of_source source.RangeReversed = Source source.RangeReversed
of_source source.RangeOutside = Source source.RangeOutside
of_source source.RangeOffBoundary = Source source.RangeOffBoundary
of_source source.CommentText = Source source.CommentText
of_source source.CommentsOverlap = Source source.CommentsOverlap
of_source source.Shape = Source source.Shape
of_source source.OutOfMemory = OutOfMemory

-- The printed name of an error.
abbrev pub error_name : DocumentError → List ℕ
error_name (Json _) = codes "Json"
error_name (Tree _) = codes "Tree"
error_name Specifier = codes "Specifier"
error_name (Source fault) = fault_name fault
error_name OutOfMemory = codes "OutOfMemory"
