use Rattle.std.proofs.Common.{◌≡◌, ℕ, List, Some}
use Rattle.std.proofs.lemmas.Result.{err_from_is_err_and}
use Rattle.serde_json.specs.Data.{Data}
use Rattle.serde_json.specs.Read.{read as read_text}
use Rattle.deno_graph_json.specs.Data.{tape_data}
use Rattle.deno_graph_json.specs.Read.Result.{IsReadError}
use Rattle.deno_graph_json.specs.declared.error.ReadError.{ReadError}
use Rattle.deno_graph_json.specs.declared.error.ReadError.TheVariants.{Mismatch, OutOfMemory}
use Rattle.modinfo_document.specs.Document.{IsNoDocumentIn}
use Rattle.modinfo_estree.specs.Document.{reads_estree}
use Rattle.modinfo_document.specs.Error.{of_read}
use Rattle.modinfo_estree.proofs.document.parse_estree.Goals as goal

-- The error in the value of the text is an error of the text.
of_text : (text : List ℕ) (value : Data) (error : ReadError) → read_text text ≡ Some value
    → IsReadError value (reads_estree value) error → IsNoDocumentIn reads_estree text (of_read error)
of_text text value (Mismatch found) is h = (value, is, h.0, h.1)
of_text text value OutOfMemory is h = tt

pub returns-in_err-read_estree : goal.returns-in_err-read_estree
returns-in_err-read_estree c =
    let error = rw c.root.ensures.json at c.in_err-read_estree.ensures in
    let is = err_from_is_err_and c.from_residual-in_err-read_estree.result
    c.from_residual-in_err-read_estree.ensures.1 in
    rw (is.1, is.2) (of_text c.args.text.now (tape_data c.in_ok-tape.tape) c.in_err-read_estree.field-0.0
    c.in_ok-tape.ensures.json error)

pub returns : goal.returns
returns c =
    let read = rw c.root.ensures.json at c.in_ok-read_estree.ensures in
    (tape_data c.in_ok-tape.tape, c.in_ok-tape.ensures.json, read)
