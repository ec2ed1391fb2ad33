-- The faults of a document, by the step that failed.
use Rattle.std.proofs.Common.{◌≡◌, ◌≢◌, inl, inr, ℕ, List, Some, None, refl, subst, sym, IsUtf8, Result, Ok}
use Rattle.std.proofs.Common.{Err, MatchResult, String, Global, string_bytes}
use Rattle.serde_json.specs.Data.{Data}
use Rattle.serde_json.specs.Read.{read as read_text}
use Rattle.deno_graph_json.specs.declared.error.ReadError.{ReadError}
use Rattle.deno_graph_json.specs.declared.error.ReadError.TheVariants as read
use Rattle.deno_graph_json.specs.declared.flat.error.TapeError.{TapeError}
use Rattle.deno_graph_json.specs.declared.flat.error.TapeError.TheVariants as tape
use Rattle.modinfo_document.specs.declared.error.DocumentError.{DocumentError}
use Rattle.modinfo_document.specs.declared.error.DocumentError.TheVariants as error
use Rattle.deno_graph_info.specs.Conversion.{IsConvertFault}
use Rattle.deno_graph_info.specs.declared.analysis.fault.InfoFault.{InfoFault}
use Rattle.deno_graph_info.specs.declared.conversion.fault.ConvertFault.{ConvertFault}
use Rattle.deno_graph_info.specs.declared.conversion.fault.ConvertFault.TheVariants as convert
use Rattle.modinfo.specs.Answer.{IsConvertedText, IsDocumentFault, IsNoConversion, IsNoJson, IsNoReach}
use Rattle.modinfo.specs.internal.Answer.{IsReadFailure}
use Rattle.modinfo.specs.internal.Convert.{IsConvertedValue, IsNoConvertedValue}
use Rattle.modinfo.specs.Run.{IsFailure, IsNoResult, IsRunFault}
use Rattle.modinfo.specs.Fault.{IsWriteFault, fault_of_conversion, fault_of_document, fault_of_error}
use Rattle.modinfo.specs.Fault.{fault_of_question, fault_of_tape}
use Rattle.modinfo.specs.Reach.{IsQuestionFault}
use Rattle.modinfo.specs.internal.Reach.{IsErrorIn}
use Rattle.modinfo.specs.declared.reach.QuestionError.{QuestionError}
use Rattle.modinfo.specs.declared.command.Command.{Command}
use Rattle.modinfo.specs.declared.command.Command.TheVariants.{Answer, Check}
use Rattle.modinfo.specs.declared.fault.Fault.{Fault}
use Rattle.modinfo.specs.declared.fault.Fault.TheVariants.{Input, Source, Convert, Info, Output, Closed}
use Rattle.modinfo.specs.declared.fault.Fault.TheVariants.{OutOfMemory}
use Rattle.modinfo.specs.declared.format.Format.{Format}
use Rattle.modinfo.specs.declared.format.Format.TheVariants.{Module, Estree, Source}

-- A text of which no flat list can be made isn't converted.
pub no_converted_tape : (text : List ℕ) (inner : TapeError)
    → ((offset : ℕ) → inner ≡ tape.Json offset → read_text text ≡ None)
    → IsNoConversion text (fault_of_tape inner)
no_converted_tape text (tape.Json offset) none = none offset refl
no_converted_tape text tape.OutOfMemory none = tt

-- The fault of a value that isn't converted.
pub no_converted_value : (before : Data) (inner : ConvertFault)
    → (inner ≢ convert.OutOfMemory → IsConvertFault before inner)
    → IsNoConvertedValue before (fault_of_conversion inner)
no_converted_value before convert.OutOfMemory refused = tt
no_converted_value before inner refused =
    let apart : inner ≢ convert.OutOfMemory = λ same. cc (same) in
    (apart, refused apart)

-- The conversion of a value is that of its text.
pub converts_text : (text : List ℕ) (before : Data) (answer : Result (String Global) Fault)
    → read_text text ≡ Some before
    → MatchResult answer (λ s. IsConvertedValue before (string_bytes s)) (IsNoConvertedValue before)
    → MatchResult answer (λ s. IsConvertedText text (string_bytes s)) (IsNoConversion text)
converts_text text before (Ok s) read h = (h.1, (before, read, h.0, h.2), h.3, h.4)
converts_text text before (Err (Convert inner)) read h = (h.0, before, read, h.1)
converts_text text before (Err OutOfMemory) read h = tt
converts_text text before (Err fault) read h = absurd h

-- A text that isn't JSON isn't a document of `reach`.
pub no_reach : (text : List ℕ) (fault : Fault) → IsNoJson text fault → IsNoReach text fault
no_reach text (Info inner) none = absurd none
no_reach text fault none = none

-- The fault of a value is that of its text.
no_question : (text : List ℕ) (value : Data) (fault : InfoFault) (found : ReadError)
    → read_text text ≡ Some value
    → IsErrorIn (IsQuestionFault value) value (record { fault = fault; error = found })
    → IsNoReach text (fault_of_error fault found)
no_question text value fault (read.Mismatch mismatch) is has = ((has tt).0, value, is, (has tt).1)
no_question text value fault read.OutOfMemory is has = tt

pub asks_nothing : (text : List ℕ) (value : Data) (found : QuestionError) → read_text text ≡ Some value
    → IsErrorIn (IsQuestionFault value) value found → IsNoReach text (fault_of_question found)
asks_nothing text value found is has = no_question text value found.fault found.error is has

-- A text of which no flat list can be made.
pub no_tape : (text : List ℕ) (inner : TapeError)
    → ((offset : ℕ) → inner ≡ tape.Json offset → read_text text ≡ None) → IsNoReach text (fault_of_tape inner)
no_tape text (tape.Json offset) none = none offset refl
no_tape text tape.OutOfMemory none = tt

-- A document without a result is a fault of the run.
pub run_fault : (command : Command) (document : List ℕ) (fault : Fault)
    → IsNoResult command document fault → IsRunFault command document fault
run_fault command document Input has = tt
run_fault command document Output has = tt
run_fault command document Closed has = tt
run_fault command document fault has = has

-- A failed allocation is a fault of a document, for each format.
no_memory : (format : Format) (document : List ℕ) → IsDocumentFault format document OutOfMemory
no_memory Source document = inl tt
no_memory format document = tt

-- Bytes that aren't UTF-8 are a fault of a document, for each format.
pub no_text : (format : Format) (document : List ℕ) → ¬ IsUtf8 document
    → IsDocumentFault format document Input
no_text Source document other = inl other
no_text format document other = other

-- A failed allocation is a fault of the run, for each command.
pub run_without_memory : (command : Command) (document : List ℕ) → IsRunFault command document OutOfMemory
run_without_memory (Answer format) document = no_memory format document
run_without_memory (Check format is_strict) document = refl

-- A failed read is a fault of the run.
pub failed_read : (command : Command) (document : List ℕ) (fault : Fault) → IsReadFailure fault
    → IsRunFault command document fault
failed_read command document Input failed = tt
failed_read command document OutOfMemory failed = run_without_memory command document
failed_read command document fault failed = absurd failed

-- A property of both faults of a failed write is one of each such fault.
by_write : (P : Fault → Type 0) → P Output → P Closed → (fault : Fault) → IsWriteFault fault → P fault
by_write P output closed Output wrote = output
by_write P output closed Closed wrote = closed
by_write P output closed fault wrote = absurd wrote

-- A failed write is a fault of the run.
pub write_fault : (command : Command) (document : List ℕ) (fault : Fault) → IsWriteFault fault
    → IsRunFault command document fault
write_fault command document fault wrote = by_write (IsRunFault command document) tt tt fault wrote

-- A failed write is a failure.
pub write_failure : (fault : Fault) → IsWriteFault fault → IsFailure fault
write_failure fault wrote = by_write IsFailure tt tt fault wrote

-- A failed read isn't a failed write.
pub read_apart : (fault : Fault) → IsReadFailure fault → ¬ IsWriteFault fault
read_apart fault failed wrote =
    by_write (λ other. ¬ IsReadFailure other) (λ none. none) (λ none. none) fault wrote failed

-- An error of a document isn't a failed write.
document_apart : (inner : DocumentError) → ¬ IsWriteFault (fault_of_document inner)
document_apart error.OutOfMemory wrote = wrote
document_apart inner wrote = wrote

-- No result is missing because a write failed.

output_apart : (command : Command) (document : List ℕ) → ¬ IsNoResult command document Output
output_apart (Answer Module) document (inner, is, has) =
    document_apart inner (subst IsWriteFault (sym is) tt)
output_apart (Answer Estree) document (inner, is, has) =
    document_apart inner (subst IsWriteFault (sym is) tt)
output_apart (Answer Source) document (inl none) = none
output_apart (Answer Source) document (inr (text, is, none)) = none
output_apart (Answer format) document none = none
output_apart (Check format is_strict) document same = cc (same)

closed_apart : (command : Command) (document : List ℕ) → ¬ IsNoResult command document Closed
closed_apart (Answer Module) document (inner, is, has) =
    document_apart inner (subst IsWriteFault (sym is) tt)
closed_apart (Answer Estree) document (inner, is, has) =
    document_apart inner (subst IsWriteFault (sym is) tt)
closed_apart (Answer Source) document (inl none) = none
closed_apart (Answer Source) document (inr (text, is, none)) = none
closed_apart (Answer format) document none = none
closed_apart (Check format is_strict) document same = cc (same)

pub result_apart : (command : Command) (document : List ℕ) (fault : Fault) → IsNoResult command document fault
    → ¬ IsWriteFault fault
result_apart command document fault none wrote =
    by_write (λ other. ¬ IsNoResult command document other) (output_apart command document)
    (closed_apart command document) fault wrote none
