use Rattle.std.proofs.Common.{sym}
use Rattle.std.proofs.lemmas.Result.{err_from_is_err_and}
use Rattle.serde_json.specs.Data.{object}
use Rattle.deno_graph_json.proofs.Reading.{is_object}
use Rattle.deno_graph_json.specs.Data.{data_of}
use Rattle.deno_graph_json.specs.ObjectReader.{readable}
use Rattle.deno_graph_json.specs.Read.Error.{IsIn}
use Rattle.modinfo.specs.Reach.{IsQuestionFault, modules_alone}
use Rattle.modinfo.specs.internal.Reach.{IsModulesFault}
use Rattle.modinfo.proofs.Modules.{asks_for, error_around, fault_of_modules, float_around, lacks_modules}
use Rattle.modinfo.proofs.Modules.{lacks_object, no_float_read, no_question, root_error}
use Rattle.modinfo.proofs.reach.read_question.Goals as goal

-- The document is no object.
pub returns-in_err-object-clause-read : goal.returns-in_err-object-clause-read
returns-in_err-object-clause-read c =
    let is = err_from_is_err_and c.from_residual.result c.from_residual.ensures.1 in
    rw (is.1, is.2) (no_question (data_of c.args.document) c.in_err-object.field-0.0
    (lacks_object (data_of c.args.document) c.in_err-object.ensures.1) c.in_err-object.ensures.2)

pub returns-in_err-object-clause-float : goal.returns-in_err-object-clause-float
returns-in_err-object-clause-float c =
    let is = err_from_is_err_and c.from_residual.result c.from_residual.ensures.1 in
    rw (is.1, is.2) (no_float_read (data_of c.args.document) c.in_err-object.field-0.0)

-- The document has no root.
pub returns-in_err-root-clause-read : goal.returns-in_err-root-clause-read
returns-in_err-root-clause-read c =
    let is = err_from_is_err_and c.from_residual-in_err-root.result
    c.from_residual-in_err-root.ensures.1 in
    let ms = readable c.in_ok-object.object in
    rw (is.1, is.2, is_object (data_of c.args.document) ms c.in_ok-object.ensures)
    (root_error ms c.in_err-root.field-0.0 c.in_err-root.ensures)

pub returns-in_err-root-clause-float : goal.returns-in_err-root-clause-float
returns-in_err-root-clause-float c =
    let is = err_from_is_err_and c.from_residual-in_err-root.result
    c.from_residual-in_err-root.ensures.1 in
    rw (is.1, is.2) (no_float_read (data_of c.args.document) c.in_err-root.field-0.0)

-- The document has no modules.
pub returns-in_default-clause-read : goal.returns-in_default-clause-read
returns-in_default-clause-read c =
    let ms = readable c.in_ok-object.object in
    let none = sym c.in_default.ensures in
    let place : IsIn (object ms) c.expected.result = rw c.expected.ensures none in
    rw (c.from.ensures, is_object (data_of c.args.document) ms c.in_ok-object.ensures)
    (no_question (object ms) c.expected.result (lacks_modules ms c.in_ok-root.root c.in_ok-root.ensures none)
    place)

pub returns-in_default-clause-float : goal.returns-in_default-clause-float
returns-in_default-clause-float c =
    rw c.from.ensures (no_float_read (data_of c.args.document) c.expected.result)

-- The question of the document.
pub returns-in-Ok-clause-read : goal.returns-in-Ok-clause-read
returns-in-Ok-clause-read c =
    let ms = readable c.in_ok-object.object in
    rw (is_object (data_of c.args.document) ms c.in_ok-object.ensures, c.into_map.ensures)
    (asks_for ms c.in_ok-root.root c.in_ok-root.ensures (data_of c.in-Some.modules) (sym c.in-Some.ensures)
    c.in-Ok.infos c.in-Ok.ensures)

-- A module has a fault, or the modules are no object.
pub returns-in-Err-clause-read : goal.returns-in-Err-clause-read
returns-in-Err-clause-read c =
    let ms = readable c.in_ok-object.object in
    let d = data_of c.in-Some.modules in
    let found = sym c.in-Some.ensures in
    let around = c.in_member.ensures in
    let fault = c.in-Err.error.fault in
    rw (around.fault, is_object (data_of c.args.document) ms c.in_ok-object.ensures)
    (error_around (IsModulesFault d) (IsQuestionFault (object ms)) (object ms) d fault c.in-Err.error.error
    c.in_member.result.error around.mismatch (around.place (object ms) d found) around.expected
    (fault_of_modules ms c.in_ok-root.root c.in_ok-root.ensures d found fault) c.in-Err.ensures)

-- A float of a module is in the modules.
pub returns-in-Err-clause-float : goal.returns-in-Err-clause-float
returns-in-Err-clause-float c =
    let ms = readable c.in_ok-object.object in
    let d = data_of c.in-Some.modules in
    let around = c.in_member.ensures in
    rw (is_object (data_of c.args.document) ms c.in_ok-object.ensures)
    (float_around ms d c.in-Err.error c.in_member.result around.fault around.mismatch
    (around.place (modules_alone (object ms)) d) (sym c.in-Some.ensures) c.in-Err.ensures)
