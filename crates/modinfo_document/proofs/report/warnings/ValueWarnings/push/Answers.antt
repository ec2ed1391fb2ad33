use Rattle.std.proofs.Common.{OnErr, OnOk, Result, Ok, Err, refl}
use Rattle.std.specs.Bool.{⊤}
use Rattle.std.specs.declared.alloc.AllocError.{AllocError}
use Rattle.modinfo_document.proofs.Warned.{values_more, values_same}
use Rattle.modinfo_document.specs.Report.{Adds, AreSame}
use Rattle.modinfo_document.specs.Spelling.{HasOnlyValues, IsOfValue}
use Rattle.modinfo_document.specs.declared.report.warning.Warning.{Warning}
use Rattle.modinfo_document.specs.declared.report.warning.Warnings.{Warnings}
use Rattle.modinfo_document.proofs.report.warnings.ValueWarnings.push.Goals as goal

-- A warning about a value is added, or the warnings are the same.
changed : (new : Warning) (before after : Warnings) (answer : Result ⊤ AllocError) → IsOfValue new
    → OnOk answer (Adds new before after) → OnErr answer (AreSame before after) → HasOnlyValues before
    → HasOnlyValues after
changed new before after (Ok done) of_value adds same = values_more new before after of_value adds
changed new before after (Err failed) of_value adds same = values_same before after same

pub invariant_of-self : goal.invariant_of-self
invariant_of-self c =
    changed _ c.self.inside.warnings c.push.new.self c.push.result (c.args.warning, refl) c.push.ensures.adds
    c.push.ensures.err c.self.invariant
