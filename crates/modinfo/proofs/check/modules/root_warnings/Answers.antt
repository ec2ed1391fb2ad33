use Rattle.std.proofs.Common.{◌≡◌, ◌∙◌, ℕ, List, codes, refl, sym, None, Result, Ok, Err, IfOk, string_bytes}
use Rattle.std.specs.declared.alloc.AllocError.{AllocError}
use Rattle.deno_graph_base.specs.TextMap.{entries_of, value_at}
use Rattle.deno_graph_info.proofs.Reaching.{none_there}
use Rattle.deno_graph_info.specs.declared.analysis.module_info.ModuleInfo.{ModuleInfo}
use Rattle.modinfo_document.specs.Report.{HasOnly}
use Rattle.modinfo_document.specs.declared.report.warning.Warning.{Warning}
use Rattle.modinfo_document.specs.declared.report.warning.WarningKind.TheVariants.{UnknownRoot}
use Rattle.modinfo_document.specs.declared.report.warning.Warnings.{Warnings}
use Rattle.modinfo.specs.Check.{WarnsOfRoot}
use Rattle.modinfo.proofs.check.modules.root_warnings.Goals as goal

-- One warning, about a root that is no key.
warns_of_none : (modules : List (List ℕ × ModuleInfo)) (root : List ℕ) (warning : Warning)
    (answer : Result Warnings AllocError) → value_at modules root ≡ None
    → string_bytes warning.pointer ≡ codes "/root" → warning.kind ≡ UnknownRoot
    → IfOk answer (HasOnly warning) → IfOk answer (WarnsOfRoot modules root)
warns_of_none modules root warning (Ok warnings) none pointer kind only =
    rw none (warning, pointer, kind, only)
warns_of_none modules root warning (Err failed) none pointer kind only = tt

pub returns : goal.returns
returns c =
    let there = none_there c.get.result _ c.get.ensures (sym c.is_some.ensures ∙ c.if-is_some.false) in
    let none : value_at (entries_of c.args.question.infos) c.args.question.root ≡ None =
    rw (c.from_map-modules.ensures, c.as_str.ensures) at there in
    warns_of_none (entries_of c.args.question.infos) c.args.question.root _ c.of_one.result none
    c.in_ok-pointer.ensures.ok refl c.of_one.ensures
