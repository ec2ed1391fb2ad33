-- What functions add to the warnings of a document.
use Rattle.std.specs.Prelude.{◌≡◌, ℕ, ◌⊎◌, List, ◌++◌}
use Rattle.deno_graph_source.specs.NodePath.{NodePath}
use Rattle.deno_graph_source.specs.declared.tree.node.Kind.{Kind}
use Rattle.modinfo_document.specs.NodeKinds.{KindAt}
use Rattle.modinfo_document.specs.Report.{Adds, Keeps}
use Rattle.modinfo_document.specs.Spelling.{AreAbout, IsDeserved, IsLiteralSpelled}
use Rattle.modinfo_document.specs.declared.report.warning.Warning.{Warning}
use Rattle.modinfo_document.specs.declared.report.warning.Warnings.{Warnings}

-- If the string literal of the kind isn't spelled, one warning about it is added; otherwise none.
abbrev pub WarnsOfKind : List ℕ → NodePath → Kind → Warnings → Warnings → Type 0
WarnsOfKind source path kind before after = (IsLiteralSpelled source kind × (after ≡ before))
    ⊎ ((warning : Warning) × IsDeserved source path kind warning × Adds warning before after)

-- These warnings are added at the end.
abbrev pub AddsAll : List Warning → Warnings → Warnings → Type 0
AddsAll added before after = (all : List Warning) → Keeps all before → Keeps (all ++ added) after

-- Warnings about the string literals of these kinds that aren't spelled are added at the end.
abbrev pub AddsAbout : List ℕ → List KindAt → Warnings → Warnings → Type 0
AddsAbout source kinds before after =
    (added : List Warning) × AreAbout source kinds added × AddsAll added before after
