use Rattle.std.proofs.Common.{◌≡◌, ℕ, List, Some, All, OnOk, Result, Ok, Err, inr, refl, sym, arith, subst}
use Rattle.std.proofs.Common.{◌∙◌}
use Rattle.std.specs.Bool.{⊤}
use Rattle.std.proofs.lemmas.Bool.{false≢true}
use Rattle.std.specs.Option.{option_to_list}
use Rattle.std.specs.declared.alloc.AllocError.{AllocError}
use Rattle.deno_graph_source.specs.Node.{kind_of, literal_of}
use Rattle.deno_graph_source.specs.NodePath.{NodePath}
use Rattle.deno_graph_source.specs.declared.tree.node.Kind.{Kind}
use Rattle.deno_graph_source.specs.declared.tree.node.StrLit.{StrLit}
use Rattle.modinfo_document.specs.Report.{Adds}
use Rattle.modinfo_document.specs.Spelling.{IsDeserved, IsLiteralSpelled, IsSpelledAt}
use Rattle.modinfo_document.specs.declared.report.warning.Warning.{Warning}
use Rattle.modinfo_document.specs.declared.report.warning.Warnings.{Warnings}
use Rattle.modinfo_document.specs.internal.Warned.{WarnsOfKind}
use Rattle.modinfo_document.proofs.report.spelling.warn_of_node.Goals as goal

-- A literal isn't spelled whose value isn't.
not_spelled : (source : List ℕ) (kind : Kind) (literal : StrLit) → literal_of kind ≡ Some literal
    → ¬ (IsSpelledAt source literal) → ¬ (IsLiteralSpelled source kind)
not_spelled source kind literal is not all =
    not (subst (λ o. All (IsSpelledAt source) (option_to_list o)) is all 0 literal (omega arith))

-- A warning that is added is the one about the kind.
pushed : (source : List ℕ) (path : NodePath) (kind : Kind) (new : Warning) (before after : Warnings)
    (answer : Result ⊤ AllocError) → OnOk answer (Adds new before after) → IsDeserved source path kind new
    → OnOk answer (WarnsOfKind source path kind before after)
pushed source path kind new before after (Ok done) adds deserved = inr (new, deserved, adds)
pushed source path kind new before after (Err failed) adds deserved = tt

pub returns : goal.returns
unfolding kind_of
returns c =
    let source = c.args.source.now in
    let kind = kind_of c.args.node.now in
    let literal = c.in-Some.literal.now in
    let is : literal_of kind ≡ Some literal = sym c.in-Some.ensures in
    let not : ¬ (IsSpelledAt source literal) =
    λ spelled. false≢true (sym c.if-branch.false ∙ c.in_ok-is_spelled.ensures.1 spelled) in
    pushed source c.args.path.now kind _ c.args.warnings.now c.push.new.self c.push.result c.push.ensures.adds
    (record {
      unspelled = not_spelled source kind literal is not;
      about = refl;
      pointer = c.in_ok-pointer.ensures;
    })
