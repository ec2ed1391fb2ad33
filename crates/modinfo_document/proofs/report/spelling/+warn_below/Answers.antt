use Rattle.std.proofs.Common.{[], ◌∷◌, ◌++◌, map, take, refl, sym, ap, subst, ◌∙◌}
use Rattle.deno_graph_source.specs.Node.{children_of, kind_of}
use Rattle.modinfo_document.proofs.NodeKinds.{kinds_all, kinds_in-is, kinds_more}
use Rattle.modinfo_document.proofs.Warned.{adds_later, adds_own, popped, pushed}
use Rattle.modinfo_document.specs.NodeKinds.{KindAt, kinds_in, kinds_of_items}
use Rattle.modinfo_document.specs.internal.Warned.{AddsAbout, WarnsOfKind}
use Rattle.modinfo_document.proofs.report.spelling.+warn_below.Goals as goal

pub loop-number-init : goal.loop-number-init
loop-number-init t c =
    let source = c.args.source.now in
    let kind = kind_of c.args.node.now in
    let own = subst (λ p. WarnsOfKind source p kind c.args.warnings.now c.warn_of_node.new.warnings)
    c.as_slice.ensures.value c.in_ok-warn_of_node.ensures in
    (refl, adds_own source c.args.path.now.items kind _ _ own)

pub loop-number-preserved : goal.loop-number-preserved
loop-number-preserved t c =
    let source = c.args.source.now in
    let path = c.args.path.now.items in
    let number = c.loop-number.number in
    let children = c.as_slice-child-items.result.now in
    let child = c.child-item.result in
    let before = c.loop-number.invariant in
    let path_is =
    pushed c.push.new.self.items c.loop-number.path.items path number c.in_ok-push.ensures.items before.0 in
    let adds =
    subst (λ p. AddsAbout source (kinds_in child p) c.loop-number.warnings c.warn_below.new.warnings) path_is
    c.in_ok-warn_below.ensures.adds in
    let own : KindAt = (path, kind_of c.args.node.now) in
    let kinds = kinds_of_items 0 path (map kinds_in (take number children)) in (
      popped c.warn_below.new.path c.pop.new.self.items path number c.pop.ensures.rest
          (c.in_ok-warn_below.ensures.path ∙ path_is),
      subst (λ ks. AddsAbout source (own ∷ ks) c.args.warnings.now c.warn_below.new.warnings)
          (sym (kinds_more children number child path c.loop-number-test.true c.child-item.is))
          (adds_later source (own ∷ kinds) (kinds_in child (path ++ number ∷ [])) _ _ _ before.1 adds),
    )

pub returns : goal.returns
unfolding children_of
returns t c =
    let source = c.args.source.now in
    let node = c.args.node.now in
    let path = c.args.path.now.items in
    let done = c.loop-number.invariant in
    let kinds =
    ap (λ ks. (path, kind_of node) ∷ ks) (kinds_all (children_of node) c.as_slice-child-items.result.now
    c.loop-number.number path c.as_slice-child-items.ensures c.loop-number-test.false)
    ∙ sym (kinds_in-is node path) in
    record {
      path = done.0;
      adds = subst (λ ks. AddsAbout source ks c.args.warnings.now c.loop-number.warnings) kinds done.1;
    }
