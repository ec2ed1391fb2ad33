use Rattle.std.proofs.Common.{◌≡◌, [], ◌∷◌, map, take, true, false, if◌then◌else◌, sym, ap, subst, ◌∙◌}
use Rattle.modinfo_document.proofs.NodeKinds.{kinds_all, kinds_more}
use Rattle.modinfo_document.proofs.Warned.{adds_later, adds_nothing, popped, pushed}
use Rattle.modinfo_document.specs.NodeKinds.{kinds_in, kinds_of_body, kinds_of_items}
use Rattle.std.specs.Rc.{rc_str_bytes}
use Rattle.modinfo_document.specs.Spelling.{is_code, kinds_of_code}
use Rattle.modinfo_document.specs.internal.Warned.{AddsAbout}
use Rattle.modinfo_document.proofs.report.spelling.warn_of_literals.Goals as goal

pub loop-number-init : goal.loop-number-init
loop-number-init c =
    (c.new-path.ensures.items, adds_nothing c.as_str-source.result.now c.args.warnings.now)

pub loop-number-preserved : goal.loop-number-preserved
loop-number-preserved c =
    let source = c.as_str-source.result.now in
    let body = c.as_slice-node-items.result.now in
    let number = c.loop-number.number in
    let node = c.node-item.result in
    let before = c.loop-number.invariant in
    let path_is =
    pushed c.push.new.self.items c.loop-number.path.items [] number c.in_ok-push.ensures.items before.0 in
    let adds =
    subst (λ p. AddsAbout source (kinds_in node p) c.loop-number.warnings c.warn_below.new.warnings) path_is
    c.in_ok-warn_below.ensures.adds in
    let kinds = kinds_of_items 0 [] (map kinds_in (take number body)) in (
      popped c.warn_below.new.path c.pop.new.self.items [] number c.pop.ensures.rest
          (c.in_ok-warn_below.ensures.path ∙ path_is),
      subst (λ ks. AddsAbout source ks c.args.warnings.now c.warn_below.new.warnings)
          (sym (kinds_more body number node [] c.loop-number-test.true c.node-item.is))
          (adds_later source kinds (kinds_in node (number ∷ [])) _ _ _ before.1 adds),
    )

pub returns : goal.returns
returns c =
    let source = c.as_str-source.result.now in
    let document = c.args.document.now in
    let code : is_code document.media_type ≡ true = sym c.is_code.ensures ∙ c.if-not-is_code.false in
    let kinds = kinds_all document.program.body c.as_slice-node-items.result.now c.loop-number.number []
    c.as_slice-node-items.ensures c.loop-number-test.false
    ∙ ap (λ is. if is then kinds_of_body document.program.body else []) (sym code) in
    subst (λ text. AddsAbout text (kinds_of_code document) c.args.warnings.now c.loop-number.warnings)
    c.as_str-source.ensures.value
    (subst (λ ks. AddsAbout source ks c.args.warnings.now c.loop-number.warnings) kinds
    c.loop-number.invariant.1)

pub returns-then-not-is_code : goal.returns-then-not-is_code
returns-then-not-is_code c =
    let document = c.args.document.now in
    let code : is_code document.media_type ≡ false = sym c.is_code.ensures ∙ c.if-not-is_code.true in
    subst (λ is. AddsAbout (rc_str_bytes document.source)
    (if is then kinds_of_body document.program.body else []) c.args.warnings.now c.args.warnings.now)
    (sym code) (adds_nothing (rc_str_bytes document.source) c.args.warnings.now)
