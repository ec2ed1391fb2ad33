-- All starts before the index are smaller, and no start from the index on is smaller.
use Rattle.std.proofs.Common.{◌≡◌, true, false, List, length, get_or, map, sym, ap, ◌∙◌, subst, arith, rules}
use Rattle.std.proofs.lemmas.List.Sorted.{IsPartitionPoint-from_clause}
use Rattle.std.specs.List.Sorted.{IsPartitionedBy, IsPartitionPoint}
use Rattle.deno_graph_jsdoc.specs.JsDocImport.{import_of}
use Rattle.deno_graph_jsdoc.specs.internal.Pass.{GainsImport}
use Rattle.deno_graph_jsdoc.specs.declared.import.JsDocImport.{JsDocImport}
use Rattle.deno_graph_jsdoc.proofs.Ascending.{GainsImport-at, GainsImport-there, is_before, is_partitioned}
use Rattle.deno_graph_jsdoc.proofs.pass.insert.Goals as goal
use Rattle.deno_graph_jsdoc.proofs.pass.insert.Goals.{After-get, in-Some+else-other-start, in_default}

point : (c : After-get) → IsPartitionPoint (λ other. is_before c.args.import.specifier_range.start other
    ≡ true) (λ other. is_before c.args.import.specifier_range.start other ≡ false)
    c.args.imports.now.items c.partition_point-at.result
point c =
    subst (λ items. IsPartitionPoint (λ other. is_before c.args.import.specifier_range.start other ≡ true)
    (λ other. is_before c.args.import.specifier_range.start other ≡ false) items
    c.partition_point-at.result)
    c.as_slice.ensures.value
    (IsPartitionPoint-from_clause (is_before c.args.import.specifier_range.start) c.as_slice.result.now
    c.partition_point-at.result c.partition_point-at.ensures.partitioned
    (subst (IsPartitionedBy (is_before c.args.import.specifier_range.start)) (sym c.as_slice.ensures.value)
    (is_partitioned c.args.imports.now.items c.requires.ascending c.args.import.specifier_range.start))
    (λ a r f called. search rules))

pub returns-then-other-start-clause-ok : goal.returns-then-other-start-clause-ok
returns-then-other-start-clause-ok c =
    let items = c.args.imports.now.items in
    let found = c.in-Some.ensures.lookup.3 in
    GainsImport-there items c.requires.ascending c.args.import c.partition_point-at.result
    (omega (arith, found.0, ap length c.as_slice-2.ensures.value))
    (λ d. subst (λ (xs : List JsDocImport). (get_or xs c.partition_point-at.result d).specifier_range.start
    ≡ c.args.import.specifier_range.start) c.as_slice-2.ensures.value
    (ap (λ (o : JsDocImport). o.specifier_range.start) (sym (found.1 d)) ∙ c.if-other-start.true))

pub returns-clause-ok : goal.returns-clause-ok
returns-clause-ok c =
    let items = c.args.imports.now.items in
    let at = c.partition_point-at.result in
    let last = GainsImport-at items c.requires.ascending c.args.import
    at (omega (arith, c.partition_point-at.ensures.bound, ap length c.as_slice.ensures.value))
    (point (goal.at.returns-clause-ok c).After-get)
    (λ d inside. elim c.match-get.branch [
      | in-Some+else-other-start w ↦
          let found = w.in-Some.ensures.lookup.3 in
          λ same. w.if-other-start.false
          (ap (λ (o : JsDocImport). o.specifier_range.start)
          (found.1 d ∙ ap (λ (xs : List JsDocImport). get_or xs at d) c.as_slice-2.ensures.value) ∙ same)
      | in_default w ↦ absurd
          (omega (arith, w.in_default.ensures.lookup.3, ap length c.as_slice-2.ensures.value))
    ]) in
    subst (λ (xs : List JsDocImport). GainsImport (map import_of items) (import_of c.args.import)
    (map import_of xs)) (sym c.in_ok-insert.ensures.items) last
