-- A body is a script if the loop passes all items, and an item that ends the loop isn't one of a script.
use Rattle.std.proofs.Common.{◌≡◌, ℕ, false, Bool, Some, slice_get, length, sym, ap, refl, ◌∙◌, subst, IsTrue}
use Rattle.std.proofs.Common.{below_more, arith}
use Rattle.std.proofs.lemmas.List.{take_all}
use Rattle.std.proofs.lemmas.List.Elements.{All-more, All-same, All-get_or}
use Rattle.std.proofs.lemmas.Option.{slice_get_read, slice_get_within}
use Rattle.deno_graph_source.specs.Node.{kind_of}
use Rattle.deno_graph_source.specs.declared.tree.node.Node.{Node}
use Rattle.deno_graph_module_info.specs.Script.{is_module_item}
use Rattle.deno_graph_module_info.specs.internal.ScriptSteps.{MakesModule}
use Rattle.deno_graph_module_info.proofs.Scripts.{IsScript-made, IsScript-makes_none}
use Rattle.deno_graph_module_info.proofs.script.is_script.Goals as goal

IsNoModuleItem : Node → Type 0
IsNoModuleItem item = is_module_item (kind_of item) ≡ false

not_true : {b : Bool} → b ≡ false → IsTrue b → ⊥
not_true is holds = cc

pub returns-then-is_module_item : goal.returns-then-is_module_item
unfolding IsNoModuleItem
returns-then-is_module_item c =
    let items = c.as_slice-item-items.result.now in (
      (λ no_way. cc),
      (λ script.
          let all = All-same IsNoModuleItem items c.args.program.now.body c.as_slice-item-items.ensures
          script.no_module_item in
          let here = All-get_or IsNoModuleItem items c.loop-item.item-index c.item-item.result
          c.loop-item-test.true all in
          let none : is_module_item (kind_of c.item-item.result) ≡ false =
          ap (λ n. is_module_item (kind_of n)) c.item-item.is ∙ here in
          absurd (not_true none (sym c.is_module_item.ensures ∙ c.if-is_module_item.true))),
    )

pub returns-then-makes_module : goal.returns-then-makes_module
returns-then-makes_module c =
    let items = c.as_slice-item-items.result.now in
    let i = c.loop-item.item-index in
    let at : slice_get c.args.program.now.body i ≡ Some c.item-item.result =
    ap (λ xs. slice_get xs i) (sym c.as_slice-item-items.ensures)
    ∙ slice_get_read items (length items) i c.item-item.result refl c.loop-item-test.true
    c.item-item.is in (
      (λ no_way. cc),
      (λ script. absurd (IsScript-makes_none c.args.program.now.body i c.item-item.result at script
          (c.makes_module.ensures.0 c.if-makes_module.true))),
    )

pub loop-item-preserved : goal.loop-item-preserved
unfolding IsNoModuleItem
loop-item-preserved c =
    let items = c.as_slice-item-items.result.now in
    let i = c.loop-item.item-index in
    let item = c.item-item.result in
    let P : ℕ → Type 0 = λ k. (other : Node) → slice_get items k ≡ Some other → ¬ MakesModule false other in
    let here : P i = λ other at made.
    let read = slice_get_read items (length items) i item refl c.loop-item-test.true c.item-item.is in
    let same : other ≡ item = cc in
    not_true c.if-makes_module.false (c.makes_module.ensures.1 (subst (MakesModule false) same made)) in
    record {
      items = All-more IsNoModuleItem items i item c.loop-item-test.true c.loop-item.invariant.items
          (ap (λ n. is_module_item (kind_of n)) (sym c.item-item.is) ∙ sym c.is_module_item.ensures
          ∙ c.if-is_module_item.false);
      make_none = λ k other lt at. below_more P i
          (λ j before thing there. c.loop-item.invariant.make_none j thing before there) here k lt other at;
    }

pub returns : goal.returns
unfolding IsNoModuleItem
returns c =
    let items = c.as_slice-item-items.result.now in
    let body = c.args.program.now.body in (
      (λ yes. IsScript-made body
          (All-same IsNoModuleItem body items (sym c.as_slice-item-items.ensures)
          (All-same IsNoModuleItem items _
          (sym (take_all c.loop-item.item-index items c.loop-item-test.false)) c.loop-item.invariant.items))
          (λ k item at.
          let there : slice_get items k ≡ Some item = ap (λ xs. slice_get xs k) c.as_slice-item-items.ensures
          ∙ at in
          let within = slice_get_within items k item there in
          c.loop-item.invariant.make_none k item (omega (arith, within, c.loop-item-test.false)) there)),
      (λ script. refl),
    )
