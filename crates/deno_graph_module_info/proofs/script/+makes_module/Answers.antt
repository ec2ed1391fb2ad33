-- A node makes a module exactly if it does so itself or by a child.
use Rattle.std.proofs.Common.{◌≡◌, ℕ, ◌<◌, ◌||◌, false, Bool, Some, slice_get, length, sym, ap, refl, ◌∙◌}
use Rattle.std.proofs.Common.{subst, ◌⊎◌, inl, inr, IsTrue, below_more, arith}
use Rattle.std.proofs.lemmas.Option.{slice_get_read, slice_get_within}
use Rattle.deno_graph_source.specs.Node.{kind_of, children_of}
use Rattle.deno_graph_source.specs.declared.tree.node.Node.{Node}
use Rattle.deno_graph_module_info.specs.Script.{is_function, IsImportMeta, IsAwait}
use Rattle.deno_graph_module_info.specs.internal.ScriptSteps.{MakesModule}
use Rattle.deno_graph_module_info.proofs.Scripts.{MakesModule-above, MakesModule-cases}
use Rattle.deno_graph_module_info.proofs.script.+makes_module.Goals as goal

not_true : {b : Bool} → b ≡ false → IsTrue b → ⊥
not_true is holds = cc

pub loop-child-preserved : goal.loop-child-preserved
unfolding children_of
loop-child-preserved t c =
    let items = c.as_slice-child-items.result.now in
    let i = c.loop-child.child-index in
    let inside = c.args.inside_function || c.is_function.result in
    let P : ℕ → Type 0 = λ k. (child : Node) → slice_get items k ≡ Some child → ¬ MakesModule inside child in
    let here : P i = λ child at made.
    let read = slice_get_read items
    (length items) i c.child-item.result refl c.loop-child-test.true c.child-item.is in
    let same : child ≡ c.child-item.result = cc in
    not_true c.if-makes_module.false (c.makes_module.ensures.1 (subst (MakesModule inside) same made)) in
    λ k child lt at. below_more P i
    (λ j before other there. c.loop-child.invariant j other before there) here k lt child at

pub returns-then-makes_module : goal.returns-then-makes_module
unfolding children_of
returns-then-makes_module t c =
    let items = c.as_slice-child-items.result.now in
    let i = c.loop-child.child-index in
    let child = c.child-item.result in
    let at : slice_get (children_of c.args.node.now) i ≡ Some child =
    ap (λ xs. slice_get xs i) (sym c.as_slice-child-items.ensures)
    ∙ slice_get_read items (length items) i child refl c.loop-child-test.true c.child-item.is in (
      (λ yes. MakesModule-above c.args.inside_function c.args.node.now child i at
          (subst (λ b. MakesModule (c.args.inside_function || b) child) c.is_function.ensures
          (c.makes_module.ensures.0 c.if-makes_module.true))),
      (λ made. refl),
    )

pub returns : goal.returns
unfolding children_of
returns t c = ((λ no_way. cc), (λ made. none (MakesModule-cases c.args.inside_function c.args.node.now made)))
  where
    none : (IsImportMeta c.args.node.now ⊎ ((c.args.inside_function ≡ false) × IsAwait c.args.node.now))
        ⊎ ((k : ℕ) × (child : Node) × (slice_get (children_of c.args.node.now) k ≡ Some child)
        × MakesModule (c.args.inside_function || is_function (kind_of c.args.node.now)) child)
        → IsTrue false
    none (inl itself) = absurd
        (not_true c.if-makes_module_itself.false (c.makes_module_itself.ensures.1 itself))
    none (inr (k, child, at, made)) =
        let items = c.as_slice-child-items.result.now in
        let there : slice_get items k ≡ Some child = ap (λ xs. slice_get xs k) c.as_slice-child-items.ensures
        ∙ at in
        let within = slice_get_within items k child there in
        let before : k < c.loop-child.child-index = omega (arith, within, c.loop-child-test.false) in
        absurd (c.loop-child.invariant k child before there
        (subst (λ b. MakesModule (c.args.inside_function || b) child) (sym c.is_function.ensures) made))
