use Rattle.std.proofs.Common.{◌≡◌, Some, None, true≢false, arith, ap, refl, sym, ◌∙◌}
use Rattle.serde_json.specs.Data.{item, no_items}
use Rattle.deno_graph_json.proofs.ArrayElements.{count_next, elements_next, from_begin, from_here, from_next}
use Rattle.deno_graph_json.specs.Data.{data_of, elements_data}
use Rattle.modinfo.proofs.StoredOverflow.{left_all, left_here, left_none, left_next}
use Rattle.modinfo.proofs.check.conversion.first_overflow.Goals as goal

pub loop-dependency-init : goal.loop-dependency-init
loop-dependency-init c = (
  tt,
  tt,
  left_all (elements_data c.args.dependencies) (elements_data c.into_iter-dependency-iterator.result)
      (ap elements_data c.into_iter-dependency-iterator.ensures.into_iter_gives),
  omega (arith, c.into_iter-dependency-iterator.result.count_fits),
  from_begin 0 _ _ refl (ap elements_data c.into_iter-dependency-iterator.ensures.into_iter_gives),
)

pub loop-dependency-preserved : goal.loop-dependency-preserved
loop-dependency-preserved c =
    let left = elements_data c.loop-dependency.dependency-iterator in
    let rest = elements_data c.next.new.self in
    let d = data_of c.in-Some.dependency in
    let first : left ≡ item d rest = elements_next c.loop-dependency.dependency-iterator c.next.new.self
    (Some c.in-Some.dependency) c.in-Some.ensures.steps in (
      tt,
      tt,
      left_next (elements_data c.args.dependencies) left rest d c.loop-dependency.invariant.2 first
          (λ over. true≢false (sym (c.in_ok-overflows.ensures.1 over) ∙ c.if-branch.false)),
      omega (
        arith,
        c.loop-dependency.invariant.3,
        count_next c.loop-dependency.dependency-iterator c.next.new.self c.in-Some.dependency
            c.in-Some.ensures.steps,
      ),
      from_next c.loop-dependency.number (elements_data c.args.dependencies) left rest d
          c.loop-dependency.invariant.4 first,
    )

pub returns-then-branch-clause-fault : goal.returns-then-branch-clause-fault
returns-then-branch-clause-fault c =
    let left = elements_data c.loop-dependency.dependency-iterator in
    let rest = elements_data c.next.new.self in
    let d = data_of c.in-Some.dependency in
    let first : left ≡ item d rest = elements_next c.loop-dependency.dependency-iterator c.next.new.self
    (Some c.in-Some.dependency) c.in-Some.ensures.steps in (
      (λ _. left_here (elements_data c.args.dependencies) left rest d c.loop-dependency.invariant.2 first
          (c.in_ok-overflows.ensures.0 c.if-branch.true)),
      (λ _. refl),
    )

pub returns-then-branch-clause-column : goal.returns-then-branch-clause-column
returns-then-branch-clause-column c =
    let all = elements_data c.args.dependencies in
    let left = elements_data c.loop-dependency.dependency-iterator in
    let rest = elements_data c.next.new.self in
    let d = data_of c.in-Some.dependency in
    let first : left ≡ item d rest = elements_next c.loop-dependency.dependency-iterator c.next.new.self
    (Some c.in-Some.dependency) c.in-Some.ensures.steps in
    c.in_ok-overflow_report.ensures.column all
    (from_here c.loop-dependency.number all left rest d c.loop-dependency.invariant.4 first)
    (c.in_ok-overflows.ensures.0 c.if-branch.true)

-- No dependency is left.
pub returns-clause-fault : goal.returns-clause-fault
returns-clause-fault c =
    let left = elements_data c.loop-dependency.dependency-iterator in
    let none : left ≡ no_items = elements_next c.loop-dependency.dependency-iterator c.next.new.self None
    c.in-None.ensures.steps in (
      (λ some. absurd (true≢false (sym some))),
      (λ over. absurd (left_none (elements_data c.args.dependencies) left c.loop-dependency.invariant.2 none
          over)),
    )
