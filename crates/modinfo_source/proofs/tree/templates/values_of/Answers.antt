use Rattle.std.proofs.Common.{ap, subst, sym, ◌∙◌, [], ◌∷◌, ◌++◌}
use Rattle.modinfo_source.specs.Spelled.{CookEach}
use Rattle.modinfo_source.specs.internal.Parts.{part_ranges}
use Rattle.modinfo_source.proofs.Cooked.{cook_more, passed_more}
use Rattle.modinfo_source.proofs.tree.templates.values_of.Goals as goal

pub loop-part-preserved : goal.loop-part-preserved
loop-part-preserved c = (
  passed_more c.args.parts.items c.loop-part.yielded c.loop-part.part-iterator.rest.items
      c.next.new.self.rest.items c.in-Some.part c.loop-part.invariant.0 c.in-Some.ensures.steps.0,
  λ text pieces all. subst (λ vs. CookEach text pieces (part_ranges (c.loop-part.yielded ++ c.in-Some.part ∷
      [])) vs)
      (sym c.in_ok-push-in-Some-into_value.ensures.ok)
      (cook_more text pieces c.args.parts.items c.loop-part.yielded c.next.new.self.rest.items c.in-Some.part
      _ _
      (c.loop-part.invariant.0 ∙ ap (λ left. c.loop-part.yielded ++ left) c.in-Some.ensures.steps.0)
      all (sym c.in-Some-into_value.ensures) (c.loop-part.invariant.1 text pieces all)),
)
