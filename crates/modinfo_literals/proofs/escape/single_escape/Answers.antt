-- Each character of the table has its code point, and any other stands for itself.
use Rattle.std.proofs.Common.{refl, rules}
use Rattle.modinfo_literals.specs.internal.Step.{single_escape}
use Rattle.modinfo_literals.proofs.escape.single_escape.Goals as goal

pub returns-in-b : goal.returns-in-b
unfolding single_escape
returns-in-b c = rw c.in-b.is refl

pub returns-in-t : goal.returns-in-t
unfolding single_escape
returns-in-t c = rw c.in-t.is refl

pub returns-in-n : goal.returns-in-n
unfolding single_escape
returns-in-n c = rw c.in-n.is refl

pub returns-in-v : goal.returns-in-v
unfolding single_escape
returns-in-v c = rw c.in-v.is refl

pub returns-in-f : goal.returns-in-f
unfolding single_escape
returns-in-f c = rw c.in-f.is refl

pub returns-in-r : goal.returns-in-r
unfolding single_escape
returns-in-r c = rw c.in-r.is refl

pub returns-in_default : goal.returns-in_default
unfolding single_escape
returns-in_default c = search (rules, c.in_default)
