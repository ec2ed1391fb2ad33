-- Each turn adds the marks of one more attribute.
use Rattle.std.proofs.Common.{sym}
use Rattle.std.proofs.lemmas.List.{append-nil}
use Rattle.modinfo_imports.proofs.ClaimedNodes.{each-all, each-more}
use Rattle.modinfo_imports.specs.Attributes.{attribute_marks}
use Rattle.modinfo_imports.proofs.attributes.mark_attributes.Goals as goal

pub loop-entry-init : goal.loop-entry-init
loop-entry-init c = sym (append-nil c.args.marks.now.items)

pub loop-entry-preserved : goal.loop-entry-preserved
loop-entry-preserved c =
    each-more (attribute_marks c.args.specifier) c.args.entries.now c.loop-entry.entry-index
    c.entry-item.result c.args.marks.now.items c.loop-entry.marks.items _ c.loop-entry-test.true
    c.entry-item.is c.loop-entry.invariant c.in_ok-mark_attribute.ensures

pub returns : goal.returns
returns c =
    each-all (attribute_marks c.args.specifier) c.args.entries.now c.loop-entry.entry-index
    c.args.marks.now.items c.loop-entry.marks.items c.loop-entry-test.false c.loop-entry.invariant
