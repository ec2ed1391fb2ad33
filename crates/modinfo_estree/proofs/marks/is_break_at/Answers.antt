use Rattle.std.proofs.Common.{false, ap, sym, ◌∙◌, arith}
use Rattle.std.proofs.lemmas.List.{get_or-map, get_or_past, length-map}
use Rattle.modinfo_estree.specs.declared.marks.Mark.TheVariants.{Token}
use Rattle.modinfo_estree.specs.internal.Marks.{breaks_of, is_break}
use Rattle.modinfo_estree.proofs.marks.is_break_at.Goals as goal

pub returns-in-Some : goal.returns-in-Some
returns-in-Some c =
    c.is_break.ensures ∙ ap is_break (c.in-Some.ensures.lookup.3.1 Token)
    ∙ sym (get_or-map is_break c.args.marks.now c.args.at Token false c.in-Some.ensures.lookup.3.0)

pub returns-in-None : goal.returns-in-None
returns-in-None c =
    let marks = c.args.marks.now in
    sym (get_or_past (breaks_of marks) c.args.at false
    (omega (arith, c.in-None.ensures.lookup.3, length-map marks is_break)))
