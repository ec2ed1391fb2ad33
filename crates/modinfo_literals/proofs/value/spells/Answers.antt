-- A literal has one value: without escapes the text between its quotes, with escapes the value that was read.
use Rattle.std.proofs.Common.{sym, ◌∙◌, subst, rules}
use Rattle.std.specs.Str.{IsUtf8}
use Rattle.std.proofs.lemmas.Bool.{false≢true}
use Rattle.std.proofs.lemmas.Bool.Decides.{Decides-eqb}
use Rattle.std.proofs.lemmas.Slice.Eq.{slice_eq-Decides}
use Rattle.modinfo_literals.specs.Literal.{Spells}
use Rattle.modinfo_literals.proofs.Chains.{Spells-unique}
use Rattle.modinfo_literals.proofs.Compared.{spells-text, text_of-spells, unreadable}
use Rattle.modinfo_literals.proofs.value.spells.Goals as goal

pub returns-in-Some-as_str : goal.returns-in-Some-as_str
returns-in-Some-as_str c =
    let slice = c.args.slice.now in
    let text = c.in-Some.text.now in
    let utf8 : IsUtf8 text = search rules in
    let encoded = c.in-Some-as_str.ensures.text in
    let decides = slice_eq-Decides Decides-eqb c.in-Some-as_str.characters.now text c.eq.result c.eq.ensures
    in (
      λ t. spells-text slice text c.args.value.now utf8 c.in-Some.ensures (sym encoded ∙ decides.0 t),
      λ s. decides.1 (encoded ∙ text_of-spells slice text c.args.value.now utf8 c.in-Some.ensures s),
    )

pub returns-in-None : goal.returns-in-None
returns-in-None c =
    let utf8 : IsUtf8 c.in-Some.text.now = search rules in (
      λ f. absurd (false≢true f),
      λ s. absurd (unreadable c.args.slice.now c.in-Some.text.now c.args.value.now utf8 c.in-Some.ensures
          (λ r. false≢true (c.in-None.ensures.readable.1 r)) s),
    )

pub returns-in-Some-2 : goal.returns-in-Some-2
returns-in-Some-2 c =
    let spelled = c.in-Some-2.spelled in
    let spells = rw c.in-Some-2.is at c.in_ok-spelled.ensures in
    let decides = slice_eq-Decides Decides-eqb spelled c.args.value.now c.eq-in-Some-2.result
    c.eq-in-Some-2.ensures in (
      λ t. subst (Spells c.args.slice.now) (decides.0 t) spells,
      λ s. decides.1 (Spells-unique c.args.slice.now spelled c.args.value.now spells s),
    )

pub returns-in-None-2 : goal.returns-in-None-2
returns-in-None-2 c =
    let none = rw c.in-None-2.is at c.in_ok-spelled.ensures in
    (λ f. absurd (false≢true f), λ s. absurd (none c.args.value.now s))
