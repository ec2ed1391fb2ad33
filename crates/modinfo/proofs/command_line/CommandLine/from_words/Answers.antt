use Rattle.std.proofs.Common.{◌∙◌, Some, ap, map, sym}
use Rattle.std.proofs.lemmas.Option.{none-some, same_Some}
use Rattle.modinfo.specs.CommandLine.{asks_for}
use Rattle.modinfo.proofs.CommandWords.{asked_line_is}
use Rattle.modinfo.proofs.command_line.CommandLine.from_words.Goals as goal

pub returns-then-is_asked_by : goal.returns-then-is_asked_by
returns-then-is_asked_by c line = (
  λ is. rw (sym (same_Some _ _ is)) (sym c.is_asked_by.ensures ∙ c.if-is_asked_by.true),
  λ asks. ap Some (c.asked_line-line.ensures ∙ asked_line_is line _ asks),
)

pub returns-else-is_asked_by : goal.returns-else-is_asked_by
returns-else-is_asked_by c line = (
  λ is. absurd (none-some _ is),
  λ asks. absurd (cc (sym c.if-is_asked_by.false ∙ c.is_asked_by.ensures
      ∙ ap (λ each. asks_for each (map (λ word. word.now) c.args.words.now))
      (c.asked_line-line.ensures ∙ asked_line_is line _ asks) ∙ asks)),
)
