use Rattle.std.proofs.Common.{◌∙◌, sym}
use Rattle.std.specs.Str.{bytes_eq}
use Rattle.modinfo.proofs.GivenWords.{list_any-map}
use Rattle.modinfo.proofs.words.is_among.Goals as goal

pub returns : goal.returns
returns c = c.contains.ensures.value
    ∙ sym (list_any-map (λ other. bytes_eq other c.args.word.now) (λ word. word.now) c.args.words.now)
