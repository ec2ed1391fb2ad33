use Rattle.modinfo_pieces.proofs.PastEnds.{word_step-past}
use Rattle.modinfo_pieces.proofs.scan.words.step_size.Goals as goal

pub returns-then-at-text-clause-step : goal.returns-then-at-text-clause-step
returns-then-at-text-clause-step c = word_step-past c.args.text.now c.args.at c.if-at-text.true
