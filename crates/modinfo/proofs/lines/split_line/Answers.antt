use Rattle.modinfo.proofs.LinesSplit.{first_of_many, only_line}
use Rattle.modinfo.proofs.lines.split_line.Goals as goal

pub returns-in-Some-clause-lines : goal.returns-in-Some-clause-lines
returns-in-Some-clause-lines c some = first_of_many c.args.text.now c.in-Some.at c.in-Some.ensures

pub returns-in-None-clause-lines : goal.returns-in-None-clause-lines
returns-in-None-clause-lines c some = only_line c.args.text.now some c.in-None.ensures
