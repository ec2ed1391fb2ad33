use Rattle.modinfo_document.specs.ExpectedJson.IsExpected.{no_mark, number, whole, word}
use Rattle.modinfo_document.proofs.report.expected_json.words_for_value.Goals as goal

pub returns-in-239 : goal.returns-in-239
returns-in-239 c = λ front before. no_mark before

pub returns-in-45 : goal.returns-in-45
returns-in-45 c = λ front before. number before

pub returns-in-97-to-122 : goal.returns-in-97-to-122
returns-in-97-to-122 c = λ front before. word before

pub returns-in-123 : goal.returns-in-123
returns-in-123 c = λ front before. whole
