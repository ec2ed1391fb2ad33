use Rattle.std.proofs.Common.{◌∙◌, sym}
use Rattle.modinfo_pieces.specs.Steps.Reaches.{here, step}
use Rattle.modinfo_pieces.specs.Words.{word_step}
use Rattle.modinfo_pieces.proofs.PastEnds.{word_step-letter, word_step-other, word_step-past}
use Rattle.modinfo_pieces.proofs.Reached.{ends_on}
use Rattle.modinfo_pieces.proofs.scan.words.word_end.Goals as goal
use Rattle.modinfo_pieces.proofs.scan.words.word_end.Goals.{then-letters-test+else-is_word_byte}
use Rattle.modinfo_pieces.proofs.scan.words.word_end.Goals.{else-letters-test}

pub letters-init : goal.letters-init
letters-init c = here

pub letters-preserved : goal.letters-preserved
letters-preserved c =
    step c.letters.invariant (word_step-letter c.args.text.now c.letters.at
    (sym c.is_word_byte.ensures ∙ c.if-is_word_byte.true))

pub returns-then-goes_on : goal.returns-then-goes_on
returns-then-goes_on c = ends_on (word_step c.args.text.now) _ _ _ c.letters.invariant c.rest_end.ensures

pub returns-else-goes_on : goal.returns-else-goes_on
returns-else-goes_on c = record {
  reached = c.letters.invariant;
  is_last = elim c.letters-test.branch [
    | then-letters-test+else-is_word_byte w ↦ word_step-other c.args.text.now c.letters.at
        (sym w.is_word_byte.ensures ∙ w.if-is_word_byte.false) (sym c.goes_on.ensures ∙ c.if-goes_on.false)
    | else-letters-test w ↦ word_step-past c.args.text.now c.letters.at w.letters-test.false
  ];
}
