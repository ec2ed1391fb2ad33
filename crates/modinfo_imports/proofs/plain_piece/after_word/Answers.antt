use Rattle.std.proofs.Common.{◌∙◌, sym}
use Rattle.modinfo_imports.proofs.Ordinary.{class-ordinary, keyword-ordinary}
use Rattle.modinfo_imports.proofs.Plains.{other_either_way, word-turn}
use Rattle.modinfo_imports.proofs.plain_piece.after_word.Goals as goal

pub returns : goal.returns
returns c is_word parentheses =
    rw c.after_token-2.ensures (word-turn c.args.text.now c.args.plain c.word_end-end.result
    c.class_after-before.result c.in_ok-asked.asked c.args.around.now parentheses is_word
    c.word_end-end.ensures
    c.if-end-plain.false c.if-end-text.false c.class_after-before.ensures c.in_ok-asked.ensures)

pub returns-then-is_ordinary : goal.returns-then-is_ordinary
returns-then-is_ordinary c is_word parentheses =
    let ordinary = sym c.is_ordinary.ensures ∙ c.if-is_ordinary.true in
    rw c.after_token.ensures (word-turn c.args.text.now c.args.plain c.word_end-end.result _ _
    c.args.around.now parentheses is_word c.word_end-end.ensures c.if-end-plain.false c.if-end-text.false
    (class-ordinary c.args.plain.before _ ordinary)
    (λ last form item braces method met. other_either_way _ _ form item braces method met (keyword-ordinary _
    ordinary)))
