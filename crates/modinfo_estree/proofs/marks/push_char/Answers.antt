use Rattle.std.proofs.Common.{◌≡◌, ◌∷◌, ◌++◌, [], replicate, ap, sym, ◌∙◌, arith}
use Rattle.std.proofs.lemmas.List.{append-nil, append_assoc, replicate_more}
use Rattle.std.specs.Char.{len_utf8}
use Rattle.modinfo_estree.proofs.marks.push_char.Goals as goal

pub loop-init : goal.loop-init
loop-init c = sym (append-nil c.args.marks.now.items)

pub loop-preserved : goal.loop-preserved
loop-preserved c =
    let old = c.args.marks.now.items in
    let mark = c.args.mark in
    c.in_ok-push.ensures.items ∙ ap (λ l. l ++ mark ∷ []) c.loop.invariant
    ∙ append_assoc old (replicate c.loop.counter mark) (mark ∷ [])
    ∙ ap (λ l. old ++ l) (replicate_more c.loop.counter mark)

pub returns : goal.returns
returns c =
    let all : c.loop.counter ≡ len_utf8 c.args.c = omega (arith, c.len_utf8-end.ensures.value) in
    c.loop.invariant ∙ ap (λ n. c.args.marks.now.items ++ replicate n c.args.mark) all
