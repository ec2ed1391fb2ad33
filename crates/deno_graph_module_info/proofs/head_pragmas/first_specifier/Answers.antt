use Rattle.std.proofs.Common.{sym, ap, subst, ◌∙◌, rules}
use Rattle.std.proofs.lemmas.List.{take_all}
use Rattle.std.proofs.lemmas.List.Elements.{All-more, All-same}
use Rattle.deno_graph_pragmas.specs.Match.{match_part_of}
use Rattle.deno_graph_module_info.specs.Pragma.{HasPragma, specifier_of_part}
use Rattle.deno_graph_module_info.specs.internal.HeadPragma.{head_pragma}
use Rattle.deno_graph_module_info.proofs.Named.{first_at, match_names, match_has_pragma}
use Rattle.deno_graph_module_info.proofs.head_pragmas.first_specifier.Goals as goal

pub returns-in-Some-clause-is : goal.returns-in-Some-clause-is
returns-in-Some-clause-is c =
    let pragma = head_pragma c.args.pragma in
    let comment = c.comment-item.result in
    let part = match_part_of c.in-Some.found in
    let found = c.in-Some.ensures.found in
    let specifier = c.in_ok-specifier.ensures.is in (
      comment,
      first_at (HasPragma pragma) c.args.head.comments.now c.loop-comment.comment-index comment
          c.loop-comment-test.true c.comment-item.is c.loop-comment.invariant
          (match_has_pragma pragma comment part found),
      match_names c.args.head.text_info.now pragma comment part _ found
          (specifier ∙ ap (specifier_of_part c.args.head.text_info.now comment part)
          c.is_quoteless-is_quoteless.ensures.quoteless),
    )

pub loop-comment-preserved : goal.loop-comment-preserved
loop-comment-preserved c =
    let pragma = head_pragma c.args.pragma in
    let none = c.in_default.ensures.none (search rules) in
    All-more (λ comment. ¬ HasPragma pragma comment) c.args.head.comments.now c.loop-comment.comment-index
    c.comment-item.result c.loop-comment-test.true c.loop-comment.invariant
    (subst (λ comment. ¬ HasPragma pragma comment) c.comment-item.is none)

pub returns-clause-is : goal.returns-clause-is
returns-clause-is c =
    All-same (λ comment. ¬ HasPragma (head_pragma c.args.pragma) comment) c.args.head.comments.now _
    (sym (take_all c.loop-comment.comment-index c.args.head.comments.now c.loop-comment-test.false))
    c.loop-comment.invariant
