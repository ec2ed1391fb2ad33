use Rattle.std.proofs.Common.{◌≡◌, ◌+◌, ◌++◌, [], ◌∷◌, Option, sym, ap, ◌∙◌, take}
use Rattle.std.proofs.lemmas.List.{take_more, append-nil}
use Rattle.std.specs.Option.{option_to_list}
use Rattle.deno_graph_info.specs.declared.analysis.type_script_reference.TypeScriptReference.{TypeScriptReference}
use Rattle.deno_graph_module_info.proofs.ReferenceLists.{kept-push}
use Rattle.deno_graph_module_info.proofs.references.analyze_ts_references.Goals as goal
use Rattle.deno_graph_module_info.proofs.references.analyze_ts_references.Goals.{in-Some+in_ok-push}
use Rattle.deno_graph_module_info.proofs.references.analyze_ts_references.Goals.{in_default}

pub loop-comment-preserved : goal.loop-comment-preserved
loop-comment-preserved c =
    let source = c.args.head.text_info.now in
    let comments = c.args.head.comments.now in
    let i = c.loop-comment.comment-index in
    let comment = c.comment-item.result in
    let old = c.loop-comment.references in
    let own = c.in_ok-reference.field-0 in
    let more : take (i + 1) comments ≡ take i comments ++ comment ∷ [] =
    take_more comments i comment c.loop-comment-test.true
    ∙ ap (λ x. take i comments ++ x ∷ []) (sym c.comment-item.is) in
    let made : c.match-branch-2.references ≡ old ++ option_to_list own = elim c.match-branch-2.branch [
      | in-Some+in_ok-push w ↦ w.references-is ∙ w.in_ok-push.ensures.ok
          ∙ ap (λ (o : Option TypeScriptReference). old ++ option_to_list o) (sym w.in-Some.is)
      | in_default w ↦ w.references-is ∙ sym (append-nil old)
          ∙ ap (λ (o : Option TypeScriptReference). old ++ option_to_list o) (sym w.in_default.is)
    ] in
    let kept = kept-push source
    (take i comments) old c.match-branch-2.references comment own c.loop-comment.invariant.are
    c.loop-comment.invariant.cover c.in_ok-reference.ensures.is c.in_ok-reference.ensures.covers made in
    record {
      are = rw more kept.are;
      cover = kept.cover;
    }
