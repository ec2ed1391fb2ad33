use Rattle.std.proofs.Common.{◌≡◌, Some, IfSome, cond, sym, subst}
use Rattle.std.proofs.lemmas.Result.{IfOk-weaker}
use Rattle.std.specs.BTreeMap.{get, is_at}
use Rattle.deno_graph_module_info.specs.Pragma.{dependency_types_pragmas, NamesByFirst, NamesDependencyTypes}
use Rattle.deno_graph_module_info.specs.Pragma.{NamesDependencyTypesIn}
use Rattle.deno_graph_module_info.specs.internal.ReadTypes.{range_cmp}
use Rattle.deno_graph_module_info.specs.Spelled.{CoversAsWritten}
use Rattle.deno_graph_module_info.proofs.ReadTypes.{read_more, spelled_last}
use Rattle.deno_graph_module_info.proofs.read_types.types_before.Goals as goal

pub returns-in-Some-get-clause-is : goal.returns-in-Some-get-clause-is
returns-in-Some-get-clause-is c =
    let text = c.args.text_info.now in
    let comments = c.args.leading_comments.now in
    let comment = c.in-Some.comment.now in
    let types = c.in-Some-get.types.now in
    let last = c.in-Some.ensures.value in
    let named = c.requires.read comment types (spelled_last text comments comment c.requires.spelled last)
    (sym c.in-Some-get.ensures.value) in
    IfOk-weaker c.try_clone.result (λ copy. copy ≡ types) (NamesDependencyTypes text comments)
    (λ copy same. subst (λ found. NamesDependencyTypesIn text found copy) last
    (subst (NamesByFirst text dependency_types_pragmas comment) (sym same) named.0)) c.try_clone.ensures

pub returns-in-Some-get-clause-covers : goal.returns-in-Some-get-clause-covers
returns-in-Some-get-clause-covers c =
    let text = c.args.text_info.now in
    let comment = c.in-Some.comment.now in
    let types = c.in-Some-get.types.now in
    let spelled = spelled_last text c.args.leading_comments.now comment c.requires.spelled
    c.in-Some.ensures.value in
    let named = c.requires.read comment types spelled (sym c.in-Some-get.ensures.value) in
    IfOk-weaker c.try_clone.result (λ copy. copy ≡ types)
    (λ types. IfSome types (CoversAsWritten text))
    (λ copy same. subst (λ types. IfSome types (CoversAsWritten text)) (sym same) named.1) c.try_clone.ensures

pub types_in-requires : goal.types_in-requires
types_in-requires c =
    spelled_last c.args.text_info.now c.args.leading_comments.now c.in-Some.comment.now c.requires.spelled
    c.in-Some.ensures.value

pub returns-clause-is : goal.returns-clause-is
returns-clause-is c =
    subst (λ found. NamesDependencyTypesIn c.args.text_info.now found c.in_ok-types.types)
    c.in-Some.ensures.value c.in_ok-types.ensures.is

pub returns-clause-read : goal.returns-clause-read
returns-clause-read c =
    let text = c.args.text_info.now in
    let comment = c.in-Some.comment.now in
    let spelled = spelled_last text c.args.leading_comments.now comment c.requires.spelled
    c.in-Some.ensures.value in
    read_more text c.args.read.now c.insert.new.self comment c.in_ok-types.types spelled
    c.in_ok-types.ensures.is c.in_ok-types.ensures.covers
    (λ range. subst (λ types. get range_cmp c.insert.new.self range
    ≡ cond (is_at (range_cmp (comment.range.start, comment.range.end)) range)
    (Some types) (get range_cmp c.args.read.now range)) c.in_ok-try_clone.ensures
    (c.in_ok-insert.ensures.updates.0 range)) c.requires.read
