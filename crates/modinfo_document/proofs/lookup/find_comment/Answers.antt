use Rattle.std.proofs.Common.{◌≡◌, [], ◌∷◌, codes, None, Some, IfSome, slice_get, arith, sym, ap}
use Rattle.serde_json.specs.Data.{array}
use Rattle.deno_graph_json.specs.Read.Error.{data_at}
use Rattle.deno_graph_json.specs.declared.error.Step.TheVariants.{Item, Member}
use Rattle.deno_graph_json.specs.Data.{data_of, elements_data}
use Rattle.modinfo_document.specs.Comments.{comments_at}
use Rattle.modinfo_document.proofs.CommentLookup.{entries_from, side_array, side_items, side_leads}
use Rattle.modinfo_document.specs.Place.{comment_path}
use Rattle.modinfo_document.proofs.lookup.find_comment.Goals as goal

pub returns-in_err-members-clause-comment : goal.returns-in_err-members-clause-comment
returns-in_err-members-clause-comment c = λ contents is.
    let none : None ≡ side_items c.args.side (data_of c.args.root) = grind arith in
    let empty = entries_from (data_of c.args.root) contents is c.args.side None none in
    rw c.from_residual.ensures (sym
    (ap (λ entries. slice_get (comments_at c.args.position entries) c.args.number) empty))

pub returns-in_err-get-clause-comment : goal.returns-in_err-get-clause-comment
returns-in_err-get-clause-comment c = λ contents is.
    let none : None ≡ side_items c.args.side (data_of c.args.root) = grind arith in
    let empty = entries_from (data_of c.args.root) contents is c.args.side None none in
    rw c.from_residual-in_err-get.ensures
    (sym (ap (λ entries. slice_get (comments_at c.args.position entries) c.args.number) empty))

pub returns-in_err-entries-clause-comment : goal.returns-in_err-entries-clause-comment
returns-in_err-entries-clause-comment c = λ contents is.
    let none : None ≡ side_items c.args.side (data_of c.args.root) = grind arith in
    let empty = entries_from (data_of c.args.root) contents is c.args.side None none in
    rw c.from_residual-in_err-entries.ensures
    (sym (ap (λ entries. slice_get (comments_at c.args.position entries) c.args.number) empty))

pub returns-clause-comment : goal.returns-clause-comment
returns-clause-comment c = λ contents is.
    let found : Some (elements_data c.in_ok-entries.entries) ≡ side_items c.args.side
    (data_of c.args.root) = grind arith in
    c.comment_in.ensures.comment _
    (entries_from (data_of c.args.root) contents is c.args.side
    (Some (elements_data c.in_ok-entries.entries)) found)

pub returns-clause-path : goal.returns-clause-path
returns-clause-path c =
    let found : Some (elements_data c.in_ok-entries.entries) ≡ side_items c.args.side
    (data_of c.args.root) = grind arith in
    let there = side_array c.args.side (data_of c.args.root) (elements_data c.in_ok-entries.entries) found in
    elim c.comment_in.result as (λ r. IfSome r (λ f. data_at
    (Item f.number ∷ Member (codes "comments") ∷ Item f.entry ∷ [])
    (array (elements_data c.in_ok-entries.entries)) ≡ Some (data_of f.value))
    → IfSome r (λ f. data_at (comment_path c.args.side f.entry f.number) (data_of c.args.root)
    ≡ Some (data_of f.value))) [
      | None ↦ λ none. none
      | Some f ↦ λ leads. side_leads c.args.side (data_of c.args.root)
          (elements_data c.in_ok-entries.entries) f.entry f.number (data_of f.value) there leads
    ] c.comment_in.ensures.path
