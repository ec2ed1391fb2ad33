use Rattle.std.proofs.Common.{◌≡◌, ℕ, List, [], codes, true, false, ◌++◌, IsSome, append_assoc, append-nil}
use Rattle.std.proofs.Common.{refl, sym, ap, subst, ◌∙◌}
use Rattle.deno_graph_json.specs.Pointer.{index, name, part_text}
use Rattle.deno_graph_json.specs.Read.Partial.{◌>>=◌}
use Rattle.modinfo_document.specs.Comments.{reads_comment}
use Rattle.modinfo_document.specs.Place.{comment_path}
use Rattle.modinfo_document.proofs.CommentLookup.{comment_filed}
use Rattle.modinfo_document.proofs.report.comment.comment_pointer.Goals as goal

pub returns-in_default : goal.returns-in_default
returns-in_default c = λ contents is comments are some.
    let none : false ≡ true = subst IsSome (comment_filed contents.comments comments c.args.place are
    ∙ sym (c.in_default.ensures.comment contents is)) some in
    absurd (cc)

-- Four texts, one after another.
four : (a b c d : List ℕ) → a ++ (b ++ (c ++ (d ++ []))) ≡ a ++ b ++ c ++ d
four a b c d =
    ap (λ t. a ++ (b ++ (c ++ t))) (append-nil d)
    ∙ ap (λ t. a ++ t) (sym (append_assoc b c d))
    ∙ sym (append_assoc a (b ++ c) d)
    ∙ ap (λ t. t ++ d) (sym (append_assoc a b c))

pub returns : goal.returns
returns c = λ contents is comments are some.
    let found = c.in-Some.found in
    let path = comment_path c.args.place.side found.entry found.number in
    let leads = c.in-Some.ensures.path in
    let filed = comment_filed contents.comments comments c.args.place are in (
      path,
      (
        found.entry,
        found.number,
        refl,
        ap (λ o. o >>= reads_comment) leads ∙ c.in-Some.ensures.comment contents is ∙ sym filed,
      ),
      (
        subst IsSome (sym leads) refl,
        c.in_ok-pointer_to.ensures
            ∙ four (part_text (name c.member_of.result.now)) (part_text (index found.entry))
            (part_text (name (codes "comments"))) (part_text (index found.number))
            ∙ ap (λ side. part_text (name side) ++ part_text (index found.entry)
            ++ part_text (name (codes "comments"))
            ++ part_text (index found.number)) c.member_of.ensures,
      ),
    )
