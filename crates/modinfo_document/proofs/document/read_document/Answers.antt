use Rattle.std.proofs.Common.{◌≡◌, arith, Some, codes, refl, sym, ap, subst, ◌∙◌}
use Rattle.serde_json.specs.Data.{object}
use Rattle.serde_json.specs.Find.{as_str}
use Rattle.deno_graph_json.specs.Data.{data_of}
use Rattle.deno_graph_json.specs.ObjectReader.{readable}
use Rattle.deno_graph_json.specs.Read.Partial.{◌>>=◌, member_at}
use Rattle.deno_graph_json.proofs.Reading.{is_object}
use Rattle.modinfo_document.specs.Document.{Has, reads_document}
use Rattle.modinfo_document.specs.Result.{IsReadResultBy}
use Rattle.modinfo_document.specs.Comments.{HasTree}
use Rattle.modinfo_document.specs.internal.Document.{reads_tree}
use Rattle.modinfo_document.proofs.Documents.{document_read, contents_with}
use Rattle.modinfo_document.proofs.Results.{exits_by, reading_by, some_and, some_with}
use Rattle.modinfo_document.proofs.document.read_document.Goals as goal

pub returns-in_err-object : goal.returns-in_err-object
unfolding reads_document
returns-in_err-object c = grind (arith, reading_by)

pub returns-in_err-specifier : goal.returns-in_err-specifier
unfolding reads_document
returns-in_err-specifier c = grind (arith, reading_by)

pub returns-in_err-media_type : goal.returns-in_err-media_type
unfolding reads_document
returns-in_err-media_type c = grind (arith, reading_by)

pub returns-in_err-text : goal.returns-in_err-text
unfolding reads_document
returns-in_err-text c = grind (arith, reading_by)

pub returns-in_err-comments : goal.returns-in_err-comments
unfolding member_at
returns-in_err-comments c =
    let ms = readable c.in_ok-object.object in
    let text = c.in_ok-text.text.now in
    let source : member_at as_str (codes "source") ms ≡ Some text =
    ap (λ o. o >>= as_str) c.in_ok-text.ensures in
    let is = document_read c.in_ok-specifier.specifier c.in_ok-media_type.media_type text
    (object ms) ms refl c.in_ok-specifier.ensures c.in_ok-media_type.ensures source in
    subst (λ v. IsReadResultBy Has v (reads_document v) c.from_residual-in_err-comments.result)
    (sym (is_object (data_of c.args.value) ms c.in_ok-object.ensures))
    (rw is (exits_by Has (object ms) (reads_tree ms) _ c.in_err-comments.field-0.0 _
    c.from_residual-in_err-comments.ensures.1 c.in_err-comments.ensures))

pub returns : goal.returns
unfolding member_at
returns c =
    let ms = readable c.in_ok-object.object in
    let text = c.in_ok-text.text.now in
    let source : member_at as_str (codes "source") ms ≡ Some text =
    ap (λ o. o >>= as_str) c.in_ok-text.ensures in
    let is = document_read c.in_ok-specifier.specifier c.in_ok-media_type.media_type text
    (data_of c.args.value) ms c.in_ok-object.ensures c.in_ok-specifier.ensures c.in_ok-media_type.ensures
    source in
    let tree = some_with (λ tree. HasTree tree (c.in_ok-comments.comments, c.in_ok-comments.program))
    (reads_tree ms) c.in_ok-comments.ensures in
    let contents = contents_with c.in_ok-specifier.specifier c.in_ok-media_type.media_type text in
    some_and _ _ (contents tree.0) (is ∙ ap (λ o. o >>= (λ t. Some (contents t))) tree.1)
    (record {
      specifier = refl;
      media_type = refl;
      source = c.in_ok-source.ensures.ok;
      comments = tree.2.0;
      program = tree.2.1;
    })
