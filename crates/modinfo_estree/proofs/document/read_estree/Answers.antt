use Rattle.std.proofs.Common.{◌≡◌, Some, codes, refl, sym, ap, subst, ◌∙◌}
use Rattle.serde_json.specs.Data.{object}
use Rattle.serde_json.specs.Find.{as_object, as_str}
use Rattle.deno_graph_json.specs.Data.{data_of}
use Rattle.deno_graph_json.specs.ObjectReader.{readable}
use Rattle.deno_graph_json.specs.Read.Partial.{◌>>=◌, member_at, member_or}
use Rattle.deno_graph_json.specs.Read.Result.{IsReadError}
use Rattle.deno_graph_json.proofs.Reading.{is_object, goes_on}
use Rattle.modinfo_document.specs.Document.{Has}
use Rattle.modinfo_document.specs.Named.{reads_named}
use Rattle.modinfo_document.specs.Result.{IsReadResultBy}
use Rattle.modinfo_document.proofs.Results.{exits_by, result_by_on, some_and, some_with}
use Rattle.modinfo_estree.specs.Document.{reads_estree, reads_tree, units}
use Rattle.modinfo_estree.specs.Offsets.{Counted}
use Rattle.modinfo_estree.specs.declared.offsets.OffsetUnit.TheVariants.{Utf16}
use Rattle.modinfo_document.specs.Comments.{HasTree}
use Rattle.modinfo_estree.proofs.Estrees.{contents_in, contents_with, estree_read}
use Rattle.modinfo_estree.proofs.document.read_estree.Goals as goal

pub returns-in_err-unit : goal.returns-in_err-unit
unfolding member_at
returns-in_err-unit c =
    let d = data_of c.args.value in
    let ms = readable c.of_members-object.result in
    let found : as_object d ≡ Some ms = c.in_ok-found.ensures ∙ ap Some (sym c.of_members-object.ensures) in
    let text = c.in_ok-text.text.now in
    let source : member_at as_str (codes "source") ms ≡ Some text =
    ap (λ o. o >>= as_str) c.in_ok-text.ensures in
    let is = estree_read c.in_ok-specifier.specifier c.in_ok-media_type.media_type text (object ms) ms refl
    c.in_ok-specifier.ensures c.in_ok-media_type.ensures source in
    subst (λ v. IsReadResultBy Has v (reads_estree v) c.from_residual-in_err-unit.result)
    (sym (is_object d ms found))
    (rw is (exits_by Has (object ms) (member_or (reads_named units) (codes "offsets") Utf16 ms) _
    c.in_err-unit.field-0.0 _ c.from_residual-in_err-unit.ensures.1 c.in_err-unit.ensures))

pub returns-in_err-tree : goal.returns-in_err-tree
unfolding member_at
returns-in_err-tree c =
    let d = data_of c.args.value in
    let ms = readable c.of_members-object.result in
    let found : as_object d ≡ Some ms = c.in_ok-found.ensures ∙ ap Some (sym c.of_members-object.ensures) in
    let same = c.of_members-members.ensures ∙ sym c.of_members-object.ensures in
    let specifier = c.in_ok-specifier.specifier in
    let media_type = c.in_ok-media_type.media_type in
    let text = c.in_ok-text.text.now in
    let counted : Counted = record { unit = c.in_ok-unit.unit; text = text } in
    let source : member_at as_str (codes "source") ms ≡ Some text =
    ap (λ o. o >>= as_str) c.in_ok-text.ensures in
    let is = estree_read specifier media_type text (object ms) ms refl
    c.in_ok-specifier.ensures c.in_ok-media_type.ensures source in
    let error = c.in_err-tree.field-0.0 in
    subst (λ v. IsReadResultBy Has v (reads_estree v) c.from_residual-in_err-tree.result)
    (sym (is_object d ms found))
    (rw is (result_by_on Has (object ms) (member_or (reads_named units) (codes "offsets") Utf16 ms)
    (contents_in specifier media_type text ms) c.in_ok-unit.unit _ c.in_ok-unit.ensures
    (exits_by Has (object ms) (reads_tree counted ms) _ error _ c.from_residual-in_err-tree.ensures.1
    (subst (λ ns. IsReadError (object ns) (reads_tree counted ns) error) same c.in_err-tree.ensures))))

pub returns : goal.returns
unfolding member_at
returns c =
    let d = data_of c.args.value in
    let ms = readable c.of_members-object.result in
    let found : as_object d ≡ Some ms = c.in_ok-found.ensures ∙ ap Some (sym c.of_members-object.ensures) in
    let same = c.of_members-members.ensures ∙ sym c.of_members-object.ensures in
    let specifier = c.in_ok-specifier.specifier in
    let media_type = c.in_ok-media_type.media_type in
    let text = c.in_ok-text.text.now in
    let counted : Counted = record { unit = c.in_ok-unit.unit; text = text } in
    let source : member_at as_str (codes "source") ms ≡ Some text =
    ap (λ o. o >>= as_str) c.in_ok-text.ensures in
    let is = estree_read specifier media_type text d ms found
    c.in_ok-specifier.ensures c.in_ok-media_type.ensures source in
    let tree = some_with (λ tree. HasTree tree c.in_ok-tree.tree)
    (reads_tree counted (readable c.of_members-members.result)) c.in_ok-tree.ensures in
    let read = subst (λ ns. reads_tree counted ns ≡ Some tree.0) same tree.1 in
    some_and _ _ (contents_with specifier media_type text tree.0)
    (is ∙ goes_on _ _ c.in_ok-unit.unit _ c.in_ok-unit.ensures (goes_on _ _ tree.0 _ read refl))
    (subst (Has (contents_with specifier media_type text tree.0)) (sym c.document_of.ensures) (record {
      specifier = refl;
      media_type = refl;
      source = c.in_ok-source.ensures.ok;
      comments = tree.2.0;
      program = tree.2.1;
    }))
