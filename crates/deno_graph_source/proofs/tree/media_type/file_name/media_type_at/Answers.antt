use Rattle.std.proofs.Common.{◌≡◌, length, ◌==◌, false, ap, ◌∙◌, sym, subst}
use Rattle.std.proofs.lemmas.Bool.{cond-false}
use Rattle.deno_graph_source.specs.MediaType.{by_stem, ending_of, endings, file_name, in_table, stem_of}
use Rattle.deno_graph_source.proofs.tree.media_type.file_name.media_type_at.Goals as goal

pub returns-else-is_empty : goal.returns-else-is_empty
returns-else-is_empty c =
    let name = file_name c.args.path.now in
    let stem = c.split_last-2.ensures.before ∙ ap stem_of c.split_last.ensures.after in
    let ending = c.split_last-2.ensures.after ∙ ap ending_of c.split_last.ensures.after in
    let has_stem : (length (stem_of name) == 0) ≡ false =
    subst (λ text. (length text == 0) ≡ false) stem
    (sym c.is_empty.ensures ∙ c.if-is_empty.false) in
    c.by_stem.ensures ∙ ap (λ text. by_stem text c.look_up.result) stem
    ∙ ap (by_stem (stem_of name)) (c.look_up.ensures ∙ ap (in_table endings) ending)
    ∙ sym (cond-false _ _ _ has_stem)
