use Rattle.std.proofs.Common.{◌≡◌, false, rules, ap, ◌∙◌, sym, Some, None, arith}
use Rattle.std.proofs.lemmas.Bool.{cond-true, cond-false, lt-ltb, le-ltb}
use Rattle.std.proofs.lemmas.Str.Pattern.{split_once_first}
use Rattle.deno_graph_source.specs.MediaType.{essence, has_comma, in_table, mime_types}
use Rattle.deno_graph_source.proofs.tree.media_type.data_url.media_type_named.Goals as goal

pub returns-in-Some : goal.returns-in-Some
returns-in-Some c =
    let parts = split_once_first 44 c.args.path.now (Some (c.in-Some.mime_type, c.in-Some._data))
    c.in-Some.ensures.cases (search rules) in
    c.look_up.ensures ∙ ap (in_table mime_types) (c.essence.ensures ∙ ap essence parts.1)
    ∙ sym (cond-true _ _ _ (lt-ltb _ _ parts.0))

pub returns-in-None : goal.returns-in-None
returns-in-None c =
    let whole = split_once_first 44 c.args.path.now None c.in-None.ensures.cases (search rules) in
    let none : has_comma c.args.path.now ≡ false = le-ltb _ _ (omega (arith, whole)) in
    sym (cond-false _ _ _ none)
