use Rattle.std.proofs.Common.{◌≡◌, ◌==◌, rules, refl, ap, ◌∙◌, sym, Some, None, arith}
use Rattle.std.proofs.lemmas.List.{take_all}
use Rattle.std.specs.Char.{is_ascii_whitespace}
use Rattle.std.specs.List.{before_first}
use Rattle.std.proofs.lemmas.Str.Ascii.{trim_ascii_is}
use Rattle.std.proofs.lemmas.Str.Pattern.{split_once_first}
use Rattle.url.specs.Input.{trim_end, trim_start}
use Rattle.deno_graph_source.proofs.tree.media_type.data_url.essence.Goals as goal

pub returns-in-Some : goal.returns-in-Some
returns-in-Some c =
    let parts = split_once_first 59 c.args.mime_type.now (Some (c.in-Some.front, c.in-Some._parameters))
    c.in-Some.ensures.cases (search rules) in
    trim_ascii_is _ _ _ refl c.trim_ascii.ensures.value
    ∙ ap (λ text. trim_end is_ascii_whitespace (trim_start is_ascii_whitespace text)) parts.1

pub returns-in-None : goal.returns-in-None
returns-in-None c =
    let whole = split_once_first 59 c.args.mime_type.now None c.in-None.ensures.cases (search rules) in
    let all : before_first (λ b. b == 59) c.args.mime_type.now ≡ c.args.mime_type.now =
    take_all _ _ (omega (arith, whole)) in
    trim_ascii_is _ _ _ refl c.trim_ascii-in-None.ensures.value
    ∙ ap (λ text. trim_end is_ascii_whitespace (trim_start is_ascii_whitespace text)) (sym all)
