use Rattle.std.proofs.Common.{◌≡◌, ℕ, Bor, List, codes, None, option_map, sym, ap, ◌∙◌}
use Rattle.deno_graph_json.specs.ObjectReader.{readable}
use Rattle.modinfo_estree.specs.Member.{text_at}
use Rattle.modinfo_estree.proofs.reading.Reading.string_value.Goals as goal

pub returns-in-None : goal.returns-in-None
returns-in-None c =
    let no_digits : text_at (codes "bigint") (readable c.args.self.now.members) ≡ None =
    sym c.text_at.ensures ∙ ap (option_map (λ (text : Bor (List ℕ)). text.now)) c.in-None.is in
    rw no_digits (c.found.ensures _ _ c.read.ensures)
