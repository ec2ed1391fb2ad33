use Rattle.std.proofs.Common.{◌≡◌, None, Some, codes, option_map, refl, sym, ap, subst, ◌∙◌}
use Rattle.deno_graph_json.specs.Data.{data_of}
use Rattle.deno_graph_json.specs.ObjectReader.{readable, value_of}
use Rattle.deno_graph_json.specs.Read.Partial.{as_usize, reads_pair}
use Rattle.deno_graph_json.specs.Read.Result.{IsReadResult}
use Rattle.deno_graph_json.proofs.Reading.{goes_on, read_error}
use Rattle.serde_json.specs.Find.{get_member}
use Rattle.modinfo_estree.specs.Member.{range_or, reads_pair_range}
use Rattle.modinfo_estree.specs.Source.{byte_in}
use Rattle.modinfo_estree.proofs.member.read_found_range.Goals as goal

pub returns-in-Some-as_pair : goal.returns-in-Some-as_pair
unfolding reads_pair_range
returns-in-Some-as_pair c =
    let members = readable c.args.members.now in
    let here : get_member (codes "range") members ≡ Some (data_of c.in-Some.value) =
    sym c.requires.range ∙ ap (option_map data_of) c.in-Some.is in
    ap (range_or (byte_in c.args.offsets.now) members) here
    ∙ goes_on _ _ (c.in-Some-as_pair.start, c.in-Some-as_pair.end) _
    (sym c.as_pair.ensures ∙ c.in-Some-as_pair.is) (ap Some (sym c.range_between.ensures))

pub returns-in-None-as_pair : goal.returns-in-None-as_pair
unfolding reads_pair_range
returns-in-None-as_pair c =
    let members = readable c.args.members.now in
    let here : get_member (codes "range") members ≡ Some (data_of c.in-Some.value) =
    sym c.requires.range ∙ ap (option_map data_of) c.in-Some.is in
    let none : reads_pair as_usize (data_of c.in-Some.value) ≡ None =
    sym c.as_pair.ensures ∙ c.in-None-as_pair.is in
    read_error (value_of c.args.members.now) _ c.member_error.result
    (ap (range_or (byte_in c.args.offsets.now) members) here ∙ rw none refl)
    (c.member_error.ensures.place (data_of c.in-Some.value) here none)

pub returns-in-None : goal.returns-in-None
returns-in-None c =
    let members = readable c.args.members.now in
    let here : get_member (codes "range") members ≡ None =
    sym c.requires.range ∙ ap (option_map data_of) c.in-None.is in
    let range = range_or (byte_in c.args.offsets.now) members in
    subst (λ found. IsReadResult (value_of c.args.members.now) (range found) c.read_start_and_end.result)
    (sym here) c.read_start_and_end.ensures
