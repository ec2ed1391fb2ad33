use Rattle.std.proofs.Common.{[], map, sym, ap, ◌∙◌}
use Rattle.std.specs.List.{list_any}
use Rattle.std.specs.List.Sorted.{IsStrictlySortedBy}
use Rattle.deno_graph_base.specs.TextMap.{insert_entry}
use Rattle.deno_graph_json.specs.Data.{members_data, named_data, put_members}
use Rattle.deno_graph_json.specs.View.{members_of}
use Rattle.deno_graph_json.proofs.LastMembers.{all_passed, named_insert, pass}
use Rattle.modinfo_estree.specs.internal.Candidates.{entry_of, is_named}
use Rattle.modinfo_estree.proofs.InnerMembers.{candidate_inserted, inserted_ascending, other_inserted}
use Rattle.modinfo_estree.proofs.candidates.candidates.Goals as goal

pub loop-name-init : goal.loop-name-init
unfolding IsStrictlySortedBy members_data
loop-name-init c = (
  tt,
  tt,
  [],
  tt,
  ap (map entry_of) c.new-found.ensures.items,
  ap (λ ms. members_data ms) c.into_iter-name-iterator.ensures.into_iter_gives,
)

pub loop-name-preserved-in-Continue-1 : goal.loop-name-preserved-in-Continue-1
loop-name-preserved-in-Continue-1 c =
    let kept = c.loop-name.invariant in
    let entries = kept.2 in
    let k = c.in-Some.name.now in
    let e = c.in-Some.value in
    let left = members_of c.next.new.self in (
      tt,
      tt,
      insert_entry entries k e,
      inserted_ascending k e entries kept.3,
      c.in_ok-insert.ensures ∙ ap (λ es. insert_entry es k e) kept.4
          ∙ sym (candidate_inserted k e entries (sym c.has_inside.ensures ∙ c.if-has_inside.true) kept.3),
      ap (put_members left) (named_insert entries k e)
          ∙ pass k e (members_of c.loop-name.name-iterator) left (named_data entries)
          (members_data c.args.members) c.in-Some.ensures.steps kept.5,
    )

pub loop-name-preserved : goal.loop-name-preserved
loop-name-preserved c =
    let kept = c.loop-name.invariant in
    let entries = kept.2 in
    let k = c.in-Some.name.now in
    let e = c.in-Some.value in
    let left = members_of c.next.new.self in
    let none = ap (list_any (is_named k)) (sym kept.4)
    ∙ ap (λ xs. list_any (is_named k) (map entry_of xs)) (sym c.deref.ensures.value)
    ∙ sym c.has_name.ensures ∙ c.if-has_name.false in (
      tt,
      tt,
      insert_entry entries k e,
      inserted_ascending k e entries kept.3,
      kept.4 ∙ sym (other_inserted k e entries (sym c.has_inside.ensures ∙ c.if-has_inside.false) none),
      ap (put_members left) (named_insert entries k e)
          ∙ pass k e (members_of c.loop-name.name-iterator) left (named_data entries)
          (members_data c.args.members) c.in-Some.ensures.steps kept.5,
    )

pub returns : goal.returns
returns c =
    let kept = c.loop-name.invariant in record {
      entries = kept.2;
      whole = all_passed (members_of c.loop-name.name-iterator) (named_data kept.2)
          (members_data c.args.members) c.in-None.ensures.steps kept.5;
      ascending = kept.3;
      kept = kept.4;
    }
