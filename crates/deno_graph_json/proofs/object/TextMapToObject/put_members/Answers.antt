use Rattle.std.proofs.Common.{ℕ, List, [], ◌∷◌, sym, ap}
use Rattle.std.proofs.lemmas.List.Elements.{All-same, All-cons, All-nil}
use Rattle.deno_graph_json.specs.JsonWriter.{output, with_member}
use Rattle.deno_graph_json.proofs.WritingItems.{with_map, map_more, map_all}
use Rattle.deno_graph_json.proofs.object.TextMapToObject.put_members.Goals as goal

pub loop-key-init : goal.loop-key-init
loop-key-init g c =
    let P : List ℕ × g.row.T.Denot → Type 0 = λ e. g.T.ToJson.is_held e.1 in
    let all = c.into_iter-key-iterator.ensures.into_iter_gives.0 in
    record {
      members = ap (λ es. with_map with_member g.T.ToJson.json es
          (output c.args.out.now)) all;
      held = All-same P c.args.self.now c.into_iter-key-iterator.result (sym all);
    }

-- the entry is put, and is held
pub loop-key-preserved : goal.loop-key-preserved
loop-key-preserved g c =
    let P : List ℕ × g.row.T.Denot → Type 0 = λ e. g.T.ToJson.is_held e.1 in
    let json = g.T.ToJson.json in
    let rest = c.next.new.self in
    let k = c.in-Some.key.now in
    let x = c.in-Some.value.now in
    let here = c.in-Some.ensures.steps in
    let whole = with_map with_member json c.args.self.now (output c.args.out.now) in
    record {
      members = map_more with_member json c.loop-key.key-iterator rest k x (output c.loop-key.out)
          (output c.put.new.self) whole here c.loop-key.invariant.members
          c.in_ok-put.ensures.ok;
      held = λ held. c.loop-key.invariant.held (All-same P c.loop-key.key-iterator ((k, x) ∷ rest) here
          (All-cons P (k, x) rest c.in_ok-put.ensures.held held));
    }

-- no entry is left
pub returns : goal.returns
returns g c =
    let P : List ℕ × g.row.T.Denot → Type 0 = λ e. g.T.ToJson.is_held e.1 in
    let json = g.T.ToJson.json in
    let none = c.in-None.ensures.steps.0 in
    let whole = with_map with_member json c.args.self.now (output c.args.out.now) in
    record {
      ok = map_all with_member json c.loop-key.key-iterator (output c.loop-key.out) whole none
          c.loop-key.invariant.members;
      held = (
        c.into_iter-key-iterator.ensures.into_iter_gives.1,
        c.loop-key.invariant.held (All-same P c.loop-key.key-iterator [] none (All-nil P)),
      );
    }
