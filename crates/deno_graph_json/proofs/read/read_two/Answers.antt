use Rattle.std.proofs.Common.{◌≡◌, None, refl}
use Rattle.deno_graph_json.specs.Data.{data_of}
use Rattle.deno_graph_json.specs.Read.Partial.{pair_in}
use Rattle.deno_graph_json.proofs.ArrayElements.{elements_next}
use Rattle.deno_graph_json.proofs.read.read_two.Goals as goal
use Rattle.deno_graph_json.proofs.read.read_two.Goals.{in_default-2-via-in-Some+in-Some+in_default}
use Rattle.deno_graph_json.proofs.read.read_two.Goals.{in_default-2-via-in-Some+in_default}
use Rattle.deno_graph_json.proofs.read.read_two.Goals.{in_default-2-via-in_default}

pub returns-in-Some-Some-None : goal.returns-in-Some-Some-None
returns-in-Some-Some-None c =
    let first = elements_next c.in-Array.values c.next-first.new.self _ c.next-first.ensures.steps in
    let second = elements_next c.next-first.new.self c.next-second.new.self _ c.next-second.ensures.steps in
    let third = elements_next c.next-second.new.self c.next.new.self _ c.next.ensures.steps in
    let here = c.in-Some-Some-None in
    rw (c.in-Array.ensures.json, first, here.is-0, second, here.is-1, third, here.is-2) (record {
      pair = refl;
      first = refl;
      second = refl;
    })

pub returns-in_default-2-clause-pair : goal.returns-in_default-2-clause-pair
returns-in_default-2-clause-pair c =
    let first = elements_next c.in-Array.values c.next-first.new.self _ c.next-first.ensures.steps in
    let second = elements_next c.next-first.new.self c.next-second.new.self _ c.next-second.ensures.steps in
    let third = elements_next c.next-second.new.self c.next.new.self _ c.next.ensures.steps in
    let whole = c.in-Array.ensures.json in
    let none : pair_in (data_of c.args.value) ≡ None = elim c.in_default-2.branch [
      | in_default-2-via-in-Some+in-Some+in_default w ↦ rw
          (whole, first, w.in_default-2.is-0, second, w.in_default-2.is-1, third, w.in_default-2.is-2) refl
      | in_default-2-via-in-Some+in_default w ↦ rw
          (whole, first, w.in_default-2.is-0, second, w.in_default-2.is-1) refl
      | in_default-2-via-in_default w ↦ rw (whole, first, w.in_default-2.is-0) refl
    ] in
    rw c.expected-in_default-2.ensures (tt, none, none)
