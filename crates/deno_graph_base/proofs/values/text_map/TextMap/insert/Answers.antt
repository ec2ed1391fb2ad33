-- An insertion by strings makes the same entries as one by their bytes.
use Rattle.std.proofs.Common.{◌∙◌, ap, map, sym, Some, cond}
use Rattle.std.specs.Str.{bytes_eq}
use Rattle.std.proofs.lemmas.Map.Text.{btree_map_updates_text}
use Rattle.std.specs.String.{string_bytes}
use Rattle.deno_graph_base.specs.TextMap.{value_at, insert_entry, entry_of}
use Rattle.deno_graph_base.proofs.TextEntries.{lookup-entries, map-inserted, IsAscending-entries}
use Rattle.deno_graph_base.proofs.values.text_map.TextMap.insert.Goals as goal

pub returns-clause-ok : goal.returns-clause-ok
returns-clause-ok g c =
    ap (map entry_of) c.in_ok-insert.ensures.entries
    ∙ map-inserted c.self.inside.map.entries c.into_string.result c.args.value
    ∙ (λ i. insert_entry (c.self.view_is i) (c.into_string.ensures i) c.args.value)

pub returns-clause-ordered : goal.returns-clause-ordered
returns-clause-ordered g c = IsAscending-entries c.insert.new.self.entries c.in_ok-insert.ensures.ordered

pub returns-in_err-insert-clause-ordered : goal.returns-in_err-insert-clause-ordered
returns-in_err-insert-clause-ordered g c =
    IsAscending-entries c.insert.new.self.entries c.in_err-insert.ensures.ordered

pub returns-clause-replaced : goal.returns-clause-replaced
returns-clause-replaced g c =
    c.in_ok-insert.ensures.old
    ∙ lookup-entries (string_bytes c.into_string.result) c.self.inside.map.entries
    ∙ (λ i. value_at (c.self.view_is i) (c.into_string.ensures i))

pub returns-clause-values : goal.returns-clause-values
returns-clause-values g c = λ other.
    let old = c.self.inside.map in
    let new = c.insert.new.self in
    let key = string_bytes c.into_string.result in
    sym (lookup-entries other new.entries)
    ∙ btree_map_updates_text key old new (Some c.args.value) c.in_ok-insert.ensures.updates other
    ∙ ap (λ found. cond (bytes_eq key other) (Some c.args.value) found) (lookup-entries other old.entries)
    ∙ (λ i. cond (bytes_eq (c.into_string.ensures i) other) (Some c.args.value)
    (value_at (c.self.view_is i) other))
