-- The claims of the attributes so far.
use Rattle.std.proofs.Common.{◌≡◌, ◌++◌, take}
use Rattle.std.specs.List.{flat_map}
use Rattle.modinfo_imports.specs.Attributes.{key_claims}
use Rattle.modinfo_imports.proofs.attributes.claim_keys.Given as goal

abbrev pub invariant-loop-entry : goal.invariant-loop-entry
invariant-loop-entry l =
    l.claims.items ≡ l.fn.claims.items ++ flat_map (key_claims l.text) (take l.entry-index l.entries)
