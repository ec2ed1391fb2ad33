-- Members that are chosen by their names.
use Rattle.std.specs.Prelude.{ℕ, List, Bool, true, ◌&&◌, not, Option, Some, None, option_map, bytes_eq}
use Rattle.std.specs.Prelude.{if◌then◌else◌}
use Rattle.std.specs.Borrow.{Bor}
use Rattle.std.specs.Cmp.Lexicographic.{slice_cmp}
use Rattle.std.specs.Ordering.{nat_cmp, is_lt}
use Rattle.serde_json.specs.Data.{Members, no_members, member}
use Rattle.deno_graph_info.specs.declared.conversion.names.Names.{Names}

-- the names that a test takes: above one, below another, and not a third
pub record Test : Type 0 where
  pub above : Option (List ℕ)
  pub below : Option (List ℕ)
  pub except : Option (List ℕ)

abbrev pub text_of : Option (Bor (List ℕ)) → Option (List ℕ)
text_of = option_map (λ s. s.now)

abbrev pub test_of : Names → Test
test_of names =
    record { above = text_of names.above; below = text_of names.below; except = text_of names.except }

-- the name is above another, if there is one
abbrev pub is_above : Option (List ℕ) → List ℕ → Bool
is_above None name = true
is_above (Some least) name = is_lt (slice_cmp nat_cmp least name)

-- the name is below another, if there is one
abbrev pub is_below : Option (List ℕ) → List ℕ → Bool
is_below None name = true
is_below (Some most) name = is_lt (slice_cmp nat_cmp name most)

-- the name differs from another, if there is one
abbrev pub is_other : Option (List ℕ) → List ℕ → Bool
is_other None name = true
is_other (Some excepted) name = not (bytes_eq excepted name)

-- the name passes the test
abbrev pub passes : Test → List ℕ → Bool
passes test name = is_above test.above name && is_below test.below name && is_other test.except name

-- the members whose names have a property
abbrev pub members_where : (List ℕ → Bool) → Members → Members
members_where has no_members = no_members
members_where has (member k d ms) =
    if has k then member k d (members_where has ms) else members_where has ms

-- the members whose names pass the test
abbrev pub chosen : Test → Members → Members
chosen test = members_where (passes test)
