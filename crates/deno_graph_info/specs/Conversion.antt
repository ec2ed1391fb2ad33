-- The conversion from version 1 to version 2, as a relation of a value and the converted value.
use Rattle.std.specs.Prelude.{◌≡◌, ◌⊎◌, ℕ, List, bytes_eq, codes, Option, Some, None, true, false}
use Rattle.std.specs.Prelude.{MatchOption, if◌then◌else◌}
use Rattle.serde_json.specs.Data.{Data, null, boolean, number, string, array, object, Items, no_items, item}
use Rattle.serde_json.specs.Data.{Members, no_members, member, put}
use Rattle.serde_json.specs.Find.{as_array, as_object}
use Rattle.serde_json.specs.Written.{has_float}
use Rattle.deno_graph_json.specs.Read.Partial.{◌>>=◌, member_at, reads_array}
use Rattle.deno_graph_info.specs.Json.SpecifierWithRange.{json_of_specifier}
use Rattle.deno_graph_info.specs.declared.analysis.specifier_with_range.SpecifierWithRange.{SpecifierWithRange}
use Rattle.deno_graph_info.specs.Comment.{reads_stored_comment}
use Rattle.deno_graph_info.specs.Types.{AreTypes, HasNoColumn}
use Rattle.deno_graph_info.specs.declared.conversion.comment.Comment.{Comment}
use Rattle.deno_graph_info.specs.declared.conversion.fault.ConvertFault.{ConvertFault}
use Rattle.deno_graph_info.specs.declared.conversion.fault.ConvertFault.TheVariants.{ColumnOverflow, Float}
use Rattle.deno_graph_info.specs.declared.conversion.fault.ConvertFault.TheVariants.{OutOfMemory}

-- ---- members of an object

-- an object with d at the key
abbrev pub with_value_at : List ℕ → Data → Data → Data
with_value_at key d null = null
with_value_at key d (boolean b) = boolean b
with_value_at key d (number n) = number n
with_value_at key d (string s) = string s
with_value_at key d (array ds) = array ds
with_value_at key d (object ms) = object (put key d ms)

-- the members except those with the key
abbrev pub without : List ℕ → Members → Members
without key no_members = no_members
without key (member k d ms) = if bytes_eq key k then without key ms else member k d (without key ms)

-- an object with nothing at the key
abbrev pub without_value_at : List ℕ → Data → Data
without_value_at key null = null
without_value_at key (boolean b) = boolean b
without_value_at key (number n) = number n
without_value_at key (string s) = string s
without_value_at key (array ds) = array ds
without_value_at key (object ms) = object (without key ms)

-- ---- a dependency

-- the leading comments of a dependency, if they are an array of readable comments
unfoldable pub comments_in : Data → Option (List Comment)
comments_in d = do
  ms ← as_object d
  member_at (reads_array reads_stored_comment) (codes "leadingComments") ms

-- a dependency with the types, if there are any
abbrev pub with_types : Option SpecifierWithRange → Data → Data
with_types None d = d
with_types (Some types) d = with_value_at (codes "typesSpecifier") (json_of_specifier types) d

-- A dependency with readable comments has the types that they name, and no comments. Any other is unchanged.
abbrev pub IsConvertedDependency : Data → Data → Type 0
IsConvertedDependency d after =
    MatchOption (comments_in d) (after ≡ d)
    (λ comments. (types : Option SpecifierWithRange) × AreTypes comments types
    × (after ≡ without_value_at (codes "leadingComments") (with_types types d)))

-- the last comment of the dependency names types that end beyond the largest column
abbrev pub DependencyOverflows : Data → Type 0
DependencyOverflows d = MatchOption (comments_in d) ⊥ HasNoColumn

-- ---- all dependencies

-- the array `dependencies` of an object
unfoldable pub dependencies_in : Data → Option Items
dependencies_in d = do
  ms ← as_object d
  member_at as_array (codes "dependencies") ms

-- each dependency is converted
abbrev pub AreConverted : Items → Items → Type 0
AreConverted no_items no_items = Unit {0}
AreConverted no_items (item e es) = ⊥
AreConverted (item d ds) no_items = ⊥
AreConverted (item d ds) (item e es) = IsConvertedDependency d e × AreConverted ds es

-- In an object with dependencies each of them is converted. Any other value is unchanged.
abbrev pub IsConverted : Data → Data → Type 0
IsConverted v after =
    MatchOption (dependencies_in v) (after ≡ v)
    (λ old. (new : Items) × AreConverted old new
    × (after ≡ with_value_at (codes "dependencies") (array new) v))

-- some dependency overflows
abbrev pub AnyOverflows : Items → Type 0
AnyOverflows no_items = ⊥
AnyOverflows (item d ds) = DependencyOverflows d ⊎ AnyOverflows ds

abbrev pub Overflows : Data → Type 0
Overflows v = MatchOption (dependencies_in v) ⊥ AnyOverflows

-- why the value can't be converted: it has a float; it has no float, and a column overflows; or it has no
-- float, and an allocation failed
abbrev pub IsConvertFault : Data → ConvertFault → Type 0
IsConvertFault d ColumnOverflow = (has_float d ≡ false) × Overflows d
IsConvertFault d Float = has_float d ≡ true
IsConvertFault d OutOfMemory = has_float d ≡ false
