-- What is expected of a value, and which values aren't as expected.
use Rattle.std.specs.Prelude.{◌≡◌, ℕ, ◌+◌, ◌≤◌, ◌^◌, List, [], ◌∷◌, ◌++◌, ◌==◌, ◌||◌, codes, Bool, false}
use Rattle.std.specs.Prelude.{true, Option, option_map, unwrap_or, Some, None, IsSome, IsSomeAnd, is_some}
use Rattle.std.specs.Prelude.{if◌then◌else◌, bytes_eq}
use Rattle.std.specs.List.{AllByRecursion}
use Rattle.serde_json.specs.Data.{Data, Members}
use Rattle.serde_json.specs.Events.{members_len}
use Rattle.serde_json.specs.Find.{as_array, as_bool, as_null, as_number, as_object, as_str, get_member}
use Rattle.serde_json.specs.Find.{is_float}
use Rattle.deno_graph_json.specs.Read.Names.{names_in, words_of_list}
use Rattle.deno_graph_json.specs.Read.Partial.{as_usize, pair_in, reads_pair}
use Rattle.deno_graph_json.specs.declared.expected.Expected.{Expected}
use Rattle.deno_graph_json.specs.declared.expected.Expected.TheVariants as expected
use Rattle.deno_graph_json.specs.declared.expected.Pair.{Pair}
use Rattle.deno_graph_json.specs.declared.expected.Pair.TheVariants as pair
use Rattle.deno_graph_json.specs.declared.names.NameList.{NameList}

-- the value is a string, and no name of the list
abbrev pub IsNoNameIn : NameList → Data → Type 0
IsNoNameIn list value =
    IsSomeAnd (as_str value) (λ text. AllByRecursion (λ name. bytes_eq text name ≡ false) (names_in list))

-- the value is an object, and has no member of this name
abbrev pub LacksMember : List ℕ → Data → Type 0
LacksMember name value = IsSomeAnd (as_object value) (λ members. get_member name members ≡ None)

-- the value, if a whole number, is no unit of UTF-16
abbrev pub IsNoUnit : Data → Type 0
IsNoUnit value = (n : ℕ) → as_usize value ≡ Some n → 65536 ≤ n

-- the value is a whole number that is too large for a column: 2^62 or more
abbrev pub IsLargeColumn : Data → Type 0
IsLargeColumn value = IsSomeAnd (as_usize value) (λ n. 2 ^ 62 ≤ n)

-- how many of the names are those of members
abbrev pub name_count : List (List ℕ) → Members → ℕ
name_count [] ms = 0
name_count (name ∷ names) ms = (if is_some (get_member name ms) then 1 else 0) + name_count names ms

-- whether there is a value, and the test holds for it
abbrev holds_for : {A : Type 0} → (A → Bool) → Option A → Bool
holds_for test found = unwrap_or (option_map test found) false

-- whether the value is this string
abbrev pub is_text : List ℕ → Data → Bool
is_text text value = holds_for (λ found. bytes_eq found text) (as_str value)

-- whether the value is a string or an array
abbrev pub is_string_or_array : Data → Bool
is_string_or_array value = is_some (as_str value) || is_some (as_array value)

-- whether the value is an object with exactly one member
abbrev pub has_one_member : Data → Bool
has_one_member value = holds_for (λ ms. members_len ms == 1) (as_object value)

-- whether the value is an object with exactly one of two members
abbrev pub has_one_of : List ℕ → List ℕ → Data → Bool
has_one_of first second value =
    holds_for (λ ms. name_count (first ∷ second ∷ []) ms == 1) (as_object value)

-- the value isn't as expected
abbrev pub IsNot : Expected → Data → Type 0
IsNot expected.Bool value = as_bool value ≡ None
IsNot expected.Whole value = as_usize value ≡ None
IsNot expected.Integer value = IsSomeAnd (as_number value) (λ n. is_float n ≡ true)
IsNot expected.Unit value = IsNoUnit value
IsNot expected.String value = as_str value ≡ None
IsNot expected.Array value = as_array value ≡ None
IsNot expected.Object value = as_object value ≡ None
IsNot (expected.Member name) value = LacksMember name.now value
IsNot (expected.NameIn list) value = IsNoNameIn list value
IsNot (expected.Pair _) value = pair_in value ≡ None
IsNot expected.Offsets value = reads_pair as_usize value ≡ None
IsNot expected.Attribute value = (as_str value ≡ None) × (as_null value ≡ None)
IsNot expected.Attributes value = (is_text (codes "none") value ≡ false)
    × (is_text (codes "unknown") value ≡ false) × (has_one_member value ≡ false)
IsNot expected.Argument value = (is_string_or_array value ≡ false) × (as_null value ≡ None)
IsNot expected.JsString value = is_string_or_array value ≡ false
IsNot expected.Key value = (is_text (codes "other") value ≡ false)
    × (has_one_of (codes "str") (codes "ident") value ≡ false)
IsNot expected.SpelledValue value = is_string_or_array value ≡ true
IsNot expected.Column value = IsLargeColumn value

-- The value has the type of the values that can be as expected, where others are no mismatch. Which value a
-- source spells isn't known here.
abbrev pub HasType : Expected → Data → Type 0
HasType expected.Integer value = IsSome (as_number value)
HasType (expected.Member name) value = IsSome (as_object value)
HasType (expected.NameIn list) value = IsSome (as_str value)
HasType expected.Column value = IsSome (as_usize value)
HasType expected value = Unit {0}

-- some value of the type is as expected
abbrev pub IsPossible : Expected → Type 0
IsPossible expected = (value : Data) × HasType expected value × (IsNot expected value → ⊥)

-- what the items of an array of two are, in words
abbrev pub pair_words : Pair → List ℕ
pair_words pair.Position = codes "two whole numbers, [line,character]"
pair_words pair.PositionRange = codes "two positions, [start,end]"

-- what is expected, in words
abbrev pub words : Expected → List ℕ
words expected.Bool = codes "true or false"
words expected.Whole = codes "a whole number from 0 to 18446744073709551615"
words expected.Integer = codes "a whole number, written without a point or an exponent"
words expected.Unit = codes "a whole number below 65536"
words expected.String = codes "a string"
words expected.Array = codes "an array"
words expected.Object = codes "an object"
words (expected.Member name) = codes "a member `" ++ name.now ++ codes "`"
words (expected.NameIn list) = words_of_list list
words (expected.Pair items) = pair_words items
words expected.Offsets = codes "two whole numbers, [start,end]"
words expected.Attribute = codes "a string or null"
words expected.Attributes = codes "none, unknown, or an object with the one member known"
words expected.Argument = codes "a string, an array of parts or null"
words expected.JsString = codes "a string or an array of units of UTF-16"
words expected.Key = codes "\"other\", or an object with either `str` or `ident`"
words expected.SpelledValue = codes "the value that the source spells at the literal's range"
words expected.Column = codes "a column from which the types end below 2^64"
