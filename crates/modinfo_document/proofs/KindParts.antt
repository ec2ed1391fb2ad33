-- What it is that the members of a node have the literal and the arguments of its kind.
use Rattle.std.proofs.Common.{◌≡◌, ℕ, List, [], ◌∷◌, codes, bytes_eq, Bool, true, false, cond, Option, Some}
use Rattle.std.proofs.Common.{None, slice_get, refl, sym, ap, subst, ◌∙◌}
use Rattle.std.specs.List.{AllByRecursion}
use Rattle.std.proofs.lemmas.Option.{none-some, same_Some}
use Rattle.serde_json.specs.Data.{Data, null, boolean, number, string, array, object, Members}
use Rattle.serde_json.specs.Find.{as_array, get_item, get_member}
use Rattle.deno_graph_json.specs.Read.Partial.{◌>>=◌, member_at, member_or, read_or, reads_array, reads_items}
use Rattle.deno_graph_json.specs.Read.Partial.{reads_optional}
use Rattle.deno_graph_source.specs.Node.{args_of, literal_of}
use Rattle.deno_graph_source.specs.declared.tree.node.Arg.{Arg}
use Rattle.deno_graph_source.specs.declared.tree.node.Kind.{Kind}
use Rattle.deno_graph_source.specs.declared.tree.node.StrLit.{StrLit}
use Rattle.modinfo_document.specs.Kind.{literal_member}
use Rattle.modinfo_document.specs.KindParts.{reads_arg}
use Rattle.modinfo_document.specs.Literal.{reads_literal}
use Rattle.modinfo_document.specs.Named.{named}
use Rattle.modinfo_document.proofs.NodeLookup.{items_from, member_read, read_from, step}

-- The members of a node have the literal of its kind, and its arguments.
pub record HasParts (members : Members) (kind : Kind) : Type 0 where
  pub literal : (held : StrLit) → literal_of kind ≡ Some held
      → (d : Data) × (get_member (literal_member kind) members ≡ Some d) × (reads_literal d ≡ Some held)
  pub args : (n : ℕ) (arg : Arg) → slice_get (args_of kind) n ≡ Some arg
      → (d : Data) × (get_member (codes "args") members ≡ Some d)
      × ((as_array d >>= get_item n >>= reads_arg) ≡ Some arg)

-- A kind with neither.
pub has_none : (members : Members) (made kind : Kind) → literal_of made ≡ None → args_of made ≡ []
    → Some made ≡ Some kind
    → HasParts members kind
has_none members made kind no_literal no_args is =
    subst (HasParts members) (same_Some made kind is) (record {
      literal = λ held there. absurd (none-some held (sym no_literal ∙ there));
      args = λ n arg there. absurd (none-some arg (sym (ap (λ xs. slice_get xs n) no_args) ∙ there));
    })

-- A kind with a literal that is required.
pub has_literal : (members : Members) (made kind : Kind) (held : StrLit) → literal_of made ≡ Some held
    → args_of made ≡ []
    → member_at reads_literal (literal_member made) members ≡ Some held → Some made ≡ Some kind
    → HasParts members kind
has_literal members made kind held is_held no_args read is =
    subst (HasParts members) (same_Some made kind is) (record {
      literal = λ other there.
          let found = member_read reads_literal (literal_member made) members held read in (
            found.0,
            found.1,
            found.2 ∙ sym is_held ∙ there,
          );
      args = λ n arg there. absurd (none-some arg (sym (ap (λ xs. slice_get xs n) no_args) ∙ there));
    })

-- A literal that may be null.
same_literal : (d : Data) (held : StrLit) → (reads_literal d >>= (λ x. Some (Some x))) ≡ Some (Some held)
    → reads_literal d ≡ Some held
same_literal d held is =
    let found = step (reads_literal d) (λ x. Some (Some x)) (Some held) is in
    found.1 ∙ same_Some (Some found.0) (Some held) found.2

some_literal : (d : Data) (held : StrLit) → reads_optional reads_literal d ≡ Some (Some held)
    → reads_literal d ≡ Some held
unfolding reads_optional
some_literal null held is = absurd (none-some held (same_Some _ _ is))
some_literal (boolean b) held is = same_literal (boolean b) held is
some_literal (number n) held is = same_literal (number n) held is
some_literal (string s) held is = same_literal (string s) held is
some_literal (array ds) held is = same_literal (array ds) held is
some_literal (object ms) held is = same_literal (object ms) held is

-- A literal that may be missing.
there_literal : (found : Option Data) (held : StrLit)
    → read_or (reads_optional reads_literal) None found ≡ Some (Some held)
    → (d : Data) × (found ≡ Some d) × (reads_literal d ≡ Some held)
there_literal None held is = absurd (none-some held (same_Some _ _ is))
there_literal (Some d) held is = (d, refl, some_literal d held is)

-- A kind with a literal that may be missing.
pub has_optional : (members : Members) (made kind : Kind) (literal : Option StrLit)
    → literal_of made ≡ literal → args_of made ≡ []
    → member_or (reads_optional reads_literal) (literal_member made) None members ≡ Some literal
    → Some made ≡ Some kind
    → HasParts members kind
unfolding member_or
has_optional members made kind literal is_literal no_args read is =
    subst (HasParts members) (same_Some made kind is) (record {
      literal = λ held there. there_literal (get_member (literal_member made) members) held
          (read ∙ ap Some (sym is_literal ∙ there));
      args = λ n arg there. absurd (none-some arg (sym (ap (λ xs. slice_get xs n) no_args) ∙ there));
    })

-- A kind with arguments.
pub has_args : (members : Members) (made kind : Kind) (args : List Arg) → literal_of made ≡ None
    → args_of made ≡ args
    → member_at (reads_array reads_arg) (codes "args") members ≡ Some args → Some made ≡ Some kind
    → HasParts members kind
unfolding reads_array
has_args members made kind args no_literal is_args read is =
    let found = member_read (reads_array reads_arg) (codes "args") members args read in
    let listed = step (as_array found.0) (reads_items reads_arg) args found.2 in
    subst (HasParts members) (same_Some made kind is) (record {
      literal = λ held there. absurd (none-some held (sym no_literal ∙ there));
      args = λ n arg there. (
        found.0,
        found.1,
        ap (λ o. o >>= get_item n >>= reads_arg) listed.1
            ∙ read_from reads_arg (get_item n listed.0) (slice_get args n)
            (items_from reads_arg listed.0 args listed.2 n)
            ∙ ap (λ xs. slice_get xs n) (sym is_args) ∙ there,
      );
    })

module _ (members : Members) (kind : Kind) where
  -- A name of a table has the property that all of the table have.
  pub one_of : (table : List (List ℕ × Option Kind)) (name : List ℕ) (reading : Option Kind)
      → AllByRecursion (λ entry. entry.1 ≡ Some kind → HasParts members kind) table
      → named table name ≡ Some reading
      → reading ≡ Some kind → HasParts members kind
  unfolding named
  one_of [] name reading all found = absurd (none-some reading found)
  one_of ((key, first) ∷ table) name reading (here, others) found =
      by (bytes_eq name key) found (one_of table name reading others)
    where
      by : (b : Bool) → cond b (Some first) (named table name) ≡ Some reading
          → (named table name ≡ Some reading → reading ≡ Some kind → HasParts members kind)
          → reading ≡ Some kind → HasParts members kind
      by true is later read = here (same_Some first reading is ∙ read)
      by false is later read = later is read
