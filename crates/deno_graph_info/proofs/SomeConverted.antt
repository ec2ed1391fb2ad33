-- Every value is converted, or a column of it overflows.
use Rattle.std.proofs.Common.{◌≡◌, ◌⊎◌, inl, inr, ⊎_elim, ◌-◌, ◌^◌, ℕ, List, length, codes, Option, Some}
use Rattle.std.proofs.Common.{None, slice_get, refl, sym, subst, ◌∙◌}
use Rattle.std.specs.Prelude.{MatchOption}
use Rattle.std.proofs.lemmas.Bool.{cases_lt}
use Rattle.std.proofs.lemmas.Option.{none-some, same_Some}
use Rattle.serde_json.specs.Data.{Data, array, Items, no_items, item}
use Rattle.deno_graph_pragmas.specs.Finders.{deno_types_pattern, quoteless_deno_types_pattern}
use Rattle.deno_graph_pragmas.specs.Split.{TextPart, HasSplit, IsCaptured}
use Rattle.deno_graph_pragmas.proofs.SomeSplit.{some_part}
use Rattle.deno_graph_info.specs.declared.analysis.specifier_with_range.SpecifierWithRange.{SpecifierWithRange}
use Rattle.deno_graph_info.specs.Conversion.{comments_in, dependencies_in, with_value_at, with_types}
use Rattle.deno_graph_info.specs.Conversion.{without_value_at, AnyOverflows, AreConverted}
use Rattle.deno_graph_info.specs.Conversion.{DependencyOverflows, IsConverted, IsConvertedDependency}
use Rattle.deno_graph_info.specs.Conversion.{Overflows}
use Rattle.deno_graph_info.specs.Types.{end_column, types_in, AreTypes, HasNoColumn, LastNames, NamesTypesAt}
use Rattle.deno_graph_info.specs.declared.conversion.comment.Comment.{Comment}

-- the types that a text names, if any
named_at : (text : List ℕ)
    → ((part : TextPart) × NamesTypesAt text part) ⊎ ((part : TextPart) → NamesTypesAt text part → ⊥)
named_at text = by_quotes (some_part deno_types_pattern text)
  where
    by_quotes : ((part : TextPart) × IsCaptured deno_types_pattern text part)
        ⊎ (HasSplit deno_types_pattern text → ⊥)
        → ((part : TextPart) × NamesTypesAt text part) ⊎ ((part : TextPart) → NamesTypesAt text part → ⊥)
    by_quotes (inl part) = inl (part.0, inl part.1)
    by_quotes (inr no_quotes) =
        ⊎_elim (λ part. inl (part.0, inr (no_quotes, part.1)))
        (λ none. inr (λ part names. ⊎_elim (λ is. no_quotes is.split) (λ is. none is.1.split) names))
        (some_part quoteless_deno_types_pattern text)

module _ (comments : List Comment) where
  types_of_last : (last : Option Comment) → slice_get comments (length comments - 1) ≡ last
      → ((types : Option SpecifierWithRange) × AreTypes comments types) ⊎ HasNoColumn comments
  types_of_last None is = inl (None, λ comment part names. none-some comment (sym is ∙ names.last))
  types_of_last (Some comment) is = by (named_at comment.text)
    where
      by : ((part : TextPart) × NamesTypesAt comment.text part)
          ⊎ ((part : TextPart) → NamesTypesAt comment.text part → ⊥)
          → ((types : Option SpecifierWithRange) × AreTypes comments types) ⊎ HasNoColumn comments
      by (inl (part, names)) =
          let last : LastNames comments comment part = record { last = is; names = names } in
          ⊎_elim (λ fits. inl (Some (types_in comment part), (comment, part, last, fits, refl)))
          (λ above. inr (comment, part, last, above)) (cases_lt (end_column comment part) (2 ^ 64))
      by (inr none) = inl (
        None,
        λ other part names.
            let same : other ≡ comment = same_Some other comment (sym names.last ∙ is) in
            none part (subst (λ (c : Comment). NamesTypesAt c.text part) same names.names),
      )

  some_types : ((types : Option SpecifierWithRange) × AreTypes comments types) ⊎ HasNoColumn comments
  some_types = types_of_last (slice_get comments (length comments - 1)) refl

-- a dependency
some_dependency : (d : Data) → ((after : Data) × IsConvertedDependency d after) ⊎ DependencyOverflows d
some_dependency d = by (comments_in d)
  where
    by : (o : Option (List Comment))
        → ((after : Data) × MatchOption o (after ≡ d)
        (λ comments. (types : Option SpecifierWithRange) × AreTypes comments types
        × (after ≡ without_value_at (codes "leadingComments") (with_types types d))))
        ⊎ MatchOption o ⊥ HasNoColumn
    by None = inl (d, refl)
    by (Some comments) =
        ⊎_elim (λ types. inl (
          without_value_at (codes "leadingComments") (with_types types.0 d),
          (types.0, types.1, refl),
        ))
        inr (some_types comments)

-- each dependency
some_items : (ds : Items) → ((es : Items) × AreConverted ds es) ⊎ AnyOverflows ds
some_items no_items = inl (no_items, tt)
some_items (item d ds) = by (some_dependency d) (some_items ds)
  where
    by : ((after : Data) × IsConvertedDependency d after) ⊎ DependencyOverflows d
        → ((es : Items) × AreConverted ds es) ⊎ AnyOverflows ds
        → ((es : Items) × AreConverted (item d ds) es) ⊎ AnyOverflows (item d ds)
    by (inl first) (inl rest) = inl (item first.0 rest.0, (first.1, rest.1))
    by (inl first) (inr over) = inr (inr over)
    by (inr over) rest = inr (inl over)

pub some_converted : (value : Data) → ((after : Data) × IsConverted value after) ⊎ Overflows value
some_converted value = by (dependencies_in value)
  where
    by : (o : Option Items)
        → ((after : Data) × MatchOption o (after ≡ value)
        (λ old. (new : Items) × AreConverted old new
        × (after ≡ with_value_at (codes "dependencies") (array new) value)))
        ⊎ MatchOption o ⊥ AnyOverflows
    by None = inl (value, refl)
    by (Some old) =
        ⊎_elim (λ new. inl (with_value_at (codes "dependencies") (array new.0) value, (new.0, new.1, refl)))
        inr (some_items old)
