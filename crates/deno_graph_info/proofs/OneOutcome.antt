-- A value is converted to at most one value, and to none if a column overflows.
use Rattle.std.proofs.Common.{◌≡◌, ℕ, List, Option, Some, None, codes, arith, inl, inr, refl, sym, ap, subst}
use Rattle.std.proofs.Common.{◌∙◌}
use Rattle.serde_json.specs.Data.{Data, array, Items, no_items, item}
use Rattle.deno_graph_info.specs.declared.analysis.specifier_with_range.SpecifierWithRange.{SpecifierWithRange}
use Rattle.deno_graph_pragmas.specs.Finders.{deno_types_pattern, quoteless_deno_types_pattern}
use Rattle.deno_graph_pragmas.specs.Split.{TextPart, HasOnePart}
use Rattle.deno_graph_info.specs.Conversion.{with_value_at, without_value_at, with_types, comments_in}
use Rattle.deno_graph_info.specs.Conversion.{dependencies_in, IsConvertedDependency, DependencyOverflows}
use Rattle.deno_graph_info.specs.Conversion.{AreConverted, IsConverted, AnyOverflows, Overflows}
use Rattle.deno_graph_info.specs.Types.{NamesTypesAt, LastNames, AreTypes, HasNoColumn, types_in, end_column}
use Rattle.deno_graph_info.specs.declared.conversion.comment.Comment.{Comment}

module _ (quoted : HasOnePart deno_types_pattern) (bare : HasOnePart quoteless_deno_types_pattern) where
  one_part : (text : List ℕ) (one other : TextPart) → NamesTypesAt text one → NamesTypesAt text other
      → one ≡ other
  one_part text one other (inl a) (inl b) = quoted text one other a b
  one_part text one other (inl a) (inr b) = absurd (b.0 a.split)
  one_part text one other (inr a) (inl b) = absurd (a.0 b.split)
  one_part text one other (inr a) (inr b) = bare text one other a.1 b.1

  one_comment : (comments : List Comment) (one other : Comment) (p q : TextPart) → LastNames comments one p
      → LastNames comments other q → one ≡ other
  one_comment comments one other p q a b = let same : Some one ≡ Some other = sym a.last ∙ b.last in cc

  same_part : (comments : List Comment) (one other : Comment) (p q : TextPart) → LastNames comments one p
      → LastNames comments other q → p ≡ q
  same_part comments one other p q a b =
      let same = one_comment comments one other p q a b in
      one_part other.text p q (subst (λ (c : Comment). NamesTypesAt c.text p) same a.names) b.names

  one_types : (comments : List Comment) (one other : Option SpecifierWithRange) → AreTypes comments one
      → AreTypes comments other → one ≡ other
  one_types comments None None a b = refl
  one_types comments None (Some t) a b = absurd (a b.0 b.1 b.2)
  one_types comments (Some s) None a b = absurd (b a.0 a.1 a.2)
  one_types comments (Some s) (Some t) a b =
      let comment = one_comment comments a.0 b.0 a.1 b.1 a.2 b.2 in
      let part = same_part comments a.0 b.0 a.1 b.1 a.2 b.2 in
      ap Some (a.4 ∙ (λ i. types_in (comment i) (part i)) ∙ sym b.4)

  column_or_none : (comments : List Comment) (types : Option SpecifierWithRange) → AreTypes comments types
      → HasNoColumn comments → ⊥
  column_or_none comments None a b = a b.0 b.1 b.2
  column_or_none comments (Some s) a b =
      let same : end_column a.0 a.1 ≡ end_column b.0 b.1 =
      λ i. end_column (one_comment comments a.0 b.0 a.1 b.1 a.2 b.2 i)
      (same_part comments a.0 b.0 a.1 b.1 a.2 b.2 i) in
      absurd (omega (arith, a.3, b.3, same))

  -- ---- a dependency

  one_dependency_at : (d one other : Data) (found : Option (List Comment)) → comments_in d ≡ found
      → IsConvertedDependency d one → IsConvertedDependency d other → one ≡ other
  one_dependency_at d one other None is a b =
      let p : one ≡ d = rw is at a in let q : other ≡ d = rw is at b in p ∙ sym q
  one_dependency_at d one other (Some comments) is a b =
      let p : (types : Option SpecifierWithRange) × AreTypes comments types
      × (one ≡ without_value_at (codes "leadingComments") (with_types types d)) = rw is at a in
      let q : (types : Option SpecifierWithRange) × AreTypes comments types
      × (other ≡ without_value_at (codes "leadingComments") (with_types types d)) = rw is at b in
      p.2 ∙ ap (λ types. without_value_at (codes "leadingComments") (with_types types d))
      (one_types comments p.0 q.0 p.1 q.1) ∙ sym q.2

  no_dependency_at : (d one : Data) (found : Option (List Comment)) → comments_in d ≡ found
      → IsConvertedDependency d one → DependencyOverflows d → ⊥
  no_dependency_at d one None is a b = let q : ⊥ = rw is at b in q
  no_dependency_at d one (Some comments) is a b =
      let p : (types : Option SpecifierWithRange) × AreTypes comments types
      × (one ≡ without_value_at (codes "leadingComments") (with_types types d)) = rw is at a in
      let q : HasNoColumn comments = rw is at b in
      column_or_none comments p.0 p.1 q

  -- a dependency whose comments name types that fit, or none, doesn't overflow
  pub typed_fits : (d : Data) (comments : List Comment) (types : Option SpecifierWithRange)
      → comments_in d ≡ Some comments → AreTypes comments types → ¬ DependencyOverflows d
  typed_fits d comments types is are h =
      let q : HasNoColumn comments = rw is at h in column_or_none comments types are q

  -- ---- each dependency

  one_each : (ds es fs : Items) → AreConverted ds es → AreConverted ds fs → es ≡ fs
  one_each no_items no_items no_items a b = refl
  one_each no_items no_items (item f fs) a b = absurd b
  one_each no_items (item e es) fs a b = absurd a
  one_each (item d ds) no_items fs a b = absurd a
  one_each (item d ds) (item e es) no_items a b = absurd b
  one_each (item d ds) (item e es) (item f fs) a b =
      let head = one_dependency_at d e f (comments_in d) refl a.0 b.0 in
      let rest = one_each ds es fs a.1 b.1 in
      λ i. item (head i) (rest i)

  no_each : (ds es : Items) → AreConverted ds es → AnyOverflows ds → ⊥
  no_each no_items es a b = b
  no_each (item d ds) no_items a b = absurd a
  no_each (item d ds) (item e es) a (inl h) = no_dependency_at d e (comments_in d) refl a.0 h
  no_each (item d ds) (item e es) a (inr h) = no_each ds es a.1 h

  -- ---- all dependencies

  one_at : (v one other : Data) (found : Option Items) → dependencies_in v ≡ found → IsConverted v one
      → IsConverted v other → one ≡ other
  one_at v one other None is a b = let p : one ≡ v = rw is at a in let q : other ≡ v = rw is at b in p ∙ sym q
  one_at v one other (Some old) is a b =
      let p : (new : Items) × AreConverted old new
      × (one ≡ with_value_at (codes "dependencies") (array new) v) = rw is at a in
      let q : (new : Items) × AreConverted old new
      × (other ≡ with_value_at (codes "dependencies") (array new) v) = rw is at b in
      p.2 ∙ ap (λ new. with_value_at (codes "dependencies") (array new) v) (one_each old p.0 q.0 p.1 q.1)
      ∙ sym q.2

  none_at : (v one : Data) (found : Option Items) → dependencies_in v ≡ found → IsConverted v one
      → Overflows v → ⊥
  none_at v one None is a b = let q : ⊥ = rw is at b in q
  none_at v one (Some old) is a b =
      let p : (new : Items) × AreConverted old new
      × (one ≡ with_value_at (codes "dependencies") (array new) v) = rw is at a in
      let q : AnyOverflows old = rw is at b in
      no_each old p.0 p.1 q

  -- a value is converted to at most one value
  pub converted_once : (v one other : Data) → IsConverted v one → IsConverted v other → one ≡ other
  converted_once v one other a b = one_at v one other (dependencies_in v) refl a b

  -- a value isn't converted if a column overflows
  pub converted_or_overflows : (v one : Data) → IsConverted v one → ¬ Overflows v
  converted_or_overflows v one a b = none_at v one (dependencies_in v) refl a b
