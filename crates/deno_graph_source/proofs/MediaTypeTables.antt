-- Steps of a look-up in a table.
use Rattle.std.proofs.Common.{◌≡◌, ◌≢◌, ℕ, ◌+◌, ◌<◌, List, map, length, get_or, drop, ap, ◌∙◌, Bor}
use Rattle.std.specs.Char.{to_ascii_lowercase}
use Rattle.std.proofs.lemmas.Bool.{cond-true, cond-false, false_from_ne_true}
use Rattle.std.proofs.lemmas.List.{drop_more}
use Rattle.std.proofs.lemmas.Slice.Eq.{bytes_eq-Decides}
use Rattle.deno_graph_source.specs.declared.tree.media_type.MediaType.{MediaType}
use Rattle.deno_graph_source.specs.MediaType.{in_table}
use Rattle.deno_graph_source.specs.internal.MediaType.{entries}

module _ (table : List (Bor (List ℕ) × MediaType)) (text : List ℕ) (k : ℕ) (d : Bor (List ℕ) × MediaType)
    (inside : k < length table) where
  -- the key at k is the text
  pub in_table_found : map to_ascii_lowercase text ≡ map to_ascii_lowercase (get_or table k d).0.now
      → in_table (entries (drop k table)) text ≡ (get_or table k d).1
  unfolding in_table
  in_table_found same =
      ap (λ rest. in_table (entries rest) text) (drop_more table k d inside)
      ∙ cond-true _ _ _ ((bytes_eq-Decides _ _).1 same)

  -- the key at k is another
  pub in_table_passed : map to_ascii_lowercase text ≢ map to_ascii_lowercase (get_or table k d).0.now
      → in_table (entries (drop k table)) text ≡ in_table (entries (drop (k + 1) table)) text
  unfolding in_table
  in_table_passed other =
      ap (λ rest. in_table (entries rest) text) (drop_more table k d inside)
      ∙ cond-false _ _ _ (false_from_ne_true _ (λ same. other ((bytes_eq-Decides _ _).0 same)))
