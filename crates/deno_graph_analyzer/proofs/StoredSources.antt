-- The sources of a map from strings, by the bytes of its keys.
use Rattle.std.proofs.Common.{◌≡◌, ℕ, Bool, true, false, cond, List, [], ◌∷◌, map, Some, None, String, refl}
use Rattle.std.proofs.Common.{sym, ap, ◌∙◌}
use Rattle.std.specs.BTreeMap.{BTreeMap, UpdatesBy, get_by_text}
use Rattle.std.specs.Cmp.{eq_by_cmp_equiv}
use Rattle.std.specs.Cmp.Lexicographic.{slice_cmp, nat_list_cmp_total}
use Rattle.std.specs.FinMap.{IsAntisymmetric, slice_cmp-IsAntisymmetric, nat_cmp-IsAntisymmetric, find}
use Rattle.std.specs.FinMap.{same_map, get-insert, get-remove, get-from_entries}
use Rattle.std.specs.Map.{lookup}
use Rattle.std.specs.Ordering.{nat_cmp, is_eq, eq_by_cmp}
use Rattle.std.specs.Str.{bytes_eq}
use Rattle.std.specs.String.{string_bytes, string_cmp}
use Rattle.std.proofs.lemmas.Slice.Eq.{bytes_eq-Decides}
use Rattle.std.proofs.lemmas.Map.Text.{is_eq-slice_cmp, btree_map_updates_text}
use Rattle.deno_graph_source.specs.ParsedSource.{ParsedModule}
use Rattle.deno_graph_base.specs.TextMap.{entry_of, entries_of}
use Rattle.deno_graph_analyzer.specs.Sources.{Sources, source_at, with_source, without_source}
use Rattle.deno_graph_analyzer.specs.internal.MapSources.{sources_of}

exact_texts : IsAntisymmetric (slice_cmp nat_cmp)
exact_texts = slice_cmp-IsAntisymmetric nat_cmp-IsAntisymmetric

-- sources that are equal at each specifier are equal
pub same_sources : (m n : Sources) → ((key : List ℕ) → source_at m key ≡ source_at n key) → m ≡ n
same_sources m n is = same_map nat_list_cmp_total exact_texts m n is

equal_either_way : (key other : List ℕ) → eq_by_cmp (slice_cmp nat_cmp) other key ≡ bytes_eq key other
equal_either_way key other = (eq_by_cmp_equiv nat_list_cmp_total).symm other key ∙ is_eq-slice_cmp key other

-- the source at each specifier after a change
pub source_at-with_source : (m : Sources) (key : List ℕ) (source : ParsedModule) (other : List ℕ)
    → source_at (with_source m key source) other ≡ cond (bytes_eq key other) (Some source) (source_at m other)
source_at-with_source m key source other = get-insert nat_list_cmp_total m key source other
    ∙ ap (λ b. cond b (Some source) (source_at m other)) (equal_either_way key other)

pub source_at-without : (m : Sources) (key other : List ℕ)
    → source_at (without_source m key) other ≡ cond (bytes_eq key other) None (source_at m other)
source_at-without m key other = get-remove nat_list_cmp_total m key other
    ∙ ap (λ b. cond b None (source_at m other)) (equal_either_way key other)

pub same_text : (key : List ℕ) → bytes_eq key key ≡ true
same_text key = (bytes_eq-Decides key key).1 refl

pub equal_text : (key other : List ℕ) → bytes_eq key other ≡ true → key ≡ other
equal_text key other = (bytes_eq-Decides key other).0

-- the source at a specifier after it is stored there
pub source_at-with_source_here : (m : Sources) (key : List ℕ) (source : ParsedModule)
    → source_at (with_source m key source) key ≡ Some source
source_at-with_source_here m key source = source_at-with_source m key source key
    ∙ ap (λ b. cond b (Some source) (source_at m key)) (same_text key)

-- to store a source again changes nothing
pub with_source_again : (m : Sources) (key : List ℕ) (source : ParsedModule) → source_at m key ≡ Some source
    → with_source m key source ≡ m
with_source_again m key source is =
    let stays : (other : List ℕ) (b : Bool) → bytes_eq key other ≡ b
    → cond b (Some source) (source_at m other) ≡ source_at m other =
    λ other. elim [ true ↦ λ e. sym is ∙ ap (source_at m) (equal_text key other e) | false ↦ λ e. refl ] in
    same_sources _ _ (λ other. source_at-with_source m key source other
    ∙ stays other (bytes_eq key other) refl)

module _ {Z : Type 0} where
  find_text : (es : List (String Z × ParsedModule)) (key : List ℕ)
      → find (slice_cmp nat_cmp) key (map entry_of es)
      ≡ lookup (λ k. is_eq (slice_cmp nat_cmp key (string_bytes k))) es
  find_text [] key = refl
  find_text (e ∷ es) key = ap (cond (is_eq (slice_cmp nat_cmp key (string_bytes e.0))) (Some e.1))
      (find_text es key)

  -- a look-up in the map by the bytes of a key
  pub source_at-sources_of : (m : BTreeMap (String Z) ParsedModule) (key : List ℕ)
      → source_at (sources_of m) key ≡ get_by_text m key
  source_at-sources_of m key = get-from_entries nat_list_cmp_total (entries_of m) key
      ∙ find_text m.entries key

  -- a change at one key of the map
  pub with_source-sources_of : (key : List ℕ) (m n : BTreeMap (String Z) ParsedModule) (source : ParsedModule)
      → UpdatesBy string_cmp (λ k. slice_cmp nat_cmp key (string_bytes k)) m n (Some source)
      → sources_of n ≡ with_source (sources_of m) key source
  with_source-sources_of key m n source updates = same_sources _ _ (λ other.
      source_at-sources_of n other ∙ btree_map_updates_text key m n (Some source) updates other
      ∙ ap (cond (bytes_eq key other) (Some source)) (sym (source_at-sources_of m other))
      ∙ sym (source_at-with_source (sources_of m) key source other))

  pub without-sources_of : (key : List ℕ) (m n : BTreeMap (String Z) ParsedModule)
      → UpdatesBy string_cmp (λ k. slice_cmp nat_cmp key (string_bytes k)) m n None
      → sources_of n ≡ without_source (sources_of m) key
  without-sources_of key m n updates = same_sources _ _ (λ other.
      source_at-sources_of n other ∙ btree_map_updates_text key m n None updates other
      ∙ ap (cond (bytes_eq key other) None) (sym (source_at-sources_of m other))
      ∙ sym (source_at-without (sources_of m) key other))
