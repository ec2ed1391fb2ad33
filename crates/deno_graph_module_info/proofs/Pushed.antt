-- Imports that are added at the end of a list, since they start after all imports of the list.
use Rattle.std.proofs.Common.{◌≡◌, ℕ, ◌+◌, ◌<◌, ◌≤◌, ◌⊎◌, inl, inr, List, [], ◌∷◌, ◌++◌, length, take, map}
use Rattle.std.proofs.Common.{get_or, refl, sym, ap, ◌∙◌, arith}
use Rattle.std.proofs.lemmas.List.{get_or-map, get_or-take, length-map, length-take-le}
use Rattle.std.proofs.lemmas.List.Elements.{All-contains, Contains-append_left, Contains-get_or}
use Rattle.std.proofs.lemmas.List.Elements.{Contains-push, Contains-push_cases}
use Rattle.std.proofs.lemmas.List.Quantifiers.{all_pairs_push}
use Rattle.std.specs.List.{All, Contains}
use Rattle.std.specs.Str.{IsUtf8, chars}
use Rattle.deno_graph_jsdoc.specs.JsDocImports.{AreImportsIn, Ascend}
use Rattle.deno_graph_jsdoc.specs.internal.Pass.{GainsImport}
use Rattle.deno_graph_jsdoc.specs.JsDocImport.{Import, import_of, moved}
use Rattle.deno_graph_jsdoc.specs.declared.import.JsDocImport.{JsDocImport}
use Rattle.deno_graph_jsdoc.proofs.ImportsIn.{has_specifier}
use Rattle.deno_graph_source.specs.Source.{IsSpelled}
use Rattle.deno_graph_source.specs.declared.tree.comments.CommentKind.TheVariants.{Block}
use Rattle.deno_graph_source.specs.declared.tree.comments.DependencyComment.{DependencyComment}
use Rattle.deno_graph_module_info.specs.internal.CommentImportSteps.{GainsImports, IsMovedImport}
use Rattle.deno_graph_module_info.proofs.Gathered.{placed}
use Rattle.deno_graph_module_info.proofs.ImportRanges.{comment_size, inside_comment}

pub GainsImport-push : (now : List Import) (import : Import) → Ascend now
    → ((other : Import) → Contains now other → other.start < import.start)
    → GainsImport now import (now ++ import ∷ [])
GainsImport-push now import up below = record {
  ascending =
      all_pairs_push (λ (i later : Import). i.start < later.start) now import up
      (λ k d inside. below (get_or now k d) (Contains-get_or now k d inside));
  only = λ other has. Contains-push_cases now import other has;
  kept = λ other has. Contains-append_left now (import ∷ []) other has;
  there = (import, Contains-push now import, refl);
}

-- the next import in a comment starts after those so far, of this comment and of those before
pub next_after : (by : ℕ) (items : List JsDocImport) (k : ℕ) (d : JsDocImport) (old now : List Import)
    (text : List ℕ) → k < length items → AreImportsIn text (map import_of items)
    → All (λ (i : Import). i.start < by) old
    → GainsImports old (Contains (placed by items (take k items))) now
    → (other : Import) → Contains now other
    → other.start < (moved by (import_of (get_or items k d))).start
next_after by items k d old now text inside inners before gains other has = by_moved (gains.only other has)
  where
    by_moved : Contains old other ⊎ Contains (placed by items (take k items)) other
        → other.start < (moved by (import_of (get_or items k d))).start
    by_moved (inl was) =
        let start = All-contains (λ (i : Import). i.start < by) old other before was in omega (arith, start)
    by_moved (inr (j, below, is)) =
        let f : JsDocImport → Import = λ x. moved by (import_of x) in
        let count = length-map (take k items) f in
        let short = length-take-le k items in
        let here : j < length (take k items) = omega (arith, below, count) in
        let smaller : j < k = omega (arith, here, short) in
        let at : get_or (map f (take k items)) j other ≡ f (get_or items j d) =
        get_or-map f (take k items) j d other here ∙ ap f (get_or-take k items j d smaller) in
        let same : other.start ≡ (import_of (get_or items j d)).start + by =
        ap (λ (i : Import). i.start) (sym is ∙ at) in
        let order = inners.ascending j k (import_of d) smaller
        (omega (arith, inside, length-map items import_of)) in
        let first = ap (λ (i : Import). i.start)
        (get_or-map import_of items j d (import_of d) (omega (arith, smaller, inside))) in
        let second = ap (λ (i : Import). i.start) (get_or-map import_of items k d (import_of d) inside) in
        omega (arith, same, order, first, second)

-- an upper bound of the starts of the imports in a block comment
pub inside_end : (text : List ℕ) (comment : DependencyComment) → IsSpelled text comment
    → comment.kind ≡ Block → IsUtf8 comment.text → (old new : List Import) (bound : ℕ)
    → bound ≤ comment.range.start
    → ((import : Import) → Contains old import → import.start < bound)
    → GainsImports old (IsMovedImport comment) new
    → (import : Import) → Contains new import → import.start < comment.range.end
inside_end text comment spelled block utf8 old new bound order below gains import has =
    by_moved (gains.only import has)
  where
    by_moved : Contains old import ⊎ IsMovedImport comment import → import.start < comment.range.end
    by_moved (inl was) =
        let size = comment_size text comment spelled block in
        let first = below import was in
        omega (arith, order, first, size.0)
    by_moved (inr (inner, is_inner, is_moved)) =
        (inside_comment text comment spelled block utf8 import inner
        (has_specifier (chars comment.text) inner is_inner)
        is_moved).1
