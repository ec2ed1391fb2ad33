-- Infos of JSDoc imports don't depend on the order and the repetitions of comments.
use Rattle.std.proofs.Common.{◌≡◌, ◌↔◌, ◌∙◌, List, Bool, true, false, map, ap, sym}
use Rattle.std.specs.List.{Contains}
use Rattle.std.specs.List.Sorted.{IsPermutation}
use Rattle.std.proofs.lemmas.List.Sorted.{Contains-permutation, IsPermutation-sym}
use Rattle.deno_graph_info.specs.declared.analysis.js_doc_import_info.JsDocImportInfo.{JsDocImportInfo}
use Rattle.deno_graph_jsdoc.specs.JsDocImport.{Import}
use Rattle.deno_graph_jsdoc.proofs.Ascending.{same_ascending}
use Rattle.deno_graph_module_info.specs.JsDocInfo.{IsJsDocList, info_of}
use Rattle.deno_graph_module_info.specs.CommentImports.{AreApart, AreImports}
use Rattle.deno_graph_source.specs.declared.tree.comments.DependencyComment.{DependencyComment}
use Rattle.std.specs.Prelude.{ℕ}

-- the two lists have the same comments
abbrev HaveSame : List DependencyComment → List DependencyComment → Type 0
HaveSame xs ys = (comment : DependencyComment) → Contains xs comment ↔ Contains ys comment

same_from_permutation : (xs ys : List DependencyComment) → IsPermutation xs ys → HaveSame xs ys
same_from_permutation xs ys same comment = (
  Contains-permutation xs ys comment same,
  Contains-permutation ys xs comment (IsPermutation-sym xs ys same),
)

pub apart_in_any_order : (xs ys : List DependencyComment) → IsPermutation xs ys → AreApart xs → AreApart ys
apart_in_any_order xs ys same apart a b there_a there_b share =
    let back = IsPermutation-sym xs ys same in
    apart a b (Contains-permutation ys xs a back there_a) (Contains-permutation ys xs b back there_b) share

imports_of_the_same : (xs ys : List DependencyComment) (imports : List Import) → HaveSame xs ys
    → AreImports xs imports → AreImports ys imports
imports_of_the_same xs ys imports same are = record {
  ascending = are.ascending;
  exact = λ import. (
    (λ there. let of = (are.exact import).0 there in (of.0, (same of.0).0 of.1, of.2)),
    (λ of. (are.exact import).1 (of.0, (same of.0).1 of.1, of.2)),
  );
}

pub list_of_the_same : (reads : Bool) (text : List ℕ) (xs ys : List DependencyComment)
    (infos : List JsDocImportInfo) → HaveSame xs ys → IsJsDocList reads text xs infos
    → IsJsDocList reads text ys infos
list_of_the_same false text xs ys infos same list = list
list_of_the_same true text xs ys infos same list =
    (list.0, imports_of_the_same xs ys list.0 same list.1, list.2)

pub list_in_any_order : (reads : Bool) (text : List ℕ) (xs ys : List DependencyComment)
    (infos : List JsDocImportInfo) → IsPermutation xs ys → IsJsDocList reads text xs infos
    → IsJsDocList reads text ys infos
list_in_any_order reads text xs ys infos same list =
    list_of_the_same reads text xs ys infos (same_from_permutation xs ys same) list

pub one_import_list : (comments : List DependencyComment) (imports others : List Import)
    → AreImports comments imports → AreImports comments others → imports ≡ others
one_import_list comments imports others are again =
    same_ascending imports others are.ascending again.ascending
    (λ import has. (again.exact import).1 ((are.exact import).0 has))
    (λ import has. (are.exact import).1 ((again.exact import).0 has))

pub one_info_list : (reads : Bool) (text : List ℕ) (comments : List DependencyComment)
    (infos others : List JsDocImportInfo)
    → IsJsDocList reads text comments infos → IsJsDocList reads text comments others → infos ≡ others
one_info_list false text comments infos others list again = list ∙ sym again
one_info_list true text comments infos others list again =
    list.2
    ∙ (ap (map (info_of text)) (one_import_list comments list.0 again.0 list.1 again.1) ∙ sym again.2)

pub same_info_list : (reads : Bool) (text : List ℕ) (xs ys : List DependencyComment)
    (infos others : List JsDocImportInfo) → HaveSame xs ys
    → IsJsDocList reads text xs infos → IsJsDocList reads text ys others → infos ≡ others
same_info_list reads text xs ys infos others same list again =
    one_info_list reads text ys infos others (list_of_the_same reads text xs ys infos same list) again
