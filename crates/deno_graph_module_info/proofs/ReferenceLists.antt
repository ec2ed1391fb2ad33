-- The references of comments, with one more comment.
use Rattle.std.proofs.Common.{◌≡◌, ℕ, List, [], ◌∷◌, ◌++◌, Option, Some, None, sym, ap, subst, ◌∙◌, All}
use Rattle.std.proofs.Common.{IfSome}
use Rattle.std.proofs.lemmas.List.{append-nil}
use Rattle.std.proofs.lemmas.List.Concat.{flat_map-append}
use Rattle.std.proofs.lemmas.List.Elements.{All-push}
use Rattle.std.specs.List.{AllZip, flat_map}
use Rattle.std.specs.Option.{option_to_list}
use Rattle.deno_graph_source.specs.declared.tree.comments.DependencyComment.{DependencyComment}
use Rattle.deno_graph_info.specs.declared.analysis.type_script_reference.TypeScriptReference.{TypeScriptReference}
use Rattle.deno_graph_module_info.specs.References.{AreReferences, CoversReference, IsReferenceOf}

pub AllZip-push : {X Y : Type 0} (R : X → Y → Type 0) (xs : List X) (ys : List Y) (x : X) (y : Y)
    → AllZip R xs ys → R x y → AllZip R (xs ++ x ∷ []) (ys ++ y ∷ [])
AllZip-push R [] [] x y all one = (one, tt)
AllZip-push R [] (b ∷ ys) x y all one = absurd all
AllZip-push R (a ∷ xs) [] x y all one = absurd all
AllZip-push R (a ∷ xs) (b ∷ ys) x y all one = (all.0, AllZip-push R xs ys x y all.1 one)

those-push : {X : Type 0} (each : List (Option X)) (own : Option X)
    → flat_map option_to_list (each ++ own ∷ []) ≡ flat_map option_to_list each ++ option_to_list own
those-push each own =
    flat_map-append option_to_list each (own ∷ [])
    ∙ ap (λ t. flat_map option_to_list each ++ t) (append-nil (option_to_list own))

pub AreReferences-push : (source : List ℕ) (comments : List DependencyComment)
    (references : List TypeScriptReference) (comment : DependencyComment) (own : Option TypeScriptReference)
    → AreReferences source comments references → IsReferenceOf source comment own
    → AreReferences source (comments ++ comment ∷ []) (references ++ option_to_list own)
AreReferences-push source comments references comment own are is = record {
  each = are.each ++ own ∷ [];
  of_comments = AllZip-push (IsReferenceOf source) comments are.each comment own are.of_comments is;
  those = ap (λ t. t ++ option_to_list own) are.those ∙ sym (those-push are.each own);
}

-- one step of the loop: the references with that of one more comment
pub record AreKept (source : List ℕ) (comments : List DependencyComment)
    (references : List TypeScriptReference) : Type 0 where
  pub are : AreReferences source comments references
  pub cover : All (CoversReference source) references

pub kept-push : (source : List ℕ) (comments : List DependencyComment)
    (references more : List TypeScriptReference) (comment : DependencyComment)
    (own : Option TypeScriptReference)
    → AreReferences source comments references → All (CoversReference source) references
    → IsReferenceOf source comment own → IfSome own (CoversReference source)
    → more ≡ references ++ option_to_list own → AreKept source (comments ++ comment ∷ []) more
kept-push source comments references more comment None are cover is covers made = record {
  are = subst (AreReferences source (comments ++ comment ∷ [])) (sym made)
      (AreReferences-push source comments references comment None are is);
  cover = subst (All (CoversReference source)) (sym (made ∙ append-nil references)) cover;
}
kept-push source comments references more comment (Some own) are cover is covers made = record {
  are = subst (AreReferences source (comments ++ comment ∷ [])) (sym made)
      (AreReferences-push source comments references comment (Some own) are is);
  cover = subst (All (CoversReference source)) (sym made)
      (All-push (CoversReference source) references own cover covers);
}
