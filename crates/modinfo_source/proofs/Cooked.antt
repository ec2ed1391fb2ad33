-- Parts of templates and their values, one after another.
use Rattle.std.proofs.Common.{◌≡◌, refl, sym, ap, ◌∙◌, ℕ, List, [], ◌∷◌, ◌++◌, Some, IfSome, subst, arith}
use Rattle.std.specs.List.{All}
use Rattle.std.proofs.lemmas.List.{append_assoc}
use Rattle.std.proofs.lemmas.List.Elements.{All-contains, Contains-append_right}
use Rattle.modinfo_pieces.specs.declared.piece.Piece.{Piece}
use Rattle.modinfo_source.specs.Spelled.{CookEach, CooksAt}
use Rattle.modinfo_source.specs.internal.Parts.{PartIsCooked, part_ranges}
use Rattle.modinfo_source.specs.declared.tree.templates.Part.{Part}

-- one more part and its value
cook_last : (text : List ℕ) (pieces : List Piece) (parts : List Part) (values : List (List ℕ)) (part : Part)
    (value : List ℕ) → CookEach text pieces (part_ranges parts) values → CooksAt text pieces part.range value
    → CookEach text pieces (part_ranges (parts ++ part ∷ [])) (values ++ value ∷ [])
cook_last text pieces [] [] part value each cooks = (cooks, tt)
cook_last text pieces [] (v ∷ values) part value each cooks = absurd each
cook_last text pieces (p ∷ parts) [] part value each cooks = absurd each
cook_last text pieces (p ∷ parts) (v ∷ values) part value each cooks =
    (each.0, cook_last text pieces parts values part value each.1 cooks)

-- one more of the parts, which are cooked
pub cook_more : (text : List ℕ) (pieces : List Piece) (all parts rest : List Part) (part : Part)
    (values : List (List ℕ))
    (value : List ℕ) → all ≡ parts ++ (part ∷ rest) → All (PartIsCooked text pieces) all → part.value ≡ Some
    value
    → CookEach text pieces (part_ranges parts) values
    → CookEach text pieces (part_ranges (parts ++ part ∷ [])) (values ++ value ∷ [])
cook_more text pieces all parts rest part values value whole cooked is each =
    let every : All (PartIsCooked text pieces) (parts ++ part ∷ rest) = subst (All (PartIsCooked text
    pieces)) whole
    cooked in
    let own : PartIsCooked text pieces part =
    All-contains (PartIsCooked text pieces) _ part every
    (Contains-append_right parts (part ∷ rest) part (0, omega arith, refl)) in
    cook_last text pieces parts values part value each
    (subst (λ found. IfSome found (CooksAt text pieces part.range)) is own)

-- after one more part
pub passed_more : {A : Type 0} (all passed rest left : List A) (x : A) → all ≡ passed ++ rest
    → rest ≡ x ∷ left → all ≡ (passed ++ x ∷ []) ++ left
passed_more all passed rest left x so_far next =
    so_far ∙ ap (λ r. passed ++ r) next ∙ sym (append_assoc passed (x ∷ []) left)
