-- Claims that were met are pieces.
use Rattle.std.proofs.Common.{◌≡◌, ℕ, zero, suc, Bool, true, false, ◌⊎◌, inl, inr, ⊎_elim, List, [], ◌∷◌}
use Rattle.std.proofs.Common.{◌++◌, Option, Some, None, is_some, option_map, refl, sym, ap, ◌∙◌, subst, arith}
use Rattle.std.proofs.Common.{get_or, if◌then◌else◌, true≢false, unwrap_or}
use Rattle.std.specs.List.{All, Contains}
use Rattle.std.proofs.lemmas.Bool.{and_parts, eqb-true}
use Rattle.std.proofs.lemmas.List.Elements.{Contains-append_left, Contains-get_or, Contains-push}
use Rattle.modinfo_imports.specs.Claims.{claims_after, form_of, is_same, is_same_kind}
use Rattle.modinfo_imports.specs.Duties.{met_duty, sight_of}
use Rattle.modinfo_pieces.specs.Places.{Place, context_of}
use Rattle.modinfo_imports.specs.Watches.{IsWatchEnd, Watch, Watches, is_gap, watch_after}
use Rattle.modinfo_imports.specs.Watches.{watch_met, watch_start}
use Rattle.modinfo_imports.specs.Watches.Watches.{more, none}
use Rattle.modinfo_imports.specs.declared.claims.Mark.{Mark}
use Rattle.modinfo_imports.specs.declared.duty.Duty.{Duty}
use Rattle.modinfo_pieces.specs.declared.piece.Piece.{Piece}
use Rattle.modinfo_pieces.specs.declared.piece.PieceKind.{PieceKind}
use Rattle.modinfo_pieces.specs.declared.piece.PieceKind.TheVariants as kinds
use Rattle.modinfo_pieces.specs.declared.place.Context.{Context}

-- kinds that are the same are equal
same_kind : (kind other : PieceKind) → is_same_kind kind other ≡ true → kind ≡ other
same_kind kinds.Word kinds.Word is = refl
same_kind kinds.String kinds.String is = refl
same_kind kinds.Template kinds.Template is = refl
same_kind kinds.Punctuation kinds.Punctuation is = refl
same_kind _ _ is = absurd (true≢false (sym is))

-- pieces that are the same are equal
same : (piece other : Piece) → is_same piece other ≡ true → piece ≡ other
same piece other is =
    let starts = and_parts _ _ is in
    let ends = and_parts _ _ starts.1 in
    let start = eqb-true piece.start other.start starts.0 in
    let end = eqb-true piece.end other.end ends.0 in
    let kind = same_kind piece.kind other.kind ends.1 in
    λ i. record { kind = kind i; start = start i; end = end i }

-- a claim is met by a piece, or is still one of the claims
split : (is_met : Bool) (piece first claim : Piece) (rest : List Piece) → (is_met ≡ true → piece ≡ first)
    → Contains (first ∷ rest) claim
    → Contains (if is_met then rest else first ∷ rest) claim ⊎ (piece ≡ claim)
split false piece first claim rest equal at = inl at
split true piece first claim rest equal (zero, below, is) = inr (equal refl ∙ is)
split true piece first claim rest equal (suc k, below, is) = inl (k, omega arith, is)

claim_cases : (piece : Piece) (claims : List Piece) (claim : Piece) → Contains claims claim
    → Contains (claims_after piece claims) claim ⊎ (piece ≡ claim)
claim_cases piece [] claim at = inl at
claim_cases piece (first ∷ rest) claim at =
    split (is_same piece first) piece first claim rest (same piece first) at

-- the claims after a step: those before, or those after the piece
step_claims : (stays : Bool) (met : Option Duty) (watch after : Watch) (f : Duty → Watch)
    (claims : List Piece) → ((duty : Duty) → (f duty).claims ≡ claims)
    → (if stays then Some watch else option_map f met) ≡ Some after
    → (watch.claims ≡ after.claims) ⊎ (claims ≡ after.claims)
step_claims true met watch after f claims are is = inl (ap (λ o. (unwrap_or o watch).claims) is)
step_claims false None watch after f claims are is = absurd (true≢false (sym (ap is_some is)))
step_claims false (Some duty) watch after f claims are is =
    inr (sym (are duty) ∙ ap (λ o. (unwrap_or o watch).claims) is)

after_claims : (text : List ℕ) (is_typed : Bool) (context : Context) (piece : Piece)
    (watch after : Watch) → watch_after text is_typed context piece watch ≡ Some after
    → (watch.claims ≡ after.claims) ⊎ (claims_after piece watch.claims ≡ after.claims)
after_claims text is_typed context piece watch after is =
    let sight = sight_of text piece piece.kind in
    step_claims (is_gap piece.kind)
    (met_duty (form_of piece watch.marks) piece.start watch.duty sight context.is_after_line_end is_typed)
    watch after
    (watch_met text is_typed context piece watch sight) (claims_after piece watch.claims) (λ duty. refl) is

-- each claim is a piece, or is still one of the claims
met : (text : List ℕ) (is_typed : Bool) (from : Place) (start : Watch) (pieces : List Piece) (place : Place)
    (watch : Watch) → Watches text is_typed from start pieces place watch → (claim : Piece)
    → Contains start.claims claim → Contains pieces claim ⊎ Contains watch.claims claim
met text is_typed from start pieces place watch none claim at = inr at
met text is_typed from start pieces place watch (more {pieces = before} {place = spot} {seen = seen}
    {piece = piece} {next = next} {after = after} walked step is) claim at =
    ⊎_elim (λ inside. inl (Contains-append_left before (piece ∷ []) claim inside))
    (λ left. ⊎_elim (λ stays. inr (subst (λ cs. Contains cs claim) stays left))
    (λ changes. ⊎_elim (λ rest. inr (subst (λ cs. Contains cs claim) changes rest))
    (λ equal. inl (subst (Contains (before ++ piece ∷ [])) equal (Contains-push before piece)))
    (claim_cases piece seen.claims claim left))
    (after_claims text is_typed (context_of spot) piece seen after is))
    (met text is_typed from start before spot seen walked claim at)

no_claim : (claim : Piece) → Contains [] claim → ⊥
no_claim claim at = omega arith

claim_is_piece : (text : List ℕ) (is_typed : Bool) (from : Place) (claims : List Piece) (marks : List Mark)
    (pieces : List Piece)
    (place : Place) (watch : Watch)
    → Watches text is_typed from (watch_start claims marks) pieces place watch → IsWatchEnd watch
    → (claim : Piece) → Contains claims claim → Contains pieces claim
claim_is_piece text is_typed from claims marks pieces place watch watched end claim at =
    ⊎_elim (λ inside. inside)
    (λ left. absurd (no_claim claim (subst (λ cs. Contains cs claim) end.claims left)))
    (met text is_typed from (watch_start claims marks) pieces place watch watched claim at)

-- at the end of the text each claim is a piece
pub claims-are_pieces : (text : List ℕ) (is_typed : Bool) (from : Place) (claims : List Piece)
    (marks : List Mark) (pieces : List Piece)
    (place : Place) (watch : Watch) → Watches text is_typed from (watch_start claims marks) pieces place watch
    → IsWatchEnd watch → All (Contains pieces) claims
claims-are_pieces text is_typed from claims marks pieces place watch watched end k d below =
    claim_is_piece text is_typed from claims marks pieces place watch watched end (get_or claims k d)
    (Contains-get_or claims k d below)
