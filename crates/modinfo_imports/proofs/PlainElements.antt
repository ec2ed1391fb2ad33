-- Plain pieces in an element's text.
use Rattle.std.proofs.Common.{◌≡◌, ℕ, ◌<◌, ◌≤◌, Bool, true, false, List, ◌∷◌, length, slice_index, refl, sym}
use Rattle.std.proofs.Common.{IfSome, MatchOption, None, Option, Some, ap, arith}
use Rattle.modinfo_imports.proofs.Plains.{plain-turn}
use Rattle.modinfo_imports.specs.Duties.{sight_of}
use Rattle.modinfo_imports.specs.Watches.{duty_after}
use Rattle.modinfo_imports.specs.declared.duty.Duty.{Duty}
use Rattle.modinfo_imports.specs.declared.plain.Asked.TheVariants as asks
use Rattle.modinfo_imports.specs.declared.plain.Plain.{Plain}
use Rattle.modinfo_imports.specs.internal.Plains.{IsByteAt, IsPlainTurnIn, after_token}
use Rattle.modinfo_pieces.specs.Befores.{before_after_punctuation}
use Rattle.modinfo_pieces.specs.Jsx.{text_step}
use Rattle.modinfo_pieces.specs.Kinds.{kind_at, kind_in_element}
use Rattle.modinfo_pieces.specs.Openings.{around_after_punctuation, innermost, is_element}
use Rattle.modinfo_pieces.specs.Steps.{Ends}
use Rattle.modinfo_pieces.specs.declared.piece.PieceKind.TheVariants.{JsxText, Punctuation}
use Rattle.modinfo_pieces.specs.declared.place.Before.TheVariants.{Free, TagOpen, Value}
use Rattle.modinfo_pieces.specs.declared.place.Opening.{Opening}
use Rattle.modinfo_pieces.specs.declared.place.Opening.TheVariants as openings

element-of : (opening : Opening) → is_element opening ≡ true → opening ≡ openings.Element
element-of openings.Element is = refl
element-of openings.Program is = cc
element-of openings.Parenthesis is = cc
element-of openings.HeadParenthesis is = cc
element-of openings.Brace is = cc
element-of openings.Substitution is = cc
element-of openings.Tag is = cc
element-of openings.ClosingTag is = cc
element-of openings.Angle is = cc

-- A turn over a `{`.
pub code-turn : (text : List ℕ) (plain : Plain) (end : ℕ) (around : List Opening) (parentheses : List Duty)
    → IsByteAt text plain 123 end
    → IsPlainTurnIn true text plain (after_token plain Punctuation end Free asks.Nothing false)
    around (openings.Brace ∷ around) parentheses parentheses
unfolding sight_of duty_after kind_at around_after_punctuation before_after_punctuation
code-turn text plain end around parentheses here =
    plain-turn true text plain Punctuation end Free asks.Nothing false around
    (openings.Brace ∷ around) parentheses parentheses (omega (arith, here.end_is)) here.within refl refl
    (λ context so_far. refl) (λ inside. refl) (λ inside past. rw (inside, here.byte_is) refl)
    (ap Some here.end_is)
    (λ inside. rw here.byte_is refl) (λ inside. rw here.byte_is refl) refl (rw here.byte_is refl)
    (λ is_typed watch unclaimed. rw here.byte_is refl) (rw here.byte_is refl)

-- A turn over the `<` of a tag.
pub tag-turn : (text : List ℕ) (plain : Plain) (end : ℕ) (around : List Opening) (parentheses : List Duty)
    → IsByteAt text plain 60 end
    → IsPlainTurnIn true text plain (after_token plain Punctuation end TagOpen asks.Nothing false)
    around (openings.Tag ∷ around) parentheses parentheses
unfolding sight_of duty_after kind_at around_after_punctuation before_after_punctuation
tag-turn text plain end around parentheses here =
    plain-turn true text plain Punctuation end TagOpen asks.Nothing false around
    (openings.Tag ∷ around) parentheses parentheses (omega (arith, here.end_is)) here.within refl refl
    (λ context so_far. refl) (λ inside. refl) (λ inside past. rw (inside, here.byte_is) refl)
    (ap Some here.end_is)
    (λ inside. rw (here.byte_is, element-of (innermost around) inside) refl)
    (λ inside. rw (here.byte_is, element-of (innermost around) inside) refl) refl (rw here.byte_is refl)
    (λ is_typed watch unclaimed. rw here.byte_is refl) (rw here.byte_is refl)

-- A turn over text.
pub text-turn : (text : List ℕ) (plain : Plain) (end : ℕ) (around : List Opening) (parentheses : List Duty)
    → kind_in_element (slice_index text plain.at) ≡ JsxText → Ends (text_step text) plain.at end
    → plain.at < end → end ≤ length text
    → IsPlainTurnIn true text plain (after_token plain JsxText end Value asks.Nothing true) around around
    parentheses parentheses
unfolding sight_of duty_after kind_at
text-turn text plain end around parentheses is ends on within =
    plain-turn true text plain JsxText end Value asks.Nothing true around around parentheses parentheses on
    within refl refl (λ context so_far. refl) (λ inside. sym inside) (λ inside past. rw inside (sym is))
    (record { inside = end; ends = ends; is = refl }) (λ inside. refl) (λ inside. refl) refl refl
    (λ is_typed watch unclaimed. refl) refl

pub some_kept : {A : Type 0} (found : Option A) (Kept : Type 0) (Is : A → Type 0) → Kept → IfSome found Is
    → MatchOption found Kept Is
some_kept None Kept Is kept is = kept
some_kept (Some found) Kept Is kept is = is

pub both_kept : {A : Type 0} (found : Option A) (Kept Also : Type 0) (Is : A → Type 0) → Also
    → MatchOption found Kept Is → MatchOption found (Kept × Also) Is
both_kept None Kept Also Is also is = (is, also)
both_kept (Some found) Kept Also Is also is = is

-- Where it is known whether a place is in an element's text.
pub turn-in : (in_element is_inside : Bool) (text : List ℕ) (plain : Plain) (around new_around : List Opening)
    (parentheses new_parentheses : List Duty) (next : Option Plain) (Kept : Type 0) → in_element ≡ is_inside
    → MatchOption next Kept (λ next.
    IsPlainTurnIn is_inside text plain next around new_around parentheses new_parentheses)
    → MatchOption next Kept (λ next.
    IsPlainTurnIn in_element text plain next around new_around parentheses new_parentheses)
turn-in in_element is_inside text plain around new_around parentheses new_parentheses next Kept is turn =
    rw is turn
