-- What plain pieces lead to.
use Rattle.std.proofs.Common.{◌≡◌, ℕ, ◌≤◌, Bool, false, List, ap, refl, ◌∙◌, arith}
use Rattle.modinfo_imports.specs.Sights.{watch_of}
use Rattle.modinfo_imports.specs.declared.duty.Duty.{Duty}
use Rattle.modinfo_imports.specs.declared.plain.Asked.{Asked}
use Rattle.modinfo_imports.specs.declared.plain.Plain.{Plain}
use Rattle.modinfo_imports.specs.declared.watch.Seen.{Seen}
use Rattle.modinfo_imports.specs.internal.Plains.{IsPlain, IsPlainTurnIn, IsUnmet, Turns, duty_of, place_at}
use Rattle.modinfo_imports.specs.internal.Plains.{so_far_at, watch_at}
use Rattle.modinfo_imports.specs.internal.Plains.Turns.{more, none}
use Rattle.modinfo_pieces.specs.Filed.{is_token}
use Rattle.modinfo_pieces.specs.Filing.{IsQuiet, SoFar}
use Rattle.modinfo_pieces.specs.Openings.{innermost, is_element}
use Rattle.modinfo_pieces.specs.Spots.{place_of}
use Rattle.modinfo_pieces.specs.declared.piece.PieceKind.TheVariants.{Space}
use Rattle.modinfo_pieces.specs.declared.place.Opening.{Opening}
use Rattle.modinfo_pieces.specs.declared.places.Spot.{Spot}

-- Plain pieces lead from a spot to a place.
pub record IsGone (text : List ℕ) (spot : Spot) (seen : Seen) (around : List Opening)
    (parentheses : List Duty) (so_far : SoFar) (plain : Plain) (now_around : List Opening)
    (now_parentheses : List Duty) : Type 0 where
  pub on : spot.at ≤ plain.at
  pub is_plain : IsPlain plain now_around
  pub keeps : is_token plain.kind ≡ false → duty_of plain.asked ≡ seen.duty
  pub turns : (is_typed : Bool) → Turns text is_typed (place_of spot around) (watch_of seen parentheses)
      so_far
      (place_at plain now_around spot.choices.now) (watch_at text plain now_parentheses (watch_of seen
      parentheses))
      (so_far_at plain so_far)

pub IsGone-more : (text : List ℕ) (spot : Spot) (seen : Seen) (around : List Opening)
    (parentheses : List Duty) (so_far : SoFar) (plain next : Plain) (now_around new_around : List Opening)
    (now_parentheses new_parentheses : List Duty)
    → IsGone text spot seen around parentheses so_far plain now_around now_parentheses
    → IsPlainTurnIn plain.in_element text plain next now_around new_around now_parentheses new_parentheses
    → IsUnmet plain.at spot.choices.now seen.claims.now seen.marks.now → IsQuiet so_far
    → IsGone text spot seen around parentheses so_far next new_around new_parentheses
IsGone-more text spot seen around parentheses so_far plain next now_around new_around now_parentheses
    new_parentheses gone turn unmet quiet = record {
      on = omega (arith, gone.on, turn.goes_on);
      is_plain = turn.is_plain gone.is_plain refl;
      keeps = λ is_none. ap duty_of (turn.keeps is_none).1 ∙ gone.keeps (turn.keeps is_none).0;
      turns = λ is_typed. more (gone.turns is_typed)
          (turn.is_turn is_typed spot.choices.now (watch_of seen parentheses) so_far gone.is_plain refl unmet
          quiet);
    }

-- No piece leads from a spot to its place.
pub IsGone-none : (text : List ℕ) (spot : Spot) (seen : Seen) (around : List Opening)
    (parentheses : List Duty) (so_far : SoFar) (asked : Asked) → 4 ≤ spot.at → duty_of asked ≡ seen.duty
    → IsGone text spot seen around parentheses so_far (record {
      at = spot.at;
      before = spot.before;
      is_after_line_end = spot.is_after_line_end;
      in_element = is_element (innermost around);
      asked = asked;
      kind = Space;
      start = spot.at;
      end = spot.at;
    }) around parentheses
IsGone-none text spot seen around parentheses so_far asked past is = record {
  on = omega arith;
  is_plain = record { is_past = past; in_element = refl };
  keeps = λ is_none. is;
  turns = λ is_typed. rw is none;
}

-- Where the pieces lead to, as the code leaves it.
pub Turns-gone : (text : List ℕ) (spot : Spot) (seen : Seen) (around : List Opening)
    (parentheses : List Duty) (so_far new : SoFar) (plain : Plain) (now_around : List Opening)
    (now_parentheses : List Duty) (next : Spot) (after : Seen)
    → IsGone text spot seen around parentheses so_far plain now_around now_parentheses
    → place_of next now_around ≡ place_at plain now_around spot.choices.now
    → ((is_token plain.kind ≡ false → duty_of plain.asked ≡ seen.duty) → watch_of after now_parentheses
    ≡ watch_at text plain now_parentheses (watch_of seen now_parentheses))
    → new ≡ so_far_at plain so_far → (is_typed : Bool)
    → Turns text is_typed (place_of spot around) (watch_of seen parentheses) so_far (place_of next now_around)
    (watch_of after now_parentheses) new
Turns-gone text spot seen around parentheses so_far new plain now_around now_parentheses next after gone
    place_is watch_is filing_is is_typed = rw (place_is, watch_is gone.keeps, filing_is) (gone.turns is_typed)
