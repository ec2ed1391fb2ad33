-- The pieces of a text so far.
use Rattle.std.proofs.Common.{◌≡◌, ℕ, Bool, true, false, List, [], ◌∷◌, ◌++◌, Option, None, Some, ◌∙◌, ap}
use Rattle.std.proofs.Common.{IsTrue, if◌then◌else◌, is_some, refl, subst, sym, true≢false}
use Rattle.modinfo_imports.specs.Found.{HasFound, begins_at, first_token}
use Rattle.modinfo_imports.specs.Sights.{first_after}
use Rattle.modinfo_imports.specs.Watches.{IsWatchEnd, Watch, Watches, is_gap, watch_after, watch_start}
use Rattle.modinfo_imports.specs.Watches.Watches.{more as watch_more, none as watch_none}
use Rattle.modinfo_imports.specs.internal.Plains.{IsSame, Turns}
use Rattle.modinfo_imports.specs.internal.Plains.Turns.{more as turns_more, none as turns_none}
use Rattle.modinfo_pieces.proofs.Filings.{AreFiledTo, AreFiledTo-all, AreFiledTo-more, AreFiledTo-none}
use Rattle.modinfo_pieces.specs.Filing.{SoFar, filed_by, so_far_after}
use Rattle.modinfo_pieces.specs.Places.{IsNext, Place, context_of, start}
use Rattle.modinfo_pieces.specs.Tiles.{IsEnd, Leads}
use Rattle.modinfo_pieces.specs.Tiles.Leads.{more, none}
use Rattle.modinfo_imports.specs.declared.claims.Mark.{Mark}
use Rattle.modinfo_pieces.specs.declared.choice.Choice.{Choice}
use Rattle.modinfo_pieces.specs.declared.filed.FiledComment.{FiledComment}
use Rattle.modinfo_pieces.specs.declared.piece.Piece.{Piece}
use Rattle.modinfo_pieces.specs.declared.place.Context.{Context}
use Rattle.modinfo_imports.proofs.ClaimedPieces.{claims-are_pieces}

-- The first token of pieces and one more.
first-case : (is_gap_first : Bool) (first piece : Piece) (one_more pieces : Option ℕ)
    → one_more ≡ first_after pieces piece → (if is_gap_first then one_more else Some first.start)
    ≡ first_after (if is_gap_first then pieces else Some first.start) piece
first-case true first piece one_more pieces is = is
first-case false first piece one_more pieces is = refl

first_token-more : (pieces : List Piece) (piece : Piece)
    → first_token (pieces ++ piece ∷ []) ≡ first_after (first_token pieces) piece
unfolding first_token
first_token-more [] piece = refl
first_token-more (first ∷ pieces) piece =
    first-case (is_gap first.kind) first piece (first_token (pieces ++ piece ∷ [])) (first_token pieces)
    (first_token-more pieces piece)

-- Pieces from the start lead to a place, a watch goes over them, and their comments are filed as far as can
-- be.
pub record IsWalked (text : List ℕ) (is_typed : Bool) (choices : List Choice) (claims : List Piece)
    (marks : List Mark)
    (place : Place) (watch : Watch) (so_far : SoFar) (first : Option ℕ) : Type 0 where
  pub pieces : List Piece
  pub leads : Leads text (start choices) pieces place
  pub watches : Watches text is_typed (start choices) (watch_start claims marks) pieces place watch
  pub are_filed : AreFiledTo text choices pieces place so_far
  pub is_first : first ≡ first_token pieces

pub IsWalked-more : (text : List ℕ) (is_typed : Bool) (choices : List Choice) (claims : List Piece)
    (marks : List Mark)
    (place next : Place) (context : Context) (watch after : Watch) (so_far new : SoFar)
    (first new_first : Option ℕ) (piece : Piece)
    → IsWalked text is_typed choices claims marks place watch so_far first
    → IsNext text place piece next → context ≡ context_of place
    → watch_after text is_typed context piece watch ≡ Some after
    → new ≡ so_far_after text context piece piece.kind so_far → new_first ≡ first_after first piece
    → IsWalked text is_typed choices claims marks next after new new_first
IsWalked-more text is_typed choices claims marks place next context watch after so_far new first new_first
    piece walked step is seen becomes is_first = record {
      pieces = walked.pieces ++ piece ∷ [];
      leads = more walked.leads step;
      watches = watch_more walked.watches step
          (subst (λ c. watch_after text is_typed c piece watch ≡ Some after) is seen);
      are_filed = AreFiledTo-more text choices walked.pieces place next context piece so_far new
          walked.are_filed step is becomes;
      is_first = is_first ∙ ap (λ (f : Option ℕ). first_after f piece) walked.is_first
          ∙ sym (first_token-more walked.pieces piece);
    }

pub HasFound-walked : (text : List ℕ) (is_typed : Bool) (choices : List Choice) (claims : List Piece)
    (marks : List Mark)
    (place : Place) (watch : Watch) (so_far : SoFar) (first body : Option ℕ) (comments : List FiledComment)
    → IsWalked text is_typed choices claims marks place watch so_far first → IsEnd text place
    → IsWatchEnd watch → IsTrue (begins_at text first body) → comments ≡ filed_by text so_far []
    → HasFound text is_typed choices claims marks body comments
HasFound-walked text is_typed choices claims marks place watch so_far first body comments walked end watch_end
    begins are = record {
      pieces = walked.pieces;
      are_tiles = record { end = place; leads = walked.leads; is_end = end };
      are_watched = record {
        end = place;
        watch = watch;
        watches = walked.watches;
        is_watch_end = watch_end;
      };
      are_pieces = claims-are_pieces text is_typed (start choices) claims marks walked.pieces place watch
          walked.watches
          watch_end;
      comments_are = are ∙ AreFiledTo-all text choices walked.pieces place so_far walked.are_filed;
      begins = subst (λ (f : Option ℕ). IsTrue (begins_at text f body)) walked.is_first begins;
    }

-- No piece leads from the start to the start.
pub IsWalked-none : (text : List ℕ) (is_typed : Bool) (choices : List Choice) (claims : List Piece)
    (marks : List Mark)
    (place : Place) (watch : Watch) (so_far : SoFar) → place ≡ start choices
    → watch ≡ watch_start claims marks
    → so_far ≡ record { filed = []; waiting = []; newest = None; token = None }
    → IsWalked text is_typed choices claims marks place watch so_far None
unfolding first_token
IsWalked-none text is_typed choices claims marks place watch so_far is is_watch nothing = record {
  pieces = [];
  leads = subst (λ (p : Place). Leads text (start choices) [] p) (sym is) none;
  watches = subst (λ (p : Place). Watches text is_typed (start choices) (watch_start claims marks) [] p watch)
      (sym is)
      (subst (λ (w : Watch). Watches text is_typed (start choices) (watch_start claims marks) [] (start
      choices) w)
      (sym is_watch) watch_none);
  are_filed = AreFiledTo-none text choices place so_far is nothing;
  is_first = refl;
}

-- More pieces, after the first token; before it none.
pub IsWalked-turns : (text : List ℕ) (is_typed : Bool) (choices : List Choice) (claims : List Piece)
    (marks : List Mark) (from : Place) (watch : Watch) (so_far : SoFar) (first : Option ℕ) (place : Place)
    (seen : Watch) (now : SoFar) → IsWalked text is_typed choices claims marks from watch so_far first
    → Turns text is_typed from watch so_far place seen now
    → (is_some first ≡ false → IsSame from watch so_far place seen now)
    → IsWalked text is_typed choices claims marks place seen now first
IsWalked-turns text is_typed choices claims marks from watch so_far first place seen now walked turns_none
    idle =
    walked
IsWalked-turns text is_typed choices claims marks from watch so_far None place seen now walked
    (turns_more more_turns turn) idle =
    let same = idle refl in rw (same.place_is, same.seen_is, same.now_is) walked
IsWalked-turns text is_typed choices claims marks from watch so_far (Some first) place seen now walked
    (turns_more more_turns turn) idle =
    IsWalked-more text is_typed choices claims marks _ place _ _ seen _ now (Some first) (Some first)
    turn.piece
    (IsWalked-turns text is_typed choices claims marks from watch so_far (Some first) _ _ _ walked more_turns
    (λ none. absurd (true≢false none))) turn.is_next refl turn.is_seen turn.is_filed refl
