-- Turns over plain pieces.
use Rattle.std.proofs.Common.{◌≡◌, ℕ, ◌-◌, ◌==◌, ◌<◌, ◌≤◌, Bool, true, false, ◌||◌, List, [], ◌∷◌}
use Rattle.std.proofs.Common.{Option, Some, None, codes, length, slice_index, slice_range, refl, sym, ap, ◌∙◌}
use Rattle.std.proofs.Common.{arith, if◌then◌else◌, true≢false}
use Rattle.std.proofs.lemmas.List.{append-nil}
use Rattle.modinfo_imports.specs.Claims.{claims_after, form_of, is_claimed, marks_after}
use Rattle.modinfo_imports.specs.Duties.{is_byte, met_by, met_duty, sight_of}
use Rattle.modinfo_imports.specs.Keywords.{keyword_of}
use Rattle.modinfo_imports.specs.Watches.{Watch, duty_after, duty_after_word, is_gap, is_name}
use Rattle.modinfo_imports.specs.Watches.{is_decorated_after, parentheses_after, watch_after}
use Rattle.modinfo_imports.specs.declared.claims.Form.{Form}
use Rattle.modinfo_imports.specs.declared.claims.Mark.{Mark}
use Rattle.modinfo_imports.specs.declared.duty.Duty.{Duty}
use Rattle.modinfo_imports.specs.declared.duty.Duty.TheVariants as duties
use Rattle.modinfo_imports.specs.declared.duty.Sight.{Sight}
use Rattle.modinfo_imports.specs.declared.keyword.Keyword.{Keyword}
use Rattle.modinfo_imports.specs.declared.keyword.Keyword.TheVariants as keywords
use Rattle.modinfo_imports.specs.declared.plain.Asked.{Asked}
use Rattle.modinfo_imports.specs.declared.plain.Asked.TheVariants as asks
use Rattle.modinfo_imports.specs.declared.plain.Plain.{Plain}
use Rattle.modinfo_imports.specs.internal.Plains.{IsPlainTurn, IsPlainTurnIn, after_token, duty_of, place_at}
use Rattle.modinfo_imports.specs.internal.Plains.{Turns, plain_context, so_far_at, token_at, watch_at}
use Rattle.modinfo_imports.specs.internal.Plains.Turns.{more, none}
use Rattle.modinfo_pieces.specs.Ends.{HasEnd}
use Rattle.modinfo_pieces.specs.Filed.{is_token}
use Rattle.modinfo_pieces.specs.Filing.{IsQuiet, SoFar, so_far_after, with_last, with_token}
use Rattle.modinfo_pieces.specs.Befores.{before_after_gap}
use Rattle.modinfo_pieces.specs.Kinds.{kind_at, kind_in_code}
use Rattle.modinfo_pieces.specs.Openings.{innermost, is_element}
use Rattle.modinfo_pieces.specs.Places.{IsNext, around_after, before_after, choices_after, chosen, context_of}
use Rattle.modinfo_pieces.specs.Places.{line_end_after}
use Rattle.modinfo_pieces.specs.Spaces.{has_line_end, space_step}
use Rattle.modinfo_pieces.specs.Steps.{Ends}
use Rattle.modinfo_pieces.specs.WordClasses.{class_after}
use Rattle.modinfo_pieces.specs.Words.{is_word_byte, word_step}
use Rattle.modinfo_pieces.specs.declared.choice.Choice.{Choice}
use Rattle.modinfo_pieces.specs.declared.piece.Piece.{Piece}
use Rattle.modinfo_pieces.specs.declared.piece.PieceKind.{PieceKind}
use Rattle.modinfo_pieces.specs.declared.piece.PieceKind.TheVariants as kinds
use Rattle.modinfo_pieces.specs.declared.place.Before.{Before}
use Rattle.modinfo_pieces.specs.declared.place.Context.{Context}
use Rattle.modinfo_pieces.specs.declared.place.Opening.{Opening}

pub context-unchosen : (plain : Plain) (around : List Opening) (choices : List Choice)
    → chosen plain.at choices ≡ None → context_of (place_at plain around choices) ≡ plain_context plain around
context-unchosen plain around choices is = rw is refl

choices-unchosen : (at : ℕ) (choices : List Choice) → chosen at choices ≡ None
    → choices_after at choices ≡ choices
choices-unchosen at [] is = refl
choices-unchosen at (choice ∷ choices) is = choices-same (choice.offset == at) choice choices is
  where
    choices-same : (same : Bool) (choice : Choice) (choices : List Choice)
        → (if same then Some choice.kind else None) ≡ None
        → (if same then choices else choice ∷ choices) ≡ choice ∷ choices
    choices-same true choice choices is = cc
    choices-same false choice choices is = refl

-- The next place, by a piece that ends here and changes what is around so.
pub next-plain : (text : List ℕ) (plain : Plain) (around new_around : List Opening) (choices : List Choice)
    (kind : PieceKind) (end : ℕ) (before : Before) (is_after_line_end : Bool)
    → chosen plain.at choices ≡ None
    → kind ≡ kind_at text plain.at (plain_context plain around)
    → HasEnd text plain.at kind (Some end) → plain.at < end → end ≤ length text
    → around_after text (record { kind = kind; start = plain.at; end = end }) kind (plain_context plain
    around)
    around ≡ Some new_around
    → before
    ≡ before_after text (record { kind = kind; start = plain.at; end = end }) kind (plain_context plain
    around)
    → is_after_line_end ≡ line_end_after text (record { kind = kind; start = plain.at; end = end }) kind
    plain.is_after_line_end
    → IsNext text (place_at plain around choices) (record { kind = kind; start = plain.at; end = end })
    (record {
      at = end;
      around = new_around;
      before = before;
      is_after_line_end = is_after_line_end;
      choices = choices;
    })
next-plain text plain around new_around choices kind end before after unchosen is_kind has_end on within
    around_is before_is after_is =
    let same = context-unchosen plain around choices unchosen in record {
      is_piece = record {
        start = refl;
        kind = rw same is_kind;
        has_end = has_end;
        goes_on = on;
        is_within = within;
        is_chosen = rw unchosen refl;
      };
      at = refl;
      around = rw same around_is;
      before = rw same before_is;
      is_after_line_end = after_is;
      choices = sym (choices-unchosen plain.at choices unchosen);
    }

-- Any token but a `*` meets a duty of plain pieces.
pub met_by-plain : (asked : Asked) (sight : Sight) (after is_typed : Bool) → is_byte (codes "*") sight ≡ false
    → met_by (duty_of asked) sight after is_typed ≡ Some duties.Nothing
unfolding met_by
met_by-plain asks.Nothing sight after is_typed other = refl
met_by-plain asks.Claimed sight after is_typed other = refl
met_by-plain asks.NoCall sight after is_typed other = rw other refl
met_by-plain asks.TypeOf sight after is_typed other = refl

claims-unmet : (piece : Piece) (claims : List Piece) → is_claimed piece claims ≡ false
    → claims_after piece claims ≡ claims
claims-unmet piece claims unmet = rw unmet refl

marks-unmet : (piece : Piece) (marks : List Mark) → form_of piece marks ≡ None → marks_after piece marks ≡
    marks
marks-unmet piece [] unmet = refl
marks-unmet piece (mark ∷ marks) unmet = marks-same (piece.start == mark.start) mark marks unmet
  where
    marks-same : (same : Bool) (mark : Mark) (marks : List Mark) → (if same then Some mark.form else None) ≡
        None
        → (if same then marks else mark ∷ marks) ≡ mark ∷ marks
    marks-same true mark marks unmet = cc
    marks-same false mark marks unmet = refl

undecorated : (piece : Piece) (kind : PieceKind) (watch : Watch) → is_claimed piece watch.claims ≡ false
    → is_decorated_after piece kind watch ≡ watch.is_decorated
undecorated piece kinds.Punctuation watch unclaimed = rw unclaimed refl
undecorated piece kinds.String watch unclaimed = refl
undecorated piece kinds.Space watch unclaimed = refl
undecorated piece kinds.LineComment watch unclaimed = refl
undecorated piece kinds.BlockComment watch unclaimed = refl
undecorated piece kinds.HtmlComment watch unclaimed = refl
undecorated piece kinds.Hashbang watch unclaimed = refl
undecorated piece kinds.Word watch unclaimed = refl
undecorated piece kinds.Template watch unclaimed = refl
undecorated piece kinds.RegularExpression watch unclaimed = refl
undecorated piece kinds.JsxText watch unclaimed = refl
undecorated piece kinds.JsxString watch unclaimed = refl

-- What a watch sees of a plain token.
pub seen-plain : (text : List ℕ) (is_typed : Bool) (plain next : Plain) (context : Context) (piece : Piece)
    (parentheses new_parentheses : List Duty) (watch : Watch)
    → is_gap piece.kind ≡ false → is_token next.kind ≡ true → next.start ≡ piece.start
    → is_claimed piece watch.claims ≡ false → form_of piece watch.marks ≡ None
    → is_byte (codes "*") (sight_of text piece piece.kind) ≡ false
    → duty_after text is_typed context piece piece.kind (watch_at text plain parentheses watch)
    (sight_of text piece piece.kind) duties.Nothing ≡ duty_of next.asked
    → parentheses_after (sight_of text piece piece.kind) duties.Nothing parentheses ≡ new_parentheses
    → watch_after text is_typed context piece (watch_at text plain parentheses watch)
    ≡ Some (watch_at text next new_parentheses watch)
unfolding met_duty
seen-plain text is_typed plain next context piece parentheses new_parentheses watch no_gap is_a_token start
    unclaimed unmarked no_star duty_is parentheses_is =
    rw (
      no_gap,
      unmarked,
      met_by-plain plain.asked (sight_of text piece piece.kind) context.is_after_line_end is_typed no_star,
      undecorated piece piece.kind (watch_at text plain parentheses watch) unclaimed,
      duty_is,
      parentheses_is,
      claims-unmet piece watch.claims unclaimed,
      marks-unmet piece watch.marks unmarked,
      is_a_token,
      start,
    ) refl

-- A token is the last one, where no comment waits.
filed-plain : (text : List ℕ) (piece : Piece) (token : Option Piece) (so_far : SoFar) → IsQuiet so_far
    → with_last (Some piece) so_far ≡ with_token text piece (with_last token so_far)
filed-plain text piece token so_far quiet =
    rw (quiet.waiting, quiet.newest) (ap (λ l. record {
      filed = l;
      waiting = [];
      newest = None;
      token = Some piece;
    }) (sym (append-nil so_far.filed)))

-- A turn over a plain token.
pub plain-turn : (inside : Bool) (text : List ℕ) (plain : Plain) (kind : PieceKind) (end : ℕ)
    (before : Before) (asked : Asked) (in_element : Bool) (around new_around : List Opening)
    (parentheses new_parentheses : List Duty)
    → plain.at < end → end ≤ length text → is_gap kind ≡ false → is_token kind ≡ true
    → ((context : Context) (so_far : SoFar)
    → so_far_after text context (record { kind = kind; start = plain.at; end = end }) kind so_far
    ≡ with_token text (record { kind = kind; start = plain.at; end = end }) so_far)
    → (is_element (innermost around) ≡ inside → in_element ≡ is_element (innermost new_around))
    → (is_element (innermost around) ≡ inside → 4 ≤ plain.at
    → kind ≡ kind_at text plain.at (plain_context plain around))
    → HasEnd text plain.at kind (Some end)
    → (is_element (innermost around) ≡ inside
    → around_after text (record { kind = kind; start = plain.at; end = end }) kind (plain_context plain
    around)
    around ≡ Some new_around)
    → (is_element (innermost around) ≡ inside → before
    ≡ before_after text (record { kind = kind; start = plain.at; end = end }) kind (plain_context plain
    around))
    → false ≡ line_end_after text (record { kind = kind; start = plain.at; end = end }) kind
    plain.is_after_line_end
    → is_byte (codes "*") (sight_of text (record { kind = kind; start = plain.at; end = end }) kind) ≡ false
    → ((is_typed : Bool) (watch : Watch)
    → is_claimed (record { kind = kind; start = plain.at; end = end }) watch.claims ≡ false
    → duty_after text is_typed (plain_context plain around) (record {
      kind = kind;
      start = plain.at;
      end =
          end;
    })
    kind (watch_at text plain parentheses watch)
    (sight_of text (record { kind = kind; start = plain.at; end = end }) kind) duties.Nothing ≡ duty_of asked)
    → parentheses_after (sight_of text (record { kind = kind; start = plain.at; end = end }) kind)
    duties.Nothing
    parentheses ≡ new_parentheses
    → IsPlainTurnIn inside text plain (after_token plain kind end before asked in_element) around new_around
    parentheses
    new_parentheses
plain-turn inside text plain kind end before asked in_element around new_around parentheses new_parentheses on
    within no_gap is_a_token filed in_is is_kind has_end around_is before_is after_is no_star duty_is
    parentheses_is = record {
      goes_on = on;
      keeps = λ is_none. absurd (true≢false (sym is_a_token ∙ is_none));
      is_plain = λ right outside. record {
        is_past = omega (arith, on, right.is_past);
        in_element = in_is (sym right.in_element ∙ outside);
      };
      is_turn = λ is_typed choices watch so_far right outside unmet quiet.
          let piece : Piece = record { kind = kind; start = plain.at; end = end } in
          let unclaimed : is_claimed piece watch.claims ≡ false = unmet.unclaimed piece refl in
          record {
            piece = piece;
            is_next = next-plain text plain around new_around choices kind end before false unmet.unchosen
                (is_kind (sym right.in_element ∙ outside) right.is_past) has_end on within
                (around_is (sym right.in_element ∙ outside)) (before_is (sym right.in_element ∙ outside))
                after_is;
            is_seen = rw (context-unchosen plain around choices unmet.unchosen)
                (seen-plain text is_typed plain (after_token plain kind end before asked in_element)
                (plain_context plain around) piece parentheses new_parentheses watch no_gap is_a_token refl
                unclaimed (unmet.unmarked piece refl) no_star (duty_is is_typed watch unclaimed)
                parentheses_is);
            is_filed = rw (
              is_a_token,
              filed (context_of (place_at plain around choices)) (so_far_at plain
                  so_far),
            )
                (filed-plain text piece (token_at plain so_far.token) so_far quiet);
          };
    }

-- A word that is no keyword asks nothing, whether it is a name by what is before or not.
pub other_either_way : (is_name : Bool) (keyword : Keyword) (form : Option Form) (item braces method : Bool)
    (before : Duty)
    → keyword ≡ keywords.Other
    → duty_after_word (if is_name then keywords.Other else keyword) false form item braces method before
    duties.Nothing ≡ duties.Nothing
unfolding duty_after_word
other_either_way true keyword form item braces method before is = refl
other_either_way false keyword form item braces method before is = rw is refl

-- After `new` or `function` that is no name, no name is called.
pub new_asks : (is_name : Bool) (keyword : Keyword) (form : Option Form) (item braces method : Bool) (before :
    Duty)
    → is_name ≡ false → keyword ≡ keywords.New
    → duty_after_word (if is_name then keywords.Other else keyword) false form item braces method before
    duties.Nothing ≡ duties.NoCall
unfolding duty_after_word
new_asks is_name keyword form item braces method before no_name is = rw (no_name, is) refl

-- A turn over a plain word.
pub word-turn : (text : List ℕ) (plain : Plain) (end : ℕ) (before : Before) (asked : Asked)
    (around : List Opening) (parentheses : List Duty) → is_word_byte (slice_index text plain.at) ≡ true
    → Ends (word_step text) plain.at end → plain.at < end → end ≤ length text
    → before ≡ class_after plain.before (slice_range text plain.at end)
    → ((last : ℕ) (form : Option Form) (item braces method : Bool) (met : Duty)
    → duty_after_word (if is_name (plain_context plain around) (slice_index text (plain.at - 1)) last
    then keywords.Other else keyword_of (slice_range text plain.at end)) false form item braces method met
    duties.Nothing ≡ duty_of asked)
    → IsPlainTurn text plain (after_token plain kinds.Word end before asked false) around around parentheses
    parentheses
unfolding sight_of duty_after kind_at kind_in_code
word-turn text plain end before asked around parentheses is_word ends on within before_is duty_is =
    plain-turn false text plain kinds.Word end before asked false around around parentheses parentheses on
    within refl refl (λ context so_far. refl) (λ outside. sym outside)
    (λ outside past. rw (outside, is_word) refl) (record { inside = end; ends = ends; is = refl })
    (λ outside. refl) (λ outside. before_is) refl refl
    (λ is_typed watch unclaimed. rw unclaimed (duty_is _ _ _ _ _ _)) refl

-- A turn over white space.
pub space-turn : (text : List ℕ) (plain : Plain) (end : ℕ) (before : Before) (after : Bool)
    (around : List Opening) (parentheses : List Duty)
    → (is_element (innermost around) ≡ false → kinds.Space ≡ kind_at text plain.at (plain_context plain
    around))
    → Ends (space_step text) plain.at end → plain.at < end → end ≤ length text
    → before ≡ before_after_gap plain.before
    → after ≡ (plain.is_after_line_end || has_line_end text plain.at (end - plain.at))
    → IsPlainTurn text plain (record {
      at = end;
      before = before;
      is_after_line_end = after;
      in_element = plain.in_element;
      asked = plain.asked;
      kind = plain.kind;
      start = plain.start;
      end = plain.end;
    }) around around parentheses parentheses
space-turn text plain end before after around parentheses is_kind ends on within before_is after_is = record {
  goes_on = on;
  keeps = λ is_none. (is_none, refl);
  is_plain = λ right outside. record {
    is_past = omega (arith, on, right.is_past);
    in_element = right.in_element;
  };
  is_turn = λ is_typed choices watch so_far right outside unmet quiet. record {
    piece = record { kind = kinds.Space; start = plain.at; end = end };
    is_next = next-plain text plain around around choices kinds.Space end before after unmet.unchosen
        (is_kind (sym right.in_element ∙ outside)) (record { inside = end; ends = ends; is = refl }) on within
        refl before_is after_is;
    is_seen = refl;
    is_filed = refl;
  };
}

pub typeof_asks : (is_name : Bool) (keyword : Keyword) (form : Option Form) (item braces method : Bool)
    (before : Duty) → is_name ≡ false → keyword ≡ keywords.TypeOf
    → duty_after_word (if is_name then keywords.Other else keyword) false form item braces method before
    duties.Nothing ≡ duties.TypeOf
unfolding duty_after_word
typeof_asks is_name keyword form item braces method before no_name is = rw (no_name, is) refl

-- White space leads on, whether a comment waits or not.
pub skipped-turns : (text : List ℕ) (plain : Plain) (around : List Opening) (choices : List Choice) (end : ℕ)
    (before : Before) (after is_typed : Bool) (watch : Watch) (so_far : SoFar)
    → chosen plain.at choices ≡ None → kinds.Space ≡ kind_at text plain.at (plain_context plain around)
    → Ends (space_step text) plain.at end → plain.at < end → end ≤ length text
    → before ≡ before_after_gap plain.before
    → after ≡ (plain.is_after_line_end || has_line_end text plain.at (end - plain.at))
    → Turns text is_typed (place_at plain around choices) watch so_far (record {
      at = end;
      around = around;
      before = before;
      is_after_line_end = after;
      choices = choices;
    }) watch so_far
skipped-turns text plain around choices end before after is_typed watch so_far unchosen is_kind ends on within
    before_is after_is = more none (record {
      piece = record { kind = kinds.Space; start = plain.at; end = end };
      is_next = next-plain text plain around around choices kinds.Space end before after unchosen is_kind
          (record { inside = end; ends = ends; is = refl }) on within refl before_is after_is;
      is_seen = refl;
      is_filed = refl;
    })
