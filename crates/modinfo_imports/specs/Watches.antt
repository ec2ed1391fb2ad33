-- A watch over the tokens of a text: no word that a dependency begins with is lost. A node of the tree begins
-- there, or what is around the word shows that no dependency does. ⏎ is a line end.
use Rattle.std.specs.Prelude.{◌≡◌, ℕ, ◌-◌, ◌==◌, Bool, true, false, not, ◌&&◌, ◌||◌, List, [], ◌∷◌, ◌++◌}
use Rattle.std.specs.Prelude.{Option, Some, codes, drop, if◌then◌else◌, is_some, option_map}
use Rattle.std.specs.Prelude.{slice_index, slice_range}
use Rattle.modinfo_imports.specs.Claims.{claims_after, form_of, is_claimed, marks_after}
use Rattle.modinfo_imports.specs.Duties.{is_byte, is_one_of, met_by, met_duty, sight_of}
use Rattle.modinfo_imports.specs.Keywords.{keyword_of}
use Rattle.modinfo_pieces.specs.Openings.{is_brace}
use Rattle.modinfo_pieces.specs.Places.{IsNext, Place, context_of}
use Rattle.modinfo_pieces.specs.Tiles.{is_comment_kind}
use Rattle.modinfo_pieces.specs.Words.{is_word_byte}
use Rattle.modinfo_imports.specs.declared.claims.Form.{Form}
use Rattle.modinfo_imports.specs.declared.claims.Form.TheVariants as forms
use Rattle.modinfo_imports.specs.declared.claims.Mark.{Mark}
use Rattle.modinfo_imports.specs.declared.duty.Duty.{Duty}
use Rattle.modinfo_imports.specs.declared.duty.Phase.{Phase}
use Rattle.modinfo_imports.specs.declared.duty.Phase.TheVariants as phases
use Rattle.modinfo_imports.specs.declared.duty.Duty.TheVariants as duties
use Rattle.modinfo_imports.specs.declared.duty.Sight.{Sight}
use Rattle.modinfo_imports.specs.declared.duty.Sight.TheVariants.{Other}
use Rattle.modinfo_imports.specs.declared.keyword.Keyword.{Keyword}
use Rattle.modinfo_imports.specs.declared.keyword.Keyword.TheVariants as keywords
use Rattle.modinfo_pieces.specs.declared.piece.Piece.{Piece}
use Rattle.modinfo_pieces.specs.declared.piece.PieceKind.{PieceKind}
use Rattle.modinfo_pieces.specs.declared.piece.PieceKind.TheVariants.{Hashbang, HtmlComment, Punctuation}
use Rattle.modinfo_pieces.specs.declared.piece.PieceKind.TheVariants.{Space, Word}
use Rattle.modinfo_pieces.specs.declared.place.Before.{Before}
use Rattle.modinfo_pieces.specs.declared.place.Before.TheVariants.{Dot, DotDot, Value}
use Rattle.modinfo_pieces.specs.declared.place.Context.{Context}
use Rattle.modinfo_pieces.specs.declared.place.Opening.{Opening}
use Rattle.modinfo_pieces.specs.declared.place.Opening.TheVariants.{ClosingTag, Program, Tag}

-- What is known of the tokens before a place: what the next one must be, what was asked after each open
-- parenthesis, innermost first, the last token's first byte, whether an export began with a decorator, as in
-- `@a export class B {}`, and the claims and the marks that weren't met yet.
pub record Watch : Type 0 where
  pub duty : Duty
  pub parentheses : List Duty
  pub last : ℕ
  pub is_decorated : Bool
  pub claims : List Piece
  pub marks : List Mark

-- At the start of a text.
abbrev pub watch_start : List Piece → List Mark → Watch
watch_start claims marks =
    record {
      duty = duties.Nothing;
      parentheses = [];
      last = 0;
      is_decorated = false;
      claims = claims;
      marks = marks;
    }

-- White space, a comment or the `#!` line is no token.
abbrev pub is_gap : PieceKind → Bool
is_gap Space = true
is_gap HtmlComment = true
is_gap Hashbang = true
is_gap kind = is_comment_kind kind

-- The name of a member, as in `a.import`, `a?.import`, `1..import`, not `...import("a")`, or a name in a
-- tag, as in `<a import b={c}/>`, `<import {...a}/>`, `</import>`.
abbrev pub is_member : Before → Opening → Bool
is_member Dot inside = true
is_member DotDot inside = true
is_member before Tag = true
is_member before ClosingTag = true
is_member before inside = false

-- The end of an expression, or a word that isn't an operator.
abbrev pub is_value : Before → Bool
is_value Value = true
is_value _ = false

-- A word right after the slash that ends a regular expression is in the place of its flags: `/a/import`. The
-- slash of a comment, `a⏎ /* b */import("c")`, isn't that of a regular expression.
abbrev pub is_flags : Context → ℕ → ℕ → Bool
is_flags context previous last =
    ((previous == 47) && (last == 47)) && (is_value context.before && not context.is_after_line_end)

-- A word is a name by what is before. `#import` is a name too.
unfoldable pub is_name : Context → ℕ → ℕ → Bool
is_name context previous last =
    is_member context.before context.inside || ((previous == 35) || is_flags context previous last)

-- What a word is that isn't a name.
abbrev pub keyword_at : List ℕ → Context → Piece → ℕ → Keyword
keyword_at text context piece last =
    (if is_name context (slice_index text (piece.start - 1)) last then keywords.Other
    else keyword_of (slice_range text piece.start piece.end))

-- On another line a member may have ended with a token: a word, as in `class A { in⏎ import() {} }`, a `)`,
-- and in TypeScript a `?` or a `!`, as in `class A { a?⏎ import() {} }`.
abbrev pub may_end_member : Bool → ℕ → Bool
may_end_member is_typed last =
    is_word_byte last || ((last == 41) || (is_typed && is_one_of (codes "?!") last))

-- A method may be named after a token: after `{`, `}`, `;`, `,`, `*` or `>`, a decorator, the end of a
-- member, or a word as `get`, but not after `:`, `=`, `=>`, `(` or an operator, as in `a = import(b)`, `a ?
-- import(b) : c`, `case import(b):`, `await import(b)`.
abbrev pub may_be_method : Bool → Context → ℕ → Bool
may_be_method is_typed context last =
    (is_value context.before || is_one_of (codes "{};,*>@") last)
    || (context.is_after_line_end && may_end_member is_typed last)

-- The word that meets a duty is a name: in the list of an import or an export, as in
-- `export { import as require }`, between `import` and `=`, as in `import require = a.b`, or a key of
-- attributes.
abbrev pub is_listed : Duty → Bool
is_listed duties.AsName = true
is_listed duties.ExportNames = true
is_listed duties.ExportEnd = true
is_listed (duties.Names _ _) = true
is_listed duties.Name = true
is_listed duties.Alias = true
is_listed (duties.Colon _ _) = true
is_listed _ = false

-- What the tree says of an import by its first word.
abbrev pub phase_of : Option Form → Phase
phase_of (Some forms.Types) = phases.Types
phase_of (Some forms.Source) = phases.Source
phase_of (Some forms.Defer) = phases.Defer
phase_of _ = phases.Plain

abbrev pub is_of_types : Option Form → Bool
is_of_types (Some forms.Types) = true
is_of_types _ = false

-- An item begins at an `export` outside of everything, at which a node begins, or at the decorators before.
-- In TypeScript's `[export: string, export: number]` it is a name.
abbrev pub begins_item : Opening → Bool → ℕ → Bool
begins_item Program is_decorated last = not (is_decorated || is_one_of (codes "[,") last)
begins_item inside is_decorated last = false

-- The duty after a word: whether the word is the first of the claims, what the tree says of the word, whether
-- an item begins if the word is `export`, whether the word is in braces, and may name a method, the duty
-- before, and the duty that the word has met. The `import` of `export import a = B.C` is that of a node. A
-- name isn't called in `new require("a")`, `function require() {}`, `import a = require("a")`. TypeScript's
-- `typeof export` is that of a name.
unfoldable pub duty_after_word : Keyword → Bool → Option Form → Bool → Bool → Bool → Duty → Duty → Duty
duty_after_word keywords.Import true form _ _ _ _ _ = duties.Start (phase_of form)
duty_after_word keywords.Import _ _ _ _ _ duties.Claimed _ = duties.Names true false
duty_after_word keywords.Import _ _ _ _ _ (duties.Export _ true _) _ = duties.Names true false
duty_after_word keywords.Import _ _ _ in_braces method _ _ = duties.Import in_braces (in_braces && method)
duty_after_word keywords.Require _ (Some forms.Call) _ _ _ _ met = met
duty_after_word keywords.Require _ _ _ _ _ duties.NoCall met = met
duty_after_word keywords.Require _ _ _ in_braces method _ _ = duties.Require (in_braces && method)
duty_after_word keywords.Export _ _ _ _ _ duties.TypeOf met = met
duty_after_word keywords.Export false _ true _ _ _ _ = duties.ExportAlone
duty_after_word keywords.Export claimed form _ in_braces _ _ _ =
    duties.Export (in_braces && not claimed) claimed (is_of_types form)
duty_after_word keywords.Module _ _ _ _ _ _ _ = duties.Module
duty_after_word keywords.New _ _ _ _ _ _ _ = duties.NoCall
duty_after_word keywords.TypeOf _ _ _ _ _ _ _ = duties.TypeOf
duty_after_word keywords.Other true _ _ _ _ _ _ = duties.Claimed
duty_after_word keywords.Other false _ _ _ _ _ met = met

-- The innermost parenthesis is that of the parameters of a method that is named `import` or `require`.
abbrev pub is_method : List Duty → Bool
is_method (duties.Parenthesis ∷ _) = true
is_method _ = false

-- The duty after a token, by the duty that the token has met. A `)` may be that of a method's parameters.
unfoldable pub duty_after : List ℕ → Bool → Context → Piece → PieceKind → Watch → Sight → Duty → Duty
duty_after text is_typed context piece Word watch sight met =
    (if is_listed met then met
    else duty_after_word (keyword_at text context piece watch.last) (is_claimed piece watch.claims)
    (form_of piece watch.marks) (begins_item context.inside watch.is_decorated watch.last)
    (is_brace context.inside) (may_be_method is_typed context watch.last) watch.duty met)
duty_after text is_typed context piece kind watch sight met =
    (if is_byte (codes ")") sight && is_method watch.parentheses then duties.Parameters else met)

-- The parentheses after a token.
abbrev pub parentheses_after : Sight → Duty → List Duty → List Duty
parentheses_after sight met parentheses =
    (if is_byte (codes "(") sight then met ∷ parentheses
    else (if is_byte (codes ")") sight then drop 1 parentheses else parentheses))

-- The first byte of a token, but `=` for the second byte of `=>`, and `@` for the name of a decorator.
abbrev pub last_of : ℕ → ℕ → ℕ
last_of previous byte =
    (if (byte == 62) && (previous == 61) then 61 else (if previous == 64 then 64 else byte))

-- A claimed `@` is that of a decorator with which an export begins.
abbrev pub is_decorated_after : Piece → PieceKind → Watch → Bool
is_decorated_after piece Punctuation watch =
    (if is_claimed piece watch.claims then true else watch.is_decorated)
is_decorated_after piece kind watch = watch.is_decorated

-- The watch after a token, by the duty that the token has met.
abbrev pub watch_met : List ℕ → Bool → Context → Piece → Watch → Sight → Duty → Watch
watch_met text is_typed context piece watch sight met = record {
  duty = duty_after text is_typed context piece piece.kind watch sight met;
  parentheses = parentheses_after sight met watch.parentheses;
  last = last_of (slice_index text (piece.start - 1)) (slice_index text piece.start);
  is_decorated = is_decorated_after piece piece.kind watch;
  claims = claims_after piece watch.claims;
  marks = marks_after piece watch.marks;
}

-- The watch after a piece, if the piece meets the duty.
abbrev pub watch_after : List ℕ → Bool → Context → Piece → Watch → Option Watch
watch_after text is_typed context piece watch =
    let sight = sight_of text piece piece.kind in
    (if is_gap piece.kind then Some watch
    else option_map (watch_met text is_typed context piece watch sight)
    (met_duty (form_of piece watch.marks) piece.start watch.duty sight context.is_after_line_end is_typed))

-- Pieces lead from one place to another, and a watch goes over them.
pub data Watches (text : List ℕ) (is_typed : Bool) (from : Place) (watch : Watch)
    : List Piece → Place → Watch → Type 0 where
  none : Watches text is_typed from watch [] from watch
  more : {pieces : List Piece} {place : Place} {seen : Watch} {piece : Piece} {next : Place} {after : Watch}
      → Watches text is_typed from watch pieces place seen → IsNext text place piece next
      → watch_after text is_typed (context_of place) piece seen ≡ Some after
      → Watches text is_typed from watch (pieces ++ piece ∷ []) next after

-- At the end of a text: each claim is met, and nothing more is asked, so that the end may be in place of a
-- token.
pub record IsWatchEnd (watch : Watch) : Type 0 where
  pub claims : watch.claims ≡ []
  pub marks : watch.marks ≡ []
  pub duty : is_some (met_by watch.duty Other false false) ≡ true
