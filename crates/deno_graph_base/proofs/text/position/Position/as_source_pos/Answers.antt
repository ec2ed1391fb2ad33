use Rattle.std.proofs.Common.{◌≡◌, ◌==◌, ◌&&◌, ◌↔◌, ℕ, Bool, true, false, List, Option, Some, IsNone, ap, sym}
use Rattle.std.proofs.Common.{◌∙◌, refl, subst}
use Rattle.std.proofs.lemmas.Bool.{false≢true}
use Rattle.std.specs.Bool.{then_some}
use Rattle.std.specs.Str.{IsUtf8}
use Rattle.deno_graph_base.specs.internal.Cursor.{IsCursor}
use Rattle.deno_graph_base.specs.Position.{HasPosition, IsAt}
use Rattle.deno_graph_base.specs.declared.text.cursor.Cursor.{Cursor}
use Rattle.deno_graph_base.specs.declared.text.position.Position.{Position}
use Rattle.deno_graph_base.proofs.CursorLemmas.{same_boundary, not_found}
use Rattle.deno_graph_base.proofs.PositionLemmas.{same_from_test, differs_from_test}
use Rattle.deno_graph_base.proofs.text.position.Position.as_source_pos.Goals as goal

-- the result is the offset where the search stopped exactly if the cursor has the position
abbrev IsExact : List ℕ → Position → Option ℕ → Type 0
IsExact text wanted found =
    (IsNone found ↔ ¬ (HasPosition text wanted)) × ((offset : ℕ) → IsAt text wanted offset → found
    ≡ Some offset)

exact : (text : List ℕ) (cursor : Cursor) (wanted : Position) (here : Bool) → IsUtf8 text
    → IsCursor text cursor
    → (¬ (cursor.position ≡ wanted) → ¬ (HasPosition text wanted))
    → here ≡ ((cursor.position.line == wanted.line) && (cursor.position.character == wanted.character))
    → IsExact text wanted (then_some here cursor.offset)
exact text cursor wanted true utf8 is missed test =
    let same = same_from_test cursor.position wanted test in (
      (
        λ none. absurd (false≢true (sym none)),
        λ no. absurd (no (cursor.offset, (is.boundary, sym is.position ∙ same))),
      ),
      λ offset at. ap Some
          (same_boundary text cursor.offset offset utf8 is.boundary at.0 (sym is.position ∙ same ∙ sym at.1)),
    )
exact text cursor wanted false utf8 is missed test =
    let no = missed (differs_from_test cursor.position wanted test) in
    ((λ _. no, λ _. refl), λ offset at. absurd (no (offset, at)))

answer : (c : goal.After-then_some) → IsExact c.args.text_info.now c.args.self.now c.then_some.result
answer c =
    let text = c.text.result.now in
    let from = c.cursor_up_to_position.result in
    let cursor = c.first_not_before-cursor.result in
    let stop = c.first_not_before-cursor.ensures in
    let first : IsCursor text from =
    subst (λ t. IsCursor t from) (sym c.text.ensures) c.cursor_up_to_position.ensures.cursor in
    let missed = not_found text from cursor c.args.self.now c.text.utf8 first stop.cursor
    c.cursor_up_to_position.ensures.before stop.before stop.end in
    subst (IsExact c.args.text_info.now c.args.self.now) (sym c.then_some.ensures)
    (subst (λ t. IsExact t c.args.self.now (then_some c.eq.result cursor.offset)) c.text.ensures
    (exact text cursor c.args.self.now c.eq.result c.text.utf8 stop.cursor missed c.eq.ensures))

pub returns-clause-none : goal.returns-clause-none
returns-clause-none c = (answer c).0

pub returns-clause-found : goal.returns-clause-found
returns-clause-found c = (answer c).1
