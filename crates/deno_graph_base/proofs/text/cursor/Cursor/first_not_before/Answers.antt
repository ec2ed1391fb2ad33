use Rattle.std.proofs.Common.{◌≡◌, inl, inr, ◌++◌, length, drop, length-drop, arith, ap, ◌∙◌, subst, refl}
use Rattle.std.proofs.lemmas.Bool.{cases_lt, false≢true}
use Rattle.std.proofs.lemmas.Str.{IsUtf8-drop, IsCharBoundary-past_char, drop_past_char}
use Rattle.std.specs.Str.Iter.{chars_rest}
use lib.Utf8.{encode}
use Rattle.deno_graph_base.specs.Position.{IsBefore, position_at}
use Rattle.deno_graph_base.proofs.CursorLemmas.{line_le_offset, character_le_offset, IsCursor-past}
use Rattle.deno_graph_base.proofs.CursorLemmas.{past_char_le}
use Rattle.deno_graph_base.proofs.text.cursor.Cursor.first_not_before.Goals as goal

pub loop-c-init : goal.loop-c-init
loop-c-init c = record {
  cursor = c.skip_before-cursor.ensures.cursor;
  rest = cc (c.range_from.ensures.value, c.chars-c-items.ensures.rest);
  before = c.skip_before-cursor.ensures.before;
}

pub past-cursor-requires-clause-offset : goal.past-cursor-requires-clause-offset
past-cursor-requires-clause-offset c =
    let text = c.args.text.now in
    let is = c.loop-c.invariant.cursor in
    let here : drop c.loop-c.cursor.offset text ≡ encode c.in-Some.c ++ chars_rest c.next.new.self =
    c.loop-c.invariant.rest ∙ c.in-Some.ensures.steps.0 in
    let next = IsCharBoundary-past_char text _ _ _ is.boundary.0 (IsUtf8-drop text _ c.utf8.text is.boundary)
    here in
    omega (arith, next.0)

pub past-cursor-requires-clause-line : goal.past-cursor-requires-clause-line
past-cursor-requires-clause-line c =
    let text = c.args.text.now in
    let is = c.loop-c.invariant.cursor in
    let here : drop c.loop-c.cursor.offset text ≡ encode c.in-Some.c ++ chars_rest c.next.new.self =
    c.loop-c.invariant.rest ∙ c.in-Some.ensures.steps.0 in
    let next = IsCharBoundary-past_char text _ _ _ is.boundary.0 (IsUtf8-drop text _ c.utf8.text is.boundary)
    here in
    omega (arith, line_le_offset text _ c.utf8.text is, next.0)

pub past-cursor-requires-clause-character : goal.past-cursor-requires-clause-character
past-cursor-requires-clause-character c =
    let text = c.args.text.now in
    let is = c.loop-c.invariant.cursor in
    let here : drop c.loop-c.cursor.offset text ≡ encode c.in-Some.c ++ chars_rest c.next.new.self =
    c.loop-c.invariant.rest ∙ c.in-Some.ensures.steps.0 in
    let next = IsCharBoundary-past_char text _ _ _ is.boundary.0 (IsUtf8-drop text _ c.utf8.text is.boundary)
    here in
    omega (arith, character_le_offset text _ c.utf8.text is, next.0)

pub loop-c-preserved : goal.loop-c-preserved
loop-c-preserved c =
    let text = c.args.text.now in
    let is = c.loop-c.invariant.cursor in
    let here : drop c.loop-c.cursor.offset text ≡ encode c.in-Some.c ++ chars_rest c.next.new.self =
    c.loop-c.invariant.rest ∙ c.in-Some.ensures.steps.0 in
    record {
      cursor = IsCursor-past text _ c.loop-c.cursor c.past-cursor.result _ c.utf8.text is here
          c.past-cursor.ensures.offset c.past-cursor.ensures.position;
      rest = ap (λ n. drop n text) c.past-cursor.ensures.offset ∙ drop_past_char text _ _ _ here;
      before = λ offset from below boundary. elim (cases_lt offset c.loop-c.cursor.offset) [
        | inl under ↦ c.loop-c.invariant.before offset from under boundary
        | inr over ↦ elim (cases_lt c.loop-c.cursor.offset offset) [
          | inl beyond ↦
              let inside = past_char_le text _ _ _ offset c.utf8.text is.boundary here boundary beyond in
              absurd (omega (arith, inside, c.past-cursor.ensures.offset))
          | inr same ↦
              let is_it : c.loop-c.cursor.offset ≡ offset = omega arith in
              subst (λ p. IsBefore p c.args.wanted) (is.position ∙ ap (position_at text) is_it)
              (c.if-not-is_before.ensures.fact.0 refl)
        ]
      ];
    }

pub returns-then-not-is_before : goal.returns-then-not-is_before
returns-then-not-is_before c = record {
  cursor = c.loop-c.invariant.cursor;
  before = c.loop-c.invariant.before;
  end = λ is. absurd (false≢true (c.if-not-is_before.ensures.fact.1 is));
}

pub returns : goal.returns
returns c = record {
  cursor = c.loop-c.invariant.cursor;
  before = c.loop-c.invariant.before;
  end = λ _. omega (
    arith,
    length-drop c.loop-c.cursor.offset c.args.text.now,
    ap length c.loop-c.invariant.rest,
    c.in-None.ensures.steps.0.0,
    c.loop-c.invariant.cursor.boundary.0,
  );
}
