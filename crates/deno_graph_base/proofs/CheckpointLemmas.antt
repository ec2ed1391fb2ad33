-- Lists of checkpoints in ascending order, and the offsets within their reach.
use Rattle.std.proofs.Common.{◌≡◌, ℕ, ◌+◌, ◌-◌, ◌<◌, ◌≤◌, inl, inr, Bool, true, false, List, [], ◌∷◌, ◌++◌}
use Rattle.std.proofs.Common.{length, get_or, zero, suc, All, not, refl, sym, ap, ◌∙◌, subst, arith}
use Rattle.std.proofs.Common.{length-append}
use Rattle.std.proofs.lemmas.Bool.{cases_lt, cases_Bool, false≢true}
use Rattle.std.proofs.lemmas.List.{get_or_append_left, get_or_push, get_or_default}
use Rattle.std.proofs.lemmas.List.Elements.{All-append}
use Rattle.std.proofs.lemmas.List.Sorted.{IsNonDecreasingBy-push}
use Rattle.std.specs.List.{AllWithin}
use Rattle.std.specs.List.Sorted.{IsPartitionedBy, IsNonDecreasingBy}
use Rattle.std.specs.Str.{IsUtf8}
use Rattle.deno_graph_base.specs.internal.Cursor.{IsCursor, AreCursors, IsNear, reach, is_before}
use Rattle.deno_graph_base.specs.Position.{IsAt, IsBefore, position_at}
use Rattle.deno_graph_base.specs.declared.text.cursor.Cursor.{Cursor}
use Rattle.deno_graph_base.specs.declared.text.position.Position.{Position}
use Rattle.deno_graph_base.proofs.CursorLemmas.{before_from_lt}
use Rattle.deno_graph_base.proofs.PositionLemmas.{IsBefore-trans, IsBefore-irreflexive, is_before-true}
use Rattle.deno_graph_base.proofs.PositionLemmas.{is_before-from}

-- the cursors at or before `wanted` are before the others
pub partitioned : (text : List ℕ) (cursors : List Cursor) (wanted : Position) → IsUtf8 text
    → AreCursors text cursors → IsPartitionedBy (λ cursor. not (is_before wanted cursor.position)) cursors
partitioned text cursors wanted utf8 are i j d order within later =
    let first = are.all i d (omega arith) in
    let second = are.all j d within in
    elim (cases_Bool (is_before wanted (get_or cursors i d).position)) [
      | inr reached ↦ ap not reached
      | inl missed ↦
          let beyond : ¬ (IsBefore wanted (get_or cursors j d).position) =
          λ before. false≢true (ap not (sym (is_before-from wanted (get_or cursors j d).position before))
          ∙ later) in
          let reaches = is_before-true wanted (get_or cursors i d).position missed in
          absurd (elim (cases_lt (get_or cursors i d).offset (get_or cursors j d).offset) [
            | inl less ↦
                let more = before_from_lt text _ _ utf8 first.boundary second.boundary less in
                beyond (IsBefore-trans _ _ _ reaches (subst (λ p. IsBefore (get_or cursors i d).position p)
                (sym second.position) (subst (λ p. IsBefore p (position_at text (get_or cursors j d).offset))
                (sym first.position) more)))
            | inr no_less ↦
                let up = are.ascending i j d order within in
                let here : (get_or cursors i d).offset ≡ (get_or cursors j d).offset = omega arith in
                beyond (subst (IsBefore wanted) (first.position ∙ ap (position_at text) here
                ∙ sym second.position) reaches)
          ])
    ]

All-one : (P : Cursor → Type 0) (cursor : Cursor) → P cursor → All P (cursor ∷ [])
All-one P cursor is zero d within = is
All-one P cursor is (suc k) d within = absurd (omega (arith, within))

-- a list with one more cursor, at or after the others
pub AreCursors-push : (text : List ℕ) (cursors : List Cursor) (cursor : Cursor) (last : ℕ)
    → AreCursors text cursors
    → IsCursor text cursor → All (λ p. p.offset ≤ last) cursors → last ≤ cursor.offset
    → AreCursors text (cursors ++ cursor ∷ [])
AreCursors-push text cursors cursor last are is below later = record {
  all = All-append (IsCursor text) cursors (cursor ∷ []) are.all (All-one (IsCursor text) cursor is);
  ascending = IsNonDecreasingBy-push (λ p. p.offset) cursors cursor are.ascending
      (λ d some. let near = below (length cursors - 1) d (omega arith) in omega arith);
}

-- the new cursor is the last
pub below_last : (cursors : List Cursor) (cursor : Cursor) (last : ℕ) → All (λ p. p.offset ≤ last) cursors
    → last ≤ cursor.offset → All (λ p. p.offset ≤ cursor.offset) (cursors ++ cursor ∷ [])
below_last cursors cursor last below later =
    All-append (λ p. p.offset ≤ cursor.offset) cursors (cursor ∷ [])
    (λ k d within. let near = below k d within in omega arith)
    (All-one (λ p. p.offset ≤ cursor.offset) cursor (omega arith))

-- offsets near the cursors stay near, and those up to a reach after the new cursor become near
pub near_push : (cursors : List Cursor) (cursor : Cursor) (last : ℕ)
    → ((offset : ℕ) → offset < last + reach → IsNear cursors offset) → cursor.offset < last + reach
    → (offset : ℕ)
    → offset < cursor.offset + reach → IsNear (cursors ++ cursor ∷ []) offset
near_push cursors cursor last near gap offset under = elim (cases_lt offset (last + reach)) [
  | inl early ↦ elim (near offset early) [
    | inl first ↦ inl first
    | inr (k, x, within, is, at)
        ↦ inr (
          k,
          x,
          omega (arith, length-append cursors (cursor ∷ [])),
          get_or_append_left cursors (cursor ∷ []) x k within ∙ is,
          at,
        )
  ]
  | inr beyond ↦ inr (
    length cursors,
    cursor,
    omega (arith, length-append cursors (cursor ∷ [])),
    get_or_push cursors cursor cursor (length cursors) refl,
    (omega arith, under),
  )
]

-- `offset` is within reach of the last cursor that a search passes, if it passes all up to `offset`
pub near_passed : (cursors : List Cursor) (passed : ℕ) (test : Cursor → Bool) (offset : ℕ) (d : Cursor)
    → IsNonDecreasingBy (λ cursor. cursor.offset) cursors
    → AllWithin (λ cursor. test cursor ≡ false) cursors passed (length cursors)
    → ((k : ℕ) (e : Cursor) → k < length cursors → (get_or cursors k e).offset ≤ offset
    → test (get_or cursors k e) ≡ true) → passed ≤ length cursors → IsNear cursors offset
    → (passed ≡ 0 → offset < reach) × (0 < passed → offset < (get_or cursors (passed - 1) d).offset + reach)
near_passed cursors passed test offset d ascending failed passes bound (inl first) =
    (λ _. first, λ _. omega arith)
near_passed cursors passed test offset d ascending failed passes bound (inr (k, x, within, is, at)) =
    let from : (get_or cursors k x).offset ≤ offset = subst (λ (p : Cursor). p.offset ≤ offset) (sym is)
    at.0 in
    let to : offset < (get_or cursors k x).offset + reach =
    subst (λ (p : Cursor). offset < p.offset + reach) (sym is) at.1 in
    let before : k < passed = elim (cases_lt k passed) [
      | inl under ↦ under
      | inr over ↦ absurd (false≢true (sym (failed k x over within) ∙ passes k x within from))
    ] in (
      λ none. absurd (omega arith),
      λ some.
          let order = ascending k (passed - 1) d (omega arith) (omega arith) in
          let same : (get_or cursors k x).offset ≡ (get_or cursors k d).offset =
          ap (λ (p : Cursor). p.offset) (get_or_default cursors k x d within) in
          omega arith,
    )

-- no cursor up to the boundary with the position `wanted` is after `wanted`
pub passes_up_to : (text : List ℕ) (cursors : List Cursor) (wanted : Position) (offset : ℕ) → IsUtf8 text
    → AreCursors text cursors → IsAt text wanted offset → (k : ℕ) (e : Cursor) → k < length cursors
    → (get_or cursors k e).offset ≤ offset → not (is_before wanted (get_or cursors k e).position) ≡ true
passes_up_to text cursors wanted offset utf8 are is k e within up =
    let cursor = are.all k e within in
    elim (cases_Bool (is_before wanted (get_or cursors k e).position)) [
      | inr reached ↦ ap not reached
      | inl missed ↦
          let beyond = is_before-true wanted (get_or cursors k e).position missed in
          absurd (elim (cases_lt (get_or cursors k e).offset offset) [
            | inl less ↦
                let more = before_from_lt text _ offset utf8 cursor.boundary is.0 less in
                IsBefore-irreflexive wanted (IsBefore-trans _ _ _ beyond
                (subst (IsBefore (get_or cursors k e).position) is.1
                (subst (λ p. IsBefore p (position_at text offset)) (sym cursor.position) more)))
            | inr no_less ↦
                let here : (get_or cursors k e).offset ≡ offset = omega arith in
                IsBefore-irreflexive wanted (subst (IsBefore wanted)
                (cursor.position ∙ ap (position_at text) here ∙ is.1) beyond)
          ])
    ]
