-- The next brace, and the text after it.
use Rattle.std.proofs.Common.{◌≡◌, ◌<◌, ◌≤◌, ◌+◌, ◌^◌, List, ℕ, Option, Some, None, [], ◌++◌, codes, length}
use Rattle.std.proofs.Common.{sym, subst, arith, rules}
use Rattle.std.specs.Str.{chars}
use denote.Ref.{Bor}
use Rattle.deno_graph_jsdoc.specs.Characters.{closing_brace}
use Rattle.deno_graph_jsdoc.specs.JsDocGrammar.{◌·◌, Is, IsSpace, IsGap, IsClause, Lacks, NoSpace}
use Rattle.deno_graph_jsdoc.specs.internal.Reading.{IsDeclarationEnd, IsSource, ReadsImport, rest_and_import}
use Rattle.deno_graph_jsdoc.specs.internal.Reading.{Reads}
use Rattle.deno_graph_jsdoc.specs.JsDocImport.{EndsDeclaration, import_of, byte_count}
use Rattle.deno_graph_jsdoc.specs.internal.Braces.{Keeps, IsNextEnd}
use Rattle.deno_graph_jsdoc.specs.declared.import.JsDocImport.{JsDocImport}
use Rattle.deno_graph_jsdoc.proofs.Braces.{IsUnclosed-back, Keeps-back, Keeps-next, opening}
use Rattle.deno_graph_jsdoc.proofs.Clauses.{Head, head_no_gap}
use Rattle.deno_graph_jsdoc.proofs.Declarations.{no_clause, names_without_end, names_head, after_clause}
use Rattle.deno_graph_jsdoc.proofs.Imports.{BeginsWithImport-within, byte_count_before, counted_from}
use Rattle.deno_graph_jsdoc.proofs.Cached.{AreCached-after}
use Rattle.deno_graph_jsdoc.proofs.grammar.declaration.find_import.Goals as goal
use Rattle.deno_graph_jsdoc.proofs.grammar.declaration.find_import.Goals.{In-Some, In_ok-end, In_ok-import-2}

pub returns-in_err-clause-clause-found : goal.returns-in_err-clause-clause-found
returns-in_err-clause-clause-found c =
    rw c.from_residual.ensures (
      [],
      no_clause (chars c.args.input.now)
          (head_no_gap (chars c.args.input.now) c.in_err-clause.ensures),
    )

-- the text up to the opening brace, with the brace
before : (c : In-Some) → (front : List ℕ) × Lacks closing_brace front
    × (chars c.args.input.now ≡ front ++ chars c.in-Some.inside.now)
before c = opening (chars c.args.input.now) (chars c.in_ok-clause.clause.now)
    (chars c.in-Some.inside.now) c.in_ok-clause.ensures.0 c.in-Some.ensures.0

pub advance-requires-clause-unclosed : goal.advance-requires-clause-unclosed
advance-requires-clause-unclosed c =
    let front = before (goal.at.advance-requires-clause-unclosed c).In-Some in
    IsUnclosed-back (chars c.args.input.now) front.0
    (chars c.in-Some.inside.now) c.args.unclosed front.2 c.requires.unclosed

pub advance-requires-clause-lists : goal.advance-requires-clause-lists
advance-requires-clause-lists c =
    AreCached-after c.args.lists.now c.in-Some.ensures.0
    (AreCached-after c.args.lists.now c.in_ok-clause.ensures.0 c.requires.lists)

pub advance-requires-clause-keeps : goal.advance-requires-clause-keeps
advance-requires-clause-keeps c =
    let front = before (goal.at.advance-requires-clause-keeps c).In-Some in
    Keeps-back (chars c.args.input.now) front.0
    (chars c.in-Some.inside.now) c.args.cache.now front.2 c.requires.keeps

pub returns-in_err-end-clause-found : goal.returns-in_err-end-clause-found
returns-in_err-end-clause-found c =
    let next = subst (IsNextEnd (chars c.in-Some.inside.now))
    (sym c.in_err-end.ensures.value) c.advance.ensures in
    rw c.from_residual-in_err-end.ensures (
      [],
      names_without_end (chars c.args.input.now) (chars c.in_ok-clause.clause.now)
          (chars c.in-Some.inside.now) c.in_ok-clause.ensures c.in-Some.ensures next.is_next,
    )

-- the next brace, and the text up to the end of the white space after the brace
next : (c : In_ok-end) → IsNextEnd (chars c.in-Some.inside.now) (Some c.in_ok-end.end.now)
next c = subst (IsNextEnd (chars c.in-Some.inside.now)) (sym c.in_ok-end.ensures.value) c.advance.ensures

head : (c : In_ok-end) → Reads NoSpace Head (chars c.args.input.now)
    (Some (chars c.in_ok-end.end.now.from.now, tt))
head c =
    let end = next c in
    subst (λ (t : List ℕ). Reads NoSpace Head (chars c.args.input.now) (Some (t, tt))) (sym end.is_end.from)
    (names_head (chars c.args.input.now) (chars c.in_ok-clause.clause.now) (chars c.in-Some.inside.now)
    c.in_ok-clause.ensures c.in-Some.ensures (chars c.in_ok-end.end.now.after.now) end.is_next)

kept : (c : In_ok-end) → Keeps (chars c.args.input.now) c.advance.new.cache
kept c =
    let front = opening (chars c.args.input.now) (chars c.in_ok-clause.clause.now)
    (chars c.in-Some.inside.now) c.in_ok-clause.ensures.0 c.in-Some.ensures.0 in
    Keeps-next (chars c.args.input.now) front.0
    (chars c.in-Some.inside.now) c.advance.new.cache front.2 front.1 c.advance.ensures

pub returns-in_err-import-2-clause-found : goal.returns-in_err-import-2-clause-found
returns-in_err-import-2-clause-found c =
    let here = (goal.at.returns-in_err-import-2-clause-found c).In_ok-end in
    let end = next here in
    let from = chars c.in_ok-end.end.now.from.now in
    rw c.from_residual-in_err-import-2.ensures (
      [],
      after_clause (chars c.args.input.now) from (head here) None
          (subst (λ (s : Option (Bor (List ℕ) × JsDocImport)). ReadsImport IsSource from (rest_and_import s))
          (sym c.in_err-import-2.ensures.value) end.is_end.source),
    )

pub returns-in_err-import-2-clause-keeps : goal.returns-in_err-import-2-clause-keeps
returns-in_err-import-2-clause-keeps c = kept (goal.at.returns-in_err-import-2-clause-keeps c).In_ok-end

-- the import that was read after the brace
source : (c : In_ok-import-2)
    → ReadsImport IsSource (chars c.in_ok-end.end.now.from.now)
    (rest_and_import (Some c.in_ok-import-2.field-0.now))
source c =
    let end = subst (IsNextEnd (chars c.in-Some.inside.now))
    (sym c.in_ok-end.ensures.value) c.advance.ensures in
    subst (λ (s : Option (Bor (List ℕ) × JsDocImport)). ReadsImport IsSource
    (chars c.in_ok-end.end.now.from.now) (rest_and_import s))
    (sym c.in_ok-import-2.ensures.value) end.is_end.source

bytes : (c : In_ok-end)
    → byte_count (head c).0.piece + length c.in_ok-end.end.now.from.now ≡ length c.args.input.now
bytes c =
    let end = next c in
    byte_count_before c.args.input.now c.in_ok-end.end.now.from.now
    (head c).0.piece c.utf8.input end.is_end.from_utf8 (head c).0.whole

pub overflow_sub-input : goal.overflow_sub-input
overflow_sub-input c = omega (arith, bytes (goal.at.overflow_sub-input c).In_ok-end)

within : (c : In_ok-import-2) → (c.in_ok-import-2.field-0.now.1.specifier_range.start
    ≤ c.in_ok-import-2.field-0.now.1.specifier_range.end)
    × (c.in_ok-import-2.field-0.now.1.specifier_range.end ≤ length c.in_ok-end.end.now.from.now)
within c =
    let end = subst (IsNextEnd (chars c.in-Some.inside.now))
    (sym c.in_ok-end.ensures.value) c.advance.ensures in
    BeginsWithImport-within (Is (codes "from") · IsSpace) EndsDeclaration c.in_ok-end.end.now.from.now
    (import_of c.in_ok-import-2.field-0.now.1) _ end.is_end.from_utf8 (source c).0

pub moved-requires-clause-fits : goal.moved-requires-clause-fits
moved-requires-clause-fits c =
    let here = goal.at.moved-requires-clause-fits c in
    let small : length c.args.input.now < 2 ^ 64 = search rules in
    omega (arith, bytes here.In_ok-end, (within here.In_ok-import-2).1, small)

pub returns-clause-found : goal.returns-clause-found
returns-clause-found c =
    let here = goal.at.returns-clause-found c in
    let found = c.in_ok-import-2.field-0.now in (
      chars found.0.now,
      counted_from IsDeclarationEnd c.args.input.now c.in_ok-end.end.now.from.now
          (head here.In_ok-end).0.piece (chars found.0.now) (import_of found.1) (import_of c.moved.result)
          (bytes here.In_ok-end) c.moved.ensures
          (after_clause (chars c.args.input.now) (chars c.in_ok-end.end.now.from.now) (head here.In_ok-end)
          (Some (chars found.0.now, import_of found.1)) (source here.In_ok-import-2)),
    )

pub returns-clause-within : goal.returns-clause-within
returns-clause-within c =
    BeginsWithImport-within (IsGap · IsClause · IsSpace · Is (codes "from") · IsSpace) EndsDeclaration
    c.args.input.now
    _ _ c.utf8.input (returns-clause-found c).1.0

pub returns-clause-keeps : goal.returns-clause-keeps
returns-clause-keeps c = kept (goal.at.returns-clause-keeps c).In_ok-end
