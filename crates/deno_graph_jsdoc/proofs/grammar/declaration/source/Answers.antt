-- `from`, the specifier and maybe attributes.
use Rattle.std.proofs.Common.{◌≡◌, ◌+◌, length, codes, refl, ap, arith, rules}
use Rattle.std.proofs.lemmas.Str.{encodes-chars}
use Rattle.std.specs.Str.{IsUtf8, chars}
use Rattle.deno_graph_jsdoc.specs.JsDocGrammar.{◌·◌, Is, IsSpace}
use Rattle.deno_graph_jsdoc.specs.JsDocImport.{EndsDeclaration, byte_count}
use Rattle.deno_graph_jsdoc.proofs.Imports.{no_head, no_quote, import_read, ends_at, byte_count_before}
use Rattle.deno_graph_jsdoc.proofs.Imports.{BeginsWithImport-within}
use Rattle.deno_graph_jsdoc.proofs.Cached.{AreCached-after, AreCached-skipped}
use Rattle.deno_graph_jsdoc.proofs.grammar.declaration.source.Goals as goal
use Rattle.deno_graph_jsdoc.proofs.grammar.declaration.source.Goals.{In_ok-quoted}

before : (c : In_ok-quoted)
    → byte_count c.in_ok-quoted.ensures.0.piece + length c.in_ok-quoted.quoted.now ≡ length c.args.input.now
before c =
    let utf8 : IsUtf8 c.in_ok-quoted.quoted.now = search rules in
    byte_count_before c.args.input.now c.in_ok-quoted.quoted.now c.in_ok-quoted.ensures.0.piece c.utf8.input
    utf8 c.in_ok-quoted.ensures.0.whole

pub returns-in_err-quoted-clause-parsed : goal.returns-in_err-quoted-clause-parsed
returns-in_err-quoted-clause-parsed c = rw c.from_residual.ensures
    (no_head (Is (codes "from") · IsSpace) EndsDeclaration (chars c.args.input.now) c.in_err-quoted.ensures)

pub returns-in_err-after-clause-parsed : goal.returns-in_err-after-clause-parsed
returns-in_err-after-clause-parsed c =
    rw c.from_residual-in_err-after.ensures
    (no_quote (Is (codes "from") · IsSpace) EndsDeclaration (chars c.args.input.now)
    (chars c.in_ok-quoted.quoted.now) c.in_ok-quoted.ensures c.in_err-after.ensures)

pub overflow_sub-start : goal.overflow_sub-start
overflow_sub-start c = omega (arith, before (goal.at.overflow_sub-start c).In_ok-quoted)

pub returns-clause-parsed : goal.returns-clause-parsed
returns-clause-parsed c =
    let ends = ends_at (chars c.in_ok-after.after.now) c.with_attributes.result c.skip_space-after.result
    c.unwrap_or-resolution_mode.result
    c.skip_space-after.ensures c.with_attributes.ensures c.unwrap_or-resolution_mode.ensures in
    let utf8 : IsUtf8 c.in_ok-after.specifier.now = search rules in
    import_read (Is (codes "from") · IsSpace) EndsDeclaration (chars c.args.input.now)
    (chars c.in_ok-quoted.quoted.now) c.in_ok-quoted.ensures
    (chars c.in_ok-after.after.now) (chars c.in_ok-after.specifier.now) c.in_ok-after.ensures _ _ refl
    (omega (arith, before (goal.at.returns-clause-parsed c).In_ok-quoted))
    (omega (arith, ap length (encodes-chars c.in_ok-after.specifier.now utf8)))
    ends.0 ends.1

pub returns-clause-within : goal.returns-clause-within
returns-clause-within c =
    BeginsWithImport-within (Is (codes "from") · IsSpace) EndsDeclaration c.args.input.now _ _ c.utf8.input
    (returns-clause-parsed c).0

pub with_attributes-requires : goal.with_attributes-requires
with_attributes-requires c =
    AreCached-skipped (chars c.in_ok-after.after.now) (chars c.skip_space-after.result.now) c.args.lists.now
    c.skip_space-after.ensures
    (AreCached-after c.args.lists.now c.in_ok-after.ensures.0
    (AreCached-after c.args.lists.now c.in_ok-quoted.ensures.0 c.requires))
