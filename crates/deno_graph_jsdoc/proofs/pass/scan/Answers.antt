-- One `import` after another.
use Rattle.std.proofs.Common.{◌≡◌, ◌≢◌, ℕ, ◌+◌, ◌-◌, ◌<◌, ◌≤◌, inl, Option, Some, None, List, [], ◌++◌}
use Rattle.std.proofs.Common.{append_assoc, length, map, option_map, refl, sym, ap, ◌∙◌, subst, codes, arith}
use Rattle.std.proofs.Common.{rules, Vec, Global}
use Rattle.std.proofs.lemmas.Bool.{both_ways}
use Rattle.std.proofs.lemmas.Str.{length-le-encodes}
use Rattle.std.specs.Option.{MatchOption}
use Rattle.std.specs.Str.{IsUtf8, chars}
use Rattle.deno_graph_jsdoc.specs.declared.grammar.declaration.NamesEnd.{NamesEnd}
use Rattle.deno_graph_jsdoc.specs.declared.import.JsDocImport.{JsDocImport}
use Rattle.deno_graph_jsdoc.specs.JsDocImport.{import_of, moved, byte_count}
use Rattle.deno_graph_jsdoc.specs.internal.Braces.{Keeps}
use Rattle.deno_graph_jsdoc.specs.internal.Cache.{AreCached, AreCachedSpaces}
use Rattle.deno_graph_jsdoc.specs.JsDocImports.{occurrences}
use Rattle.deno_graph_jsdoc.specs.internal.Pass.{GainsImport}
use Rattle.deno_graph_jsdoc.proofs.Braces.{IsUnclosed-back, Keeps-back}
use Rattle.deno_graph_jsdoc.proofs.Imports.{byte_count_before}
use Rattle.deno_graph_jsdoc.proofs.Cached.{AreCached-back, AreCachedSpaces-back}
use Rattle.deno_graph_jsdoc.proofs.Passes.{Found, Found-start, Found-imports, Found-dynamics, Found-decls}
use Rattle.deno_graph_jsdoc.proofs.Passes.{Takes, dynamic_skip, dynamic_take, decl_skip, decl_take, next}
use Rattle.deno_graph_jsdoc.proofs.Passes.{next_whole, next_cut, next_longer, next_skips, declaration_here}
use Rattle.deno_graph_jsdoc.proofs.Passes.{at_declaration, dynamic_here, at_dynamic}
use Rattle.deno_graph_jsdoc.proofs.Occurrences.{occurrences-after}
use Rattle.deno_graph_jsdoc.proofs.Sites.{word, Skips}
use Rattle.deno_graph_jsdoc.proofs.Texts.{split_word}
use Rattle.deno_graph_jsdoc.proofs.Words.{IsAscii-from_test}
use Rattle.deno_graph_jsdoc.proofs.pass.scan.Goals as goal
use Rattle.deno_graph_jsdoc.proofs.pass.scan.Goals.{After-leaves_open, In-Some, In_default}
use Rattle.deno_graph_jsdoc.proofs.pass.scan.Goals.{then-ends_with_at+in_ok-add, else-ends_with_at}

pub loop-before-init : goal.loop-before-init
loop-before-init c = record {
  utf8 = search rules;
  front = [];
  whole = refl;
  cut = inl refl;
  found =
      subst (λ (items : List JsDocImport). Found (chars c.args.text.now) (map import_of items) 0 0 [] [])
      (sym c.new-imports.ensures.items) (Found-start (chars c.args.text.now));
  keeps = tt;
  few = omega arith;
}

-- the list after `add`
takes : (rest beyond : List ℕ) (old new : List JsDocImport) (found : Option JsDocImport)
    (by : ℕ) → by ≡ byte_count beyond
    → MatchOption found (new ≡ old)
    (λ import. GainsImport (map import_of old) (moved by (import_of import)) (map import_of new))
    → Takes beyond (map import_of old)
    (option_map (λ import. (rest, import)) (option_map import_of found)) (map import_of new)
takes rest beyond old new None by is same = ap (map import_of) same
takes rest beyond old new (Some import) by is gains =
    subst (λ n. GainsImport (map import_of old) (moved n (import_of import)) (map import_of new)) is gains

-- the `import` that was found
split : (c : In-Some)
    → (chars c.loop-before.rest.now ≡ chars c.in-Some.before.now ++ (word ++ chars c.in-Some.after.now))
    × ((sooner beyond : List ℕ) → chars c.in-Some.before.now ++ word ≡ sooner ++ (word ++ beyond)
    → beyond ≡ [])
split c =
    let utf8 : IsUtf8 c.in-Some.before.now = search rules in
    split_word (codes "import") c.loop-before.rest.now (Some (c.in-Some.before, c.in-Some.after))
    (search rules) (IsAscii-from_test (codes "import") refl) utf8 c.in-Some.ensures.cases

whole : (c : In-Some) → chars c.args.text.now ≡ c.loop-before.invariant.front
    ++ (chars c.in-Some.before.now ++ (word ++ chars c.in-Some.after.now))
whole c = c.loop-before.invariant.whole ∙ ap (λ t. c.loop-before.invariant.front ++ t) (split c).0

abbrev beyond : In-Some → List ℕ
beyond c = next (chars c.args.text.now) c.loop-before.invariant.front (chars c.in-Some.before.now)
    (chars c.in-Some.after.now) c.loop-before.invariant.cut (whole c) (split c).1

through : (c : In-Some) → chars c.args.text.now ≡ beyond c ++ chars c.in-Some.after.now
through c = next_whole (chars c.args.text.now) c.loop-before.invariant.front (chars c.in-Some.before.now)
    (chars c.in-Some.after.now) c.loop-before.invariant.cut (whole c) (split c).1

bytes : (c : In-Some) → byte_count (beyond c) + length c.in-Some.after.now ≡ length c.args.text.now
bytes c =
    let utf8 : IsUtf8 c.in-Some.after.now = search rules in
    byte_count_before c.args.text.now c.in-Some.after.now (beyond c) c.utf8.text utf8 (through c)

longer : (c : In-Some) → length c.loop-before.invariant.front < length (beyond c)
longer c = next_longer (chars c.args.text.now) c.loop-before.invariant.front (chars c.in-Some.before.now)
    (chars c.in-Some.after.now) c.loop-before.invariant.cut (whole c) (split c).1

pub overflow_sub-by : goal.overflow_sub-by
overflow_sub-by c = omega (arith, bytes c)

pub overflow_add-decl_starts : goal.overflow_add-decl_starts
overflow_add-decl_starts c =
    let here = (goal.at.overflow_add-decl_starts c).In-Some in
    let few = c.loop-before.invariant.found.few_decls in
    omega (arith, few, bytes here, longer here, length-le-encodes (beyond here))

pub overflow_add-dynamic_starts : goal.overflow_add-dynamic_starts
overflow_add-dynamic_starts c =
    let here = (goal.at.overflow_add-dynamic_starts c).In-Some in
    let few = c.loop-before.invariant.found.few_dynamics in
    omega (arith, few, bytes here, longer here, length-le-encodes (beyond here))

pub find_import-found-requires-clause-unclosed : goal.find_import-found-requires-clause-unclosed
find_import-found-requires-clause-unclosed c =
    let here = (goal.at.find_import-found-requires-clause-unclosed c).In-Some in
    IsUnclosed-back (chars c.args.text.now) (beyond here) (chars c.in-Some.after.now)
    c.unclosed_len-unclosed.result (through here) c.unclosed_len-unclosed.ensures

-- the cache of the next brace at a later offset
still : (c : In-Some) → Keeps (chars c.in-Some.after.now) c.loop-before.cache
still c =
    Keeps-back (chars c.loop-before.rest.now) (chars c.in-Some.before.now ++ word)
    (chars c.in-Some.after.now) c.loop-before.cache
    ((split c).0 ∙ sym (append_assoc (chars c.in-Some.before.now) word (chars c.in-Some.after.now)))
    c.loop-before.invariant.keeps

pub find_import-found-requires-clause-keeps : goal.find_import-found-requires-clause-keeps
find_import-found-requires-clause-keeps c = still (goal.at.find_import-found-requires-clause-keeps c).In-Some

pub find_import-requires-clause-unclosed : goal.find_import-requires-clause-unclosed
find_import-requires-clause-unclosed c =
    let here = (goal.at.find_import-requires-clause-unclosed c).In-Some in
    IsUnclosed-back (chars c.args.text.now) (beyond here) (chars c.in-Some.after.now)
    c.unclosed_len-unclosed.result (through here) c.unclosed_len-unclosed.ensures

-- the cached attributes after the `import`
lists : (c : In-Some) → AreCached (chars c.in-Some.after.now) c.as_slice-lists.result.now
lists c =
    AreCached-back (chars c.args.text.now) (beyond c) (chars c.in-Some.after.now) c.as_slice-lists.result.now
    (through c)
    (subst (AreCached (chars c.args.text.now)) (sym c.as_slice-lists.ensures.value) c.in_ok-table.ensures)

pub find_import-found-requires-clause-lists : goal.find_import-found-requires-clause-lists
find_import-found-requires-clause-lists c = lists (goal.at.find_import-found-requires-clause-lists c).In-Some

pub find_import-requires-clause-lists : goal.find_import-requires-clause-lists
find_import-requires-clause-lists c = lists (goal.at.find_import-requires-clause-lists c).In-Some

-- the cached white space after the `import`
spaces : (c : In-Some) → AreCachedSpaces (chars c.in-Some.after.now) c.as_slice-spaces.result.now
spaces c =
    AreCachedSpaces-back (chars c.args.text.now) (beyond c) (chars c.in-Some.after.now)
    c.as_slice-spaces.result.now (through c)
    (subst (AreCachedSpaces (chars c.args.text.now)) (sym c.as_slice-spaces.ensures.value)
    c.in_ok-space_table.ensures)

pub find_import-requires-clause-spaces : goal.find_import-requires-clause-spaces
find_import-requires-clause-spaces c = spaces (goal.at.find_import-requires-clause-spaces c).In-Some

skips : (c : In-Some) → Skips (chars c.args.text.now) c.loop-before.invariant.front (beyond c)
skips c = next_skips (chars c.args.text.now) c.loop-before.invariant.front (chars c.in-Some.before.now)
    (chars c.in-Some.after.now) c.loop-before.invariant.cut (whole c) (split c).1

by : (c : In-Some) → length c.args.text.now - length c.in-Some.after.now ≡ byte_count (beyond c)
by c = omega (arith, bytes c)

-- the imports found and the cache, after the declaration that may begin here
abbrev Declared : (c : After-leaves_open) → In-Some → Type 0
Declared c here =
    Found (chars c.args.text.now) (map import_of c.if-ends_with_at.imports.items) c.loop-before.dynamic_starts
    c.if-ends_with_at.decl_starts c.loop-before.invariant.front (beyond here)
    × Keeps (chars c.in-Some.after.now) c.if-ends_with_at.cache

declared : (c : After-leaves_open) → Declared c (goal.at.After-leaves_open c).In-Some
declared c =
    let here = (goal.at.After-leaves_open c).In-Some in
    let i = c.loop-before.invariant in
    let text = chars c.args.text.now in
    let before = chars c.in-Some.before.now in
    let after = chars c.in-Some.after.now in
    let State : Vec JsDocImport Global → ℕ → Option NamesEnd → Type 0 = λ imports count cache. Found text
    (map import_of imports.items) c.loop-before.dynamic_starts count i.front (beyond here)
    × Keeps after cache in
    elim c.if-ends_with_at.branch [
      | then-ends_with_at+in_ok-add w ↦
          let read = w.find_import-found.ensures.found in
          let found = decl_take text i.front (beyond here) after (through here) (skips here) (longer here)
          (map import_of w.add.new.imports.items)
          (option_map (λ import. (read.0, import)) (option_map import_of w.find_import-found.result))
          i.found
          (declaration_here text i.front before after i.cut (whole here) (split here).1
          (c.ends_with_at.ensures.0 w.if-ends_with_at.true)) read.1
          (takes read.0 (beyond here) c.loop-before.imports.items w.add.new.imports.items
          w.find_import-found.result (length c.args.text.now - length c.in-Some.after.now) (by here)
          w.in_ok-add.ensures) in
          subst (λ v. State v c.if-ends_with_at.decl_starts c.if-ends_with_at.cache) (sym w.imports-is)
          (subst (λ n. State w.add.new.imports n c.if-ends_with_at.cache) (sym w.decl_starts-is)
          (subst (State w.add.new.imports (c.loop-before.decl_starts + 1)) (sym w.cache-is)
          (found, w.find_import-found.ensures.keeps)))
      | else-ends_with_at w ↦
          let found = decl_skip text i.front (beyond here) after (through here) (skips here)
          (longer here) i.found
          (λ site. both_ways c.ends_with_at.result w.if-ends_with_at.false (c.ends_with_at.ensures.1
          (at_declaration text i.front before after i.cut (whole here) (split here).1 site))) in
          subst (λ v. State v c.if-ends_with_at.decl_starts c.if-ends_with_at.cache) (sym w.imports-is)
          (subst (λ n. State c.loop-before.imports n c.if-ends_with_at.cache) (sym w.decl_starts-is)
          (subst (State c.loop-before.imports c.loop-before.decl_starts) (sym w.cache-is)
          (found, still here)))
    ]

-- the number of dynamic starts that can still come
fewer : (c : In-Some) → c.loop-before.dynamic_starts + 1 + occurrences word (chars c.in-Some.after.now)
    ≤ occurrences word (chars c.args.text.now)
fewer c =
    let one_less =
    occurrences-after (chars c.loop-before.rest.now) (chars c.in-Some.before.now)
    (chars c.in-Some.after.now) (split c).0 in
    omega (arith, one_less, c.loop-before.invariant.few)

pub loop-before-preserved-in_ok-add-2 : goal.loop-before-preserved-in_ok-add-2
loop-before-preserved-in_ok-add-2 c =
    let at = goal.at.loop-before-preserved-in_ok-add-2 c in
    let here = at.In-Some in
    let i = c.loop-before.invariant in
    let text = chars c.args.text.now in
    let before = chars c.in-Some.before.now in
    let after = chars c.in-Some.after.now in
    let so_far = declared at.After-leaves_open in
    let read = c.find_import.ensures.found in
    record {
      utf8 = search rules;
      front = beyond here;
      whole = through here;
      cut = next_cut text i.front before after i.cut (whole here) (split here).1;
      found =
          dynamic_take text i.front (beyond here) after (through here) (skips here) (longer here)
          (map import_of c.add-then-leaves_open.new.imports.items)
          (option_map (λ import. (read.0, import)) (option_map import_of c.find_import.result)) so_far.0
          (dynamic_here text i.front before after i.cut (whole here) (split here).1
          (c.leaves_open.ensures.0 c.if-leaves_open.true)) read.1
          (takes read.0 (beyond here) c.if-ends_with_at.imports.items
          c.add-then-leaves_open.new.imports.items c.find_import.result
          (length c.args.text.now - length c.in-Some.after.now) (by here) c.in_ok-add-2.ensures);
      keeps = so_far.1;
      few = fewer here;
    }

pub loop-before-preserved : goal.loop-before-preserved
loop-before-preserved c =
    let at = goal.at.loop-before-preserved c in
    let here = at.In-Some in
    let i = c.loop-before.invariant in
    let text = chars c.args.text.now in
    let before = chars c.in-Some.before.now in
    let after = chars c.in-Some.after.now in
    let so_far = declared at.After-leaves_open in
    let fewer_here = fewer here in
    record {
      utf8 = search rules;
      front = beyond here;
      whole = through here;
      cut = next_cut text i.front before after i.cut (whole here) (split here).1;
      found =
          dynamic_skip text i.front (beyond here) after (through here) (skips here) (longer here) so_far.0
          (λ site. both_ways c.leaves_open.result c.if-leaves_open.false (c.leaves_open.ensures.1
          (at_dynamic text i.front before after i.cut (whole here) (split here).1 site)));
      keeps = so_far.1;
      few = omega (arith, fewer_here);
    }

-- no `import` is left
none : (c : In_default) → (sooner beyond : List ℕ) → chars c.loop-before.rest.now ≢ sooner ++ (word ++ beyond)
none c = split_word (codes "import") c.loop-before.rest.now None (search rules)
    (IsAscii-from_test (codes "import") refl) tt c.in_default.ensures.cases

pub returns-clause-imports : goal.returns-clause-imports
returns-clause-imports c =
    let i = c.loop-before.invariant in
    Found-imports (chars c.args.text.now) i.front (chars c.loop-before.rest.now) i.cut i.whole
    (none (goal.at.returns-clause-imports c).In_default)
    (map import_of c.loop-before.imports.items) c.loop-before.dynamic_starts c.loop-before.decl_starts i.found

pub returns-clause-dynamic : goal.returns-clause-dynamic
returns-clause-dynamic c =
    let i = c.loop-before.invariant in
    Found-dynamics (chars c.args.text.now) i.front (chars c.loop-before.rest.now) i.cut i.whole
    (none (goal.at.returns-clause-dynamic c).In_default)
    (map import_of c.loop-before.imports.items) c.loop-before.dynamic_starts c.loop-before.decl_starts i.found

pub returns-clause-declarations : goal.returns-clause-declarations
returns-clause-declarations c =
    let i = c.loop-before.invariant in
    Found-decls (chars c.args.text.now) i.front (chars c.loop-before.rest.now) i.cut i.whole
    (none (goal.at.returns-clause-declarations c).In_default)
    (map import_of c.loop-before.imports.items) c.loop-before.dynamic_starts c.loop-before.decl_starts i.found
