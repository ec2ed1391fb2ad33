-- A pass over a text, from one `import` to the next.
use Rattle.std.proofs.Common.{◌≡◌, ◌≢◌, ℕ, ◌+◌, ◌<◌, ◌≤◌, ◌⊎◌, inl, inr, Option, Some, None, List, [], ◌∷◌}
use Rattle.std.proofs.Common.{◌++◌, length, refl, sym, ap, ◌∙◌, subst, codes, append_assoc, length-append}
use Rattle.std.proofs.Common.{arith}
use Rattle.std.proofs.lemmas.Bool.{cases_lt}
use Rattle.std.proofs.lemmas.List.{append_cancel_left, append_cancel_right, append-nil}
use Rattle.std.specs.List.{AllPairs, Contains}
use Rattle.std.specs.Option.{MatchOption}
use Rattle.deno_graph_jsdoc.specs.Characters.{at_sign, opening_brace}
use Rattle.deno_graph_jsdoc.specs.internal.Reading.{ReadsImport, IsDeclarationEnd, IsDynamicEnd}
use Rattle.deno_graph_jsdoc.specs.JsDocImport.{Import, moved, byte_count}
use Rattle.deno_graph_jsdoc.specs.JsDocImports.{AreImportsIn, HasFronts, IsImportIn, IsFront}
use Rattle.deno_graph_jsdoc.specs.JsDocImports.{EndsAtDynamicImport, EndsAtDeclaration}
use Rattle.deno_graph_jsdoc.specs.internal.Pass.{EndsWithAt, GainsImport, LeavesOpen}
use Rattle.deno_graph_jsdoc.proofs.ImportsIn.{IsImportAfter, IsDynamicImportAfter, IsDeclarationAfter}
use Rattle.deno_graph_jsdoc.proofs.ImportsIn.{import_after_word, dynamic_in, declaration_in, dynamic_ends}
use Rattle.deno_graph_jsdoc.proofs.ImportsIn.{declaration_ends, no_import_after, only_import_after}
use Rattle.deno_graph_jsdoc.proofs.ImportsIn.{import_after, one_import_in}
use Rattle.deno_graph_jsdoc.proofs.Runs.{front_of_front}
use Rattle.deno_graph_jsdoc.proofs.Sites.{word, EndsIn, IsCut, Skips, same_front, skips_to, no_further}
use Rattle.deno_graph_jsdoc.proofs.Sites.{Counted, Counted-start, Counted-skip, Counted-more, Counted-all}

-- no part of the word is a brace
no_brace : (middle rest after : List ℕ)
    → word ++ rest ≡ middle ++ opening_brace ∷ after → length middle < 6 → ⊥
no_brace [] rest after same short =
    let heads : ◌≡◌ {A = ℕ} 105 opening_brace = cc in
    omega (arith, heads)
no_brace (a ∷ []) rest after same short =
    let heads : ◌≡◌ {A = ℕ} 109 opening_brace = cc in
    omega (arith, heads)
no_brace (a ∷ b ∷ []) rest after same short =
    let heads : ◌≡◌ {A = ℕ} 112 opening_brace = cc in
    omega (arith, heads)
no_brace (a ∷ b ∷ c ∷ []) rest after same short =
    let heads : ◌≡◌ {A = ℕ} 111 opening_brace = cc in
    omega (arith, heads)
no_brace (a ∷ b ∷ c ∷ d ∷ []) rest after same short =
    let heads : ◌≡◌ {A = ℕ} 114 opening_brace = cc in
    omega (arith, heads)
no_brace (a ∷ b ∷ c ∷ d ∷ e ∷ []) rest after same short =
    let heads : ◌≡◌ {A = ℕ} 116 opening_brace = cc in
    omega (arith, heads)
no_brace (a ∷ b ∷ c ∷ d ∷ e ∷ f ∷ more) rest after same short = omega arith

-- equal texts have equal last characters
same_last : (a b : ℕ) (xs ys : List ℕ) → xs ++ a ∷ [] ≡ ys ++ b ∷ [] → a ≡ b
same_last a b [] [] same = cc
same_last a b [] (y ∷ ys) same = absurd (omega (arith, ap length same, length-append ys (b ∷ [])))
same_last a b (x ∷ xs) [] same = absurd (omega (arith, ap length same, length-append xs (a ∷ [])))
same_last a b (x ∷ xs) (y ∷ ys) same =
    let tails : xs ++ a ∷ [] ≡ ys ++ b ∷ [] = cc in
    same_last a b xs ys tails

-- the next `import` after an offset where a search begins
module _ (text front before after : List ℕ) (cut : IsCut front)
    (whole : text ≡ front ++ (before ++ (word ++ after)))
    (first : (sooner reached : List ℕ) → before ++ word ≡ sooner ++ (word ++ reached) → reached ≡ []) where
  abbrev pub next : List ℕ
  next = front ++ (before ++ word)

  pub next_whole : text ≡ next ++ after
  next_whole =
      whole ∙ ap (λ t. front ++ t) (sym (append_assoc before word after))
      ∙ sym (append_assoc front (before ++ word) after)

  pub next_cut : IsCut next
  next_cut = inr (front ++ before, sym (append_assoc front before word))

  pub next_longer : length front < length next
  next_longer = omega (arith, length-append front (before ++ word), length-append before word)

  pub next_skips : Skips text front next
  next_skips =
      subst (λ t. Skips t front next) (sym whole)
      (skips_to front (before ++ (word ++ after)) cut before after refl first)

  -- a declaration may begin there exactly if `@` is directly before the word
  pub declaration_here : EndsWithAt before → EndsAtDeclaration next
  declaration_here ends = record {
    front = front ++ ends.front;
    back = codes "@import";
    whole = ap (λ t. front ++ (t ++ word)) (ends.whole ∙ ap (λ t. ends.front ++ t) ends.is_back)
        ∙ ap (λ t. front ++ t) (append_assoc ends.front (at_sign ∷ []) word)
        ∙ sym (append_assoc front ends.front (at_sign ∷ word));
    is_front = tt;
    is_back = refl;
  }

  pub at_declaration : EndsAtDeclaration next → EndsWithAt before
  at_declaration site = by_length (cases_lt (length site.front) (length front))
    where
      all : front ++ before ≡ site.front ++ at_sign ∷ []
      all =
          append_cancel_right (front ++ before) (site.front ++ at_sign ∷ []) word
          (append_assoc front before word ∙ site.whole ∙ ap (λ t. site.front ++ t) site.is_back
          ∙ sym (append_assoc site.front (at_sign ∷ []) word))

      by_cut : IsCut front → before ≡ [] → EndsWithAt before
      by_cut (inl none) empty = absurd (omega (
        arith,
        ap length all,
        length-append front before,
        length-append site.front (at_sign ∷ []),
        ap length none,
        ap length empty,
      ))
      by_cut (inr (earlier, is)) empty =
          let same : (earlier ++ codes "impor") ++ 116 ∷ [] ≡ site.front ++ at_sign ∷ [] =
          append_assoc earlier (codes "impor") (116 ∷ []) ∙ sym is ∙ sym (append-nil front)
          ∙ ap (λ t. front ++ t) (sym empty) ∙ all in
          let last : ◌≡◌ {A = ℕ} 116 at_sign =
          same_last 116 at_sign (earlier ++ codes "impor") site.front same in
          absurd (omega (arith, last))

      empty_before : length before ≡ 0 → before ≡ []
      empty_before = none before
        where
          none : (t : List ℕ) → length t ≡ 0 → t ≡ []
          none [] is = refl
          none (x ∷ t) is = absurd (omega arith)

      by_length : (length site.front < length front) ⊎ (length front ≤ length site.front) → EndsWithAt before
      by_length (inl sooner) = by_cut cut (empty_before
          (omega (arith, ap length all, length-append front before, length-append site.front (at_sign ∷ []))))
      by_length (inr later) =
          let middle = front_of_front front before site.front (at_sign ∷ []) all later in
          record {
            front = middle.0;
            back = at_sign ∷ [];
            whole = append_cancel_left front before (middle.0 ++ at_sign ∷ [])
                (all ∙ ap (λ t. t ++ at_sign ∷ []) middle.1 ∙ append_assoc front middle.0 (at_sign ∷ []));
            is_front = tt;
            is_back = refl;
          }

  -- a dynamic import may begin there exactly if an open brace is before the word
  pub dynamic_here : LeavesOpen before → EndsAtDynamicImport next
  dynamic_here opens =
      let brace = opens.is_back in
      let is : before ≡ opens.front ++ opening_brace ∷ brace.back =
      opens.whole ∙ ap (λ t. opens.front ++ t) (brace.whole ∙ ap (λ t. t ++ brace.back) brace.is_front) in
      record {
        front = front ++ opens.front;
        back = opening_brace ∷ (brace.back ++ word);
        whole = ap (λ t. front ++ (t ++ word)) is
            ∙ ap (λ t. front ++ t) (append_assoc opens.front (opening_brace ∷ brace.back) word)
            ∙ sym (append_assoc front opens.front (opening_brace ∷ (brace.back ++ word)));
        is_front = tt;
        is_back = record {
          front = opening_brace ∷ [];
          back = brace.back ++ word;
          whole = refl;
          is_front = refl;
          is_back = record {
            front = brace.back;
            whole = refl;
            unclosed = brace.is_back;
            first = λ sooner reached same.
                first (opens.front ++ opening_brace ∷ sooner) reached
                (ap (λ t. t ++ word) is ∙ append_assoc opens.front (opening_brace ∷ brace.back) word
                ∙ ap (λ t. opens.front ++ opening_brace ∷ t) same
                ∙ sym (append_assoc opens.front (opening_brace ∷ sooner) (word ++ reached)));
          };
        };
      }

  pub at_dynamic : EndsAtDynamicImport next → LeavesOpen before
  at_dynamic site = by_length (cases_lt (length site.front) (length front))
    where
      upto : List ℕ
      upto = (site.is_back).is_back.front

      all : front ++ (before ++ word) ≡ site.front ++ opening_brace ∷ (upto ++ word)
      all =
          let back = site.is_back in
          site.whole ∙ ap (λ t. site.front ++ t)
          (back.whole ∙ (λ k. back.is_front k ++ (back.is_back).whole k))

      by_case : (earlier : List ℕ) → front ≡ earlier ++ word → (length site.front < length earlier)
          ⊎ (length earlier ≤ length site.front) → length site.front < length front → LeavesOpen before
      by_case earlier is (inl sooner) less =
          let same : site.front ++ opening_brace ∷ (upto ++ word) ≡ earlier ++ (word ++ (before ++ word)) =
          sym all ∙ ap (λ t. t ++ (before ++ word)) is ∙ append_assoc earlier word (before ++ word) in
          let middle = front_of_front (site.front ++ opening_brace ∷ []) (upto ++ word) earlier
          (word ++ (before ++ word)) (append_assoc site.front (opening_brace ∷ []) (upto ++ word) ∙ same)
          (omega (arith, length-append site.front (opening_brace ∷ []))) in
          let tails : upto ++ word ≡ middle.0 ++ (word ++ (before ++ word)) =
          append_cancel_left (site.front ++ opening_brace ∷ []) (upto ++ word)
          (middle.0 ++ (word ++ (before ++ word)))
          (append_assoc site.front (opening_brace ∷ []) (upto ++ word) ∙ same
          ∙ ap (λ t. t ++ (word ++ (before ++ word))) middle.1
          ∙ append_assoc (site.front ++ opening_brace ∷ []) middle.0 (word ++ (before ++ word))) in
          let none = ((site.is_back).is_back).first middle.0 (before ++ word)
          (((site.is_back).is_back).whole ∙ tails) in
          absurd (omega (arith, ap length none, length-append before word))
      by_case earlier is (inr later) less =
          let same : earlier ++ (word ++ (before ++ word)) ≡ site.front ++ opening_brace ∷ (upto ++ word) =
          sym (append_assoc earlier word (before ++ word)) ∙ ap (λ t. t ++ (before ++ word)) (sym is) ∙ all in
          let middle = front_of_front earlier (word ++ (before ++ word)) site.front
          (opening_brace ∷ (upto ++ word)) same later in
          let tails : word ++ (before ++ word) ≡ middle.0 ++ opening_brace ∷ (upto ++ word) =
          append_cancel_left earlier (word ++ (before ++ word)) (middle.0 ++ opening_brace ∷ (upto ++ word))
          (same ∙ ap (λ t. t ++ opening_brace ∷ (upto ++ word)) middle.1
          ∙ append_assoc earlier middle.0 (opening_brace ∷ (upto ++ word))) in
          absurd (no_brace middle.0 (before ++ word) (upto ++ word) tails
          (omega (
            arith,
            ap length is,
            length-append earlier word,
            ap length middle.1,
            length-append earlier middle.0,
          )))

      by_cut : IsCut front → length site.front < length front → LeavesOpen before
      by_cut (inl none) less = absurd (omega (arith, ap length none))
      by_cut (inr (earlier, is)) less =
          by_case earlier is (cases_lt (length site.front) (length earlier)) less

      by_length : (length site.front < length front) ⊎ (length front ≤ length site.front) → LeavesOpen before
      by_length (inl sooner) = by_cut cut sooner
      by_length (inr later) =
          let middle =
          front_of_front front (before ++ word) site.front (opening_brace ∷ (upto ++ word)) all later in
          let tails : before ++ word ≡ middle.0 ++ opening_brace ∷ (upto ++ word) =
          append_cancel_left front (before ++ word) (middle.0 ++ opening_brace ∷ (upto ++ word))
          (all ∙ ap (λ t. t ++ opening_brace ∷ (upto ++ word)) middle.1
          ∙ append_assoc front middle.0 (opening_brace ∷ (upto ++ word))) in
          record {
            front = middle.0;
            back = opening_brace ∷ upto;
            whole = append_cancel_right before (middle.0 ++ opening_brace ∷ upto) word
                (tails ∙ sym (append_assoc middle.0 (opening_brace ∷ upto) word));
            is_front = tt;
            is_back = record {
              front = opening_brace ∷ [];
              back = upto;
              whole = refl;
              is_front = refl;
              is_back = (site.is_back).is_back.unclosed;
            };
          }

-- the imports of one form after fronts up to a length
module _ (P : List ℕ → Type 0) (ends : (front : List ℕ) → P front → EndsIn front)
    (G : List ℕ → Import → List ℕ → Type 0) (text : List ℕ) where
  abbrev pub Complete : ℕ → List Import → Type 0
  Complete limit imports = (front : List ℕ) (import : Import) → IsImportAfter P G text front import
      → length front ≤ limit → Contains imports import

  pub Complete-start : Complete 0 []
  Complete-start front import s fits =
      let end = ends front s.site in
      absurd (omega (arith, ap length end.1, length-append end.0 word))

  pub Complete-grow : (limit : ℕ) (imports more : List Import) → ((import : Import) → Contains imports import
      → Contains more import) → Complete limit imports → Complete limit more
  Complete-grow limit imports more kept all front import s fits = kept import (all front import s fits)

  module _ (last reached : List ℕ) (here : IsFront text reached) (skips : Skips text last reached)
      (imports : List Import) (all : Complete (length last) imports) where
    pub Complete-next : ((import : Import) → IsImportAfter P G text reached import → Contains imports import)
        → Complete (length reached) imports
    Complete-next new front import s fits = by_length (cases_lt (length last) (length front))
      where
        by_length : (length last < length front) ⊎ (length front ≤ length last) → Contains imports import
        by_length (inr old) = all front import s old
        by_length (inl longer) =
            let far = skips front (s.after, s.whole) (ends front s.site) longer in
            new import (subst (λ f. IsImportAfter P G text f import)
            (same_front text front reached (s.after, s.whole) here (omega (arith, far))) s)

-- the result of a pass so far: the imports and the numbers of sites, after fronts up to two lengths
pub record Found (text : List ℕ) (imports : List Import) (dynamics decls : ℕ)
    (dynamic_front decl_front : List ℕ) : Type 0 where
  pub ascending : AllPairs (λ (import later : Import). import.start < later.start) imports
  pub sound : (import : Import) → Contains imports import → IsImportIn text import
  pub dynamic : Complete EndsAtDynamicImport dynamic_ends IsDynamicEnd text (length dynamic_front) imports
  pub decl : Complete EndsAtDeclaration declaration_ends IsDeclarationEnd text (length decl_front) imports
  pub dynamic_count : Counted EndsAtDynamicImport dynamic_ends text (length dynamic_front) dynamics
  pub decl_count : Counted EndsAtDeclaration declaration_ends text (length decl_front) decls
  pub few_dynamics : dynamics ≤ length dynamic_front
  pub few_decls : decls ≤ length decl_front

pub Found-start : (text : List ℕ) → Found text [] 0 0 [] []
Found-start text = record {
  ascending = λ i j d order inside. absurd (omega arith);
  sound = λ import has. absurd (omega (arith, has.1));
  dynamic = Complete-start EndsAtDynamicImport dynamic_ends IsDynamicEnd text;
  decl = Complete-start EndsAtDeclaration declaration_ends IsDeclarationEnd text;
  dynamic_count = Counted-start EndsAtDynamicImport dynamic_ends text;
  decl_count = Counted-start EndsAtDeclaration declaration_ends text;
  few_dynamics = omega arith;
  few_decls = omega arith;
}

-- the new list has the import that it gains, if all elements are imports in the text
pub gained : (text : List ℕ) (old new : List Import) (import : Import)
    → ((other : Import) → Contains old other → IsImportIn text other) → IsImportIn text import
    → GainsImport old import new
    → Contains new import
gained text old new import sound is_in gains =
    let there = gains.there in
    subst (Contains new)
    (one_import_in text there.0 import (by_case there.0 (gains.only there.0 there.1)) is_in there.2) there.1
  where
    by_case : (other : Import) → Contains old other ⊎ (import ≡ other) → IsImportIn text other
    by_case other (inl has) = sound other has
    by_case other (inr is) = subst (IsImportIn text) is is_in

pub gained_sound : (text : List ℕ) (old new : List Import) (import : Import)
    → ((other : Import) → Contains old other → IsImportIn text other) → IsImportIn text import
    → GainsImport old import new
    → (other : Import) → Contains new other → IsImportIn text other
gained_sound text old new import sound is_in gains other has = by_case (gains.only other has)
  where
    by_case : Contains old other ⊎ (import ≡ other) → IsImportIn text other
    by_case (inl old) = sound other old
    by_case (inr is) = subst (IsImportIn text) is is_in

-- the list after a parser has read what follows `reached`
abbrev pub Takes : List ℕ → List Import → Option (List ℕ × Import) → List Import → Type 0
Takes reached old read new =
    MatchOption read (new ≡ old) (λ found. GainsImport old (moved (byte_count reached) found.1) new)

module _ (text last reached after : List ℕ) (whole : text ≡ reached ++ after)
    (skips : Skips text last reached) (longer : length last < length reached) where
  pub dynamic_skip : {imports : List Import} {dynamics decls : ℕ} {other : List ℕ}
      → Found text imports dynamics decls last other → (EndsAtDynamicImport reached → ⊥)
      → Found text imports dynamics decls reached other
  dynamic_skip {imports} {dynamics} found none = record {
    ascending = found.ascending;
    sound = found.sound;
    dynamic = Complete-next EndsAtDynamicImport dynamic_ends IsDynamicEnd text last reached
        (after, whole) skips imports found.dynamic (λ import s. absurd (none s.site));
    decl = found.decl;
    dynamic_count = Counted-skip EndsAtDynamicImport dynamic_ends text last reached
        (after, whole) skips dynamics found.dynamic_count none (omega arith);
    decl_count = found.decl_count;
    few_dynamics = (let few = found.few_dynamics in omega arith);
    few_decls = found.few_decls;
  }

  pub decl_skip : {imports : List Import} {dynamics decls : ℕ} {other : List ℕ}
      → Found text imports dynamics decls other last → (EndsAtDeclaration reached → ⊥)
      → Found text imports dynamics decls other reached
  decl_skip {imports} {dynamics} {decls} found none = record {
    ascending = found.ascending;
    sound = found.sound;
    dynamic = found.dynamic;
    decl = Complete-next EndsAtDeclaration declaration_ends IsDeclarationEnd text last reached
        (after, whole) skips imports found.decl (λ import s. absurd (none s.site));
    dynamic_count = found.dynamic_count;
    decl_count = Counted-skip EndsAtDeclaration declaration_ends text last reached
        (after, whole) skips decls found.decl_count none (omega arith);
    few_dynamics = found.few_dynamics;
    few_decls = (let few = found.few_decls in omega arith);
  }

  pub dynamic_take : {imports : List Import} {dynamics decls : ℕ} {other : List ℕ} (more : List Import)
      (read : Option (List ℕ × Import)) → Found text imports dynamics decls last other
      → EndsAtDynamicImport reached → ReadsImport IsDynamicEnd after read
      → Takes reached imports read more
      → Found text more (dynamics + 1) decls reached other
  dynamic_take {imports} {dynamics} {decls} {other} more None found site none same =
      subst (λ is. Found text is (dynamics + 1) decls reached other) (sym same)
      (record {
        ascending = found.ascending;
        sound = found.sound;
        dynamic = Complete-next EndsAtDynamicImport dynamic_ends IsDynamicEnd text last reached
            (after, whole) skips imports found.dynamic
            (λ import s. absurd
            (no_import_after EndsAtDynamicImport IsDynamicEnd text reached after whole none import s));
        decl = found.decl;
        dynamic_count = Counted-more EndsAtDynamicImport dynamic_ends text last reached
            (after, whole) skips dynamics found.dynamic_count site longer;
        decl_count = found.decl_count;
        few_dynamics = (let few = found.few_dynamics in omega arith);
        few_decls = found.few_decls;
      })
  dynamic_take {imports} {dynamics} {decls} {other} more (Some read) found site parses gains =
      let import = moved (byte_count reached) read.1 in
      let is_in = dynamic_in text reached import
      (import_after EndsAtDynamicImport IsDynamicEnd text reached after whole read parses site) in
      let has = gained text imports more import found.sound is_in gains in
      record {
        ascending = gains.ascending;
        sound = gained_sound text imports more import found.sound is_in gains;
        dynamic = Complete-next EndsAtDynamicImport dynamic_ends IsDynamicEnd text last reached
            (after, whole) skips more
            (Complete-grow EndsAtDynamicImport dynamic_ends IsDynamicEnd text
            (length last) imports more gains.kept found.dynamic)
            (λ i s. subst (Contains more)
            (sym (only_import_after EndsAtDynamicImport IsDynamicEnd text reached after whole
            read parses i s)) has);
        decl = Complete-grow EndsAtDeclaration declaration_ends IsDeclarationEnd text
            (length other) imports more gains.kept found.decl;
        dynamic_count = Counted-more EndsAtDynamicImport dynamic_ends text last reached
            (after, whole) skips dynamics found.dynamic_count site longer;
        decl_count = found.decl_count;
        few_dynamics = (let few = found.few_dynamics in omega arith);
        few_decls = found.few_decls;
      }

  pub decl_take : {imports : List Import} {dynamics decls : ℕ} {other : List ℕ} (more : List Import)
      (read : Option (List ℕ × Import)) → Found text imports dynamics decls other last
      → EndsAtDeclaration reached → ReadsImport IsDeclarationEnd after read
      → Takes reached imports read more
      → Found text more dynamics (decls + 1) other reached
  decl_take {imports} {dynamics} {decls} {other} more None found site none same =
      subst (λ is. Found text is dynamics (decls + 1) other reached) (sym same)
      (record {
        ascending = found.ascending;
        sound = found.sound;
        dynamic = found.dynamic;
        decl = Complete-next EndsAtDeclaration declaration_ends IsDeclarationEnd text last reached
            (after, whole) skips imports found.decl
            (λ import s. absurd
            (no_import_after EndsAtDeclaration IsDeclarationEnd text reached after whole none import s));
        dynamic_count = found.dynamic_count;
        decl_count = Counted-more EndsAtDeclaration declaration_ends text last reached
            (after, whole) skips decls found.decl_count site longer;
        few_dynamics = found.few_dynamics;
        few_decls = (let few = found.few_decls in omega arith);
      })
  decl_take {imports} {dynamics} {decls} {other} more (Some read) found site parses gains =
      let import = moved (byte_count reached) read.1 in
      let is_in = declaration_in text reached import
      (import_after EndsAtDeclaration IsDeclarationEnd text reached after whole read parses site) in
      let has = gained text imports more import found.sound is_in gains in
      record {
        ascending = gains.ascending;
        sound = gained_sound text imports more import found.sound is_in gains;
        dynamic = Complete-grow EndsAtDynamicImport dynamic_ends IsDynamicEnd text
            (length other) imports more gains.kept found.dynamic;
        decl = Complete-next EndsAtDeclaration declaration_ends IsDeclarationEnd text last reached
            (after, whole) skips more
            (Complete-grow EndsAtDeclaration declaration_ends IsDeclarationEnd text
            (length last) imports more gains.kept found.decl)
            (λ i s. subst (Contains more)
            (sym (only_import_after EndsAtDeclaration IsDeclarationEnd text reached after whole
            read parses i s)) has);
        dynamic_count = found.dynamic_count;
        decl_count = Counted-more EndsAtDeclaration declaration_ends text last reached
            (after, whole) skips decls found.decl_count site longer;
        few_dynamics = found.few_dynamics;
        few_decls = (let few = found.few_decls in omega arith);
      }

-- the result at the end of a pass
module _ (text front rest : List ℕ) (cut : IsCut front) (whole : text ≡ front ++ rest)
    (none : (sooner reached : List ℕ) → rest ≢ sooner ++ (word ++ reached))
    (imports : List Import) (dynamics decls : ℕ) (found : Found text imports dynamics decls front front) where
  no_more : (other : List ℕ) → IsFront text other → EndsIn other → length other ≤ length front
  no_more other is ends = no_further front rest cut none other (is.0, sym whole ∙ is.1) ends

  pub Found-dynamics : HasFronts EndsAtDynamicImport text dynamics
  Found-dynamics = Counted-all EndsAtDynamicImport dynamic_ends text
      (length front) dynamics found.dynamic_count no_more

  pub Found-decls : HasFronts EndsAtDeclaration text decls
  Found-decls = Counted-all EndsAtDeclaration declaration_ends text
      (length front) decls found.decl_count no_more

  pub Found-imports : AreImportsIn text imports
  Found-imports = record {
    ascending = found.ascending;
    exact = λ import. (found.sound import, λ is_in. by_form import (import_after_word text import is_in));
  }
    where
      by_form : (import : Import) → ((f : List ℕ) × IsDynamicImportAfter text f import)
          ⊎ ((f : List ℕ) × IsDeclarationAfter text f import) → Contains imports import
      by_form import (inl (f, s)) =
          found.dynamic f import s (no_more f (s.after, s.whole) (dynamic_ends f s.site))
      by_form import (inr (f, s)) =
          found.decl f import s (no_more f (s.after, s.whole) (declaration_ends f s.site))
