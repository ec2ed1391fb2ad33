-- The list of all imports in a text, built from one offset to the next.
use Rattle.std.proofs.Common.{◌≡◌, ℕ, zero, suc, ◌+◌, ◌<◌, ◌≤◌, ◌⊎◌, inl, inr, Option, Some, None, List, []}
use Rattle.std.proofs.Common.{◌∷◌, ◌++◌, length, get_or, refl, sym, ap, ◌∙◌, subst, append_assoc}
use Rattle.std.proofs.Common.{length-append, arith}
use Rattle.std.proofs.lemmas.Bool.{cases_lt}
use Rattle.std.specs.List.{Contains, insert}
use Rattle.deno_graph_jsdoc.specs.internal.Reading.{ReadsImport}
use Rattle.deno_graph_jsdoc.specs.JsDocImport.{Import, IsDeclaration, IsDynamicImport, moved, byte_count}
use Rattle.deno_graph_jsdoc.specs.JsDocImports.{Ascend, AreImportsIn, IsImportIn}
use Rattle.deno_graph_jsdoc.specs.internal.Pass.{GainsImport}
use Rattle.deno_graph_jsdoc.proofs.Ascending.{GainsImport-insert, GainsImport-same, tail_pairs}
use Rattle.deno_graph_jsdoc.proofs.ExistenceOfDeclarations.{read_declaration}
use Rattle.deno_graph_jsdoc.proofs.ExistenceOfDynamicImports.{read_dynamic}
use Rattle.deno_graph_jsdoc.proofs.Passes.{gained, gained_sound}
use Rattle.deno_graph_jsdoc.proofs.Sites.{same_front, same_after}

-- the index of a start in a list that ascends: an import has the start, or the start is between two imports
abbrev Index : List Import → ℕ → Type 0
Index old start =
    ((k : ℕ) × (k < length old) × ((d : Import) → (get_or old k d).start ≡ start))
    ⊎ ((at : ℕ) × (at ≤ length old) × ((k : ℕ) (d : Import) → k < at → (get_or old k d).start < start)
    × ((k : ℕ) (d : Import) → at ≤ k → k < length old → start < (get_or old k d).start))

index_of : (old : List Import) (start : ℕ) → Ascend old → Index old start
index_of [] start up =
    inr (0, omega arith, (λ k d less. absurd (omega arith)), λ k d more inside. absurd (omega arith))
index_of (x ∷ xs) start up = by_first (cases_lt x.start start) (index_of xs start (tail_pairs x xs up))
  where
    above : start < x.start → (k : ℕ) (d : Import) → k < length (x ∷ xs) → start < (get_or (x ∷ xs) k d).start
    above less zero d inside = less
    above less (suc k) d inside =
        (let later = up 0 (suc k) d (omega arith) inside in omega (arith, less, later))

    first : {at : ℕ} → x.start < start → ((k : ℕ) (d : Import) → k < at → (get_or xs k d).start < start)
        → (k : ℕ) (d : Import) → k < at + 1 → (get_or (x ∷ xs) k d).start < start
    first less below zero d inside = less
    first less below (suc k) d inside = below k d (omega arith)

    after : {at : ℕ} → ((k : ℕ) (d : Import) → at ≤ k → k < length xs → start < (get_or xs k d).start)
        → (k : ℕ) (d : Import) → at + 1 ≤ k → k < length (x ∷ xs)
        → start < (get_or (x ∷ xs) k d).start
    after over zero d more inside = absurd (omega arith)
    after over (suc k) d more inside = over k d (omega arith) (omega arith)

    by_same : (start < x.start) ⊎ (x.start ≤ start) → start ≤ x.start → Index (x ∷ xs) start
    by_same (inl less) least =
        inr (0, omega arith, (λ k d below. absurd (omega arith)), λ k d more inside. above less k d inside)
    by_same (inr more) least = inl (0, omega arith, λ d. omega (arith, more, least))

    by_rest : x.start < start → Index xs start → Index (x ∷ xs) start
    by_rest less (inl (k, inside, is)) = inl (suc k, omega arith, is)
    by_rest less (inr (at, fits, below, over)) = inr (at + 1, omega arith, first less below, after over)

    by_first : (x.start < start) ⊎ (start ≤ x.start) → Index xs start → Index (x ∷ xs) start
    by_first (inl less) rest = by_rest less rest
    by_first (inr least) rest = by_same (cases_lt start x.start) least

pub gain : (old : List Import) (import : Import) → Ascend old → (new : List Import)
    × GainsImport old import new
gain old import up = by_index (index_of old import.start up)
  where
    by_index : Index old import.start → (new : List Import) × GainsImport old import new
    by_index (inl (k, inside, is)) = (old, GainsImport-same old import up k inside is)
    by_index (inr (at, fits, below, over)) =
        (insert old at import, GainsImport-insert old import at fits up below over)

-- the list has all imports with a front shorter than `limit`
pub record Collected (text : List ℕ) (limit : ℕ) (imports : List Import) : Type 0 where
  pub ascending : Ascend imports
  pub sound : (import : Import) → Contains imports import → IsImportIn text import
  pub complete : (import : Import) (is_in : IsImportIn text import) → length is_in.front < limit
      → Contains imports import

module _ (text front back : List ℕ) (whole : text ≡ front ++ back) where
  -- the list has each import of form `G` after this front
  abbrev At : (List ℕ → Import → List ℕ → Type 0) → List Import → Type 0
  At G imports = (here : Import) (rest : List ℕ) → G back here rest
      → Contains imports (moved (byte_count front) here)

  take : (G : List ℕ → Import → List ℕ → Type 0)
      → ((here : Import) (rest : List ℕ) → G back here rest → IsImportIn text (moved (byte_count front) here))
      → (old : List Import) → Ascend old → ((import : Import) → Contains old import → IsImportIn text import)
      → (o : Option (List ℕ × Import)) → ReadsImport G back o
      → (new : List Import) × Ascend new × ((import : Import) → Contains new import → IsImportIn text import)
      × ((import : Import) → Contains old import → Contains new import) × At G new
  take G imports_in old up sound None none =
      (old, up, sound, (λ import has. has), λ here rest is. absurd (none here rest is))
  take G imports_in old up sound (Some x) found =
      let import = moved (byte_count front) x.1 in
      let is_in = imports_in x.1 x.0 found.0 in
      let new = gain old import up in (
        new.0,
        new.1.ascending,
        gained_sound text old new.0 import sound is_in new.1,
        new.1.kept,
        λ here rest is. subst (λ i. Contains new.0 (moved (byte_count front) i))
            (sym (found.1 here rest is).0) (gained text old new.0 import sound is_in new.1),
      )

  pub step : (old : List Import) → Collected text (length front) old
      → (new : List Import) × Collected text (length front + 1) new
  step old so_far =
      let dynamic = read_dynamic back in
      let declaration = read_declaration back in
      let first = take IsDynamicImport
      (λ here rest is. record {
        front = front;
        back = back;
        rest = rest;
        here = here;
        whole = whole;
        begins = inl is;
        is_moved = refl;
      })
      old so_far.ascending so_far.sound dynamic.0 dynamic.1 in
      let second = take IsDeclaration
      (λ here rest is. record {
        front = front;
        back = back;
        rest = rest;
        here = here;
        whole = whole;
        begins = inr is;
        is_moved = refl;
      })
      first.0 first.1 first.2 declaration.0 declaration.1 in (
        second.0,
        record {
          ascending = second.1;
          sound = second.2;
          complete = λ import is_in short.
              by_length old first.0 second.0 import is_in short (cases_lt (length is_in.front) (length front))
              (λ has. second.3 import (first.3 import has)) (second.3 import) first.4 second.4
              (so_far.complete import is_in);
        },
      )
    where
      by_length : (old middle new : List Import) (import : Import) (is_in : IsImportIn text import)
          → length is_in.front < length front + 1
          → (length is_in.front < length front) ⊎ (length front ≤ length is_in.front)
          → (Contains old import → Contains new import) → (Contains middle import → Contains new import)
          → At IsDynamicImport middle → At IsDeclaration new
          → (length is_in.front < length front → Contains old import) → Contains new import
      by_length old middle new import is_in short (inl sooner) kept keeps dynamics declarations all =
          kept (all sooner)
      by_length old middle new import is_in short (inr later) kept keeps dynamics declarations all =
          by_form is_in.begins
        where
          fronts : is_in.front ≡ front
          fronts = same_front text is_in.front front (is_in.back, is_in.whole) (back, whole)
              (omega (arith, short, later))

          backs : is_in.back ≡ back
          backs =
              same_after text front is_in.back back (subst (λ f. text ≡ f ++ is_in.back) fronts is_in.whole)
              whole

          is : moved (byte_count front) is_in.here ≡ import
          is = ap (λ f. moved (byte_count f) is_in.here) (sym fronts) ∙ sym is_in.is_moved

          by_form : IsDynamicImport is_in.back is_in.here is_in.rest
              ⊎ IsDeclaration is_in.back is_in.here is_in.rest
              → Contains new import
          by_form (inl begins) = keeps (subst (Contains middle) is
              (dynamics is_in.here is_in.rest
              (subst (λ b. IsDynamicImport b is_in.here is_in.rest) backs begins)))
          by_form (inr begins) = subst (Contains new) is
              (declarations is_in.here is_in.rest
              (subst (λ b. IsDeclaration b is_in.here is_in.rest) backs begins))

-- the list at each offset, up to the end of the text
collect : (text front back : List ℕ) → text ≡ front ++ back → (old : List Import)
    → Collected text (length front) old → (imports : List Import) × Collected text (length text + 1) imports
collect text front [] whole old so_far =
    let all = step text front [] whole old so_far in
    let size : length front + 1 ≡ length text + 1 = omega (arith, ap length whole, length-append front []) in
    (all.0, subst (λ n. Collected text n all.0) size all.1)
collect text front (c ∷ cs) whole old so_far =
    let next = step text front (c ∷ cs) whole old so_far in
    let size : length front + 1 ≡ length (front ++ c ∷ []) = omega (arith, length-append front (c ∷ [])) in
    collect text (front ++ c ∷ []) cs (whole ∙ sym (append_assoc front (c ∷ []) cs)) next.0
    (subst (λ n. Collected text n next.0) size next.1)

pub all_imports : (text : List ℕ) → (imports : List Import) × AreImportsIn text imports
all_imports text =
    let all = collect text [] text refl []
    (record {
      ascending = λ i j d order inside. absurd (omega arith);
      sound = λ import has. absurd (omega (arith, has.1));
      complete = λ import is_in short. absurd (omega arith);
    }) in
    let found = all.1 in (
      all.0,
      record {
        ascending = found.ascending;
        exact = λ import. (
          found.sound import,
          λ is_in. found.complete import is_in
              (omega (arith, ap length is_in.whole, length-append is_in.front is_in.back)),
        );
      },
    )
