-- Each import follows a word `import`, and the start of its range determines it.
use Rattle.std.proofs.Common.{◌≡◌, ℕ, ◌+◌, ◌<◌, ◌≤◌, ◌⊎◌, inl, inr, true, false, Some, None, List, [], ◌∷◌}
use Rattle.std.proofs.Common.{◌++◌, length, refl, sym, ap, ◌∙◌, subst, codes, append_assoc, arith}
use Rattle.std.proofs.lemmas.Bool.{both_ways, cases_lt}
use Rattle.std.proofs.lemmas.List.{append_cancel_left, append-nil}
use Rattle.std.proofs.lemmas.Str.{length-le-encodes}
use Rattle.std.specs.Char.{is_whitespace}
use Rattle.deno_graph_jsdoc.specs.Characters.{at_sign}
use Rattle.deno_graph_jsdoc.specs.JsDocGrammar.{◌·◌, Is, IsSpace, IsGap, IsClause, IsUpTo, IsQuote, Begins}
use Rattle.deno_graph_jsdoc.specs.JsDocGrammar.{Anything}
use Rattle.deno_graph_jsdoc.specs.internal.Reading.{ReadsImport, IsDeclarationEnd, IsDynamicEnd}
use Rattle.deno_graph_jsdoc.specs.JsDocImport.{Mode, Import, BeginsWithImport, EndsDeclaration}
use Rattle.deno_graph_jsdoc.specs.JsDocImport.{EndsDynamicImport, IsDeclaration, IsDynamicImport, moved}
use Rattle.deno_graph_jsdoc.specs.JsDocImport.{byte_count}
use Rattle.deno_graph_jsdoc.specs.JsDocImports.{IsImportIn, EndsAtDynamicImport, EndsAtDeclaration}
use Rattle.deno_graph_jsdoc.proofs.Imports.{parts_of, joined, byte_count-append}
use Rattle.deno_graph_jsdoc.proofs.Readings.{regroup, ungroup, textwise}
use Rattle.deno_graph_jsdoc.proofs.Runs.{front_of_front}
use Rattle.deno_graph_jsdoc.proofs.Sites.{word, EndsIn, same_after}
use Rattle.deno_graph_jsdoc.proofs.Unique.{only_quote}
use Rattle.deno_graph_jsdoc.proofs.UniqueImports.{OnlyTail, only_declaration_tail, only_dynamic_tail}

-- an import of `G` after a front that has `P`
pub record IsImportAfter (P : List ℕ → Type 0) (G : List ℕ → Import → List ℕ → Type 0) (text front : List ℕ)
    (import : Import) : Type 0 where
  pub after : List ℕ
  pub rest : List ℕ
  pub here : Import
  pub whole : text ≡ front ++ after
  pub site : P front
  pub begins : G after here rest
  pub is_moved : import ≡ moved (byte_count front) here

abbrev pub IsDynamicImportAfter : List ℕ → List ℕ → Import → Type 0
IsDynamicImportAfter = IsImportAfter EndsAtDynamicImport IsDynamicEnd

abbrev pub IsDeclarationAfter : List ℕ → List ℕ → Import → Type 0
IsDeclarationAfter = IsImportAfter EndsAtDeclaration IsDeclarationEnd

moved-moved : (a b : ℕ) (import : Import) → moved a (moved b import) ≡ moved (a + b) import
moved-moved a b import =
    let start : import.start + b + a ≡ import.start + (a + b) = omega arith in
    let end : import.end + b + a ≡ import.end + (a + b) = omega arith in
    λ i. record { specifier = import.specifier; start = start i; end = end i; mode = import.mode }

-- both forms of imports: the part of the head up to `import`, and the part after it
abbrev DynamicFirst : List ℕ → Type 0
DynamicFirst = Is (codes "{") · IsUpTo (codes "import")

abbrev DynamicHead : List ℕ → Type 0
DynamicHead = IsSpace · Is (codes "(") · IsSpace

abbrev DynamicWhole : List ℕ → Type 0
DynamicWhole = Is (codes "{") · IsUpTo (codes "import") · IsSpace · Is (codes "(") · IsSpace

abbrev DeclarationFirst : List ℕ → Type 0
DeclarationFirst = Is (codes "@import")

abbrev DeclarationHead : List ℕ → Type 0
DeclarationHead = IsGap · IsClause · IsSpace · Is (codes "from") · IsSpace

-- an import, and the same import after the first part of its head
module _ (First Head Whole : List ℕ → Type 0) (Tail : List ℕ → Mode → List ℕ → Type 0)
    (apart : (text : List ℕ) → Whole text → (First · Head) text)
    (together : (text : List ℕ) → (First · Head) text → Whole text) where
  after_first_part : (text front : List ℕ) (import : Import)
      → IsImportAfter Anything (BeginsWithImport Whole Tail) text front import
      → (next : List ℕ) × IsImportAfter (Anything · First) (BeginsWithImport Head Tail) text next import
  after_first_part text front import s =
      let parts = parts_of Anything First Head Whole Tail apart together (λ _ _ _ _. tt) s.after s.begins in (
        front ++ parts.first.piece,
        record {
          after = parts.middle;
          rest = s.rest;
          here = parts.later;
          whole = s.whole ∙ ap (λ t. front ++ t) parts.first.whole
              ∙ sym (append_assoc front parts.first.piece parts.middle);
          site = record {
            front = front;
            back = parts.first.piece;
            whole = refl;
            is_front = tt;
            is_back = parts.first.is;
          };
          begins = parts.begins;
          is_moved = s.is_moved ∙ ap (moved (byte_count front)) parts.same
              ∙ moved-moved (byte_count front) (byte_count parts.first.piece) parts.later
              ∙ ap (λ n. moved n parts.later) (sym (byte_count-append front parts.first.piece));
        },
      )

  with_first_part : (text next : List ℕ) (import : Import)
      → IsImportAfter (Anything · First) (BeginsWithImport Head Tail) text next import
      → (front : List ℕ) × IsImportAfter Anything (BeginsWithImport Whole Tail) text front import
  with_first_part text next import s =
      let site = s.site in
      let first : Begins First (site.back ++ s.after) s.after =
      record { piece = site.back; whole = refl; is = site.is_back } in (
        site.front,
        record {
          after = site.back ++ s.after;
          rest = s.rest;
          here = moved (byte_count site.back) s.here;
          whole = s.whole ∙ ap (λ t. t ++ s.after) site.whole ∙ append_assoc site.front site.back s.after;
          site = tt;
          begins = joined Anything First Head Whole Tail apart together (λ _ _ _ _. tt)
              (site.back ++ s.after) s.after first s.begins;
          is_moved = s.is_moved ∙ ap (λ t. moved (byte_count t) s.here) site.whole
              ∙ ap (λ n. moved n s.here) (byte_count-append site.front site.back)
              ∙ sym (moved-moved (byte_count site.front) (byte_count site.back) s.here);
        },
      )

dynamic_apart : (text : List ℕ) → DynamicWhole text → (DynamicFirst · DynamicHead) text
dynamic_apart = textwise (λ input rest b. regroup b)

dynamic_together : (text : List ℕ) → (DynamicFirst · DynamicHead) text → DynamicWhole text
dynamic_together = textwise (λ input rest b. ungroup b)

-- an import follows the end of a word `import`
pub import_after_word : (text : List ℕ) (import : Import) → IsImportIn text import
    → ((front : List ℕ) × IsDynamicImportAfter text front import)
    ⊎ ((front : List ℕ) × IsDeclarationAfter text front import)
import_after_word text import is_in = by_form is_in.begins
  where
    by_form : IsDynamicImport is_in.back is_in.here is_in.rest
        ⊎ IsDeclaration is_in.back is_in.here is_in.rest
        → ((front : List ℕ) × IsDynamicImportAfter text front import)
        ⊎ ((front : List ℕ) × IsDeclarationAfter text front import)
    by_form (inl begins) =
        inl (after_first_part DynamicFirst DynamicHead DynamicWhole EndsDynamicImport dynamic_apart
        dynamic_together text is_in.front import (record {
          after = is_in.back;
          rest = is_in.rest;
          here = is_in.here;
          whole = is_in.whole;
          site = tt;
          begins = begins;
          is_moved = is_in.is_moved;
        }))
    by_form (inr begins) =
        inr (after_first_part DeclarationFirst DeclarationHead (DeclarationFirst · DeclarationHead)
        EndsDeclaration (λ _ is. is) (λ _ is. is) text is_in.front import (record {
          after = is_in.back;
          rest = is_in.rest;
          here = is_in.here;
          whole = is_in.whole;
          site = tt;
          begins = begins;
          is_moved = is_in.is_moved;
        }))

pub dynamic_in : (text front : List ℕ) (import : Import)
    → IsDynamicImportAfter text front import → IsImportIn text import
dynamic_in text front import s =
    let found = with_first_part DynamicFirst DynamicHead DynamicWhole EndsDynamicImport dynamic_apart
    dynamic_together text front import s in
    record {
      front = found.0;
      back = found.1.after;
      rest = found.1.rest;
      here = found.1.here;
      whole = found.1.whole;
      begins = inl found.1.begins;
      is_moved = found.1.is_moved;
    }

pub declaration_in : (text front : List ℕ) (import : Import)
    → IsDeclarationAfter text front import → IsImportIn text import
declaration_in text front import s =
    let found = with_first_part DeclarationFirst DeclarationHead (DeclarationFirst · DeclarationHead)
    EndsDeclaration (λ _ is. is) (λ _ is. is) text front import s in
    record {
      front = found.0;
      back = found.1.after;
      rest = found.1.rest;
      here = found.1.here;
      whole = found.1.whole;
      begins = inr found.1.begins;
      is_moved = found.1.is_moved;
    }

-- the front before these imports ends with `import`
pub dynamic_ends : (front : List ℕ) → EndsAtDynamicImport front → EndsIn front
dynamic_ends front is =
    let inner = is.is_back in
    let up = inner.is_back in (
      is.front ++ (inner.front ++ up.front),
      is.whole ∙ ap (λ t. is.front ++ t) (inner.whole ∙ ap (λ t. inner.front ++ t) up.whole)
          ∙ ap (λ t. is.front ++ t) (sym (append_assoc inner.front up.front word))
          ∙ sym (append_assoc is.front (inner.front ++ up.front) word),
    )

pub declaration_ends : (front : List ℕ) → EndsAtDeclaration front → EndsIn front
declaration_ends front is = (
  is.front ++ at_sign ∷ [],
  is.whole ∙ ap (λ t. is.front ++ t) is.is_back
      ∙ sym (append_assoc is.front (at_sign ∷ []) word),
)

-- the only import after a front is the import that a parser reads after the front
module _ (P : List ℕ → Type 0) (G : List ℕ → Import → List ℕ → Type 0) (text front after : List ℕ)
    (whole : text ≡ front ++ after) where
  here_of : (import : Import) (s : IsImportAfter P G text front import) → G after s.here s.rest
  here_of import s =
      subst (λ t. G t s.here s.rest) (same_after text front s.after after s.whole whole) s.begins

  pub no_import_after : ReadsImport G after None → (import : Import) → IsImportAfter P G text front import → ⊥
  no_import_after none import s = none s.here s.rest (here_of import s)

  pub only_import_after : (read : List ℕ × Import) → ReadsImport G after (Some read) → (import : Import)
      → IsImportAfter P G text front import → import ≡ moved (byte_count front) read.1
  only_import_after read found import s =
      s.is_moved ∙ ap (moved (byte_count front)) (found.1 s.here s.rest (here_of import s)).0

  pub import_after : (read : List ℕ × Import) → ReadsImport G after (Some read) → P front
      → IsImportAfter P G text front (moved (byte_count front) read.1)
  import_after read found site = record {
    after = after;
    rest = read.0;
    here = read.1;
    whole = whole;
    site = site;
    begins = found.0;
    is_moved = refl;
  }

-- two fronts of a text with the same number of bytes are equal
same_size : (text front other back after : List ℕ) → text ≡ front ++ back → text ≡ other ++ after
    → byte_count front ≡ byte_count other → front ≡ other
same_size text front other back after is are same = by_length (cases_lt (length other) (length front))
  where
    longer : (a b c d : List ℕ) → a ++ b ≡ c ++ d → length a ≤ length c → byte_count a ≡ byte_count c → a ≡ c
    longer a b c d whole fits sizes =
        let middle = front_of_front a b c d whole fits in
        let none : length middle.0 ≡ 0 =
        omega (arith, ap byte_count middle.1, byte_count-append a middle.0, length-le-encodes middle.0) in
        sym (middle.1 ∙ ap (λ t. a ++ t) (empty middle.0 none) ∙ append-nil a)
      where
        empty : (t : List ℕ) → length t ≡ 0 → t ≡ []
        empty [] is = refl
        empty (x ∷ t) is = absurd (omega arith)

    by_length : (length other < length front) ⊎ (length front ≤ length other) → front ≡ other
    by_length (inl more) =
        sym (longer other after front back (sym are ∙ is) (omega (arith, more)) (sym same))
    by_length (inr less) = longer front back other after (sym is ∙ are) less same

-- a text has one last character that is no white space
last_solid : (a b : ℕ) (xs ys space other : List ℕ) → IsSpace space → IsSpace other
    → is_whitespace a ≡ false → is_whitespace b ≡ false
    → xs ++ a ∷ space ≡ ys ++ b ∷ other → a ≡ b
last_solid a b xs ys space other white blank solid hard same = by_length (cases_lt (length xs) (length ys))
  where
    no_solid : (c : ℕ) (cs ds space : List ℕ) → is_whitespace c ≡ false → IsSpace space
        → space ≡ cs ++ c ∷ ds → ⊥
    no_solid c [] ds [] hard white is = absurd (cc)
    no_solid c [] ds (s ∷ space) hard white is =
        let first : s ≡ c = cc in
        both_ways (is_whitespace c) hard (subst (λ d. is_whitespace d ≡ true) first white.0)
    no_solid c (d ∷ cs) ds [] hard white is = absurd (cc)
    no_solid c (d ∷ cs) ds (s ∷ space) hard white is =
        let tails : space ≡ cs ++ c ∷ ds = cc in
        no_solid c cs ds space hard white.1 tails

    after : (a b : ℕ) (middle space other : List ℕ) → IsSpace space → is_whitespace b ≡ false
        → a ∷ space ≡ middle ++ b ∷ other → a ≡ b
    after a b [] space other white hard is = cc
    after a b (m ∷ middle) space other white hard is =
        let tails : space ≡ middle ++ b ∷ other = cc in
        absurd (no_solid b middle other space hard white tails)

    by_length : (length xs < length ys) ⊎ (length ys ≤ length xs) → a ≡ b
    by_length (inl less) =
        let middle = front_of_front xs (a ∷ space) ys (b ∷ other) same (omega (arith, less)) in
        after a b middle.0 space other white hard
        (append_cancel_left xs (a ∷ space) (middle.0 ++ b ∷ other)
        (same ∙ ap (λ t. t ++ b ∷ other) middle.1 ∙ append_assoc xs middle.0 (b ∷ other)))
    by_length (inr more) =
        let middle = front_of_front ys (b ∷ other) xs (a ∷ space) (sym same) more in
        sym (after b a middle.0 other space blank solid
        (append_cancel_left ys (b ∷ other) (middle.0 ++ a ∷ space)
        (sym same ∙ ap (λ t. t ++ a ∷ space) middle.1 ∙ append_assoc ys middle.0 (a ∷ space))))

-- the last characters before a specifier: `(` or `from`, and white space
dynamic_head_ends : (before : List ℕ) → DynamicHead before → (front : List ℕ) × (space : List ℕ)
    × IsSpace space × (before ≡ front ++ 40 ∷ space)
dynamic_head_ends before is =
    let open_ = is.is_back in (
      is.front,
      open_.back,
      open_.is_back,
      is.whole
          ∙ ap (λ t. is.front ++ t) (open_.whole ∙ ap (λ t. t ++ open_.back) open_.is_front),
    )

declaration_head_ends : (before : List ℕ) → DeclarationHead before → (front : List ℕ) × (space : List ℕ)
    × IsSpace space × (before ≡ front ++ 109 ∷ space)
declaration_head_ends before is =
    let clause = is.is_back in
    let space = clause.is_back in
    let from = space.is_back in (
      is.front ++ (clause.front ++ (space.front ++ codes "fro")),
      from.back,
      from.is_back,
      is.whole ∙ ap (λ t. is.front ++ t)
          (clause.whole ∙ ap (λ t. clause.front ++ t)
          (space.whole ∙ ap (λ t. space.front ++ t) (from.whole ∙ ap (λ t. t ++ from.back) from.is_front
          ∙ append_assoc (codes "fro") (109 ∷ []) from.back)
          ∙ sym (append_assoc space.front (codes "fro") (109 ∷ from.back)))
          ∙ sym (append_assoc clause.front (space.front ++ codes "fro") (109 ∷ from.back)))
          ∙ sym (append_assoc is.front (clause.front ++ (space.front ++ codes "fro")) (109 ∷ from.back)),
    )

-- an import in a text: the text before the specifier, the specifier in quotes, and the text after
record Specified (Head : List ℕ → Type 0) (Tail : List ℕ → Mode → List ℕ → Type 0) (text : List ℕ)
    (import : Import) : Type 0 where
  front : List ℕ
  before : List ℕ
  quote : List ℕ
  after : List ℕ
  rest : List ℕ
  whole : text ≡ (front ++ before) ++ (quote ++ after)
  head : Head before
  quoted : IsQuote import.specifier quote
  start : import.start ≡ byte_count (front ++ before) + 1
  end : import.end ≡ import.start + byte_count import.specifier
  tail : Tail after import.mode rest

specified_by : (P Head : List ℕ → Type 0) (Tail : List ℕ → Mode → List ℕ → Type 0)
    (text front : List ℕ) (import : Import)
    → IsImportAfter P (BeginsWithImport Head Tail) text front import → Specified Head Tail text import
specified_by P Head Tail text front import s =
    let begins = s.begins in
    let specifier : import.specifier ≡ s.here.specifier = ap (λ (i : Import). i.specifier) s.is_moved in
    let mode : import.mode ≡ s.here.mode = ap (λ (i : Import). i.mode) s.is_moved in
    let starts : import.start ≡ s.here.start + byte_count front = ap (λ (i : Import). i.start) s.is_moved in
    let ends : import.end ≡ s.here.end + byte_count front = ap (λ (i : Import). i.end) s.is_moved in
    let start = begins.start in
    let end = begins.end in
    record {
      front = front;
      before = begins.before;
      quote = begins.quote;
      after = begins.after;
      rest = s.rest;
      whole = s.whole ∙ ap (λ t. front ++ t) begins.whole
          ∙ sym (append_assoc front begins.before (begins.quote ++ begins.after));
      head = begins.head;
      quoted = subst (λ t. IsQuote t begins.quote) (sym specifier) begins.quoted;
      start = omega (arith, byte_count-append front begins.before);
      end = omega (arith, ap byte_count specifier);
      tail = subst (λ m. Tail begins.after m s.rest) (sym mode) begins.tail;
    }

module _ (Head Other : List ℕ → Type 0) (Tail Ending : List ℕ → Mode → List ℕ → Type 0)
    (text : List ℕ) (import other : Import)
    (s : Specified Head Tail text import) (t : Specified Other Ending text other)
    (same : import.start ≡ other.start) where
  befores : s.front ++ s.before ≡ t.front ++ t.before
  befores =
      same_size text (s.front ++ s.before) (t.front ++ t.before) (s.quote ++ s.after)
      (t.quote ++ t.after) s.whole t.whole
      (let first = s.start in let second = t.start in omega arith)

  quotes : s.quote ++ s.after ≡ t.quote ++ t.after
  quotes = append_cancel_left (t.front ++ t.before) (s.quote ++ s.after) (t.quote ++ t.after)
      (ap (λ x. x ++ (s.quote ++ s.after)) (sym befores) ∙ sym s.whole ∙ t.whole)

  texts : (import.specifier ≡ other.specifier) × (s.after ≡ t.after)
  texts =
      only_quote (t.quote ++ t.after) s.after t.after import.specifier other.specifier tt tt
      (record { piece = s.quote; whole = sym quotes; is = s.quoted })
      (record { piece = t.quote; whole = refl; is = t.quoted })

module _ (Head : List ℕ → Type 0) (Tail : List ℕ → Mode → List ℕ → Type 0) (only_tail : OnlyTail Tail)
    (text : List ℕ) (import other : Import) where
  one_specified : Specified Head Tail text import → Specified Head Tail text other
      → import.start ≡ other.start → import ≡ other
  one_specified s t same =
      let both = texts Head Head Tail Tail text import other s t same in
      let mode = (only_tail t.after import.mode other.mode s.rest t.rest
      (subst (λ b. Tail b import.mode s.rest) both.1 s.tail) t.tail).0 in
      let end : import.end ≡ other.end = s.end ∙ (λ i. same i + byte_count (both.0 i)) ∙ sym t.end in
      λ i. record { specifier = both.0 i; start = same i; end = end i; mode = mode i }

-- no specifier belongs to a dynamic import and to a declaration
forms_apart : (text : List ℕ) (import other : Import) → Specified DynamicHead EndsDynamicImport text import
    → Specified DeclarationHead EndsDeclaration text other
    → import.start ≡ other.start → ⊥
forms_apart text import other s t same =
    let left = dynamic_head_ends s.before s.head in
    let right = declaration_head_ends t.before t.head in
    let whole : (s.front ++ left.0) ++ 40 ∷ left.1 ≡ (t.front ++ right.0) ++ 109 ∷ right.1 =
    append_assoc s.front left.0 (40 ∷ left.1) ∙ ap (λ x. s.front ++ x) (sym left.3)
    ∙ befores DynamicHead DeclarationHead EndsDynamicImport EndsDeclaration text import other s t same
    ∙ ap (λ x. t.front ++ x) right.3 ∙ sym (append_assoc t.front right.0 (109 ∷ right.1)) in
    let last : ◌≡◌ {A = ℕ} 40 109 = last_solid 40 109 (s.front ++ left.0)
    (t.front ++ right.0) left.1 right.1 left.2 right.2 refl refl whole in
    omega (arith, last)

-- a start determines the import
pub one_import_in : (text : List ℕ) (import other : Import) → IsImportIn text import → IsImportIn text other
    → import.start ≡ other.start → import ≡ other
one_import_in text import other is_in again same =
    by_form (import_after_word text import is_in) (import_after_word text other again)
  where
    dynamic : (i : Import) (found : (front : List ℕ) × IsDynamicImportAfter text front i)
        → Specified DynamicHead EndsDynamicImport text i
    dynamic i found = specified_by EndsAtDynamicImport DynamicHead EndsDynamicImport text found.0 i found.1

    declaration : (i : Import) (found : (front : List ℕ) × IsDeclarationAfter text front i)
        → Specified DeclarationHead EndsDeclaration text i
    declaration i found =
        specified_by EndsAtDeclaration DeclarationHead EndsDeclaration text found.0 i found.1

    by_form : ((front : List ℕ) × IsDynamicImportAfter text front import)
        ⊎ ((front : List ℕ) × IsDeclarationAfter text front import)
        → ((front : List ℕ) × IsDynamicImportAfter text front other)
        ⊎ ((front : List ℕ) × IsDeclarationAfter text front other) → import ≡ other
    by_form (inl x) (inl y) = one_specified DynamicHead EndsDynamicImport only_dynamic_tail text import other
        (dynamic import x) (dynamic other y) same
    by_form (inr x) (inr y) = one_specified DeclarationHead EndsDeclaration only_declaration_tail text import
        other (declaration import x) (declaration other y) same
    by_form (inl x) (inr y) =
        absurd (forms_apart text import other (dynamic import x) (declaration other y) same)
    by_form (inr x) (inl y) =
        absurd (forms_apart text other import (dynamic other y) (declaration import x) (sym same))

-- the text has the specifier of the import in quotes, at the range of the import
pub record HasSpecifier (text : List ℕ) (import : Import) : Type 0 where
  pub before : List ℕ
  pub quote : List ℕ
  pub after : List ℕ
  pub whole : text ≡ before ++ (quote ++ after)
  pub quoted : IsQuote import.specifier quote
  pub start : import.start ≡ byte_count before + 1
  pub end : import.end ≡ import.start + byte_count import.specifier

pub has_specifier : (text : List ℕ) (import : Import) → IsImportIn text import → HasSpecifier text import
has_specifier text import is_in = by_form (import_after_word text import is_in)
  where
    specifier_in : (Head : List ℕ → Type 0) (Tail : List ℕ → Mode → List ℕ → Type 0)
        → Specified Head Tail text import → HasSpecifier text import
    specifier_in Head Tail s = record {
      before = s.front ++ s.before;
      quote = s.quote;
      after = s.after;
      whole = s.whole;
      quoted = s.quoted;
      start = s.start;
      end = s.end;
    }

    by_form : ((front : List ℕ) × IsDynamicImportAfter text front import)
        ⊎ ((front : List ℕ) × IsDeclarationAfter text front import) → HasSpecifier text import
    by_form (inl found) = specifier_in DynamicHead EndsDynamicImport
        (specified_by EndsAtDynamicImport DynamicHead EndsDynamicImport text found.0 import found.1)
    by_form (inr found) = specifier_in DeclarationHead EndsDeclaration
        (specified_by EndsAtDeclaration DeclarationHead EndsDeclaration text found.0 import found.1)
