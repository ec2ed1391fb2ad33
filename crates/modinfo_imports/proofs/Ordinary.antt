-- Ordinary words: no keyword that matters here, and no word before an expression.
use Rattle.std.proofs.Common.{◌≡◌, ℕ, ◌==◌, ◌||◌, Bool, true, false}
use Rattle.std.proofs.Common.{List, codes, if◌then◌else◌, ap, refl, sym}
use Rattle.std.proofs.Common.{slice_index, true≢false, ◌∙◌}
use Rattle.std.specs.Str.{bytes_eq}
use Rattle.std.proofs.lemmas.Slice.Eq.{bytes_eq-Decides}
use Rattle.modinfo_imports.specs.Keywords.{keyword_of, may_be_require}
use Rattle.modinfo_imports.specs.declared.keyword.Keyword.TheVariants.{Other}
use Rattle.modinfo_imports.specs.internal.Plains.{is_ordinary}
use Rattle.modinfo_pieces.specs.WordClasses.{class_after, class_of}
use Rattle.modinfo_pieces.specs.declared.place.Before.{Before}
use Rattle.modinfo_pieces.specs.declared.place.Before.TheVariants as befores

unlike_either_way : (same : Bool) (word other : List ℕ) → bytes_eq word other ≡ same → is_ordinary word ≡ true
    → is_ordinary other ≡ false → same ≡ false
unlike_either_way false word other equal is isnt = refl
unlike_either_way true word other equal is isnt =
    absurd (true≢false (sym is ∙ (ap is_ordinary ((bytes_eq-Decides word other).0 equal) ∙ isnt)))

-- An ordinary word is none that isn't.
unlike : (word other : List ℕ) → is_ordinary word ≡ true → is_ordinary other ≡ false
    → bytes_eq word other ≡ false
unlike word other is isnt = unlike_either_way (bytes_eq word other) word other refl is isnt

unless : (test rest : Bool) → (if test then false else rest) ≡ true → test ≡ false
unless false rest is = refl
unless true rest is = cc

begins-ordinary : (word : List ℕ) → is_ordinary word ≡ true
    → ((slice_index word 0 == 114) || (slice_index word 0 == 92)) ≡ false
unfolding is_ordinary
begins-ordinary word is = unless ((slice_index word 0 == 114) || (slice_index word 0 == 92)) _ is

pub keyword-ordinary : (word : List ℕ) → is_ordinary word ≡ true → keyword_of word ≡ Other
unfolding keyword_of may_be_require is_ordinary
keyword-ordinary word is =
    rw (
      begins-ordinary word is,
      unlike word (codes "import") is refl,
      unlike word (codes "export") is refl,
      unlike word (codes "module") is refl,
      unlike word (codes "typeof") is refl,
      unlike word (codes "function") is refl,
      unlike word (codes "new") is refl,
    ) refl

class_of-ordinary : (word : List ℕ) → is_ordinary word ≡ true → befores.Value ≡ class_of word
unfolding class_of is_ordinary
class_of-ordinary word is =
    rw (
      unlike word (codes "if") is refl,
      unlike word (codes "for") is refl,
      unlike word (codes "with") is refl,
      unlike word (codes "while") is refl,
      unlike word (codes "in") is refl,
      unlike word (codes "of") is refl,
      unlike word (codes "do") is refl,
      unlike word (codes "new") is refl,
      unlike word (codes "else") is refl,
      unlike word (codes "case") is refl,
      unlike word (codes "void") is refl,
      unlike word (codes "throw") is refl,
      unlike word (codes "await") is refl,
      unlike word (codes "yield") is refl,
      unlike word (codes "return") is refl,
      unlike word (codes "typeof") is refl,
      unlike word (codes "delete") is refl,
      unlike word (codes "extends") is refl,
      unlike word (codes "default") is refl,
      unlike word (codes "instanceof") is refl,
    ) refl

pub class-ordinary : (before : Before) (word : List ℕ) → is_ordinary word ≡ true
    → befores.Value ≡ class_after before word
unfolding class_after is_ordinary
class-ordinary befores.Dot word is = refl
class-ordinary befores.Head word is = rw (unlike word (codes "await") is refl) (class_of-ordinary word is)
class-ordinary befores.Free word is = class_of-ordinary word is
class-ordinary befores.Value word is = class_of-ordinary word is
class-ordinary befores.Plus word is = class_of-ordinary word is
class-ordinary befores.Minus word is = class_of-ordinary word is
class-ordinary befores.DotDot word is = class_of-ordinary word is
class-ordinary befores.Equal word is = class_of-ordinary word is
class-ordinary befores.TagOpen word is = class_of-ordinary word is
class-ordinary befores.TagSlash word is = class_of-ordinary word is
