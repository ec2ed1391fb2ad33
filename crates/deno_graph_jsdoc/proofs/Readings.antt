-- Texts of one set followed by texts of another, and parsers one after another.
use Rattle.std.proofs.Common.{◌≡◌, ℕ, false, Option, Some, None, List, [], ◌∷◌, ◌++◌, refl, sym, ap, ◌∙◌}
use Rattle.std.proofs.Common.{subst, append_assoc, option_map, ◌<◌, ◌≤◌, length, length-append, arith}
use Rattle.std.proofs.lemmas.List.{append-nil}
use Rattle.std.specs.Char.{is_whitespace}
use Rattle.std.specs.Str.{skip_leading_whitespace}
use Rattle.deno_graph_jsdoc.specs.JsDocGrammar.{◌·◌, Is, IsSpace, Attribute, Begins, Anything, NoSpace}
use Rattle.deno_graph_jsdoc.specs.internal.Reading.{Reads}
use Rattle.deno_graph_jsdoc.proofs.Runs.{space_whole, same_space, IsSpace-append}

-- a text of `P`, and then a text of `Q`
pub Begins-split : {P Q : List ℕ → Type 0} {input rest : List ℕ} → Begins (P · Q) input rest
    → (middle : List ℕ) × Begins P input middle × Begins Q middle rest
Begins-split {P} {Q} {input} {rest} b =
    let parts = b.is in (
      parts.back ++ rest,
      record {
        piece = parts.front;
        whole = b.whole ∙ ap (λ t. t ++ rest) parts.whole
            ∙ append_assoc parts.front parts.back rest;
        is = parts.is_front;
      },
      record { piece = parts.back; whole = refl; is = parts.is_back },
    )

pub Begins-join : {P Q : List ℕ → Type 0} {input middle rest : List ℕ} → Begins P input middle
    → Begins Q middle rest → Begins (P · Q) input rest
Begins-join {P} {Q} {input} {middle} {rest} first second = record {
  piece = first.piece ++ second.piece;
  whole = first.whole ∙ ap (λ t. first.piece ++ t) second.whole
      ∙ sym (append_assoc first.piece second.piece rest);
  is = record {
    front = first.piece;
    back = second.piece;
    whole = refl;
    is_front = first.is;
    is_back = second.is;
  };
}

-- a text of one set as a text of another set
pub Begins-as : {P Q : List ℕ → Type 0} {input rest : List ℕ} → ((text : List ℕ) → P text → Q text)
    → Begins P input rest → Begins Q input rest
Begins-as same b = record { piece = b.piece; whole = b.whole; is = same b.piece b.is }

-- a text that begins with no white space
abbrev pub IsSolid : List ℕ → Type 0
IsSolid [] = ⊥
IsSolid (c ∷ cs) = is_whitespace c ≡ false

pub IsSolid-append : (text rest : List ℕ) → IsSolid text → IsSolid (text ++ rest)
IsSolid-append [] rest solid = absurd solid
IsSolid-append (c ∷ cs) rest solid = solid

pub NoSpace-solid : (text : List ℕ) → IsSolid text → NoSpace text
NoSpace-solid [] solid = absurd solid
NoSpace-solid (c ∷ cs) solid = solid

pub IsSolid-word : {Q : List ℕ → Type 0} (c : ℕ) (cs : List ℕ) → is_whitespace c ≡ false → (text : List ℕ)
    → (Is (c ∷ cs) · Q) text → IsSolid text
IsSolid-word c cs solid text parts =
    subst IsSolid (sym (parts.whole ∙ ap (λ t. t ++ parts.back) parts.is_front)) solid

pub NoSpace-before : {Q : List ℕ → Type 0} {input rest : List ℕ} → ((text : List ℕ) → Q text → IsSolid text)
    → Begins Q input rest → NoSpace input
NoSpace-before {Q} {input} {rest} solid b =
    subst NoSpace (sym b.whole)
    (NoSpace-solid (b.piece ++ rest) (IsSolid-append b.piece rest (solid b.piece b.is)))

-- white space is skipped in one way
pub space_read : (text : List ℕ) → Reads NoSpace (λ (_ : Unit {0}). IsSpace) text
    (Some (skip_leading_whitespace text, tt))
space_read text =
    let own = space_whole text in (
      record { piece = own.0; whole = own.2; is = own.1 },
      λ other after stop begins. (refl, same_space text begins.piece after begins.is stop begins.whole),
    )

-- white space after a text is skipped in one way
module _ {V : Type 0} (P : V → List ℕ → Type 0) (input : List ℕ) where
  pub spaced_none : Reads Anything P input None → Reads NoSpace (λ v. P v · IsSpace) input None
  spaced_none none v rest stop begins =
      let parts = Begins-split begins in
      none v parts.0 tt parts.1

  pub spaced : (middle : List ℕ) (v : V) → Reads Anything P input (Some (middle, v))
      → Reads NoSpace (λ v. P v · IsSpace) input (Some (skip_leading_whitespace middle, v))
  spaced middle v found = (
    Begins-join found.0 (space_read middle).0,
    λ other after stop begins.
        let parts = Begins-split begins in
        let same = found.1 other parts.0 tt parts.1 in (
          same.0,
          ((space_read middle).1 tt after stop (subst (λ m. Begins IsSpace m after) same.1 parts.2)).1,
        ),
  )

-- `P` with an attribute's key, and then `Q` with its value; a text of `Q` may follow a text of `P`
module _ (F G : List ℕ → Type 0) (P Q : List ℕ → List ℕ → Type 0)
    (follows : (w : List ℕ) (middle rest : List ℕ) → G rest → Begins (Q w) middle rest → F middle) where
  abbrev pub Both : Attribute → List ℕ → Type 0
  Both u = P u.key · Q u.value

  pub both_none : (input : List ℕ) → Reads F P input None → Reads G Both input None
  both_none input none u rest g b =
      let parts = Begins-split b in
      none u.key parts.0 (follows u.value parts.0 rest g parts.2) parts.1

  pub both_then : (input middle key : List ℕ) (o : Option (List ℕ × List ℕ))
      → Reads F P input (Some (middle, key)) → Reads G Q middle o
      → Reads G Both input (option_map (λ x. (x.0, record { key = key; value = x.1 })) o)
  both_then input middle key None first none = λ u rest g b.
      let parts = Begins-split b in
      let same = first.1 u.key parts.0 (follows u.value parts.0 rest g parts.2) parts.1 in
      none u.value rest g (subst (λ m. Begins (Q u.value) m rest) same.1 parts.2)
  both_then input middle key (Some x) first second = (
    Begins-join first.0 second.0,
    λ u rest g b.
        let parts = Begins-split b in
        let same = first.1 u.key parts.0 (follows u.value parts.0 rest g parts.2) parts.1 in
        let again = second.1 u.value rest g (subst (λ m. Begins (Q u.value) m rest) same.1 parts.2) in
        (λ i. record { key = same.0 i; value = again.0 i }, again.1),
  )

-- `P` with a value, and then `Q` without one; a text of `Q` may follow a text of `P`
module _ {V : Type 0} (F G : List ℕ → Type 0) (P : V → List ℕ → Type 0) (Q : List ℕ → Type 0)
    (follows : (middle rest : List ℕ) → G rest → Begins Q middle rest → F middle) where
  pub value_none : (input : List ℕ) → Reads F P input None → Reads G (λ v. P v · Q) input None
  value_none input none v rest g b =
      let parts = Begins-split b in
      none v parts.0 (follows parts.0 rest g parts.2) parts.1

  pub value_then : (input middle : List ℕ) (v : V) (o : Option (List ℕ × Unit {0}))
      → Reads F P input (Some (middle, v)) → Reads G (λ _. Q) middle o
      → Reads G (λ v. P v · Q) input (option_map (λ x. (x.0, v)) o)
  value_then input middle v None first none = λ other rest g b.
      let parts = Begins-split b in
      let same = first.1 other parts.0 (follows parts.0 rest g parts.2) parts.1 in
      none tt rest g (subst (λ m. Begins Q m rest) same.1 parts.2)
  value_then input middle v (Some x) first second = (
    Begins-join first.0 second.0,
    λ other rest g b.
        let parts = Begins-split b in
        let same = first.1 other parts.0 (follows parts.0 rest g parts.2) parts.1 in
        (same.0, (second.1 tt rest g (subst (λ m. Begins Q m rest) same.1 parts.2)).1),
  )

-- `P` without a value, and then `Q`; a text of `Q` may follow a text of `P`
module _ {W : Type 0} (F G : List ℕ → Type 0) (P : List ℕ → Type 0) (Q : W → List ℕ → Type 0)
    (follows : (w : W) (middle rest : List ℕ) → G rest → Begins (Q w) middle rest → F middle) where
  pub then_none : (input : List ℕ) → Reads F (λ (_ : Unit {0}). P) input None
      → Reads G (λ w. P · Q w) input None
  then_none input none w rest g b =
      let parts = Begins-split b in
      none tt parts.0 (follows w parts.0 rest g parts.2) parts.1

  pub then_some : (input middle : List ℕ) (o : Option (List ℕ × W))
      → Reads F (λ (_ : Unit {0}). P) input (Some (middle, tt)) → Reads G Q middle o
      → Reads G (λ w. P · Q w) input o
  then_some input middle None first none = λ w rest g b.
      let parts = Begins-split b in
      let same = first.1 tt parts.0 (follows w parts.0 rest g parts.2) parts.1 in
      none w rest g (subst (λ m. Begins (Q w) m rest) same.1 parts.2)
  then_some input middle (Some x) first second = (
    Begins-join first.0 second.0,
    λ w rest g b.
        let parts = Begins-split b in
        let same = first.1 tt parts.0 (follows w parts.0 rest g parts.2) parts.1 in
        second.1 w rest g (subst (λ m. Begins (Q w) m rest) same.1 parts.2),
  )

-- the same parts, grouped from the left or from the right
pub regroup : {P Q R : List ℕ → Type 0} {input rest : List ℕ} → Begins (P · Q · R) input rest
    → Begins ((P · Q) · R) input rest
regroup b =
    let first = Begins-split b in
    let second = Begins-split first.2 in
    Begins-join (Begins-join first.1 second.1) second.2

pub ungroup : {P Q R : List ℕ → Type 0} {input rest : List ℕ} → Begins ((P · Q) · R) input rest
    → Begins (P · Q · R) input rest
ungroup b =
    let first = Begins-split b in
    let second = Begins-split first.1 in
    Begins-join second.1 (Begins-join second.2 first.2)

pub regroup_3 : {A B C R : List ℕ → Type 0} {input rest : List ℕ} → Begins (A · B · C · R) input rest
    → Begins ((A · B · C) · R) input rest
regroup_3 b =
    let first = Begins-split b in
    let second = Begins-split first.2 in
    let third = Begins-split second.2 in
    Begins-join (Begins-join first.1 (Begins-join second.1 third.1)) third.2

pub ungroup_3 : {A B C R : List ℕ → Type 0} {input rest : List ℕ} → Begins ((A · B · C) · R) input rest
    → Begins (A · B · C · R) input rest
ungroup_3 b =
    let parts = Begins-split b in
    let first = Begins-split parts.1 in
    let second = Begins-split first.2 in
    Begins-join first.1 (Begins-join second.1 (Begins-join second.2 parts.2))

pub regroup_4 : {A B C D R : List ℕ → Type 0} {input rest : List ℕ} → Begins (A · B · C · D · R) input rest
    → Begins ((A · B · C · D) · R) input rest
regroup_4 b =
    let first = Begins-split b in
    let second = Begins-split first.2 in
    let third = Begins-split second.2 in
    let fourth = Begins-split third.2 in
    Begins-join (Begins-join first.1 (Begins-join second.1 (Begins-join third.1 fourth.1))) fourth.2

pub ungroup_4 : {A B C D R : List ℕ → Type 0} {input rest : List ℕ} → Begins ((A · B · C · D) · R) input rest
    → Begins (A · B · C · D · R) input rest
ungroup_4 b =
    let all = Begins-split b in
    let first = Begins-split all.1 in
    let second = Begins-split first.2 in
    let third = Begins-split second.2 in
    Begins-join first.1 (Begins-join second.1 (Begins-join third.1 (Begins-join third.2 all.2)))

-- a result for one set is a result for another set with the same texts
pub Reads-as : {V : Type 0} (F : List ℕ → Type 0) (P Q : V → List ℕ → Type 0)
    → ((v : V) (input rest : List ℕ) → Begins (P v) input rest → Begins (Q v) input rest)
    → ((v : V) (input rest : List ℕ) → Begins (Q v) input rest → Begins (P v) input rest)
    → (input : List ℕ) (o : Option (List ℕ × V)) → Reads F P input o → Reads F Q input o
Reads-as F P Q to from input None none = λ v rest f b. none v rest f (from v input rest b)
Reads-as F P Q to from input (Some x) found =
    (to x.1 input x.0 found.0, λ v rest f b. found.1 v rest f (from v input rest b))

-- a text that begins with no white space, after white space or after a word and white space
module _ {W : Type 0} (G : List ℕ → Type 0) (Q : W → List ℕ → Type 0)
    (solid : (w : W) (text : List ℕ) → Q w text → IsSolid text) where
  pub space_then : (input : List ℕ) (o : Option (List ℕ × W)) → Reads G Q (skip_leading_whitespace input) o
      → Reads G (λ w. IsSpace · Q w) input o
  space_then input o found =
      then_some NoSpace G IsSpace Q (λ w middle rest g b. NoSpace-before (solid w) b) input
      (skip_leading_whitespace input) o (space_read input) found

  module _ (P : List ℕ → Type 0) where
    pub lexeme_none : (input : List ℕ) → Reads NoSpace (λ (_ : Unit {0}). P · IsSpace) input None
        → Reads G (λ w. P · IsSpace · Q w) input None
    lexeme_none input none =
        Reads-as G (λ w. (P · IsSpace) · Q w) (λ w. P · IsSpace · Q w) (λ w input rest b. ungroup b)
        (λ w input rest b. regroup b) input None
        (then_none NoSpace G (P · IsSpace) Q (λ w middle rest g b. NoSpace-before (solid w) b) input none)

    pub lexeme_then : (input middle : List ℕ) (o : Option (List ℕ × W))
        → Reads NoSpace (λ (_ : Unit {0}). P · IsSpace) input (Some (middle, tt)) → Reads G Q middle o
        → Reads G (λ w. P · IsSpace · Q w) input o
    lexeme_then input middle o first second =
        Reads-as G (λ w. (P · IsSpace) · Q w) (λ w. P · IsSpace · Q w) (λ w input rest b. ungroup b)
        (λ w input rest b. regroup b) input o
        (then_some NoSpace G (P · IsSpace) Q
        (λ w middle rest g b. NoSpace-before (solid w) b) input middle o first second)

-- with and without the white space before a text
pub after_space : {Q : List ℕ → Type 0} {input rest : List ℕ} → ((text : List ℕ) → Q text → IsSolid text)
    → Begins (IsSpace · Q) input rest → Begins Q (skip_leading_whitespace input) rest
after_space {Q} {input} {rest} solid b =
    let parts = Begins-split b in
    subst (λ m. Begins Q m rest)
    ((space_read input).1 tt parts.0 (NoSpace-before solid parts.2) parts.1).1 parts.2

pub before_space : {Q : List ℕ → Type 0} (input : List ℕ) {rest : List ℕ}
    → Begins Q (skip_leading_whitespace input) rest → Begins (IsSpace · Q) input rest
before_space input b = Begins-join (space_read input).0 b

-- the empty text before a text
pub after_nothing : {Q : List ℕ → Type 0} {input rest : List ℕ}
    → Begins (Is [] · Q) input rest → Begins Q input rest
after_nothing {Q} {input} {rest} b =
    let parts = Begins-split b in
    subst (λ m. Begins Q m rest) (sym (parts.1.whole ∙ ap (λ piece. piece ++ parts.0) parts.1.is)) parts.2

pub before_nothing : {Q : List ℕ → Type 0} {input rest : List ℕ} → Begins Q input rest
    → Begins (Is [] · Q) input rest
before_nothing {Q} {input} {rest} b = Begins-join (record { piece = []; whole = refl; is = refl }) b

-- two words at the start of a text begin with the same character
pub same_first : {c d : ℕ} {cs ds input rest after : List ℕ} → Begins (Is (c ∷ cs)) input rest
    → Begins (Is (d ∷ ds)) input after → c ≡ d
same_first {c} {d} {cs} {ds} {input} {rest} {after} first second =
    let one : input ≡ (c ∷ cs) ++ rest = first.whole ∙ ap (λ piece. piece ++ rest) first.is in
    let other : input ≡ (d ∷ ds) ++ after = second.whole ∙ ap (λ piece. piece ++ after) second.is in
    let same : c ∷ (cs ++ rest) ≡ d ∷ (ds ++ after) = sym one ∙ other in
    cc

-- the rest after a text is not longer, and the rest after a word is shorter
pub Begins-length : {P : List ℕ → Type 0} {input rest : List ℕ} → Begins P input rest
    → length rest ≤ length input
Begins-length {P} {input} {rest} b = omega (arith, ap length b.whole, length-append b.piece rest)

pub Begins-shorter : {Q : List ℕ → Type 0} {c : ℕ} {cs input rest : List ℕ}
    → Begins (Is (c ∷ cs) · Q) input rest → length rest < length input
Begins-shorter {Q} {c} {cs} {input} {rest} b =
    let parts = Begins-split b in
    let first = parts.1 in
    let later = Begins-length parts.2 in
    omega (arith, ap length first.whole, length-append first.piece parts.0, ap length first.is, later)

-- white space after white space is white space
pub one_space : {Q : List ℕ → Type 0} {input rest : List ℕ} → Begins (IsSpace · IsSpace · Q) input rest
    → Begins (IsSpace · Q) input rest
one_space b =
    let parts = Begins-split (regroup b) in
    Begins-join (Begins-as (λ text both. subst IsSpace (sym both.whole)
    (IsSpace-append both.front both.back both.is_front both.is_back)) parts.1) parts.2

-- a relation of fronts of texts, for whole texts
pub textwise : {P Q : List ℕ → Type 0} → ((input rest : List ℕ) → Begins P input rest → Begins Q input rest)
    → (text : List ℕ) → P text → Q text
textwise {P} {Q} same text is =
    let b = same text [] (record { piece = text; whole = sym (append-nil text); is = is }) in
    subst Q (sym (b.whole ∙ append-nil b.piece)) b.is
