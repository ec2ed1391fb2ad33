-- A text begins with at most one text of each part of the grammar.
use Rattle.std.proofs.Common.{◌≡◌, ℕ, inl, inr, true, false, List, [], ◌∷◌, ◌++◌, refl, sym, ap, ◌∙◌, subst}
use Rattle.std.proofs.Common.{codes, arith}
use Rattle.std.proofs.lemmas.Bool.{both_ways}
use Rattle.std.proofs.lemmas.List.{append_cancel_left}
use Rattle.std.specs.Str.{skip_leading_whitespace}
use Rattle.deno_graph_jsdoc.specs.Characters.{double_quote, apostrophe, opening_brace}
use Rattle.deno_graph_jsdoc.specs.JsDocGrammar.{◌·◌, Is, IsSpace, IsGap, IsBetween, IsQuote, IsIdent, IsKey}
use Rattle.deno_graph_jsdoc.specs.JsDocGrammar.{Attribute, IsAttribute, AreFurther, IsModeBlock, IsWith}
use Rattle.deno_graph_jsdoc.specs.JsDocGrammar.{IsOptions, ends_ident, mode_of, Begins, Anything, NoSpace}
use Rattle.deno_graph_jsdoc.specs.internal.Reading.{EndOfIdent}
use Rattle.deno_graph_jsdoc.proofs.Attributes.{apart, EndOfIdent-colon, IsSolid-quote}
use Rattle.deno_graph_jsdoc.proofs.Blocks.{Through-solid, Closed, More, Follows, further_apart, Inside}
use Rattle.deno_graph_jsdoc.proofs.Blocks.{Inside-solid, block_apart, brace_apart, IsSolid-block}
use Rattle.deno_graph_jsdoc.proofs.Blocks.{IsSolid-front}
use Rattle.deno_graph_jsdoc.proofs.Parts.{marked, marks_apart, run_of_ident}
use Rattle.deno_graph_jsdoc.proofs.Readings.{Begins-split, NoSpace-before, IsSolid, IsSolid-word, same_first}
use Rattle.deno_graph_jsdoc.proofs.Readings.{regroup, ungroup}
use Rattle.deno_graph_jsdoc.proofs.Runs.{same_run, same_space, same_before_mark}

-- a text begins with a text of `P value` for at most one value and one rest that has `F`
abbrev pub OnlyOne : {V : Type 0} → (List ℕ → Type 0) → (V → List ℕ → Type 0) → Type 0
OnlyOne {V} F P =
    (input rest after : List ℕ) (v w : V) → F rest → F after → Begins (P v) input rest
    → Begins (P w) input after → (v ≡ w) × (rest ≡ after)

-- like `OnlyOne`, for a set whose texts have no value
abbrev pub OneRest : (List ℕ → Type 0) → (List ℕ → Type 0) → Type 0
OneRest F P = (input rest after : List ℕ) → F rest → F after → Begins P input rest
    → Begins P input after → rest ≡ after

-- one text and then another
module _ (F G : List ℕ → Type 0) {P : List ℕ → Type 0} {W : Type 0} {Q : W → List ℕ → Type 0}
    (first : OneRest F P) (second : OnlyOne G Q)
    (follows : (w : W) (middle rest : List ℕ) → G rest → Begins (Q w) middle rest → F middle) where
  pub only_then : OnlyOne G (λ w. P · Q w)
  only_then input rest after v w g h b c =
      let left = Begins-split b in
      let right = Begins-split c in
      let middles = first input left.0 right.0 (follows v left.0 rest g left.2)
      (follows w right.0 after h right.2) left.1 right.1 in
      second right.0 rest after v w g h (subst (λ m. Begins (Q v) m rest) middles left.2) right.2

module _ (F G : List ℕ → Type 0) {P Q : List ℕ → Type 0}
    (first : OneRest F P) (second : OneRest G Q)
    (follows : (middle rest : List ℕ) → G rest → Begins Q middle rest → F middle) where
  pub one_then : OneRest G (P · Q)
  one_then input rest after g h b c =
      let left = Begins-split b in
      let right = Begins-split c in
      let middles = first input left.0 right.0 (follows left.0 rest g left.2)
      (follows right.0 after h right.2) left.1 right.1 in
      second right.0 rest after g h (subst (λ m. Begins Q m rest) middles left.2) right.2

module _ (F G : List ℕ → Type 0) {V : Type 0} {P : V → List ℕ → Type 0} {Q : List ℕ → Type 0}
    (first : OnlyOne F P) (second : OneRest G Q)
    (follows : (middle rest : List ℕ) → G rest → Begins Q middle rest → F middle) where
  pub only_value : OnlyOne G (λ v. P v · Q)
  only_value input rest after v w g h b c =
      let left = Begins-split b in
      let right = Begins-split c in
      let same = first input left.0 right.0 v w (follows left.0 rest g left.2)
      (follows right.0 after h right.2) left.1 right.1 in
      (same.0, second right.0 rest after g h (subst (λ m. Begins Q m rest) same.1 left.2) right.2)

module _ (F G : List ℕ → Type 0) {P Q : List ℕ → List ℕ → Type 0}
    (first : OnlyOne F P) (second : OnlyOne G Q)
    (follows : (w : List ℕ) (middle rest : List ℕ) → G rest → Begins (Q w) middle rest → F middle) where
  pub only_both : OnlyOne G (λ (u : Attribute). P u.key · Q u.value)
  only_both input rest after u t g h b c =
      let left = Begins-split b in
      let right = Begins-split c in
      let same = first input left.0 right.0 u.key t.key (follows u.value left.0 rest g left.2)
      (follows t.value right.0 after h right.2) left.1 right.1 in
      let last = second right.0 rest after u.value t.value g h
      (subst (λ m. Begins (Q u.value) m rest) same.1 left.2) right.2 in
      (λ i. record { key = same.0 i; value = last.0 i }, last.1)

-- words, white space, quotes, identifiers
pub one_word : (word : List ℕ) → OneRest Anything (Is word)
one_word word input rest after _ _ b c =
    append_cancel_left word rest after
    (ap (λ t. t ++ rest) (sym b.is) ∙ sym b.whole ∙ c.whole ∙ ap (λ t. t ++ after) c.is)

pub one_space : OneRest NoSpace IsSpace
one_space input rest after stop end b c = same_space input b.piece rest b.is stop b.whole
    ∙ sym (same_space input c.piece after c.is end c.whole)

pub one_gap : OneRest NoSpace IsGap
one_gap input rest after stop end b c = same_space input b.piece rest b.is.0 stop b.whole
    ∙ sym (same_space input c.piece after c.is.0 end c.whole)

only_between : (mark : ℕ) → OnlyOne Anything (IsBetween mark)
only_between mark input rest after inside other _ _ b c =
    let same : mark ∷ (inside ++ mark ∷ rest) ≡ mark ∷ (other ++ mark ∷ after) =
    sym (b.whole ∙ ap (λ t. t ++ rest) b.is.1 ∙ marked mark inside rest) ∙ c.whole
    ∙ ap (λ t. t ++ after) c.is.1 ∙ marked mark other after in
    let tails : inside ++ mark ∷ rest ≡ other ++ mark ∷ after = cc in
    same_before_mark mark inside other rest after b.is.0 c.is.0 tails

pub only_quote : OnlyOne Anything IsQuote
only_quote input rest after v w _ _ b c = by_marks b.is c.is b.whole c.whole
  where
    by_marks : {one other : List ℕ} → IsQuote v one → IsQuote w other → input ≡ one ++ rest
        → input ≡ other ++ after → (v ≡ w) × (rest ≡ after)
    by_marks {one} {other} (inl is) (inl are) first second =
        only_between double_quote input rest after v w tt tt (record { piece = one; whole = first; is = is })
        (record { piece = other; whole = second; is = are })
    by_marks {one} {other} (inr is) (inr are) first second =
        only_between apostrophe input rest after v w tt tt (record { piece = one; whole = first; is = is })
        (record { piece = other; whole = second; is = are })
    by_marks {one} {other} (inl is) (inr are) first second =
        absurd (marks_apart input v w rest after (record { piece = one; whole = first; is = is })
        (record { piece = other; whole = second; is = are }))
    by_marks {one} {other} (inr is) (inl are) first second =
        absurd (marks_apart input w v after rest (record { piece = other; whole = second; is = are })
        (record { piece = one; whole = first; is = is }))

ident_pieces : (input rest after : List ℕ) → EndOfIdent rest → EndOfIdent after
    → (b : Begins IsIdent input rest) (c : Begins IsIdent input after)
    → (b.piece ≡ c.piece) × (rest ≡ after)
ident_pieces input rest after stop end b c =
    same_run (λ d. ends_ident d ≡ false) (λ d. ends_ident d ≡ true)
    (λ d not is. both_ways (ends_ident d) not is) b.piece c.piece rest after
    (run_of_ident b.piece b.is).0 (run_of_ident c.piece c.is).0 stop end (sym b.whole ∙ c.whole)

pub one_ident : OneRest EndOfIdent IsIdent
one_ident input rest after stop end b c = (ident_pieces input rest after stop end b c).1

only_key : OnlyOne EndOfIdent IsKey
only_key input rest after v w stop end b c = by_form b.is c.is b.whole c.whole
  where
    by_form : {one other : List ℕ} → IsKey v one → IsKey w other → input ≡ one ++ rest
        → input ≡ other ++ after → (v ≡ w) × (rest ≡ after)
    by_form {one} {other} (inl is) (inl are) first second =
        only_quote input rest after v w tt tt (record { piece = one; whole = first; is = is })
        (record { piece = other; whole = second; is = are })
    by_form {one} {other} (inr is) (inr are) first second =
        let same = ident_pieces input rest after stop end (record { piece = one; whole = first; is = is.0 })
        (record { piece = other; whole = second; is = are.0 }) in
        (is.1 ∙ same.0 ∙ sym are.1, same.1)
    by_form {one} {other} (inl is) (inr are) first second =
        absurd (apart v {input = input} {rest = rest} {after = after} (record
        { piece = one; whole = first; is = is }) (record { piece = other; whole = second; is = are.0 }))
    by_form {one} {other} (inr is) (inl are) first second =
        absurd (apart w {input = input} {rest = after} {after = rest} (record
        { piece = other; whole = second; is = are }) (record { piece = one; whole = first; is = is.0 }))

-- white space, or a word with white space, before a text that begins with no white space
pub only_after_space : {W : Type 0} {Q : W → List ℕ → Type 0} → ((w : W) (text : List ℕ) → Q w text
    → IsSolid text) → OnlyOne Anything Q → OnlyOne Anything (λ w. IsSpace · Q w)
only_after_space solid second =
    only_then NoSpace Anything one_space second (λ w middle rest _ b. NoSpace-before (solid w) b)

pub only_after_word : {W : Type 0} {Q : W → List ℕ → Type 0} (word : List ℕ)
    → ((w : W) (text : List ℕ) → Q w text → IsSolid text) → OnlyOne Anything Q
    → OnlyOne Anything (λ w. Is word · IsSpace · Q w)
only_after_word word solid second =
    only_then Anything Anything (one_word word) (only_after_space solid second) (λ _ _ _ _ _. tt)

-- attributes
only_attribute : OnlyOne Anything IsAttribute
only_attribute =
    only_both EndOfIdent Anything only_key
    (only_after_space (λ value text is. IsSolid-word 58 [] refl text is)
    (only_after_word (codes ":") IsSolid-quote only_quote))
    (λ value middle rest _ b. EndOfIdent-colon middle rest b)

one_comma : OneRest NoSpace (Is (codes ",") · IsSpace)
one_comma = one_then Anything NoSpace (one_word (codes ",")) one_space (λ _ _ _ _. tt)

brace_or_comma : (others : List Attribute) {input rest after : List ℕ} → Begins Closed input rest
    → Begins (More others) input after → ⊥
brace_or_comma others b c =
    let heads : ◌≡◌ {A = ℕ} 125 44 = same_first b (Begins-split c).1 in
    omega (arith, heads)

only_follows : (all others : List Attribute) (input rest after : List ℕ) → Follows all input rest
    → Follows others input after → (all ≡ others) × (rest ≡ after)
only_follows [] [] input rest after b c =
    (refl, one_word (codes "}") (skip_leading_whitespace input) rest after tt tt b c)
only_follows [] (y ∷ others) input rest after b c = absurd (brace_or_comma (y ∷ others) b c)
only_follows (x ∷ all) [] input rest after b c = absurd (brace_or_comma (x ∷ all) c b)
only_follows (x ∷ all) (y ∷ others) input rest after b c =
    let left = Begins-split (regroup b) in
    let right = Begins-split (regroup c) in
    let middles = one_comma (skip_leading_whitespace input) left.0 right.0
    (NoSpace-before (Through-solid (x ∷ all) (omega arith)) left.2)
    (NoSpace-before (Through-solid (y ∷ others) (omega arith)) right.2) left.1 right.1 in
    let one = Begins-split (ungroup left.2) in
    let other = Begins-split (ungroup right.2) in
    let first = only_attribute right.0 one.0 other.0 x y tt tt
    (subst (λ m. Begins (IsAttribute x) m one.0) middles one.1) other.1 in
    let more = only_follows all others other.0 rest after
    (further_apart all (subst (λ m. Begins (AreFurther all · IsSpace · Closed) m rest) first.1 one.2))
    (further_apart others other.2) in
    (λ i. first.0 i ∷ more.0 i, more.1)

only_inside : (all others : List Attribute) (input rest after : List ℕ) → Inside all input rest
    → Inside others input after → (all ≡ others) × (rest ≡ after)
only_inside [] [] input rest after b c = (refl, one_word (codes "}") input rest after tt tt b c)
only_inside [] (y ∷ others) input rest after b c = absurd (brace_apart (y ∷ others) (omega arith) c b)
only_inside (x ∷ all) [] input rest after b c = absurd (brace_apart (x ∷ all) (omega arith) b c)
only_inside (x ∷ all) (y ∷ others) input rest after b c =
    let one = Begins-split (ungroup b) in
    let other = Begins-split (ungroup c) in
    let first = only_attribute input one.0 other.0 x y tt tt one.1 other.1 in
    let more = only_follows all others other.0 rest after
    (further_apart all (subst (λ m. Begins (AreFurther all · IsSpace · Closed) m rest) first.1 one.2))
    (further_apart others other.2) in
    (λ i. first.0 i ∷ more.0 i, more.1)

-- blocks
one_opening : OneRest NoSpace (Is (codes "{") · IsSpace)
one_opening = one_then Anything NoSpace (one_word (codes "{")) one_space (λ _ _ _ _. tt)

pub only_block : OnlyOne Anything IsModeBlock
only_block input rest after v w _ _ b c =
    let left = block_apart b.is.0 (record { piece = b.piece; whole = b.whole; is = b.is.2 }) in
    let right = block_apart c.is.0 (record { piece = c.piece; whole = c.whole; is = c.is.2 }) in
    let middles = one_opening input left.0 right.0 (Inside-solid b.is.0 left.0 rest left.2)
    (Inside-solid c.is.0 right.0 after right.2) left.1 right.1 in
    let same = only_inside b.is.0 c.is.0 right.0 rest after
    (subst (λ m. Inside b.is.0 m rest) middles left.2) right.2 in
    (b.is.1 ∙ ap mode_of same.0 ∙ sym c.is.1, same.1)

pub only_with : OnlyOne Anything IsWith
only_with = only_after_word (codes "with") IsSolid-block only_block

pub only_options : OnlyOne Anything IsOptions
only_options =
    only_after_word (codes ",") (λ mode text is. IsSolid-word opening_brace [] refl text is)
    (only_after_word (codes "{") (λ mode text is. IsSolid-word 119 (codes "ith") refl text is)
    (only_after_word (codes "with") (λ mode text is. IsSolid-word 58 [] refl text is)
    (only_after_word (codes ":") (λ mode text is. IsSolid-front (IsSolid-block mode) text is)
    (only_value Anything Anything only_block (one_then NoSpace Anything one_space (one_word (codes "}"))
    (λ middle rest _ b. NoSpace-before (λ text is. subst IsSolid (sym is) refl) b))
    (λ _ _ _ _. tt)))))
