-- Dynamic imports: the first `import`, and its argument list.
use Rattle.std.proofs.Common.{◌≡◌, ◌≢◌, ℕ, ◌<◌, ◌≤◌, ◌⊎◌, inl, inr, ⊎_elim, Option, Some, None, List, [], ◌∷◌}
use Rattle.std.proofs.Common.{◌++◌, length, refl, sym, ap, ◌∙◌, subst, codes, option_map, append_assoc}
use Rattle.std.proofs.Common.{length-append, arith}
use Rattle.std.proofs.lemmas.Bool.{cases_lt}
use Rattle.std.proofs.lemmas.List.{append_cancel_left, append_cancel_right, append-nil}
use Rattle.std.specs.Option.{unwrap_or}
use Rattle.std.specs.Str.{chars, skip_leading_whitespace}
use denote.Ref.{Bor}
use Rattle.deno_graph_jsdoc.specs.Characters.{opening_brace, closing_brace}
use Rattle.deno_graph_jsdoc.specs.JsDocGrammar.{◌·◌, Is, IsSpace, IsModeBlock, IsOptions, IsSecond, IsUpTo}
use Rattle.deno_graph_jsdoc.specs.JsDocGrammar.{Lacks, Begins, Anything, NoSpace}
use Rattle.deno_graph_jsdoc.specs.internal.Reading.{ReadsImport, HasArguments, IsDynamicEnd, EndsArguments}
use Rattle.deno_graph_jsdoc.specs.internal.Reading.{Reads, rest_and_mode}
use Rattle.deno_graph_jsdoc.specs.JsDocImport.{Mode, Import, IsDynamicImport, EndsDynamicImport, byte_count}
use Rattle.deno_graph_jsdoc.specs.JsDocImport.{moved}
use Rattle.deno_graph_jsdoc.proofs.Blocks.{IsSolid-block, IsSolid-front, Closed-solid}
use Rattle.deno_graph_jsdoc.proofs.Imports.{no_first, after_first, no_tail_at_all, longer}
use Rattle.deno_graph_jsdoc.proofs.Readings.{Begins-split, Begins-join, Begins-as, IsSolid, IsSolid-word}
use Rattle.deno_graph_jsdoc.proofs.Readings.{space_read, space_then, then_none, then_some, value_none}
use Rattle.deno_graph_jsdoc.proofs.Readings.{value_then, lexeme_none, lexeme_then, after_space, before_space}
use Rattle.deno_graph_jsdoc.proofs.Readings.{one_space, same_first, regroup, ungroup, regroup_4, ungroup_4}
use Rattle.deno_graph_jsdoc.proofs.Readings.{textwise}
use Rattle.deno_graph_jsdoc.proofs.Runs.{front_of_front, same_space, space_ends, Lacks-not_inside}

-- a text begins with at most one text up to the first occurrence of a word
module _ (word : List ℕ) where
  same_front : (front rest other after : List ℕ)
      → ((before beyond : List ℕ) → other ++ word ≡ before ++ (word ++ beyond) → beyond ≡ [])
      → front ++ (word ++ rest) ≡ other ++ (word ++ after) → length front ≤ length other → front ≡ other
  same_front front rest other after first same fits =
      let longer = front_of_front (front ++ word) rest (other ++ word) after
      (append_assoc front word rest ∙ same ∙ sym (append_assoc other word after))
      (omega (arith, length-append front word, length-append other word)) in
      let none = first front longer.0 (longer.1 ∙ append_assoc front word longer.0) in
      append_cancel_right front other word
      (sym (longer.1 ∙ ap (λ t. (front ++ word) ++ t) none ∙ append-nil (front ++ word)))

  one_front : (front rest other after : List ℕ)
      → ((before beyond : List ℕ) → front ++ word ≡ before ++ (word ++ beyond) → beyond ≡ [])
      → ((before beyond : List ℕ) → other ++ word ≡ before ++ (word ++ beyond) → beyond ≡ [])
      → front ++ (word ++ rest) ≡ other ++ (word ++ after) → front ≡ other
  one_front front rest other after first second same =
      ⊎_elim (λ less. same_front front rest other after second same (omega (arith, less)))
      (λ more. sym (same_front other after front rest first (sym same) more))
      (cases_lt (length front) (length other))

  -- the text before the word, and the word
  pub parts_of : {input rest : List ℕ} → Begins (IsUpTo word) input rest
      → (front : List ℕ) × (input ≡ front ++ (word ++ rest)) × Lacks closing_brace front
      × ((before beyond : List ℕ) → front ++ word ≡ before ++ (word ++ beyond) → beyond ≡ [])
  parts_of {input} {rest} b =
      let is = b.is in (
        is.front,
        b.whole ∙ ap (λ t. t ++ rest) is.whole ∙ append_assoc is.front word rest,
        is.unclosed,
        λ before beyond same. is.first before beyond (is.whole ∙ same),
      )

  pub up_to_none : (input : List ℕ) → ((front rest : List ℕ) → input ≢ front ++ (word ++ rest))
      → Reads Anything (λ (_ : Unit {0}). IsUpTo word) input None
  up_to_none input none _ rest _ b =
      let parts = parts_of b in
      none parts.0 rest parts.1

  module _ (input front rest : List ℕ) (whole : input ≡ front ++ (word ++ rest))
      (first : (before beyond : List ℕ) → front ++ word ≡ before ++ (word ++ beyond) → beyond ≡ []) where
    same_parts : {after : List ℕ} (b : Begins (IsUpTo word) input after) → front ≡ (parts_of b).0
    same_parts {after} b =
        let parts = parts_of b in
        one_front front rest parts.0 after first parts.3 (sym whole ∙ parts.1)

    pub up_to_closed : (inside beyond : List ℕ) → front ≡ inside ++ closing_brace ∷ beyond
        → Reads Anything (λ (_ : Unit {0}). IsUpTo word) input None
    up_to_closed inside beyond closed _ after _ b =
        Lacks-not_inside closing_brace inside beyond
        (subst (Lacks closing_brace) (sym (same_parts b) ∙ closed) (parts_of b).2)

    pub up_to_read : Lacks closing_brace front
        → Reads Anything (λ (_ : Unit {0}). IsUpTo word) input (Some (rest, tt))
    up_to_read lacks = (
      record {
        piece = front ++ word;
        whole = whole ∙ sym (append_assoc front word rest);
        is = record { front = front; whole = refl; unclosed = lacks; first = first };
      },
      λ other after _ b.
          let parts = parts_of b in
          let same : front ++ (word ++ after) ≡ front ++ (word ++ rest) =
          ap (λ t. t ++ (word ++ after)) (same_parts b) ∙ sym parts.1 ∙ whole in (
            refl,
            append_cancel_left word after rest
                (append_cancel_left front (word ++ after) (word ++ rest) same),
          ),
    )

-- a front that lacks the mark is a front of the text before the mark
pub unclosed_front : (mark : ℕ) (front rest unclosed after : List ℕ) → Lacks mark front
    → front ++ rest ≡ unclosed ++ mark ∷ after → (middle : List ℕ) × (unclosed ≡ front ++ middle)
unclosed_front mark front rest unclosed after lacks same =
    by_length (cases_lt (length unclosed) (length front))
  where
    by_length : (length unclosed < length front) ⊎ (length front ≤ length unclosed)
        → (middle : List ℕ) × (unclosed ≡ front ++ middle)
    by_length (inr fits) = front_of_front front rest unclosed (mark ∷ after) same fits
    by_length (inl longer) =
        let middle = front_of_front (unclosed ++ mark ∷ []) after front rest
        (append_assoc unclosed (mark ∷ []) after ∙ sym same)
        (omega (arith, length-append unclosed (mark ∷ []))) in
        absurd (Lacks-not_inside mark unclosed middle.0
        (subst (Lacks mark) (middle.1 ∙ append_assoc unclosed (mark ∷ []) middle.0) lacks))

pub Lacks-append : (mark : ℕ) (xs ys : List ℕ) → Lacks mark xs → Lacks mark ys → Lacks mark (xs ++ ys)
Lacks-append mark [] ys left right = right
Lacks-append mark (x ∷ xs) ys left right = (left.0, Lacks-append mark xs ys left.1 right)

pub Lacks-front : (mark : ℕ) (xs ys : List ℕ) → Lacks mark (xs ++ ys) → Lacks mark xs
Lacks-front mark [] ys all = tt
Lacks-front mark (x ∷ xs) ys all = (all.0, Lacks-front mark xs ys all.1)

-- if the word doesn't occur before the first `}`, the text doesn't begin with a text up to the word
pub up_to_none_unclosed : (word input unclosed : List ℕ) → Lacks closing_brace word
    → (input ≡ unclosed) ⊎ ((after : List ℕ) × (input ≡ unclosed ++ closing_brace ∷ after))
    → ((front rest : List ℕ) → unclosed ≢ front ++ (word ++ rest))
    → Reads Anything (λ (_ : Unit {0}). IsUpTo word) input None
up_to_none_unclosed word input unclosed lacks (inl same) none other rest follow b =
    up_to_none word input (λ front beyond whole. none front beyond (sym same ∙ whole)) other rest follow b
up_to_none_unclosed word input unclosed lacks (inr (after, closed)) none other rest follow b =
    let parts = parts_of word b in
    let middle = unclosed_front closing_brace (parts.0 ++ word) rest unclosed after
    (Lacks-append closing_brace parts.0 word parts.2 lacks)
    (append_assoc parts.0 word rest ∙ sym parts.1 ∙ closed) in
    none parts.0 middle.0 (middle.1 ∙ append_assoc parts.0 word middle.0)

-- if the word occurs before the first `}`, its first occurrence in the whole text is before the `}`
pub up_to_read_unclosed : (word input unclosed front rest : List ℕ) → Lacks closing_brace unclosed
    → (input ≡ unclosed) ⊎ ((after : List ℕ) × (input ≡ unclosed ++ closing_brace ∷ after))
    → (some beyond : List ℕ) → unclosed ≡ some ++ (word ++ beyond)
    → input ≡ front ++ (word ++ rest)
    → ((before beyond : List ℕ) → front ++ word ≡ before ++ (word ++ beyond) → beyond ≡ [])
    → Reads Anything (λ (_ : Unit {0}). IsUpTo word) input (Some (rest, tt))
up_to_read_unclosed word input unclosed front rest lacks form some beyond has whole first =
    up_to_read word input front rest whole first
    (Lacks-front closing_brace front middle.0 (subst (Lacks closing_brace) middle.1 lacks))
  where
    tail_of : (input ≡ unclosed) ⊎ ((after : List ℕ) × (input ≡ unclosed ++ closing_brace ∷ after))
        → (tail : List ℕ) × (input ≡ unclosed ++ tail)
    tail_of (inl same) = ([], same ∙ sym (append-nil unclosed))
    tail_of (inr (after, closed)) = (closing_brace ∷ after, closed)

    tail : (tail : List ℕ) × (input ≡ unclosed ++ tail)
    tail = tail_of form

    sooner : length front ≤ length some
    sooner = by_length (cases_lt (length some) (length front))
      where
        by_length : (length some < length front) ⊎ (length front ≤ length some) → length front ≤ length some
        by_length (inr fits) = fits
        by_length (inl longer) =
            let all : some ++ (word ++ (beyond ++ tail.0)) ≡ front ++ (word ++ rest) =
            ap (λ t. some ++ t) (sym (append_assoc word beyond tail.0))
            ∙ sym (append_assoc some (word ++ beyond) tail.0) ∙ ap (λ t. t ++ tail.0) (sym has)
            ∙ sym tail.1 ∙ whole in
            let more = front_of_front (some ++ word) (beyond ++ tail.0) (front ++ word) rest
            (append_assoc some word (beyond ++ tail.0) ∙ all ∙ sym (append_assoc front word rest))
            (omega (arith, length-append some word, length-append front word)) in
            let none = first some more.0 (more.1 ∙ append_assoc some word more.0) in
            omega (
              arith,
              ap length more.1,
              length-append (some ++ word) more.0,
              ap length none,
              length-append some word,
              length-append front word,
            )

    middle : (middle : List ℕ) × (unclosed ≡ front ++ middle)
    middle =
        front_of_front front (word ++ rest) unclosed tail.0 (sym whole ∙ tail.1)
        (omega (arith, sooner, ap length has, length-append some (word ++ beyond)))

-- options: a comma, a brace, `with`, a colon, a block and a brace
abbrev BlockEnd : Mode → List ℕ → Type 0
BlockEnd mode = IsModeBlock mode · IsSpace · Is (codes "}")

abbrev Colon : Mode → List ℕ → Type 0
Colon mode = Is (codes ":") · IsSpace · BlockEnd mode

abbrev With : Mode → List ℕ → Type 0
With mode = Is (codes "with") · IsSpace · Colon mode

abbrev Brace : Mode → List ℕ → Type 0
Brace mode = Is (codes "{") · IsSpace · With mode

BlockEnd-solid : (mode : Mode) (text : List ℕ) → BlockEnd mode text → IsSolid text
BlockEnd-solid mode text is = IsSolid-front (IsSolid-block mode) text is

Colon-solid : (mode : Mode) (text : List ℕ) → Colon mode text → IsSolid text
Colon-solid mode text is = IsSolid-word 58 [] refl text is

With-solid : (mode : Mode) (text : List ℕ) → With mode text → IsSolid text
With-solid mode text is = IsSolid-word 119 (codes "ith") refl text is

Brace-solid : (mode : Mode) (text : List ℕ) → Brace mode text → IsSolid text
Brace-solid mode text is = IsSolid-word opening_brace [] refl text is

Options-solid : (mode : Mode) (text : List ℕ) → IsOptions mode text → IsSolid text
Options-solid mode text is = IsSolid-word 44 [] refl text is

module _ (a : List ℕ) where
  pub options_no_comma : Reads NoSpace (λ (_ : Unit {0}). Is (codes ",") · IsSpace) a None
      → Reads Anything IsOptions a None
  options_no_comma none = lexeme_none Anything Brace Brace-solid (Is (codes ",")) a none

  module _ (b : List ℕ)
      (comma : Reads NoSpace (λ (_ : Unit {0}). Is (codes ",") · IsSpace) a (Some (b, tt))) where
    from_comma : (o : Option (List ℕ × Mode)) → Reads Anything Brace b o → Reads Anything IsOptions a o
    from_comma o found = lexeme_then Anything Brace Brace-solid (Is (codes ",")) a b o comma found

    pub options_no_brace : Reads NoSpace (λ (_ : Unit {0}). Is (codes "{") · IsSpace) b None
        → Reads Anything IsOptions a None
    options_no_brace none = from_comma None (lexeme_none Anything With With-solid (Is (codes "{")) b none)

    module _ (c : List ℕ)
        (brace : Reads NoSpace (λ (_ : Unit {0}). Is (codes "{") · IsSpace) b (Some (c, tt))) where
      from_brace : (o : Option (List ℕ × Mode)) → Reads Anything With c o → Reads Anything IsOptions a o
      from_brace o found =
          from_comma o (lexeme_then Anything With With-solid (Is (codes "{")) b c o brace found)

      pub options_no_with : Reads NoSpace (λ (_ : Unit {0}). Is (codes "with") · IsSpace) c None
          → Reads Anything IsOptions a None
      options_no_with none =
          from_brace None (lexeme_none Anything Colon Colon-solid (Is (codes "with")) c none)

      module _ (d : List ℕ)
          (with_word : Reads NoSpace (λ (_ : Unit {0}). Is (codes "with") · IsSpace) c (Some (d, tt))) where
        from_with : (o : Option (List ℕ × Mode)) → Reads Anything Colon d o → Reads Anything IsOptions a o
        from_with o found =
            from_brace o (lexeme_then Anything Colon Colon-solid (Is (codes "with")) c d o with_word found)

        pub options_no_colon : Reads NoSpace (λ (_ : Unit {0}). Is (codes ":") · IsSpace) d None
            → Reads Anything IsOptions a None
        options_no_colon none =
            from_with None (lexeme_none Anything BlockEnd BlockEnd-solid (Is (codes ":")) d none)

        module _ (e : List ℕ)
            (colon : Reads NoSpace (λ (_ : Unit {0}). Is (codes ":") · IsSpace) d (Some (e, tt))) where
          from_colon : (o : Option (List ℕ × Mode)) → Reads Anything BlockEnd e o
              → Reads Anything IsOptions a o
          from_colon o found =
              from_with o (lexeme_then Anything BlockEnd BlockEnd-solid (Is (codes ":")) d e o colon found)

          pub options_no_block : Reads Anything IsModeBlock e None → Reads Anything IsOptions a None
          options_no_block none = from_colon None
              (value_none Anything Anything IsModeBlock (IsSpace · Is (codes "}")) (λ _ _ _ _. tt) e none)

          pub options_read : (after : List ℕ) (mode : Mode) (o : Option (List ℕ × Unit {0}))
              → Reads Anything IsModeBlock e (Some (after, mode))
              → Reads Anything (λ (_ : Unit {0}). Is (codes "}")) (skip_leading_whitespace after) o
              → Reads Anything IsOptions a (option_map (λ x. (x.0, mode)) o)
          options_read after mode o block closed =
              from_colon (option_map (λ x. (x.0, mode)) o)
              (value_then Anything Anything IsModeBlock (IsSpace · Is (codes "}"))
              (λ _ _ _ _. tt) e after mode o block
              (space_then Anything (λ (_ : Unit {0}). Is (codes "}"))
              (λ _ text is. Closed-solid text is) after o closed))

-- the text after the specifier: maybe options, and the closing parenthesis
abbrev pub Paren : List ℕ → Type 0
Paren = Is (codes ")")

pub Paren-solid : (text : List ℕ) → Paren text → IsSolid text
Paren-solid text is = subst IsSolid (sym is) refl

-- the arguments end with options, or without
pub tail_apart : {after rest : List ℕ} {mode : Mode} → EndsArguments after mode rest
    → Begins (IsOptions mode · IsSpace · Paren) (skip_leading_whitespace after) rest
    ⊎ ((mode ≡ None) × Begins Paren (skip_leading_whitespace after) rest)
tail_apart b =
    let parts = Begins-split b in
    let second = Begins-split parts.2 in
    by_form parts.1 second.1.is second.1.whole second.2
  where
    by_form : {after middle last rest piece : List ℕ} {mode : Mode} → Begins IsSpace after middle
        → IsSecond mode piece → middle ≡ piece ++ last → Begins (IsSpace · Paren) last rest
        → Begins (IsOptions mode · IsSpace · Paren) (skip_leading_whitespace after) rest
        ⊎ ((mode ≡ None) × Begins Paren (skip_leading_whitespace after) rest)
    by_form {piece = piece} {mode = mode} space (inl is) whole close =
        inl (after_space (IsSolid-front (Options-solid mode))
        (Begins-join space (Begins-join (record { piece = piece; whole = whole; is = is }) close)))
    by_form {after} {middle} {last} {rest} {piece} space (inr none) whole close =
        let same : middle ≡ last = whole ∙ ap (λ t. t ++ last) none.0 in
        inr (
          none.1,
          after_space Paren-solid
              (one_space (Begins-join space (subst (λ m. Begins (IsSpace · Paren) m rest) (sym same) close))),
        )

tail_with : {after rest : List ℕ} {mode : Mode} → Begins (IsOptions mode · IsSpace · Paren)
    (skip_leading_whitespace after) rest → EndsArguments after mode rest
tail_with {after} b =
    let parts = Begins-split b in
    Begins-join (space_read after).0 (Begins-join (Begins-as (λ text is. inl is) parts.1) parts.2)

tail_without : {after rest : List ℕ} → Begins Paren (skip_leading_whitespace after) rest
    → EndsArguments after None rest
tail_without {after} b =
    Begins-join (space_read after).0
    (Begins-join (record { piece = []; whole = refl; is = inr (refl, refl) })
    (Begins-join (record { piece = []; whole = refl; is = tt }) b))

-- the only end of the arguments, or a proof that there is none
abbrev pub OnlyEnd : List ℕ → Mode → Option (List ℕ × Unit {0}) → Type 0
OnlyEnd after chosen None = (mode : Mode) (rest : List ℕ) → EndsArguments after mode rest → ⊥
OnlyEnd after chosen (Some x) =
    EndsArguments after chosen x.0
    × ((mode : Mode) (rest : List ℕ) → EndsArguments after mode rest → (mode ≡ chosen) × (rest ≡ x.0))

pub options_apart : {input rest after : List ℕ} {mode : Mode} → Begins (IsOptions mode) input rest
    → Begins Paren input after → ⊥
options_apart options paren =
    let heads : ◌≡◌ {A = ℕ} 44 41 = same_first (Begins-split options).1 paren in
    omega (arith, heads)

module _ (after : List ℕ) where
  pub with_options : (middle : List ℕ) (mode : Mode)
      → Reads Anything IsOptions (skip_leading_whitespace after) (Some (middle, mode))
      → (o : Option (List ℕ × Unit {0})) → Reads Anything (λ (_ : Unit {0}). Paren)
      (skip_leading_whitespace middle) o → OnlyEnd after mode o
  with_options middle mode found None none = λ other rest b. elim (tail_apart b) [
    | inl options ↦
        let parts = Begins-split options in
        let same = found.1 other parts.0 tt parts.1 in
        none tt rest tt
        (after_space Paren-solid (subst (λ m. Begins (IsSpace · Paren) m rest) same.1 parts.2))
    | inr no_options ↦ options_apart found.0 no_options.1
  ]
  with_options middle mode found (Some x) paren = (
    tail_with (Begins-join found.0 (before_space middle paren.0)),
    λ other rest b. elim (tail_apart b) [
      | inl options ↦
          let parts = Begins-split options in
          let same = found.1 other parts.0 tt parts.1 in (
            same.0,
            (paren.1 tt rest tt
                (after_space Paren-solid (subst (λ m. Begins (IsSpace · Paren) m rest) same.1 parts.2))).1,
          )
      | inr no_options ↦ absurd (options_apart found.0 no_options.1)
    ],
  )

  pub without_options : Reads Anything IsOptions (skip_leading_whitespace after) None
      → (o : Option (List ℕ × Unit {0})) → Reads Anything (λ (_ : Unit {0}). Paren)
      (skip_leading_whitespace after) o → OnlyEnd after None o
  without_options no_options None none = λ other rest b. elim (tail_apart b) [
    | inl options ↦
        let parts = Begins-split options in
        no_options other parts.0 tt parts.1
    | inr plain ↦ none tt rest tt plain.1
  ]
  without_options no_options (Some x) paren = (
    tail_without paren.0,
    λ other rest b. elim (tail_apart b) [
      | inl options ↦
          let parts = Begins-split options in
          absurd (no_options other parts.0 tt parts.1)
      | inr plain ↦ (plain.0, (paren.1 tt rest tt plain.1).1)
    ],
  )

  -- the options that a parser reads, or none and the text after white space
  pub arguments_end : (found : Option (Bor (List ℕ) × Mode)) (all : Bor (List ℕ))
      (chosen : Bor (List ℕ) × Mode) → chars all.now ≡ skip_leading_whitespace after
      → Reads Anything IsOptions (chars all.now) (rest_and_mode found) → chosen ≡ unwrap_or found (all, None)
      → (o : Option (List ℕ × Unit {0})) → Reads Anything (λ (_ : Unit {0}). Paren)
      (skip_leading_whitespace (chars chosen.0.now)) o → OnlyEnd after chosen.1 o
  arguments_end None all chosen skipped reads is o paren =
      let none : Reads Anything IsOptions (skip_leading_whitespace after) None =
      subst (λ t. Reads Anything IsOptions t None) skipped reads in
      let again : skip_leading_whitespace (chars chosen.0.now) ≡ skip_leading_whitespace after =
      ap (λ (c : Bor (List ℕ) × Mode). skip_leading_whitespace (chars c.0.now)) is
      ∙ ap skip_leading_whitespace skipped ∙ skip_twice in
      subst (λ (m : Mode). OnlyEnd after m o) (sym (ap (λ (c : Bor (List ℕ) × Mode). c.1) is))
      (without_options none o (subst (λ t. Reads Anything (λ (_ : Unit {0}). Paren) t o) again paren))
    where
      skip_twice : skip_leading_whitespace (skip_leading_whitespace after) ≡ skip_leading_whitespace after
      skip_twice = sym (same_space (skip_leading_whitespace after) [] (skip_leading_whitespace after) tt
          (space_ends after) refl)
  arguments_end (Some x) all chosen skipped reads is o paren =
      let found : Reads Anything IsOptions (skip_leading_whitespace after) (Some (chars x.0.now, x.1)) =
      subst (λ t. Reads Anything IsOptions t (Some (chars x.0.now, x.1))) skipped reads in
      subst (λ (m : Mode). OnlyEnd after m o) (sym (ap (λ (c : Bor (List ℕ) × Mode). c.1) is))
      (with_options (chars x.0.now) x.1 found o
      (subst (λ (c : Bor (List ℕ) × Mode). Reads Anything (λ (_ : Unit {0}). Paren)
      (skip_leading_whitespace (chars c.0.now)) o) is paren))

-- the text before the specifier, from the parenthesis on
pub open_none : (input : List ℕ) → Reads NoSpace (λ (_ : Unit {0}). Is (codes "(") · IsSpace)
    (skip_leading_whitespace input) None
    → Reads NoSpace (λ (_ : Unit {0}). IsSpace · Is (codes "(") · IsSpace) input None
open_none input none = space_then NoSpace (λ (_ : Unit {0}). Is (codes "(") · IsSpace)
    (λ _ text is. IsSolid-word 40 [] refl text is) input None none

pub open_read : (input rest : List ℕ) → Reads NoSpace (λ (_ : Unit {0}). Is (codes "(") · IsSpace)
    (skip_leading_whitespace input) (Some (rest, tt))
    → Reads NoSpace (λ (_ : Unit {0}). IsSpace · Is (codes "(") · IsSpace) input (Some (rest, tt))
open_read input rest found = space_then NoSpace (λ (_ : Unit {0}). Is (codes "(") · IsSpace)
    (λ _ text is. IsSolid-word 40 [] refl text is) input (Some (rest, tt)) found

-- a brace and the text up to the first `import`
abbrev pub First : Unit {0} → List ℕ → Type 0
First _ = Is (codes "{") · IsUpTo (codes "import")

module _ (input : List ℕ) where
  pub first_unopened : Reads Anything (λ (_ : Unit {0}). Is (codes "{")) input None
      → Reads Anything First input None
  first_unopened none = then_none Anything Anything (Is (codes "{")) (λ _. IsUpTo (codes "import"))
      (λ _ _ _ _ _. tt) input none

  pub first_read : (middle : List ℕ) (o : Option (List ℕ × Unit {0}))
      → Reads Anything (λ (_ : Unit {0}). Is (codes "{")) input (Some (middle, tt))
      → Reads Anything (λ (_ : Unit {0}). IsUpTo (codes "import")) middle o → Reads Anything First input o
  first_read middle o opens found = then_some Anything Anything (Is (codes "{"))
      (λ _. IsUpTo (codes "import")) (λ _ _ _ _ _. tt) input middle o opens found

-- a dynamic import: its first `import`, arguments and the text up to a closing brace
abbrev Open : List ℕ → Type 0
Open = IsSpace · Is (codes "(") · IsSpace

abbrev Whole : List ℕ → Type 0
Whole = Is (codes "{") · IsUpTo (codes "import") · IsSpace · Is (codes "(") · IsSpace

abbrev pub Through : List ℕ → Type 0
Through = Lacks closing_brace · Is (codes "}")

whole_apart : (text : List ℕ) → Whole text → (First tt · Open) text
whole_apart = textwise (λ input rest b. regroup b)

whole_together : (text : List ℕ) → (First tt · Open) text → Whole text
whole_together = textwise (λ input rest b. ungroup b)

pub end_apart : (after : List ℕ) (mode : Mode) (rest : List ℕ) → EndsDynamicImport after mode rest
    → (middle : List ℕ) × EndsArguments after mode middle × Begins Through middle rest
end_apart after mode rest b = Begins-split (regroup_4 b)

end_together : (after : List ℕ) (mode : Mode) (middle rest : List ℕ) → EndsArguments after mode middle
    → Begins Through middle rest → EndsDynamicImport after mode rest
end_together after mode middle rest arguments b = ungroup_4 (Begins-join arguments b)

pub no_import : (input : List ℕ) → Reads Anything First input None → ReadsImport IsDynamicImport input None
no_import input none = no_first Anything (First tt) Open Whole EndsDynamicImport whole_apart whole_together
    (λ _ _ _ _. tt) input none

pub from_import : (input middle : List ℕ) (first : Reads Anything First input (Some (middle, tt)))
    (o : Option (List ℕ × Import)) → ReadsImport IsDynamicEnd middle o
    → ReadsImport IsDynamicImport input (option_map (λ x. (x.0, moved (byte_count first.0.piece) x.1)) o)
from_import input middle first o found = after_first Anything (First tt) Open Whole EndsDynamicImport
    whole_apart whole_together (λ _ _ _ _. tt) input middle first o found

pub no_arguments : (middle : List ℕ) → ReadsImport HasArguments middle None
    → ReadsImport IsDynamicEnd middle None
no_arguments middle none =
    no_tail_at_all Open EndsArguments EndsDynamicImport Through end_apart end_together middle none

pub after_arguments : (middle after : List ℕ) (import : Import) (o : Option (List ℕ × Unit {0}))
    → ReadsImport HasArguments middle (Some (after, import))
    → Reads Anything (λ (_ : Unit {0}). Through) after o
    → ReadsImport IsDynamicEnd middle (option_map (λ (x : List ℕ × Unit {0}). (x.0, import)) o)
after_arguments middle after import o found more = longer Open EndsArguments EndsDynamicImport Through
    end_apart end_together middle after import o found more

-- the rest after the arguments is an end of the text
pub HasArguments-back : (middle : List ℕ) (import : Import) (after : List ℕ)
    → HasArguments middle import after → (front : List ℕ) × (middle ≡ front ++ after)
HasArguments-back middle import after s =
    let tail = s.tail in (
      s.before ++ (s.quote ++ tail.piece),
      s.whole ∙ ap (λ t. s.before ++ (s.quote ++ t)) tail.whole
          ∙ ap (λ t. s.before ++ t) (sym (append_assoc s.quote tail.piece after))
          ∙ sym (append_assoc s.before (s.quote ++ tail.piece) after),
    )
