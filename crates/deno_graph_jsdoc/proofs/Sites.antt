-- The occurrences of `import` in a text, one after another.
use Rattle.std.proofs.Common.{◌≡◌, ◌≢◌, ℕ, ◌+◌, ◌<◌, ◌≤◌, ◌⊎◌, inl, inr, ⊎_elim, List, [], ◌∷◌, ◌++◌, length}
use Rattle.std.proofs.Common.{refl, sym, ap, ◌∙◌, subst, codes, append_assoc, length-append, arith}
use Rattle.std.proofs.lemmas.Bool.{cases_lt}
use Rattle.std.proofs.lemmas.List.{append_cancel_left, append-nil}
use Rattle.std.proofs.lemmas.List.Elements.{Contains-append_left, Contains-push, Contains-push_cases}
use Rattle.std.proofs.lemmas.List.Elements.{Contains-get_or}
use Rattle.std.proofs.lemmas.List.Quantifiers.{all_pairs_push}
use Rattle.std.specs.List.{AllPairs, Contains}
use Rattle.deno_graph_jsdoc.specs.JsDocImports.{IsFront, HasFronts}
use Rattle.deno_graph_jsdoc.proofs.Runs.{front_of_front}

abbrev pub word : List ℕ
word = codes "import"

-- a text that ends with the word
abbrev pub EndsIn : List ℕ → Type 0
EndsIn front = (before : List ℕ) × (front ≡ before ++ word)

-- an offset where a search for the next occurrence may begin
abbrev pub IsCut : List ℕ → Type 0
IsCut front = (front ≡ []) ⊎ EndsIn front

-- the word doesn't begin again inside itself
inside : (middle rest after : List ℕ) → word ++ rest ≡ middle ++ (word ++ after)
    → 0 < length middle → length middle < 6 → ⊥
inside [] rest after same some short = omega arith
inside (a ∷ []) rest after same some short =
    let heads : ◌≡◌ {A = ℕ} 109 105 = cc in
    omega (arith, heads)
inside (a ∷ b ∷ []) rest after same some short =
    let heads : ◌≡◌ {A = ℕ} 112 105 = cc in
    omega (arith, heads)
inside (a ∷ b ∷ c ∷ []) rest after same some short =
    let heads : ◌≡◌ {A = ℕ} 111 105 = cc in
    omega (arith, heads)
inside (a ∷ b ∷ c ∷ d ∷ []) rest after same some short =
    let heads : ◌≡◌ {A = ℕ} 114 105 = cc in
    omega (arith, heads)
inside (a ∷ b ∷ c ∷ d ∷ e ∷ []) rest after same some short =
    let heads : ◌≡◌ {A = ℕ} 116 105 = cc in
    omega (arith, heads)
inside (a ∷ b ∷ c ∷ d ∷ e ∷ f ∷ more) rest after same some short = omega arith

-- an occurrence that begins before a cut ends before it
no_overlap : (front rest before after : List ℕ) → IsCut front → front ++ rest ≡ before ++ (word ++ after)
    → length before < length front
    → length before + 6 ≤ length front
no_overlap front rest before after (inl none) same less = absurd (omega (arith, ap length none))
no_overlap front rest before after (inr (earlier, is)) same less =
    let whole : earlier ++ (word ++ rest) ≡ before ++ (word ++ after) =
    sym (append_assoc earlier word rest) ∙ ap (λ t. t ++ rest) (sym is) ∙ same in
    let size : length front ≡ length earlier + 6 = ap length is ∙ length-append earlier word in
    ⊎_elim
    (λ sooner.
    let middle = front_of_front earlier (word ++ rest) before (word ++ after) whole
    (omega (arith, sooner)) in
    let tails : word ++ rest ≡ middle.0 ++ (word ++ after) =
    append_cancel_left earlier (word ++ rest) (middle.0 ++ (word ++ after))
    (whole ∙ ap (λ t. t ++ (word ++ after)) middle.1 ∙ append_assoc earlier middle.0 (word ++ after)) in
    let sizes : length before ≡ length earlier + length middle.0 =
    ap length middle.1 ∙ length-append earlier middle.0 in
    absurd (inside middle.0 rest after tails (omega (arith, sooner)) (omega arith)))
    (λ later. omega (arith, later)) (cases_lt (length earlier) (length before))

-- two fronts of a text that are equally long are equal
pub same_front : (text front other : List ℕ) → IsFront text front → IsFront text other
    → length front ≡ length other → front ≡ other
same_front text front other is are size =
    let middle = front_of_front front is.0 other are.0 (sym is.1 ∙ are.1) (omega (arith, size)) in
    let none : length middle.0 ≡ 0 = omega (arith, ap length middle.1, length-append front middle.0) in
    sym (middle.1 ∙ ap (λ t. front ++ t) (empty middle.0 none) ∙ append-nil front)
  where
    empty : (t : List ℕ) → length t ≡ 0 → t ≡ []
    empty [] is = refl
    empty (x ∷ t) is = absurd (omega arith)

pub same_after : (text front after other : List ℕ) → text ≡ front ++ after
    → text ≡ front ++ other → after ≡ other
same_after text front after other is are = append_cancel_left front after other (sym is ∙ are)

-- no front of the text ends in the word between a cut and `next`
abbrev pub Skips : List ℕ → List ℕ → List ℕ → Type 0
Skips text front next = (other : List ℕ) → IsFront text other → EndsIn other → length front < length other
    → length next ≤ length other

module _ (front rest : List ℕ) (cut : IsCut front) where
  pub skips_to : (before after : List ℕ) → rest ≡ before ++ (word ++ after)
      → ((sooner beyond : List ℕ) → before ++ word ≡ sooner ++ (word ++ beyond) → beyond ≡ [])
      → Skips (front ++ rest) front (front ++ (before ++ word))
  skips_to before after whole first other is ends longer = by_case (cases_lt (length ends.0) (length front))
    where
      all : front ++ rest ≡ ends.0 ++ (word ++ is.0)
      all = is.1 ∙ ap (λ t. t ++ is.0) ends.1 ∙ append_assoc ends.0 word is.0

      size : length other ≡ length ends.0 + 6
      size = ap length ends.1 ∙ length-append ends.0 word

      sizes : length (front ++ (before ++ word)) ≡ length front + (length before + 6)
      sizes = length-append front (before ++ word) ∙ ap (λ n. length front + n) (length-append before word)

      by_case : (length ends.0 < length front) ⊎ (length front ≤ length ends.0)
          → length (front ++ (before ++ word)) ≤ length other
      by_case (inl sooner) = absurd (omega (arith, no_overlap front rest ends.0 is.0 cut all sooner, size))
      by_case (inr later) =
          let middle = front_of_front front rest ends.0 (word ++ is.0) all later in
          let tails : rest ≡ middle.0 ++ (word ++ is.0) =
          append_cancel_left front rest (middle.0 ++ (word ++ is.0))
          (all ∙ ap (λ t. t ++ (word ++ is.0)) middle.1 ∙ append_assoc front middle.0 (word ++ is.0)) in
          let end_size : length ends.0 ≡ length front + length middle.0 =
          ap length middle.1 ∙ length-append front middle.0 in
          let fits : length before ≤ length middle.0 =
          not_sooner middle.0 tails (cases_lt (length middle.0) (length before)) in
          omega (arith, size, sizes, end_size)
        where
          not_sooner : (middle : List ℕ) → rest ≡ middle ++ (word ++ is.0) → (length middle < length before)
              ⊎ (length before ≤ length middle) → length before ≤ length middle
          not_sooner middle tails (inr fits) = fits
          not_sooner middle tails (inl less) =
              let more = front_of_front (middle ++ word) is.0 (before ++ word) after
              (append_assoc middle word is.0 ∙ sym tails ∙ whole ∙ sym (append_assoc before word after))
              (omega (arith, length-append middle word, length-append before word)) in
              let none = first middle more.0 (more.1 ∙ append_assoc middle word more.0) in
              absurd (omega (
                arith,
                ap length more.1,
                length-append (middle ++ word) more.0,
                ap length none,
                length-append middle word,
                length-append before word,
              ))

  -- if the rest has no `import`, none ends after the cut
  pub no_further : ((sooner beyond : List ℕ) → rest ≢ sooner ++ (word ++ beyond)) → (other : List ℕ)
      → IsFront (front ++ rest) other → EndsIn other → length other ≤ length front
  no_further none other is ends = by_case (cases_lt (length ends.0) (length front))
    where
      all : front ++ rest ≡ ends.0 ++ (word ++ is.0)
      all = is.1 ∙ ap (λ t. t ++ is.0) ends.1 ∙ append_assoc ends.0 word is.0

      by_case : (length ends.0 < length front) ⊎ (length front ≤ length ends.0) → length other ≤ length front
      by_case (inl sooner) = omega (
        arith,
        no_overlap front rest ends.0 is.0 cut all sooner,
        ap length ends.1,
        length-append ends.0 word,
      )
      by_case (inr later) =
          let middle = front_of_front front rest ends.0 (word ++ is.0) all later in
          absurd (none middle.0 is.0
          (append_cancel_left front rest (middle.0 ++ (word ++ is.0))
          (all ∙ ap (λ t. t ++ (word ++ is.0)) middle.1 ∙ append_assoc front middle.0 (word ++ is.0))))

-- the fronts up to a length that end in the word and have `P`
module _ (P : List ℕ → Type 0) (ends : (front : List ℕ) → P front → EndsIn front) (text : List ℕ) where
  pub record Reached (limit : ℕ) (fronts : List (List ℕ)) : Type 0 where
    pub ascending : AllPairs (λ (front longer : List ℕ). length front < length longer) fronts
    pub sound : (front : List ℕ) → Contains fronts front → IsFront text front × P front
        × (length front ≤ limit)
    pub complete : (front : List ℕ) → IsFront text front → P front → length front ≤ limit
        → Contains fronts front

  -- the number of these fronts
  abbrev pub Counted : ℕ → ℕ → Type 0
  Counted limit count = (fronts : List (List ℕ)) × Reached limit fronts × (count ≡ length fronts)

  some_word : (front : List ℕ) → P front → 6 ≤ length front
  some_word front is =
      let end = ends front is in
      omega (arith, ap length end.1, length-append end.0 word)

  pub Counted-start : Counted 0 0
  Counted-start = (
    [],
    record {
      ascending = λ i j d order inside. absurd (omega arith);
      sound = λ front has. absurd (omega (arith, has.1));
      complete = λ front is has fits. absurd (omega (arith, some_word front has));
    },
    refl,
  )

  pub Counted-all : (limit count : ℕ) → Counted limit count
      → ((front : List ℕ) → IsFront text front → EndsIn front → length front ≤ limit) → HasFronts P text count
  Counted-all limit count (fronts, reached, is) short = (
    fronts,
    record {
      ascending = reached.ascending;
      exact = λ front. (
        (λ has.
            let all = reached.sound front has in
            (all.0, all.1)),
        λ both. reached.complete front both.0 both.1 (short front both.0 (ends front both.1)),
      );
    },
    is,
  )

  module _ (last next : List ℕ) (here : IsFront text next) (skips : Skips text last next) where
    pub Counted-skip : (count : ℕ) → Counted (length last) count → (P next → ⊥) → length last ≤ length next
        → Counted (length next) count
    Counted-skip count (fronts, reached, is) none longer = (
      fronts,
      record {
        ascending = reached.ascending;
        sound = λ front has.
            let all = reached.sound front has in
            (all.0, all.1, omega (arith, all.2));
        complete = λ front fits has short. by_length front fits has short
            (cases_lt (length last) (length front));
      },
      is,
    )
      where
        by_length : (front : List ℕ) → IsFront text front → P front → length front ≤ length next
            → (length last < length front) ⊎ (length front ≤ length last) → Contains fronts front
        by_length front fits has short (inr old) = reached.complete front fits has old
        by_length front fits has short (inl new) =
            let far = skips front fits (ends front has) new in
            absurd (none (subst P (same_front text front next fits here (omega (arith, far))) has))

    pub Counted-more : (count : ℕ) → Counted (length last) count → P next → length last < length next
        → Counted (length next) (count + 1)
    Counted-more count (fronts, reached, is) some longer = (
      fronts ++ next ∷ [],
      record {
        ascending = all_pairs_push
            (λ (front other : List ℕ). length front < length other) fronts next reached.ascending
            (λ k d inside.
            let has = reached.sound _ (Contains-get_or fronts k d inside) in
            omega (arith, has.2));
        sound = λ front has. by_case front (Contains-push_cases fronts next front has);
        complete = λ front fits has short. by_length front fits has short
            (cases_lt (length last) (length front));
      },
      omega (arith, is, length-append fronts (next ∷ [])),
    )
      where
        by_case : (front : List ℕ) → Contains fronts front ⊎ (next ≡ front)
            → IsFront text front × P front × (length front ≤ length next)
        by_case front (inl old) =
            let all = reached.sound front old in
            (all.0, all.1, omega (arith, all.2))
        by_case front (inr new) =
            (subst (IsFront text) new here, subst P new some, omega (arith, ap length new))

        by_length : (front : List ℕ) → IsFront text front → P front → length front ≤ length next
            → (length last < length front) ⊎ (length front ≤ length last)
            → Contains (fronts ++ next ∷ []) front
        by_length front fits has short (inr old) =
            Contains-append_left fronts (next ∷ []) front (reached.complete front fits has old)
        by_length front fits has short (inl new) =
            let far = skips front fits (ends front has) new in
            subst (Contains (fronts ++ next ∷ [])) (same_front text next front here fits (omega (arith, far)))
            (Contains-push fronts next)
