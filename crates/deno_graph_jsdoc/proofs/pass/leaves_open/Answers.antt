-- Whether a brace is open, from one character to the next.
use Rattle.std.proofs.Common.{◌≡◌, ◌≢◌, ℕ, ◌⊎◌, inl, inr, Bool, true, false, not, ◌||◌, ◌&&◌, ◌==◌, List, []}
use Rattle.std.proofs.Common.{◌∷◌, ◌++◌, fold, refl, sym, ap, ◌∙◌, subst, rules}
use Rattle.std.proofs.lemmas.Bool.{false≢true, eqb-true, eqb-false}
use Rattle.std.proofs.lemmas.Iterator.{YieldsList-from_chars}
use Rattle.std.proofs.lemmas.Iterator.Consumers.{fold_from_yields_List}
use Rattle.std.specs.Str.{chars}
use Rattle.deno_graph_jsdoc.specs.Characters.{opening_brace, closing_brace}
use Rattle.deno_graph_jsdoc.specs.JsDocGrammar.{Lacks}
use Rattle.deno_graph_jsdoc.specs.internal.Pass.{LeavesOpen}
use Rattle.deno_graph_jsdoc.proofs.pass.leaves_open.Goals as goal

abbrev step : Bool → ℕ → Bool
step open_ c = (open_ || c == opening_brace) && not (c == closing_brace)

abbrev Opens : Bool → List ℕ → Type 0
Opens open_ text = ((front : List ℕ) × (back : List ℕ) × (text ≡ front ++ opening_brace ∷ back)
    × Lacks closing_brace back) ⊎ ((open_ ≡ true) × Lacks closing_brace text)

step_true : (open_ : Bool) (c : ℕ) (is closes : Bool) → (c == opening_brace) ≡ is
    → (c == closing_brace) ≡ closes
    → (open_ || is) && not closes ≡ true → (c ≢ closing_brace) × ((open_ ≡ true) ⊎ (c ≡ opening_brace))
step_true open_ c is true e f h = absurd (false≢true (by_both (open_ || is) h))
  where
    by_both : (b : Bool) → b && false ≡ true → false ≡ true
    by_both true h = h
    by_both false h = h
step_true true c is false e f h = (eqb-false c closing_brace f, inl refl)
step_true false c true false e f h = (eqb-false c closing_brace f, inr (eqb-true c opening_brace e))
step_true false c false false e f h = absurd (false≢true h)

opened : (open_ : Bool) (text : List ℕ) → fold step open_ text ≡ true → Opens open_ text
opened open_ [] is = inr (is, tt)
opened open_ (c ∷ cs) is = by_rest (opened (step open_ c) cs is)
  where
    by_rest : Opens (step open_ c) cs → Opens open_ (c ∷ cs)
    by_rest (inl (front, back, whole, lacks)) = inl (c ∷ front, back, ap (λ t. c ∷ t) whole, lacks)
    by_rest (inr (now, lacks)) =
        by_step (step_true open_ c (c == opening_brace) (c == closing_brace) refl refl now)
      where
        by_step : (c ≢ closing_brace) × ((open_ ≡ true) ⊎ (c ≡ opening_brace)) → Opens open_ (c ∷ cs)
        by_step (other, inl was) = inr (was, (other, lacks))
        by_step (other, inr brace) = inl ([], cs, ap (λ d. d ∷ cs) brace, lacks)

opens : (open_ : Bool) (text : List ℕ) → Opens open_ text → fold step open_ text ≡ true
opens open_ [] (inl ([], back, whole, lacks)) = absurd (cc)
opens open_ [] (inl (f ∷ front, back, whole, lacks)) = absurd (cc)
opens open_ [] (inr (is, lacks)) = is
opens open_ (c ∷ cs) (inl ([], back, whole, lacks)) =
    let first : c ≡ 123 = cc in
    let tails : cs ≡ back = cc in
    opens (step open_ c) cs (inr (brace first, subst (Lacks closing_brace) (sym tails) lacks))
  where
    brace : c ≡ opening_brace → step open_ c ≡ true
    brace is = ap (step open_) is ∙ by_open open_
      where
        by_open : (b : Bool) → step b opening_brace ≡ true
        by_open true = refl
        by_open false = refl
opens open_ (c ∷ cs) (inl (f ∷ front, back, whole, lacks)) =
    let tails : cs ≡ front ++ 123 ∷ back = cc in
    opens (step open_ c) cs (inl (front, back, tails, lacks))
opens open_ (c ∷ cs) (inr (is, (other, lacks))) =
    opens (step open_ c) cs (inr (still (c == closing_brace) refl, lacks))
  where
    still : (closes : Bool) → (c == closing_brace) ≡ closes → step open_ c ≡ true
    still true e = absurd (other (eqb-true c closing_brace e))
    still false e = (λ k. (is k || c == opening_brace) && not (e k))

pub returns : goal.returns
returns c =
    let text = chars c.args.text.now in
    let is : c.fold.result ≡ fold step false text =
    fold_from_yields_List _ step false c.fold.result c.fold.ensures.ran
    (YieldsList-from_chars c.args.text.now c.utf8.text c.chars.ensures.rest)
    (λ a x b q called. search rules) in (
      (λ now. by_form text (opened false text (sym is ∙ now))),
      λ open_.
          let brace = open_.is_back in
          is ∙ opens false text (inl (
            open_.front,
            brace.back,
            open_.whole ∙ ap (λ t. open_.front ++ t)
                (brace.whole ∙ ap (λ t. t ++ brace.back) brace.is_front),
            brace.is_back,
          )),
    )
  where
    by_form : (text : List ℕ) → Opens false text → LeavesOpen text
    by_form text (inl (front, back, whole, lacks)) = record {
      front = front;
      back = opening_brace ∷ back;
      whole = whole;
      is_front = tt;
      is_back =
          record { front = opening_brace ∷ []; back = back; whole = refl; is_front = refl; is_back = lacks };
    }
    by_form text (inr (is, lacks)) = absurd (false≢true is)
