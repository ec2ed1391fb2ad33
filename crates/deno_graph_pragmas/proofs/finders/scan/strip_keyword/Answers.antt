use Rattle.std.proofs.Common.{◌≡◌, ℕ, ◌+◌, ◌<◌, ◌==◌, List, [], ◌∷◌, length, get_or, drop, None, sym, ap}
use Rattle.std.proofs.Common.{subst, ◌∙◌, arith, refl, eq-eqb}
use Rattle.std.proofs.lemmas.Bool.{cond-true}
use Rattle.std.proofs.lemmas.List.{drop_more, nil_from_length}
use Rattle.std.proofs.lemmas.Str.{chars-nil, chars_past_char, IsUtf8-past_char}
use Rattle.std.specs.Option.{option_map}
use Rattle.std.specs.Str.{chars}
use Rattle.std.specs.Str.Iter.{chars_rest}
use Rattle.unicode.specs.CaseFolding.{simple_fold}
use Rattle.deno_graph_pragmas.specs.internal.Reading.{after_keyword}
use Rattle.deno_graph_pragmas.proofs.finders.scan.strip_keyword.Goals as goal

after_keyword-none : (word : List ℕ) (i : ℕ) → i < length word → after_keyword (drop i word) [] ≡ None
after_keyword-none word i more = ap (λ left. after_keyword left []) (drop_more word i 0 more)

after_keyword-more : (word cs : List ℕ) (i c : ℕ) → i < length word → simple_fold c ≡ simple_fold
    (get_or word i 0) → after_keyword (drop i word) (c ∷ cs) ≡ after_keyword (drop (i + 1) word) cs
after_keyword-more word cs i c more same =
    ap (λ left. after_keyword left (c ∷ cs)) (drop_more word i 0 more)
    ∙ cond-true (simple_fold c == simple_fold (get_or word i 0)) _ _ (eq-eqb _ _ same)

pub loop-letter-preserved : goal.loop-letter-preserved
loop-letter-preserved c =
    let items = c.as_bytes-letter-items.ensures.value in
    let more = c.in_ok-next.ensures.steps.0 in
    let same = subst (λ word. simple_fold c.in_ok-next.field-0 ≡ simple_fold
    (get_or word c.loop-letter.letter-index 0)) items (c.if-not-is_letter.ensures.0 refl) in
    let past = chars_past_char _ _ _ c.loop-letter.invariant.text more in
    let left : c.loop-letter.letter-index < length c.args.word.now = omega (arith, ap length items) in
    record {
      text = IsUtf8-past_char _ _ _ c.loop-letter.invariant.text more;
      left = sym (after_keyword-more c.args.word.now
          (chars (chars_rest c.next.new.self)) c.loop-letter.letter-index c.in_ok-next.field-0 left same)
          ∙ ap (after_keyword (drop c.loop-letter.letter-index c.args.word.now)) (sym past)
          ∙ c.loop-letter.invariant.left;
    }

pub returns-in_err-next-clause-left : goal.returns-in_err-next-clause-left
returns-in_err-next-clause-left c =
    let items = c.as_bytes-letter-items.ensures.value in
    let left : c.loop-letter.letter-index < length c.args.word.now = omega (arith, ap length items) in
    let rest = nil_from_length _ c.in_err-next.ensures.steps.0.0 in
    ap (option_map (λ rest. chars rest.now)) c.from_residual.ensures
    ∙ sym (after_keyword-none c.args.word.now c.loop-letter.letter-index left) ∙ ap
    (after_keyword (drop c.loop-letter.letter-index c.args.word.now)) (sym (ap chars rest ∙ chars-nil))
    ∙ c.loop-letter.invariant.left
