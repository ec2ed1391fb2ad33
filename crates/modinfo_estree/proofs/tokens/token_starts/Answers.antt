use Rattle.std.proofs.Common.{◌≡◌, ◌+◌, ◌-◌, ◌*◌, ◌/◌, ◌%◌, ◌<◌, ◌≤◌, ℕ, Bool, true, false, ◌⊎◌, inl, inr}
use Rattle.std.proofs.Common.{List, length, get_or, ap, sym, ◌∙◌, arith, set}
use Rattle.std.proofs.lemmas.Bool.{cases_eq}
use Rattle.std.proofs.lemmas.List.{get_or-replicate, get_or-set_other, get_or-set_same, length-replicate}
use Rattle.std.proofs.lemmas.List.{length-set}
use Rattle.std.proofs.lemmas.List.FromFn.{fill_by_all}
use Rattle.modinfo_estree.specs.Tokens.{token_start}
use Rattle.modinfo_estree.specs.internal.Marks.{gaps_of}
use Rattle.modinfo_estree.proofs.TokenTables.{size_of_gaps, start_at_end, start_at_gap, start_at_token}
use Rattle.modinfo_estree.proofs.tokens.token_starts.Goals as goal
use Rattle.modinfo_estree.proofs.tokens.token_starts.Goals.{then-not-is_gap_at, else-not-is_gap_at}

pub loop-at-init : goal.loop-at-init
loop-at-init c =
    let marks = c.args.marks.now in
    let gaps = gaps_of marks in
    let count = length marks / 32 + 1 in
    let size = size_of_gaps marks in
    let all = c.in_ok-starts.ensures.items_if_clones_equal (λ y same. same) in
    record {
      size = ap length all ∙ length-replicate count (length marks);
      starts = λ k from to.
          let here : length marks ≡ 32 * k = omega arith in
          ap (λ l. get_or l k 0) all ∙ get_or-replicate count k (length marks) 0 (omega arith) ∙ here
          ∙ sym (start_at_end gaps (32 * k) (omega (arith, size)));
      start = sym (start_at_end gaps (length marks) (omega (arith, size)));
    }

-- The start one offset before, by whether the byte there is between tokens.
start_before : (gaps : List Bool) (at old new : ℕ) (gap : Bool) → 0 < at → at ≤ length gaps
    → gap ≡ get_or gaps (at - 1) false → old ≡ token_start gaps at
    → ((gap ≡ false) × (new ≡ at - 1)) ⊎ ((gap ≡ true) × (new ≡ old)) → new ≡ token_start gaps (at - 1)
start_before gaps at old new gap some within is so_far found =
    let i = at - 1 in
    let next : i + 1 ≡ at = omega arith in
    let inside : i < length gaps = omega arith in
    elim found [
      | inl token ↦ token.1 ∙ sym (start_at_token gaps i inside (sym is ∙ token.0))
      | inr between ↦
          between.1 ∙ so_far ∙ ap (token_start gaps) (sym next)
          ∙ sym (start_at_gap gaps i inside (sym is ∙ between.0))
    ]

pub loop-at-preserved-then-at-eq0 : goal.loop-at-preserved-then-at-eq0
loop-at-preserved-then-at-eq0 c =
    let marks = c.args.marks.now in
    let gaps = gaps_of marks in
    let at = c.loop-at.at in
    let i = at - 1 in
    let inv = c.loop-at.invariant in
    let old = c.loop-at.starts.items in
    let new = c.if-not-is_gap_at.start in
    let within : at ≤ length gaps = omega (arith, size_of_gaps marks) in
    let start_is : new ≡ token_start gaps i =
    start_before gaps at c.loop-at.start new c.is_gap_at.result (omega arith) within c.is_gap_at.ensures
    inv.start (elim c.if-not-is_gap_at.branch [
      | then-not-is_gap_at w ↦ inl (w.if-not-is_gap_at.true, w.start-is)
      | else-not-is_gap_at w ↦ inr (w.if-not-is_gap_at.false, w.start-is)
    ]) in
    let multiple : i % 32 ≡ 0 = c.if-at-eq0.true in
    record {
      size = length-set old (i / 32) new ∙ inv.size;
      starts = λ k from to. elim (cases_eq k (i / 32)) [
        | inl here ↦
            let room : i / 32 < length old = omega (arith, inv.size) in
            let same : i ≡ 32 * k = omega arith in
            ap (λ n. get_or (set old (i / 32) new) n 0) here ∙ get_or-set_same old (i / 32) new 0 room
            ∙ start_is ∙ ap (token_start gaps) same
        | inr other ↦ get_or-set_other old (i / 32) k new 0 other ∙ inv.starts k (omega arith) to
      ];
      start = start_is;
    }

pub loop-at-preserved : goal.loop-at-preserved
loop-at-preserved c =
    let marks = c.args.marks.now in
    let gaps = gaps_of marks in
    let at = c.loop-at.at in
    let inv = c.loop-at.invariant in
    let new = c.if-not-is_gap_at.start in
    let within : at ≤ length gaps = omega (arith, size_of_gaps marks) in
    let start_is : new ≡ token_start gaps (at - 1) =
    start_before gaps at c.loop-at.start new c.is_gap_at.result (omega arith) within c.is_gap_at.ensures
    inv.start (elim c.if-not-is_gap_at.branch [
      | then-not-is_gap_at w ↦ inl (w.if-not-is_gap_at.true, w.start-is)
      | else-not-is_gap_at w ↦ inr (w.if-not-is_gap_at.false, w.start-is)
    ]) in
    record {
      size = inv.size;
      starts = λ k from to. inv.starts k (omega (arith, c.if-at-eq0.false)) to;
      start = start_is;
    }

pub returns : goal.returns
returns c =
    let marks = c.args.marks.now in
    let inv = c.loop-at.invariant in
    fill_by_all (λ k. token_start (gaps_of marks) (32 * k)) c.loop-at.starts.items (length marks / 32 + 1) 0
    inv.size (λ k below. inv.starts k (omega arith) (omega arith))
