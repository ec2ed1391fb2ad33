use Rattle.std.proofs.Common.{arith, ◌≡◌, ℕ, List, refl, subst}
use Rattle.modinfo_imports.proofs.PlainBytes.{free-bytes, more_free-bytes}
use Rattle.modinfo_imports.proofs.PlainElements.{both_kept, some_kept}
use Rattle.modinfo_imports.proofs.plain_piece.after_punctuation.Goals as goal
use Rattle.modinfo_imports.specs.declared.plain.Plain.{Plain}
use Rattle.modinfo_imports.specs.internal.Plains.{IsByteAt, plain_context}
use Rattle.modinfo_pieces.specs.Befores.{before_after_punctuation}

at_byte : (text : List ℕ) (plain : Plain) (byte other end : ℕ) → byte ≡ other → IsByteAt text plain byte end
    → IsByteAt text plain other end
at_byte text plain byte other end same at = subst (λ (b : ℕ). IsByteAt text plain b end) same at

pub returns-in-93 : goal.returns-in-93
unfolding before_after_punctuation
returns-in-93 c at =
    c.after_byte-in-93.ensures c.args.text.now 93 c.args.around.now c.args.parentheses.now
    (at_byte c.args.text.now c.args.plain c.args.byte 93 c.args.end c.in-93.is at) (omega arith) refl refl

pub returns-in-61 : goal.returns-in-61
unfolding before_after_punctuation
returns-in-61 c at =
    c.after_byte-in-61.ensures c.args.text.now 61 c.args.around.now c.args.parentheses.now
    (at_byte c.args.text.now c.args.plain c.args.byte 61 c.args.end c.in-61.is at) (omega arith) refl refl

pub returns-in-46 : goal.returns-in-46
unfolding before_after_punctuation
returns-in-46 c at =
    c.after_byte-in-46.ensures c.args.text.now 46 c.args.around.now c.args.parentheses.now
    (at_byte c.args.text.now c.args.plain c.args.byte 46 c.args.end c.in-46.is at) (omega arith) refl
    c.before_after_dot.ensures

pub returns-in-43 : goal.returns-in-43
unfolding before_after_punctuation
returns-in-43 c at =
    c.after_byte-in-43.ensures c.args.text.now 43 c.args.around.now c.args.parentheses.now
    (at_byte c.args.text.now c.args.plain c.args.byte 43 c.args.end c.in-43.is at) (omega arith) refl
    c.before_after_plus.ensures

pub returns-in-45 : goal.returns-in-45
unfolding before_after_punctuation
returns-in-45 c at =
    c.after_byte-in-45.ensures c.args.text.now 45 c.args.around.now c.args.parentheses.now
    (at_byte c.args.text.now c.args.plain c.args.byte 45 c.args.end c.in-45.is at) (omega arith) refl
    c.before_after_minus.ensures

pub returns-in-33 : goal.returns-in-33
unfolding before_after_punctuation
returns-in-33 c at =
    c.after_byte-in-33.ensures c.args.text.now 33 c.args.around.now c.args.parentheses.now
    (at_byte c.args.text.now c.args.plain c.args.byte 33 c.args.end c.in-33.is at) (omega arith) refl
    c.before_after_bang.ensures

pub returns-in-44 : goal.returns-in-44
returns-in-44 c at =
    let free = free-bytes c.args.byte (plain_context c.args.plain c.args.around.now) c.in-44.is in
    c.after_byte.ensures c.args.text.now c.args.byte c.args.around.now c.args.parentheses.now at (omega arith)
    free.0 free.1

pub returns-in-58 : goal.returns-in-58
returns-in-58 c at =
    let free = more_free-bytes c.args.byte (plain_context c.args.plain c.args.around.now) c.in-58.is in
    c.after_byte-in-58.ensures c.args.text.now c.args.byte c.args.around.now c.args.parentheses.now at (omega
    arith)
    free.0 free.1

pub returns-in_ok-after_angle-in-60 : goal.returns-in_ok-after_angle-in-60
returns-in_ok-after_angle-in-60 c at =
    both_kept c.in_ok-after_angle-in-60.field-0 _ _ _ refl (c.in_ok-after_angle-in-60.ensures c.args.text.now
    c.args.parentheses.now at c.in-60.is)

pub returns-in_ok-after_slash-in-47 : goal.returns-in_ok-after_slash-in-47
returns-in_ok-after_slash-in-47 c at =
    both_kept c.in_ok-after_slash-in-47.field-0 _ _ _ refl
    (c.in_ok-after_slash-in-47.ensures c.args.parentheses.now
    (at_byte c.args.text.now c.args.plain c.args.byte 47 c.args.end c.in-47.is at))

pub returns-in-34 : goal.returns-in-34
returns-in-34 c at =
    some_kept c.after_string.result _ _ (refl, refl)
    (c.after_string.ensures at.byte_is c.in-34.is c.args.parentheses.now)

pub returns-in-125 : goal.returns-in-125
returns-in-125 c at =
    both_kept c.close_brace.result _ _ _ refl (c.close_brace.ensures c.args.text.now c.args.parentheses.now
    (at_byte c.args.text.now c.args.plain c.args.byte 125 c.args.end c.in-125.is at))

pub returns-in_ok-open_brace-in-123 : goal.returns-in_ok-open_brace-in-123
returns-in_ok-open_brace-in-123 c at =
    c.in_ok-open_brace-in-123.ensures c.args.text.now c.args.parentheses.now
    (at_byte c.args.text.now c.args.plain c.args.byte 123 c.args.end c.in-123.is at)
