use Rattle.std.proofs.Common.{◌≡◌, ◌++◌, ◌∷◌, rules, sym, ap, ◌∙◌}
use Rattle.std.specs.Char.{encode_utf8}
use Rattle.std.specs.Str.Iter.{chars_rest}
use Rattle.std.specs.String.{string_bytes}
use Rattle.deno_graph_json.specs.Pointer.{escaped, escaped_letter}
use Rattle.deno_graph_json.proofs.Letters.{letter_written, all_written, plain_letter}
use Rattle.deno_graph_json.proofs.pointer.push_name.Goals as goal

pub loop-letter-preserved-in-Continue-branch-2 : goal.loop-letter-preserved-in-Continue-branch-2
loop-letter-preserved-in-Continue-branch-2 c =
    let old = string_bytes c.loop-letter.pointer in
    let whole = string_bytes c.args.pointer.now ++ 47 ∷ escaped c.args.name.now in
    let written : string_bytes c.push_str.new.self ≡ old ++ escaped_letter c.in-Some.letter =
    c.in_ok-push_str-in-126.ensures.bytes ∙ ap (λ letter. old ++ escaped_letter letter) (sym c.in-126.is) in
    letter_written old (string_bytes c.push_str.new.self) (chars_rest c.loop-letter.letter-iterator)
    (chars_rest c.next.new.self) whole c.in-Some.letter
    c.loop-letter.invariant.0 c.in-Some.ensures.steps.0 written c.loop-letter.invariant.1

pub loop-letter-preserved-in-Continue-branch-3 : goal.loop-letter-preserved-in-Continue-branch-3
loop-letter-preserved-in-Continue-branch-3 c =
    let old = string_bytes c.loop-letter.pointer in
    let whole = string_bytes c.args.pointer.now ++ 47 ∷ escaped c.args.name.now in
    let written : string_bytes c.push_str-in-47.new.self ≡ old ++ escaped_letter c.in-Some.letter =
    c.in_ok-push_str-in-47.ensures.bytes ∙ ap (λ letter. old ++ escaped_letter letter) (sym c.in-47.is) in
    letter_written old (string_bytes c.push_str-in-47.new.self) (chars_rest c.loop-letter.letter-iterator)
    (chars_rest c.next.new.self) whole c.in-Some.letter
    c.loop-letter.invariant.0 c.in-Some.ensures.steps.0 written c.loop-letter.invariant.1

pub loop-letter-preserved : goal.loop-letter-preserved
loop-letter-preserved c =
    let old = string_bytes c.loop-letter.pointer in
    let whole = string_bytes c.args.pointer.now ++ 47 ∷ escaped c.args.name.now in
    let h = c.in_default in
    let k = c.in_ok-push-in_default in
    let other : escaped_letter c.in-Some.letter ≡ encode_utf8 c.in-Some.letter =
    plain_letter c.in-Some.letter (search rules) (search rules) in
    let written : string_bytes c.push-in_default.new.self ≡ old ++ escaped_letter c.in-Some.letter =
    c.in_ok-push-in_default.ensures.bytes ∙ ap (λ bytes. old ++ bytes) (sym other) in
    letter_written old (string_bytes c.push-in_default.new.self) (chars_rest c.loop-letter.letter-iterator)
    (chars_rest c.next.new.self) whole c.in-Some.letter
    c.loop-letter.invariant.0 c.in-Some.ensures.steps.0 written c.loop-letter.invariant.1

pub returns : goal.returns
returns c =
    all_written (string_bytes c.loop-letter.pointer) (chars_rest c.loop-letter.letter-iterator)
    (string_bytes c.args.pointer.now ++ 47 ∷ escaped c.args.name.now) c.in-None.ensures.steps.0.0
    c.loop-letter.invariant.1
