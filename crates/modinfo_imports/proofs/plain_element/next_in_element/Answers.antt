use Rattle.std.proofs.Common.{arith, refl}
use Rattle.modinfo_imports.proofs.PlainElements.{some_kept}
use Rattle.modinfo_imports.proofs.plain_element.next_in_element.Goals as goal

pub returns-then-is_text : goal.returns-then-is_text
returns-then-is_text c parentheses =
    some_kept c.after_text.result _ _ refl
    (c.after_text.ensures c.args.around.now parentheses (c.is_text.ensures c.if-is_text.true))

pub returns-in_ok-begin_code-in-123 : goal.returns-in_ok-begin_code-in-123
returns-in_ok-begin_code-in-123 c parentheses =
    c.in_ok-begin_code-in-123.ensures c.args.text.now parentheses (record {
      byte_is = c.in-123.is;
      end_is = refl;
      within = omega (arith, c.if-plain-text.false);
    })

pub returns-in_ok-begin_tag-in-60 : goal.returns-in_ok-begin_tag-in-60
returns-in_ok-begin_tag-in-60 c parentheses =
    c.in_ok-begin_tag-in-60.ensures c.args.text.now parentheses (record {
      byte_is = c.in-60.is;
      end_is = refl;
      within = omega (arith, c.if-plain-text.false);
    })
