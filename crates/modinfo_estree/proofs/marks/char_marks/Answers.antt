use Rattle.std.specs.Char.{len_utf8}
use Rattle.std.specs.Str.Iter.{chars_rest}
use Rattle.modinfo_estree.specs.Tokens.{bytes_of, is_line_break, is_space}
use Rattle.modinfo_estree.specs.internal.Marks.{breaks_of, gaps_of, is_break, is_gap}
use Rattle.modinfo_estree.proofs.ByteMarks.{all_pushed, char_pushed, push_seen}
use Rattle.modinfo_estree.proofs.marks.char_marks.Goals as goal

pub loop-c-preserved : goal.loop-c-preserved
loop-c-preserved c =
    let text = c.args.text.now in
    let old = c.loop-c.marks.items in
    let new = c.push_char.new.marks.items in
    let rest = chars_rest c.loop-c.c-iterator in
    let later = chars_rest c.next.new.self in
    let char = c.in-Some.c in
    let mark = c.mark_of.result in
    let front = c.in-Some.ensures.steps.0 in
    let pushed = c.in_ok-push_char.ensures in
    let inv = c.loop-c.invariant in
    let spaces = char_pushed is_space (gaps_of old) (gaps_of new) rest later (bytes_of is_space text) char
    (is_gap mark) inv.text front c.mark_of.ensures.gap (push_seen is_gap old new (len_utf8 char) mark pushed)
    inv.gaps in
    let lines = char_pushed is_line_break (breaks_of old) (breaks_of new) rest later
    (bytes_of is_line_break text) char (is_break mark) inv.text front c.mark_of.ensures.line
    (push_seen is_break old new (len_utf8 char) mark pushed) inv.breaks in
    record { text = spaces.0; gaps = spaces.1; breaks = lines.1 }

pub returns : goal.returns
returns c =
    let text = c.args.text.now in
    let marks = c.loop-c.marks.items in
    let rest = chars_rest c.loop-c.c-iterator in
    let none = c.in-None.ensures.steps.0.0 in
    record {
      gaps = all_pushed is_space (gaps_of marks) rest (bytes_of is_space text) none c.loop-c.invariant.gaps;
      breaks = all_pushed is_line_break (breaks_of marks) rest (bytes_of is_line_break text) none
          c.loop-c.invariant.breaks;
    }
