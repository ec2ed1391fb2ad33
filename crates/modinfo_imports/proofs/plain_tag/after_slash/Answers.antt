use Rattle.std.proofs.Common.{◌∙◌, sym}
use Rattle.modinfo_imports.proofs.PlainTags.{slash-turn}
use Rattle.modinfo_imports.proofs.plain_tag.after_slash.Goals as goal

pub returns : goal.returns
returns c parentheses here =
    let inside = sym c.innermost.ensures ∙ c.is_tag.ensures c.if-not-is_tag.false in
    rw c.after_token.ensures (slash-turn c.args.text.now c.args.plain c.args.end c.args.around.now
    c.begin_closing_tag.new.around parentheses here inside
    (rw c.byte_at.ensures at (sym c.begins_comment.ensures ∙ c.if-begins_comment.false))
    (c.in_ok-begin_closing_tag.ensures.around inside) (c.in_ok-begin_closing_tag.ensures.outside inside))
