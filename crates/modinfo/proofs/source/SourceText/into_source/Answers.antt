use Rattle.modinfo.proofs.Texts.{is_parsed}
use Rattle.modinfo.proofs.source.SourceText.into_source.Goals as goal

-- The parser was handed in the text and its media type.
pub returns-clause-parsed : goal.returns-clause-parsed
returns-clause-parsed c parses =
    let made = c.parse_module.ensures in
    is_parsed c.args.self c.args.specifier c.parse_module.result parses made.specifier
    (rw (c.in_ok-source.ensures.ok, c.as_str.ensures) at made.text)
    (rw (c.unwrap_or-media_type.ensures, c.from_specifier.ensures) at made.media_type) made.valid
    (rw (c.in_ok-source.ensures.ok, c.as_str.ensures) at made.spelled)
    (rw (
      c.in_ok-source.ensures.ok,
      c.as_str.ensures,
      c.unwrap_or-media_type.ensures,
      c.from_specifier.ensures,
    )
    at made.of_text)
    (rw (c.in_ok-source.ensures.ok, c.as_str.ensures) at made.range)
