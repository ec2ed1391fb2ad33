-- The part of a parsed source that its copies share.
use Rattle.deno_graph_source.specs.ParsedSource.{ParsedModule}
use Rattle.deno_graph_source.specs.declared.tree.parsed_source.SharedModule.{SharedModule}

-- a module without the mark of scope analysis
abbrev pub shared_of : ParsedModule → SharedModule
shared_of source = record {
  specifier = source.specifier;
  media_type = source.media_type;
  text_info = source.text;
  program = source.program;
  comments = source.comments;
}
