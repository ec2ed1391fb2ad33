-- The look-up in a store for the options of a parse.
use Rattle.deno_graph_analyzer.specs.Capturing.{after_look_up}
use Rattle.deno_graph_analyzer.specs.Parsing.{input_of_options}
use Rattle.deno_graph_analyzer.specs.Sources.{Sources}
use Rattle.deno_graph_analyzer.specs.declared.parser.ParseOptions.{ParseOptions}

-- the sources after the look-up of the specifier of the options
abbrev pub after_look_up_of : ParseOptions → Sources → Sources
after_look_up_of options sources =
    after_look_up options.scope_analysis sources (input_of_options options).specifier
