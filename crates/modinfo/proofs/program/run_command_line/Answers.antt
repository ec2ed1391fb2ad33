use Rattle.std.proofs.Common.{◌≡◌, sym, ap, ◌∙◌}
use Rattle.modinfo.specs.declared.command.Command.{Command}
use Rattle.modinfo.specs.declared.command_line.CommandLine.{CommandLine}
use Rattle.modinfo.specs.declared.command_line.CommandLine.TheVariants.{Help, Version, Document, Lines, Files}
use Rattle.modinfo.proofs.program.run_command_line.Goals as goal

-- The command for the only document, or `other`.
abbrev document_command : Command → CommandLine → Command
document_command other (Document command) = command
document_command other Help = other
document_command other Version = other
document_command other (Lines _) = other
document_command other (Files _) = other

pub returns-in-Document-clause-document : goal.returns-in-Document-clause-document
returns-in-Document-clause-document g c command is =
    let same : c.in-Document.command ≡ command =
    ap (document_command c.in-Document.command) (sym c.in-Document.is ∙ is) in
    rw (sym same) c.run_document.ensures

-- The command for the lines, or `other`.
abbrev lines_command : Command → CommandLine → Command
lines_command other (Lines command) = command
lines_command other (Document _) = other
lines_command other Help = other
lines_command other Version = other
lines_command other (Files _) = other

pub returns-in-Lines-clause-lines : goal.returns-in-Lines-clause-lines
returns-in-Lines-clause-lines g c command is =
    let same : c.in-Lines.command ≡ command =
    ap (lines_command c.in-Lines.command) (sym c.in-Lines.is ∙ is) in
    rw (sym same) c.run_lines.ensures
