mod LinesWritten
