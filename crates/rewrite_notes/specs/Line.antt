-- What a line that is being put together holds.
use Rattle.std.specs.Prelude.{List, ℕ, take}
use Rattle.rewrite_notes.specs.declared.line.Line.{Line}

abbrev pub line_bytes : Line → List ℕ
line_bytes line = take line.len line.bytes
