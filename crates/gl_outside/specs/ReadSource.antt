-- The parts of a source over a reader.
use Rattle.std.specs.Prelude.{ℕ}
use Rattle.gl_outside.specs.declared.read_source.ReadSource.{ReadSource}

-- the reader
abbrev pub source_reader : {R : Type 0} → ReadSource R → R
source_reader s = s.reader

-- how often it answered an error
abbrev pub reader_faults : {R : Type 0} → ReadSource R → ℕ
reader_faults s = s.faults
