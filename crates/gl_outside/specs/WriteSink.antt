-- The parts of a sink over a writer.
use Rattle.std.specs.Prelude.{ℕ}
use Rattle.gl_outside.specs.declared.write_sink.WriteSink.{WriteSink}

-- the writer
abbrev pub sink_writer : {W : Type 0} → WriteSink W → W
sink_writer s = s.writer

-- how often it answered an error, or took nothing
abbrev pub writer_faults : {W : Type 0} → WriteSink W → ℕ
writer_faults s = s.faults
