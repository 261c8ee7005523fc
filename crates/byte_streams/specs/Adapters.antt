-- The state of a source over a reader and of a sink over a writer.
use Rattle.std.specs.Prelude.{ℕ}
use Rattle.byte_streams.specs.declared.adapters.Inlet.{Inlet}
use Rattle.byte_streams.specs.declared.adapters.Outlet.{Outlet}

-- the reader that a source reads from
abbrev pub reader_of : {R : Type 0} → Inlet R → R
reader_of s = s.reader

-- the number of failures of that source
abbrev pub inlet_failures : {R : Type 0} → Inlet R → ℕ
inlet_failures s = s.failures

-- the writer that a sink writes to
abbrev pub writer_of : {W : Type 0} → Outlet W → W
writer_of s = s.writer

-- the number of failures of that sink
abbrev pub outlet_failures : {W : Type 0} → Outlet W → ℕ
outlet_failures s = s.failures
