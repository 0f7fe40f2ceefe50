-- How the lengths of parts are added up.
use Rattle.std.specs.Prelude.{◌+◌, max, nat_lt, Bool}
use Rattle.gl_joined.specs.declared.length.Length.{Length}

abbrev pub no_length : Length
no_length = record { parts = 0; elements = 0 }

abbrev pub plus_length : Length → Length → Length
plus_length x y = record { parts = x.parts + y.parts; elements = x.elements + y.elements }

-- a node can hold it
unfoldable pub fits_length : Length → Bool
fits_length x = nat_lt (max x.parts x.elements) 4294967296
