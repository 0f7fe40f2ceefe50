-- Tellings, as the definitions have them.
use Rattle.std.specs.Prelude.{◌≡◌, List, map}
use Rattle.spec_runs.specs.Telling.{Telling as TellingData}
use Rattle.gl_tell.specs.declared.telling.Telling.{Telling}

-- who was told, where, the delta, and how often it was refused to write back
abbrev pub telling_data : Telling → TellingData
telling_data t = record {
  listener = t.listener;
  place = t.place;
  delta = t.event.pieces;
  write_backs = t.write_backs;
}

abbrev pub tellings_of : List Telling → List TellingData
tellings_of ts = map telling_data ts

-- none of the changes of its event has been given yet
abbrev pub IsFresh : Telling → Type 0
IsFresh t = t.event.given ≡ 0
