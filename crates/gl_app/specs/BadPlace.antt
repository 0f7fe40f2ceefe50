-- The bad places that the code finds, as the definitions have them.
use Rattle.spec_reports.specs.Fits.{Reason as ReasonData, BadPlace as BadPlaceData, no_writer, no_section, no_proxy, empty_queue}
use Rattle.gl_app.specs.declared.replaying.Reason.{Reason}
use Rattle.gl_app.specs.declared.replaying.Reason.TheVariants.{NoWriter, NoSection, NoProxy, EmptyQueue}
use Rattle.gl_app.specs.declared.replaying.BadPlace.{BadPlace}

abbrev pub reason_of : Reason → ReasonData
reason_of NoWriter = no_writer
reason_of NoSection = no_section
reason_of NoProxy = no_proxy
reason_of EmptyQueue = empty_queue

abbrev pub bad_place_of : BadPlace → BadPlaceData
bad_place_of bad = record { place = bad.place; reason = reason_of bad.reason }
