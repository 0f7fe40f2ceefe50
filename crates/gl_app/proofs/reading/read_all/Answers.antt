use Rattle.std.proofs.Common.{◌≡◌, ◌++◌, length, take, arith, length-append}
use Rattle.std.proofs.lemmas.List.{length-take-le}
use Rattle.std.proofs.KnownBytes.{Consumes-trans}
use Rattle.gl_outside.specs.declared.source.Taken.TheVariants.{Some as Beginning, End}
use Rattle.gl_outside.proofs.Sources.{read_whole}
use Rattle.gl_app.proofs.reading.read_all.Goals as goal

pub returns-in-End-clause-whole : goal.returns-in-End-clause-whole
returns-in-End-clause-whole g c =
    let before = c.reading.invariant in
    let now = c.in-End.ensures in
    (read_whole _ _ _ c.reading.bytes c.take.new.room End before.read now.bytes now.end tt, before.within)

pub returns-in-Some-eq0-clause-whole : goal.returns-in-Some-eq0-clause-whole
returns-in-Some-eq0-clause-whole g c =
    let before = c.reading.invariant in
    let now = c.in-Some-eq0.ensures in (
      read_whole _ _ _ c.reading.bytes c.take.new.room (Beginning c.in-Some-eq0.field-0) before.read now.bytes now.end
          c.in-Some-eq0.field-0-test,
      before.within,
    )

pub returns-then-count-limit-clause-whole : goal.returns-then-count-limit-clause-whole
returns-then-count-limit-clause-whole g c =
    let n = c.in-Some.count in
    let last = take n c.take.new.room in
    let count : length last ≡ n = length-take-le n c.take.new.room c.in-Some.ensures.fits in
    record {
      taken = c.reading.bytes ++ last;
      consumed = Consumes-trans _ _ _ _ _ c.reading.invariant.read c.in-Some.ensures.bytes;
      count = omega (arith, length-append c.reading.bytes last);
    }

pub returns-then-is_err-clause-whole : goal.returns-then-is_err-clause-whole
returns-then-is_err-clause-whole g c =
    let n = c.in-Some.count in
    let last = take n c.take.new.room in
    let count : length last ≡ n = length-take-le n c.take.new.room c.in-Some.ensures.fits in
    record {
      taken = c.reading.bytes ++ last;
      consumed = Consumes-trans _ _ _ _ _ c.reading.invariant.read c.in-Some.ensures.bytes;
      count = omega (arith, length-append c.reading.bytes last);
    }
