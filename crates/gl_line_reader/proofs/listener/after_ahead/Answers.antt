use Rattle.std.proofs.Common.{rules}
use Rattle.gl_line_reader.proofs.Endings.{after_found, after_stops, after_ends}
use Rattle.gl_line_reader.proofs.listener.after_ahead.Goals as goal

pub returns-in_err-after : goal.returns-in_err-after
returns-in_err-after c = let stops = after_stops c.args.column c.args.bytes.now in search (rules, stops)

pub returns-in_err-echo : goal.returns-in_err-echo
returns-in_err-echo c =
    let stops = after_ends c.args.column c.args.bytes.now c.in_ok-after.rest.now c.in_ok-after.after in
    search (rules, stops, c.in_ok-after.ensures)

pub returns : goal.returns
returns c = after_found c.args.column c.args.bytes.now c.in_ok-after.rest.now c.in_ok-echo.rest.now c.in_ok-after.after c.in_ok-echo.echo c.in_ok-after.ensures c.in_ok-echo.ensures
