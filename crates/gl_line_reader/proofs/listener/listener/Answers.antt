use Rattle.std.proofs.Common.{rules, ◌+◌, ap}
use Rattle.gl_line_reader.proofs.Endings.{listened_lone}
use Rattle.gl_line_reader.proofs.listener.listener.Goals as goal

pub returns-in_err-list : goal.returns-in_err-list
returns-in_err-list c =
    let stops = listened_lone c.args.column (c.past-column.result + 4) c.args.bytes.now c.in_ok-name.rest.now c.in_ok-name.name (ap (λ n. n + 4) c.past-column.ensures) in
    search (rules, stops, c.in_ok-name.ensures.read)
