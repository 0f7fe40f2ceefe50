use Rattle.std.proofs.Common.{rules, ◌+◌, ap}
use Rattle.gl_line_reader.proofs.Forms.{two_end}
use Rattle.gl_line_reader.proofs.two_names.two_names.Goals as goal

pub returns-in_err-second : goal.returns-in_err-second
returns-in_err-second c =
    let stops = two_end c.args.column (c.past.result + 1) c.args.word c.args.bytes.now c.in_ok-first.rest.now c.in_ok-first.first (ap (λ n. n + 1) c.past.ensures) in
    search (rules, stops, c.in_ok-first.ensures.read)
