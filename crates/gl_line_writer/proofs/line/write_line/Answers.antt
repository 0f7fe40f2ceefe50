use Rattle.spec_lines.proofs.Same.{line_back}
use Rattle.spec_lines.proofs.Within.{within_back}
use Rattle.gl_line_writer.proofs.line.write_line.Goals as goal

pub returns-in_err-add_line-clause-back : goal.returns-in_err-add_line-clause-back
returns-in_err-add_line-clause-back c = line_back c.args.line.now

pub returns-in_err-add_line-clause-within : goal.returns-in_err-add_line-clause-within
returns-in_err-add_line-clause-within c = within_back c.args.line.now

pub returns-clause-back : goal.returns-clause-back
returns-clause-back c = line_back c.args.line.now

pub returns-clause-within : goal.returns-clause-within
returns-clause-within c = within_back c.args.line.now
