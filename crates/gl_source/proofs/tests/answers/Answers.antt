use Rattle.std.proofs.Common.{arith}
use Rattle.gl_source.proofs.Leads.{new_len_is}
use Rattle.gl_source.proofs.tests.answers.Goals as goal

pub makes-requires-clause-within : goal.makes-requires-clause-within
makes-requires-clause-within g c =
    let len = new_len_is c.in-Ok.d.pieces c.args.source.now.values c.edit.new.self.values c.in-Ok.ensures.leads in
    omega (arith, len, c.limit-within.ensures.value, c.limit-within.ensures.within, c.retreat.ensures.limit)
