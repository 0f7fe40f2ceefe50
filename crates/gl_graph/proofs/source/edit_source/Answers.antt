use Rattle.gl_graph.proofs.Edits.{result_made, result_why}
use Rattle.gl_graph.proofs.source.edit_source.Goals as goal

pub returns-clause-made : goal.returns-clause-made
returns-clause-made c =
    result_made c.args.command.now c.args.source.now.values c.args.source.now.limit c.edit.result c.in_ok-e.e c.requires c.in_ok-e.ensures c.edit.ensures.out_of_range c.edit.ensures.too_long

pub returns-clause-why : goal.returns-clause-why
returns-clause-why c =
    result_why c.args.command.now c.args.source.now.values c.args.source.now.limit c.edit.result c.in_ok-e.e c.requires c.in_ok-e.ensures c.edit.ensures.out_of_range c.edit.ensures.too_long
