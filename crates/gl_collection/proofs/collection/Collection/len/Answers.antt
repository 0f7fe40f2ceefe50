use Rattle.std.proofs.Common.{◌∙◌, sum, ap}
use Rattle.spec_lang.specs.Kids.{kids}
use Rattle.gl_joined.proofs.Joined.{joined_len}
use Rattle.gl_collection.specs.Kept.{Kept}
use Rattle.gl_collection.proofs.collection.Collection.len.Goals as goal

pub returns-clause-view : goal.returns-clause-view
returns-clause-view c =
    λ xs stands.
    c.total.ensures ∙ (ap (λ (k : Kept). sum k.lens) c.self.view_is ∙ (ap sum stands ∙ joined_len (kids c.args.self.now.kids) xs))
