use Rattle.gl_delta.proofs.Stores.{put_again}
use Rattle.gl_delta.proofs.values.take_values.Goals as goal

pub returns-in-Updated-clause-olds : goal.returns-in-Updated-clause-olds
returns-in-Updated-clause-olds c = put_again _ _ c.args.old _ c.take-v.ensures.taken c.take-v.ensures.rest

pub returns-in-Updated-clause-news : goal.returns-in-Updated-clause-news
returns-in-Updated-clause-news c = put_again _ _ c.args.new _ c.take-w.ensures.taken c.take-w.ensures.rest

pub returns-in-Deleted-clause-olds : goal.returns-in-Deleted-clause-olds
returns-in-Deleted-clause-olds c = put_again _ _ c.args.old _ c.take.ensures.taken c.take.ensures.rest

pub returns-in-Inserted-clause-news : goal.returns-in-Inserted-clause-news
returns-in-Inserted-clause-news c = put_again _ _ c.args.new _ c.take-in-Inserted.ensures.taken c.take-in-Inserted.ensures.rest
