use Rattle.spec_lists.proofs.Replay.{replay_gives_new_list as law}
use Rattle.gl_event.proofs.laws.replay_gives_new_list.Goals as goal

pub returns : goal.returns
returns c = law
