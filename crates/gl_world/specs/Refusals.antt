-- What a command is answered that a graph refuses.
use Rattle.std.specs.Prelude.{Option, Some, None}
use Rattle.spec_states.specs.Reply.{Reply}
use Rattle.spec_states.specs.Reply.TheVariants as reply
use Rattle.gl_graph.specs.declared.graph.Refused.{Refused}
use Rattle.gl_graph.specs.declared.graph.Refused.TheVariants.{OutOfRange, TooLong, AlreadyFrozen, NotFrozen, NotOpen, Memory}

-- the reply, unless there was no memory
abbrev pub reply_of : Refused → Option Reply
reply_of (OutOfRange index len) = Some (reply.OutOfRange index len)
reply_of (TooLong list len) = Some (reply.TooLong list len)
reply_of AlreadyFrozen = Some reply.AlreadyFrozen
reply_of NotFrozen = Some reply.NotFrozen
reply_of NotOpen = Some reply.NotOpen
reply_of Memory = None
