-- The lines of one entry, of one telling, and of one list.
use Rattle.std.specs.Prelude.{ℕ, List, ◌++◌, codes, decimal}
use Rattle.gl_value.specs.Tree.{Tree}
use Rattle.gl_outside.specs.declared.gate.Actor.{Actor}
use Rattle.gl_lines.specs.declared.plan.ListDecl.{ListDecl}
use Rattle.gl_lines.specs.declared.plan.ListenerDecl.{ListenerDecl}
use Rattle.gl_lines.specs.declared.reply.Reply.{Reply}
use Rattle.spec_reports.specs.Order.{spelled_actor}
use Rattle.spec_reports.specs.ValueText.{spelled_list}
use Rattle.spec_reports.specs.Event.{event_text}
use Rattle.spec_reports.specs.Telling.{Telling}
use Rattle.spec_reports.specs.Report.{line_feed, reply_lines, listener_name, refused_lines}

-- the entry at a place, with its replies, among these lists
abbrev pub spelled_entry : List ListDecl → ℕ → Actor → List Reply → List ℕ
spelled_entry lists place actor replies =
    codes "at " ++ decimal place ++ codes " " ++ spelled_actor actor ++ line_feed
    ++ reply_lines lists 0 replies

-- the lines of one telling: what was told, and each write-back that was refused
abbrev pub told_line : List ListenerDecl → Telling → List ℕ
told_line listeners t =
    codes "told " ++ listener_name listeners t.listener ++ codes " " ++ event_text t.delta
    ++ line_feed
    ++ refused_lines (listener_name listeners t.listener) t.write_backs

-- the list of that name, which shows these values
abbrev pub list_line : List ℕ → List Tree → List ℕ
list_line name values = codes "list " ++ name ++ codes " " ++ spelled_list values ++ line_feed
