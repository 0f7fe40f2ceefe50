use Rattle.gl_unique.proofs.tests.followed.Given as goal

-- the counter of the steps has the blank's ledger
abbrev pub ghosts-follows : goal.ghosts-follows
ghosts-follows g a = record { name = a.blank.name; parts = a.blank.parts }
