use Rattle.gl_function.proofs.tests.changes_of_the_list.Given as goal

abbrev pub ghosts-follows : goal.ghosts-follows
ghosts-follows g a = record { name = a.blank.name; parts = a.blank.parts }
