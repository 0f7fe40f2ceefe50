use Rattle.gl_app.proofs.big.take_sections.Given as goal

abbrev pub ghosts-take_counted : goal.ghosts-take_counted
ghosts-take_counted g a = record { name = a.blank.name; parts = a.blank.parts }
