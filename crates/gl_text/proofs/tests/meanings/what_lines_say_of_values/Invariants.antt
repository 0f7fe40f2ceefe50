use Rattle.gl_text.proofs.tests.meanings.what_lines_say_of_values.Given as goal

abbrev pub ghosts-is_said : goal.ghosts-is_said
ghosts-is_said g a = record { name = a.blank.name; parts = a.blank.parts }
