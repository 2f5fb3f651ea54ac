use Rattle.trial_site.proofs.begin_world.Given as goal

abbrev pub ghosts-run_world : goal.ghosts-run_world
ghosts-run_world g a = record { name = a.blank.name; parts = a.blank.parts }
