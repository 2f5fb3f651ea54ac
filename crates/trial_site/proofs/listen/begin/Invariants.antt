use Rattle.trial_site.proofs.listen.begin.Given as goal

abbrev pub ghosts-begin_server : goal.ghosts-begin_server
ghosts-begin_server g a = record { name = a.blank.name; parts = a.blank.parts }
