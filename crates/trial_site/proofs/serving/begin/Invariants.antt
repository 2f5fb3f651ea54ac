use Rattle.trial_site.proofs.serving.begin.Given as goal

abbrev pub ghosts-begin_plain : goal.ghosts-begin_plain
ghosts-begin_plain g a = record { name = a.blank.name; parts = a.blank.parts }
