use Rattle.trial_pages.proofs.texts.of_pages.made.Given as goal

abbrev pub ghosts-made_by : goal.ghosts-made_by
ghosts-made_by a = record { name = a.blank.name; parts = a.blank.parts }
