use Rattle.trial_site.proofs.commands.Command.run.Given as goal

abbrev pub ghosts-demonstrated : goal.ghosts-demonstrated
ghosts-demonstrated a = record { name = a.blank.name; parts = a.blank.parts }
