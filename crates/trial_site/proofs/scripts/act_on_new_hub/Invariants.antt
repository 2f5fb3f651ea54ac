use Rattle.trial_site.proofs.scripts.act_on_new_hub.Given as goal

abbrev pub ghosts-act_on_hub : goal.ghosts-act_on_hub
ghosts-act_on_hub a = record { name = a.blank.name; parts = a.blank.parts }
