use Rattle.trial_site.proofs.listen.served.saved_over.Goals as goal

pub returns : goal.returns
returns g c = (c.over.ensures.ready _ c.in_ok-journal.ensures.1, c.over.ensures.all)
