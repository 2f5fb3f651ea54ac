use Rattle.trial_site.proofs.Nobody.{new_there, untouched_along}
use Rattle.trial_site.proofs.serving.hosted.play.Goals as goal

pub serve-ended-requires-clause-new : goal.serve-ended-requires-clause-new
serve-ended-requires-clause-new g c = λ k.
    new_there c.new-watched.result.net k
    (untouched_along c.args.net c.new-watched.result.net c.new-watched.ensures.net k (c.requires.new k))

pub serve-ended-requires-clause-free : goal.serve-ended-requires-clause-free
serve-ended-requires-clause-free g c = λ k.
    (untouched_along c.args.net c.new-watched.result.net c.new-watched.ensures.net k (c.requires.new k)).0
