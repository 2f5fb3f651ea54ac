use Rattle.doc_server_kept.proofs.FollowersLaw.{followers_answer_alike}
use Rattle.doc_server_kept.proofs.laws.a_follower_answers_as_the_writer.Goals as goal

pub returns : goal.returns
returns c = followers_answer_alike c.answers_are_noninterfering.ensures
