use Rattle.doc_http.proofs.ProgressLemmas.{pushed}
use Rattle.doc_http.proofs.unread.Unread.push.Goals as goal

pub invariant_of-self-2 : goal.invariant_of-self-2
invariant_of-self-2 c =
    pushed c.self.inside.progress c.self.inside.bytes c.push.new.self c.args.bytes.now c.in_ok-push.ensures.ok c.self.invariant
