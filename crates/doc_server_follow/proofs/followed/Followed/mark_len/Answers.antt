use Rattle.std.proofs.Common.{rules, length, sym, ap, ◌∙◌}
use Rattle.doc_server_follow.proofs.MarkLemmas.{foot_length, foot_mark}
use Rattle.doc_server_follow.proofs.followed.Followed.mark_len.Goals as goal

pub returns-clause-value : goal.returns-clause-value
returns-clause-value c =
    sym (ap length (foot_mark c.args.self.now c.if-self-eq0.false) ∙ foot_length c.args.self.now.digest (search rules))
