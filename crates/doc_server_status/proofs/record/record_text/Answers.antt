use Rattle.std.proofs.Common.{append_assoc}
use Rattle.doc_server_status.specs.Records.{record_text}
use Rattle.doc_server_status.proofs.record.record_text.Goals as goal

pub returns-in_ok-text-in-Some : goal.returns-in_ok-text-in-Some
unfolding record_text
returns-in_ok-text-in-Some c =
    rw (c.new.ensures, c.in_ok-text-in-Some.ensures.ok, c.in-Some.is)
    (simp (append_assoc, c.get.ensures))
