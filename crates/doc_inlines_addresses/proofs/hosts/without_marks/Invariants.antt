use Rattle.std.proofs.Common.{◌≡◌, length, chars}
use denote.Text.{Utf8}
use denote.Shadow.{shadow}
use Rattle.doc_inlines_addresses.proofs.HostLaws.{bare}
use Rattle.doc_inlines_addresses.proofs.hosts.without_marks.Given as goal

abbrev pub invariant-marks : goal.invariant-marks
invariant-marks l = record {
  is_text : shadow (Utf8 l.rest);
  same : bare (chars l.run) ≡ bare (chars l.rest);
}

abbrev pub decreases-marks : goal.decreases-marks
decreases-marks l = length (chars l.rest)
