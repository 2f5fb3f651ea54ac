use Rattle.std.proofs.Common.{chars}
use Rattle.doc_rules.specs.Anchors.{anchor_name}
use Rattle.doc_html_anchors.specs.Numbers.{names, name_of}
use Rattle.doc_html_anchors.proofs.UseLaws.{given}
use Rattle.doc_html_anchors.proofs.used.Anchors.next.Goals as goal

pub returns-clause-ok : goal.returns-clause-ok
returns-clause-ok c =
    given c.give.result (names c.self.inside.entries) c.args.self.now (names c.give.new.entries) (name_of c.in_ok-name.name)
    (anchor_name (chars c.args.text.now)) c.self.view_is c.in_ok-name.ensures c.give.ensures.anchor c.give.ensures.uses
