use Rattle.std.proofs.Common.{ap, chars}
use Rattle.doc_rules.specs.Parsers.{before}
use Rattle.doc_inlines.proofs.ItemLaws.{stop_reads_on, run_uncut}
use Rattle.doc_inlines.proofs.reader.Reader.skip_plain.Goals as goal

pub pass-requires-clause-rest : goal.pass-requires-clause-rest
pass-requires-clause-rest c = c.behind_plain.ensures.behind

pub pass-requires-clause-uncut : goal.pass-requires-clause-uncut
pass-requires-clause-uncut c = run_uncut c.args.entities.now (before (chars c.behind_plain.result.now) (chars c.args.self.now.rest.now))
    c.behind_plain.ensures.plain

pub returns : goal.returns
returns c = λ targets.
    stop_reads_on c.args.entities.now targets c.args.self.now c.pass.new.self (chars c.behind_plain.result.now) c.requires c.pass.ensures.sound
    c.pass.ensures.text (ap (λ t. chars t.now) c.pass.ensures.rest) c.behind_plain.ensures c.pass.ensures.made
