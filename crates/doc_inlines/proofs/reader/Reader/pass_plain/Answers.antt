use Rattle.std.proofs.Common.{ap, chars}
use Rattle.doc_rules.specs.Parsers.{before}
use Rattle.doc_inlines.proofs.ItemLaws.{run_goes_on, run_uncut}
use Rattle.doc_inlines.proofs.reader.Reader.pass_plain.Goals as goal

pub pass-requires-clause-uncut : goal.pass-requires-clause-uncut
pass-requires-clause-uncut c = run_uncut c.args._entities.now (before (chars c.args.rest.now) (chars c.args.self.now.rest.now)) c.requires.run.plain

pub returns : goal.returns
returns c = λ targets.
    run_goes_on c.args._entities.now targets c.args.self.now c.pass.new.self (chars c.args.rest.now) c.requires.sound c.pass.ensures.sound
    c.pass.ensures.text (ap (λ t. chars t.now) c.pass.ensures.rest) c.requires.run c.pass.ensures.made
