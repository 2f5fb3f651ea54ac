use Rattle.std.proofs.Common.{ap, chars, ◌∷◌}
use Rattle.doc_rules.specs.Inlines.{SoftBreak}
use Rattle.doc_inlines.specs.ReaderSteps.{state_made}
use Rattle.doc_inlines.proofs.ItemLaws.{goes_on}
use Rattle.doc_inlines.proofs.RunLaws.{behind_first}
use Rattle.doc_inlines.proofs.GapLaws.{soft_stands, soft_made, soft_reads}
use Rattle.doc_inlines.proofs.reader.Reader.line_ending.Goals as goal

pub put-requires-clause-stands : goal.put-requires-clause-stands
put-requires-clause-stands c = soft_stands _ _ (behind_first 10 _ _ _ c.requires.first c.behind_run.ensures.end)

pub returns : goal.returns
returns c = λ rules targets.
    let p = c.in_ok-put.ensures in
    goes_on rules targets c.args.self.now c.put.new.self 10 (chars c.args.behind.now) (chars c.behind_run.result.now)
    (SoftBreak ∷ state_made c.args.self.now) c.requires.sound p.sound p.text (ap (λ t. chars t.now) p.rest) c.requires.first
    c.behind_run.ensures.end (λ definitions e. soft_reads rules definitions _ (state_made c.args.self.now) _ _ c.behind_run.ensures.value)
    (soft_made _ _ p.made)
