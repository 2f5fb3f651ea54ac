use Rattle.std.proofs.Common.{ap, chars, sym, ◌∷◌}
use Rattle.doc_rules.specs.Parsers.{before}
use Rattle.doc_rules.specs.Inlines.{Reference}
use Rattle.doc_lines.specs.Entities.{characters}
use Rattle.doc_inlines.specs.ReaderSteps.{state_made}
use Rattle.doc_inlines.proofs.ItemLaws.{goes_on}
use Rattle.doc_inlines.proofs.EscapeLaws.{reference_reads, no_reference_reads, reference_stands, reference_made}
use Rattle.doc_inlines.proofs.RunLaws.{behind_first}
use Rattle.doc_inlines.proofs.reader.Reader.ampersand.Goals as goal

pub returns-in_default : goal.returns-in_default
returns-in_default c = λ targets.
    c.in_ok-alone.ensures c.args.entities.now targets (λ definitions e. no_reference_reads c.args.entities.now definitions _
    (state_made c.args.self.now) (chars c.args.behind.now) (sym c.in_default.ensures.value))

pub front-source-requires : goal.front-source-requires
front-source-requires c = behind_first 38 _ _ _ c.requires.first c.in-Some.ensures.end

pub put-requires-clause-stands : goal.put-requires-clause-stands
put-requires-clause-stands c = reference_stands _ _ _ _ _ (behind_first 38 _ _ _ c.requires.first c.in-Some.ensures.end)
    c.in_ok-kept.ensures c.front-source.ensures.value

pub returns : goal.returns
returns c = λ targets.
    let p = c.in_ok-put.ensures in
    goes_on c.args.entities.now targets c.args.self.now c.put.new.self 38 (chars c.args.behind.now) (chars c.in-Some.next.now)
    (Reference (38 ∷ before (chars c.in-Some.next.now) (chars c.args.behind.now)) (characters c.in-Some.those) ∷ state_made
    c.args.self.now) c.requires.sound p.sound p.text (ap (λ t. chars t.now) p.rest) c.requires.first
    c.in-Some.ensures.end (λ definitions e. reference_reads c.args.entities.now definitions _ (state_made c.args.self.now) _ _ _
    (sym c.in-Some.ensures.value))
    (reference_made _ _ _ _ _ _ _ _ c.requires.first c.in-Some.ensures.end c.in_ok-kept.ensures c.front-source.ensures.value p.made)
