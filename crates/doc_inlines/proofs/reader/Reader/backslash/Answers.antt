use Rattle.std.proofs.Common.{ap, chars, sym, ◌∷◌, ◌∙◌}
use Rattle.std.proofs.lemmas.Bool.{ne_eqb}
use Rattle.doc_rules.specs.Inlines.{Literal, HardBreak}
use Rattle.doc_inlines.specs.ReaderSteps.{state_made}
use Rattle.doc_inlines.proofs.ItemLaws.{goes_on, first_behind}
use Rattle.doc_inlines.proofs.EscapeLaws.{hard_stands, hard_made, escaped_stands, escaped_made, escape_reads, ending_reads, lone_reads}
use Rattle.doc_inlines.proofs.EscapeLaws.{last_reads}
use Rattle.doc_inlines.proofs.RunLaws.{behind_first}
use Rattle.doc_inlines.proofs.reader.Reader.backslash.Goals as goal

pub returns-in_default : goal.returns-in_default
returns-in_default c = λ rules targets.
    c.literal.ensures rules targets (λ definitions e. last_reads rules definitions _ (state_made c.args.self.now) (chars c.args.behind.now)
    c.in_default.ensures.characters)

pub put-requires-clause-stands : goal.put-requires-clause-stands
put-requires-clause-stands c =
    hard_stands _ _ (behind_first 92 _ _ _ c.requires.first
    (behind_first c.in-Some.d _ _ _ c.in-Some.ensures.characters c.behind_run.ensures.end))

pub returns-then-d-eq10 : goal.returns-then-d-eq10
returns-then-d-eq10 c = λ rules targets.
    let p = c.in_ok-put.ensures in
    goes_on rules targets c.args.self.now c.put.new.self 92 (chars c.args.behind.now) (chars c.behind_run.result.now)
    (HardBreak ∷ state_made c.args.self.now) c.requires.sound p.sound p.text (ap (λ t. chars t.now) p.rest) c.requires.first
    (behind_first c.in-Some.d _ _ _ c.in-Some.ensures.characters c.behind_run.ensures.end)
    (λ definitions e.
    ending_reads rules definitions _ (state_made c.args.self.now) c.in-Some.d _ _ _ c.in-Some.ensures.characters c.if-d-eq10.true
    c.behind_run.ensures.end c.behind_run.ensures.value)
    (hard_made _ _ p.made)

pub front-requires : goal.front-requires
front-requires c = first_behind c.in-Some.d _ _ c.in-Some.ensures.characters

pub put-requires-then-is_ascii_punctuation-clause-stands : goal.put-requires-then-is_ascii_punctuation-clause-stands
put-requires-then-is_ascii_punctuation-clause-stands c = escaped_stands 92 c.in-Some.d _ _ _ _ c.requires.first
    c.in-Some.ensures.characters c.front.ensures.value

pub returns-then-is_ascii_punctuation : goal.returns-then-is_ascii_punctuation
returns-then-is_ascii_punctuation c = λ rules targets.
    let p = c.in_ok-put-2.ensures in
    goes_on rules targets c.args.self.now c.put-then-is_ascii_punctuation.new.self 92 (chars c.args.behind.now) (chars c.in-Some.rest.now)
    (Literal c.in-Some.d ∷ state_made c.args.self.now) c.requires.sound p.sound p.text
    (ap (λ t. chars t.now) p.rest) c.requires.first (first_behind c.in-Some.d _ _ c.in-Some.ensures.characters)
    (λ definitions e.
    escape_reads rules definitions _ (state_made c.args.self.now) c.in-Some.d _ _ c.in-Some.ensures.characters
    (ne_eqb c.in-Some.d 10 c.if-d-eq10.false) (sym c.is_ascii_punctuation.ensures.value ∙ c.if-is_ascii_punctuation.true))
    (escaped_made c.in-Some.d _ _ _ _ _ c.in-Some.ensures.characters c.front.ensures.value p.made)

pub returns : goal.returns
returns c = λ rules targets.
    c.literal-2.ensures rules targets
    (λ definitions e.
    lone_reads rules definitions _ (state_made c.args.self.now) c.in-Some.d _ _ c.in-Some.ensures.characters
    (ne_eqb c.in-Some.d 10 c.if-d-eq10.false) (sym c.is_ascii_punctuation.ensures.value ∙ c.if-is_ascii_punctuation.false))
