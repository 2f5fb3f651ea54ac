use Rattle.std.proofs.Common.{ap, chars, suc, length, replicate, Some, None, ◌∷◌, ◌++◌, ◌-◌}
use Rattle.doc_rules.specs.Inlines.{Literal, Code}
use Rattle.doc_inlines.specs.ReaderSteps.{state_made}
use Rattle.doc_inlines.proofs.ItemLaws.{goes_on}
use Rattle.doc_inlines.proofs.RunLaws.{behind_first}
use Rattle.doc_inlines.proofs.EnclosedLaws.{behind_in_whole, learned_runs, span_found, span_slice, run_found, ticks_uncut, ticks_made}
use Rattle.doc_inlines.proofs.EnclosedLaws.{backtick_reads, code_stands, code_made}
use Rattle.doc_inlines.proofs.reader.Reader.backticks.Goals as goal

pub put-requires-clause-sound : goal.put-requires-clause-sound
put-requires-clause-sound c =
    let h = c.requires.sound in
    learned_runs c.args.self.now c.code_span.new.self h (c.in_ok-found.ensures.told (chars c.args.self.now.text.now) h.backticks
    (behind_in_whole _ _ _ _ _ h.plain h.rest c.requires.first))

pub put-requires-clause-stands : goal.put-requires-clause-stands
put-requires-clause-stands c = code_stands _ _ _ _ c.in-Some.code c.requires.first c.in_ok-found.ensures.end
    (span_slice _ c.in_ok-found.next c.in-Some.code _ c.in-Some.is c.in_ok-found.ensures.slice)

pub pass-requires-clause-sound : goal.pass-requires-clause-sound
pass-requires-clause-sound c =
    let h = c.requires.sound in
    learned_runs c.args.self.now c.code_span.new.self h (c.in_ok-found.ensures.told (chars c.args.self.now.text.now) h.backticks
    (behind_in_whole _ _ _ _ _ h.plain h.rest c.requires.first))

pub pass-requires-clause-rest : goal.pass-requires-clause-rest
pass-requires-clause-rest c = behind_first _ _ _ _ c.requires.first c.in_ok-found.ensures.end

pub pass-requires-clause-uncut : goal.pass-requires-clause-uncut
pass-requires-clause-uncut c =
    let h = c.requires.sound in
    let found = run_found _ c.in_ok-found.next _ c.in-None.is
    (c.in_ok-found.ensures.value (chars c.args.self.now.text.now) h.backticks
    (behind_in_whole _ _ _ _ _ h.plain h.rest c.requires.first)) in
    ticks_uncut _ _ _ c.requires.first found

pub returns-in_ok-put-in-Some : goal.returns-in_ok-put-in-Some
returns-in_ok-put-in-Some c = λ rules targets.
    let h = c.requires.sound in
    let p = c.in_ok-put-in-Some.ensures in
    let found = span_found _ c.in_ok-found.next c.in-Some.code _ c.in-Some.is
    (c.in_ok-found.ensures.value (chars c.args.self.now.text.now) h.backticks
    (behind_in_whole _ _ _ _ _ h.plain h.rest c.requires.first)) in
    goes_on rules targets c.args.self.now c.put.new.self 96 (chars c.args.behind.now) (chars c.in_ok-found.next.now)
    (Code (chars c.in-Some.code.now) ∷ state_made c.args.self.now) h p.sound p.text
    (ap (λ t. chars t.now) p.rest) c.requires.first c.in_ok-found.ensures.end
    (λ definitions e. backtick_reads rules definitions _ _ (chars c.args.behind.now)
    (Some (chars c.in-Some.code.now), chars c.in_ok-found.next.now) found)
    (code_made c.in-Some.code _ _ p.made)

pub returns-in-None : goal.returns-in-None
returns-in-None c = λ rules targets.
    let h = c.requires.sound in
    let p = c.pass.ensures in
    let found = run_found _ c.in_ok-found.next _ c.in-None.is
    (c.in_ok-found.ensures.value (chars c.args.self.now.text.now) h.backticks
    (behind_in_whole _ _ _ _ _ h.plain h.rest c.requires.first)) in
    let n = length (chars c.args.behind.now) - length (chars c.in_ok-found.next.now) in
    goes_on rules targets c.args.self.now c.pass.new.self 96 (chars c.args.behind.now) (chars c.in_ok-found.next.now)
    (replicate (suc n) (Literal 96) ++ state_made c.args.self.now) h p.sound p.text
    (ap (λ t. chars t.now) p.rest) c.requires.first c.in_ok-found.ensures.end
    (λ definitions e. backtick_reads rules definitions _ _ (chars c.args.behind.now) (None, chars c.in_ok-found.next.now) found)
    (ticks_made _ _ _ _ _ c.requires.first found p.made)
