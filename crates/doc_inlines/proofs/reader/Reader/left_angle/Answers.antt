use Rattle.std.proofs.Common.{ap, chars, Some, None}
use Rattle.doc_rules.proofs.ParserLaws.{is_rest_again}
use Rattle.doc_inlines_marks.specs.FoundSteps.{enclosing_of}
use Rattle.doc_inlines_marks.specs.Reads.{enclosed_read}
use Rattle.doc_inlines.specs.ReaderSteps.{state_made}
use Rattle.doc_inlines.proofs.ItemLaws.{goes_on}
use Rattle.doc_inlines.proofs.EnclosedLaws.{learned_ends, angle_found, angle_reads, enclosed_end, moved_on}
use Rattle.doc_inlines.proofs.reader.Reader.left_angle.Goals as goal

pub put_enclosed-requires-clause-sound : goal.put_enclosed-requires-clause-sound
put_enclosed-requires-clause-sound c =
    let h = c.requires.sound in
    learned_ends c.args.self.now c.enclosed.new.self h (c.in-Some.ensures.told (chars c.args.self.now.text.now) h.missing
    (is_rest_again _ _ _ h.rest h.plain))

pub alone-requires-clause-sound : goal.alone-requires-clause-sound
alone-requires-clause-sound c =
    let h = c.requires.sound in
    learned_ends c.args.self.now c.enclosed.new.self h (c.in-None.ensures.told (chars c.args.self.now.text.now) h.missing
    (is_rest_again _ _ _ h.rest h.plain))

pub returns-in_ok-put_enclosed-in-Some : goal.returns-in_ok-put_enclosed-in-Some
returns-in_ok-put_enclosed-in-Some c = λ rules targets.
    let h = c.requires.sound in
    let p = c.in_ok-put_enclosed-in-Some.ensures in
    let found = angle_found _ _ (Some (enclosing_of c.in-Some.found, chars c.in-Some.next.now)) c.requires.first
    (c.in-Some.ensures.value (chars c.args.self.now.text.now) h.missing (is_rest_again _ _ _ h.rest h.plain)) in
    goes_on rules targets c.args.self.now c.put_enclosed.new.self 60 (chars c.args.behind.now) (chars c.in-Some.next.now)
    (enclosed_read (state_made c.args.self.now) (enclosing_of c.in-Some.found)) h p.sound p.text
    (ap (λ t. chars t.now) p.rest) c.requires.first (enclosed_end _ _ _ found)
    (λ definitions e. angle_reads rules definitions _ _ (chars c.args.behind.now)
    (Some (enclosing_of c.in-Some.found, chars c.in-Some.next.now)) found)
    p.made

pub returns-in_ok-alone-in-None : goal.returns-in_ok-alone-in-None
returns-in_ok-alone-in-None c = λ rules targets.
    let h = c.requires.sound in
    let found = angle_found _ _ None c.requires.first (c.in-None.ensures.value (chars c.args.self.now.text.now) h.missing
    (is_rest_again _ _ _ h.rest h.plain)) in
    moved_on rules targets c.args.self.now c.alone.new.self c.enclosed.new.self
    (c.in_ok-alone-in-None.ensures rules targets (λ definitions e. angle_reads rules definitions _ _ (chars c.args.behind.now) None found))
