use Rattle.std.proofs.Common.{ap, sym, chars, ◌∙◌, ◌++◌}
use Rattle.doc_rules.specs.Characters.{last_or}
use Rattle.doc_rules.specs.BareLinks.{bare_address}
use Rattle.doc_rules.specs.Reading.{autolink}
use Rattle.doc_rules.proofs.ParserLaws.{is_rest_again}
use Rattle.doc_inlines.specs.ReaderSteps.{state_made}
use Rattle.doc_inlines.proofs.ItemLaws.{goes_on}
use Rattle.doc_inlines.proofs.LetterLaws.{letter_uncut, in_bracket_reads, no_address_reads, address_reads, live_state, first_in}
use Rattle.doc_inlines.proofs.LetterLaws.{address_stands, address_behind, address_long}
use Rattle.doc_inlines.proofs.reader.Reader.bare_link.Goals as goal

pub literal-requires-clause-uncut : goal.literal-requires-clause-uncut
literal-requires-clause-uncut c = letter_uncut c.args.c c.requires.letter

pub returns-then-has_live_bracket : goal.returns-then-has_live_bracket
returns-then-has_live_bracket c = λ rules targets links.
    c.literal.ensures rules targets (λ definitions e.
    in_bracket_reads rules definitions _ (state_made c.args.self.now) c.args.c (chars c.args.behind.now) c.requires.letter links
    (live_state _ _ _ _ c.has_live_bracket.ensures ∙ c.if-has_live_bracket.true))

pub front-requires : goal.front-requires
front-requires c = is_rest_again _ _ _ c.requires.sound.rest c.requires.sound.plain

pub bare_address-requires : goal.bare_address-requires
bare_address-requires c = first_in _ _ _ c.requires.first c.requires.letter

pub literal-requires-in_default-clause-uncut : goal.literal-requires-in_default-clause-uncut
literal-requires-in_default-clause-uncut c = letter_uncut c.args.c c.requires.letter

pub returns-in_default : goal.returns-in_default
returns-in_default c = λ rules targets links.
    let last = c.last_or_line-last.ensures ∙ ap (last_or 10) c.front.ensures.value in
    c.literal-in_default.ensures rules targets (λ definitions e.
    no_address_reads rules definitions _ (state_made c.args.self.now) c.args.c (chars c.args.behind.now) (chars c.args.self.now.rest.now)
    c.requires.letter links (live_state _ _ _ _ c.has_live_bracket.ensures ∙ c.if-has_live_bracket.false) c.requires.first
    (ap (λ l. bare_address l (chars c.args.self.now.rest.now)) (sym last) ∙ c.in_default.ensures))

pub put_autolink-requires-clause-stands : goal.put_autolink-requires-clause-stands
put_autolink-requires-clause-stands c = address_stands _ _ _ c.text_behind-rest.ensures

pub returns : goal.returns
returns c = λ rules targets links.
    let last = c.last_or_line-last.ensures ∙ ap (last_or 10) c.front.ensures.value in
    let found = c.in-Some.ensures in
    let p = c.in_ok-put_autolink.ensures in
    goes_on rules targets c.args.self.now c.put_autolink.new.self c.args.c (chars c.args.behind.now) (chars c.text_behind-rest.result.now)
    (autolink (chars c.in-Some.scheme.now ++ chars c.in-Some.address.now) (chars c.in-Some.address.now) (state_made c.args.self.now))
    c.requires.sound p.sound p.text (ap (λ t. chars t.now) p.rest) c.requires.first
    (address_behind _ _ (chars c.in-Some.address.now) _ c.args.c c.requires.first c.text_behind-rest.ensures found.some)
    (λ definitions e.
    address_reads rules definitions _ (state_made c.args.self.now) c.args.c (chars c.args.behind.now) (chars c.args.self.now.rest.now)
    (chars c.in-Some.scheme.now) (chars c.in-Some.address.now) c.requires.letter links
    (live_state _ _ _ _ c.has_live_bracket.ensures ∙ c.if-has_live_bracket.false) c.requires.first
    (ap (λ l. bare_address l (chars c.args.self.now.rest.now)) (sym last) ∙ found.value) _
    (address_long _ _ _ _ c.args.c c.requires.first c.text_behind-rest.ensures found.some))
    p.made
