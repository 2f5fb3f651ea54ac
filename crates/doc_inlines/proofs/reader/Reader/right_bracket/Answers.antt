use Rattle.std.proofs.Common.{ap, sym, subst, chars, ◌∙◌, IfSome}
use Rattle.doc_rules.specs.Rests.{IsRest}
use Rattle.doc_rules.proofs.ParserLaws.{is_rest_again}
use Rattle.doc_inlines_marks.specs.Targets.{named}
use Rattle.doc_inlines_marks.specs.TailSteps.{tail_shown}
use Rattle.doc_inlines.proofs.BracketItemLaws.{none_is, one_is, behind_first, stray_goes_on, unlinked_goes_on, linked_goes_on}
use Rattle.doc_inlines.proofs.reader.Reader.right_bracket.Goals as goal

pub pass-requires-clause-rest : goal.pass-requires-clause-rest
pass-requires-clause-rest c =
    let none = none_is c.in_ok-bracket.field-0 c.args.self.now c.take_bracket.new.self c.in_default.is c.in_ok-bracket.ensures in
    behind_first 93 (chars c.args.behind.now) c.args.self.now c.take_bracket.new.self (ap (λ x. x.rest) none.same) c.requires.first

pub returns-in_default : goal.returns-in_default
returns-in_default c =
    let none = none_is c.in_ok-bracket.field-0 c.args.self.now c.take_bracket.new.self c.in_default.is c.in_ok-bracket.ensures in
    let p = c.pass.ensures in
    stray_goes_on c.args.entities.now c.args.refs.now c.args.self.now c.take_bracket.new.self c.pass.new.self (chars c.args.behind.now)
    none c.requires.sound p.sound p.text (ap (λ t. chars t.now) p.rest) c.requires.first p.made

pub pass-requires-in_default-2-clause-rest : goal.pass-requires-in_default-2-clause-rest
pass-requires-in_default-2-clause-rest c =
    let one = one_is c.in_ok-bracket.field-0 _ c.args.self.now c.take_bracket.new.self c.in-Some.is c.in_ok-bracket.ensures in
    behind_first 93 (chars c.args.behind.now) c.args.self.now c.take_bracket.new.self one.rest c.requires.first

pub returns-in_default-2 : goal.returns-in_default-2
returns-in_default-2 c =
    let one = one_is c.in_ok-bracket.field-0 _ c.args.self.now c.take_bracket.new.self c.in-Some.is c.in_ok-bracket.ensures in
    let p = c.pass-in_default-2.ensures in
    unlinked_goes_on c.args.entities.now c.args.refs.now c.args.self.now c.take_bracket.new.self c.pass-in_default-2.new.self
    c.in-Some.bracket c.in-Some.live (chars c.args.behind.now) one c.requires.sound p.sound p.text
    (ap (λ t. chars t.now) p.rest) c.requires.first (λ definitions f. sym (ap tail_shown c.in_default-2.is)
    ∙ c.in_ok-target.ensures.value definitions f) p.made

pub link-requires-clause-after : goal.link-requires-clause-after
link-requires-clause-after c =
    let one = one_is c.in_ok-bracket.field-0 _ c.args.self.now c.take_bracket.new.self c.in-Some.is c.in_ok-bracket.ensures in
    is_rest_again _ _ _ (subst (λ found. IfSome found (λ tail. IsRest (chars tail.1.now) (chars c.args.behind.now))) c.in-Some-2.is
    c.in_ok-target.ensures.end)
    (behind_first 93 (chars c.args.behind.now) c.args.self.now c.take_bracket.new.self one.rest c.requires.first)

pub returns : goal.returns
returns c =
    let one = one_is c.in_ok-bracket.field-0 _ c.args.self.now c.take_bracket.new.self c.in-Some.is c.in_ok-bracket.ensures in
    let l = c.in_ok-link.ensures in
    linked_goes_on c.args.entities.now c.args.refs.now c.args.self.now c.take_bracket.new.self c.link.new.self c.in-Some.bracket
    c.in-Some.live (chars c.args.behind.now) (chars c.in-Some-2.after.now)
    (named c.in-Some-2.target) one c.requires.sound l.sound l.text (ap (λ t. chars t.now) l.rest) c.requires.first
    (subst (λ found. IfSome found (λ tail. IsRest (chars tail.1.now) (chars c.args.behind.now))) c.in-Some-2.is c.in_ok-target.ensures.end)
    (λ definitions f. sym (ap tail_shown c.in-Some-2.is) ∙ c.in_ok-target.ensures.value definitions f) (l.made c.in-Some.live)
