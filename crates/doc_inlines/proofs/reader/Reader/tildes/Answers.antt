use Rattle.std.proofs.Common.{ap, chars, suc, replicate, ◌++◌}
use Rattle.doc_rules.specs.Parsers.{run_length}
use Rattle.doc_rules.specs.Inlines.{Literal}
use Rattle.doc_inlines.specs.ReaderSteps.{state_made}
use Rattle.doc_inlines.proofs.ItemLaws.{goes_on}
use Rattle.doc_inlines.proofs.RunLaws.{behind_first}
use Rattle.doc_inlines.proofs.TildeLaws.{one_begins, two_begin, one_is_read, two_are_read, AreMany, many_behind, many_uncut, many_made, many_read}
use Rattle.doc_inlines.proofs.reader.Reader.tildes.Goals as goal

pub delimiters-requires-clause-delimiter : goal.delimiters-requires-clause-delimiter
delimiters-requires-clause-delimiter c = one_begins (chars c.args.behind.now) c.in_default.ensures

pub returns-in_default : goal.returns-in_default
returns-in_default c = λ rules targets strikes.
    c.in_ok-delimiters.ensures rules targets (one_is_read rules (chars c.args.behind.now) strikes c.in_default.ensures)

pub delimiters-requires-in_default-is-clause-delimiter : goal.delimiters-requires-in_default-is-clause-delimiter
delimiters-requires-in_default-is-clause-delimiter c =
    two_begin (chars c.args.behind.now) (chars c.in-Some.second.now) c.in-Some.ensures c.in_default-is.ensures

pub returns-in_default-is : goal.returns-in_default-is
returns-in_default-is c = λ rules targets strikes.
    c.in_ok-delimiters-2.ensures rules targets
    (two_are_read rules (chars c.args.behind.now) (chars c.in-Some.second.now) strikes c.in-Some.ensures c.in_default-is.ensures)

pub pass-requires-clause-rest : goal.pass-requires-clause-rest
pass-requires-clause-rest c =
    let m : AreMany (chars c.args.behind.now) (chars c.in-Some.second.now) (chars c.in-Some-is.third.now) (chars c.behind_run.result.now) =
    record {
      first = c.in-Some.ensures;
      more = c.in-Some-is.ensures;
      run = c.behind_run.ensures.value;
      behind = c.behind_run.ensures.end;
    } in
    behind_first 126 _ _ _ c.requires.first (many_behind _ _ _ _ m)

pub pass-requires-clause-uncut : goal.pass-requires-clause-uncut
pass-requires-clause-uncut c =
    let m : AreMany (chars c.args.behind.now) (chars c.in-Some.second.now) (chars c.in-Some-is.third.now) (chars c.behind_run.result.now) =
    record {
      first = c.in-Some.ensures;
      more = c.in-Some-is.ensures;
      run = c.behind_run.ensures.value;
      behind = c.behind_run.ensures.end;
    } in
    many_uncut _ _ _ _ _ c.requires.first m

pub returns : goal.returns
returns c = λ rules targets strikes.
    let m : AreMany (chars c.args.behind.now) (chars c.in-Some.second.now) (chars c.in-Some-is.third.now) (chars c.behind_run.result.now) =
    record {
      first = c.in-Some.ensures;
      more = c.in-Some-is.ensures;
      run = c.behind_run.ensures.value;
      behind = c.behind_run.ensures.end;
    } in
    let p = c.pass.ensures in
    goes_on rules targets c.args.self.now c.pass.new.self 126 (chars c.args.behind.now) (chars c.behind_run.result.now)
    (replicate (suc (run_length 126 (chars c.args.behind.now))) (Literal 126) ++ state_made c.args.self.now) c.requires.sound p.sound p.text
    (ap (λ t. chars t.now) p.rest) c.requires.first (many_behind _ _ _ _ m)
    (λ definitions e. many_read rules definitions _ (state_made c.args.self.now) _ _ _ _ strikes m)
    (many_made _ _ _ _ _ _ _ c.requires.first m p.made)
