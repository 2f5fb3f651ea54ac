use Rattle.std.proofs.Common.{ap, chars, suc, ◌∷◌, ◌∙◌}
use Rattle.doc_rules.specs.Characters.{last_or}
use Rattle.doc_rules.specs.Parsers.{run_length}
use Rattle.doc_rules.specs.Inlines.{Delimiters}
use Rattle.doc_rules.proofs.ParserLaws.{is_rest_again}
use Rattle.doc_inlines.specs.ReaderSteps.{state_made}
use Rattle.doc_inlines.proofs.ItemLaws.{goes_on}
use Rattle.doc_inlines.proofs.RunLaws.{behind_first, run_taken, run_text, run_reads}
use Rattle.doc_inlines.proofs.reader.Reader.delimiters.Goals as goal

pub front-run-requires : goal.front-run-requires
front-run-requires c = behind_first _ _ _ _ c.requires.first c.behind_run-next.ensures.end

pub front-requires : goal.front-requires
front-requires c = is_rest_again _ _ _ c.requires.sound.rest c.requires.sound.plain

pub put_run-requires-clause-text : goal.put_run-requires-clause-text
put_run-requires-clause-text c =
    run_text _ c.args.own _ _ c.requires.delimiter (run_taken _ _ _ _ _ c.requires.first c.behind_run-next.ensures.value c.front-run.ensures.value)

pub returns : goal.returns
returns c = λ rules targets read.
    let p = c.in_ok-put_run.ensures in
    let n = run_length c.args.c (chars c.args.behind.now) in
    let found = c.behind_run-next.ensures.value in
    goes_on rules targets c.args.self.now c.put_run.new.self c.args.c (chars c.args.behind.now) (chars c.behind_run-next.result.now)
    (Delimiters (record { char = c.args.c; left = suc n; length = suc n; opens = c.opens-opens.result; closes = c.closes-closes.result }) ∷
    state_made c.args.self.now) c.requires.sound p.sound p.text
    (ap (λ t. chars t.now) p.rest) c.requires.first c.behind_run-next.ensures.end
    (λ definitions e.
    run_reads rules definitions c.args.c _ _ _ _ _ _ _ _ read found (c.last_or_line-last.ensures
    ∙ ap (last_or 10) c.front.ensures.value) c.first_or_line-first.ensures c.opens-opens.ensures c.closes-closes.ensures)
    (p.made n c.args.c (run_taken _ _ _ _ _ c.requires.first found c.front-run.ensures.value))
