use Rattle.std.proofs.Common.{ap, chars, ◌∷◌}
use Rattle.std.specs.Prelude.{if◌then◌else◌}
use Rattle.doc_rules.specs.Inlines.{SoftBreak, HardBreak}
use Rattle.doc_rules.proofs.ParserLaws.{is_rest_again}
use Rattle.doc_inlines.specs.ReaderSteps.{state_made}
use Rattle.doc_inlines.proofs.ItemLaws.{goes_on, first_behind}
use Rattle.doc_inlines.proofs.RunLaws.{behind_first}
use Rattle.doc_inlines.proofs.GapLaws.{is_first, bare_stands, break_made, spaces_reads, spaces_and_words}
use Rattle.doc_inlines.proofs.reader.Reader.spaces.Goals as goal

pub pass_plain-requires-clause-run : goal.pass_plain-requires-clause-run
pass_plain-requires-clause-run c = spaces_and_words c.args.entities.now _ _ _ _ c.requires.first c.behind_run-rest.ensures.value c.behind_run-rest.ensures.end
    c.in_default.ensures c.behind_plain.ensures

pub put-requires-clause-stands : goal.put-requires-clause-stands
put-requires-clause-stands c =
    bare_stands c.break_mark-mark.result _ _ c.break_mark-mark.ensures.slice c.break_mark-mark.ensures.cut
    (behind_first 32 _ _ _ c.requires.first (is_rest_again _ _ _ c.behind_run.ensures.end
    (is_rest_again _ _ _ (first_behind 10 _ _ (is_first 10 _ _ c.in-Some.ensures)) c.behind_run-rest.ensures.end)))

pub returns : goal.returns
returns c = λ targets.
    let p = c.in_ok-put.ensures in
    let end = is_first 10 _ _ c.in-Some.ensures in
    goes_on c.args.entities.now targets c.args.self.now c.put.new.self 32 (chars c.args.behind.now) (chars c.behind_run.result.now)
    ((if c.begins_with_space.result then HardBreak else SoftBreak) ∷ state_made c.args.self.now) c.requires.sound p.sound p.text
    (ap (λ t. chars t.now) p.rest) c.requires.first (is_rest_again _ _ _ c.behind_run.ensures.end
    (is_rest_again _ _ _ (first_behind 10 _ _ end) c.behind_run-rest.ensures.end))
    (λ definitions e.
    spaces_reads c.args.entities.now definitions _ (state_made c.args.self.now) c.begins_with_space.result _ _ _ _ c.behind_run-rest.ensures.value
    c.behind_run-rest.ensures.end end c.behind_run.ensures.value c.behind_run.ensures.end
    c.begins_with_space.ensures)
    (break_made c.break_mark-mark.result _ _ _ c.break_mark-mark.ensures.shown p.made)
