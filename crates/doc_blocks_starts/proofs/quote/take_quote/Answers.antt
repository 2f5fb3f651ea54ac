use Rattle.std.proofs.Common.{sym, ◌∙◌}
use Rattle.doc_lines.specs.Cursors.{left_of}
use Rattle.doc_blocks_starts.proofs.ContainerSteps.{no_quote, quote_taken}
use Rattle.doc_blocks_starts.proofs.quote.take_quote.Goals as goal

pub returns-then-not-is_quoted-clause-inside : goal.returns-then-not-is_quoted-clause-inside
returns-then-not-is_quoted-clause-inside c = no_quote (left_of c.args.line.now) (sym c.is_quoted.ensures ∙ c.if-not-is_quoted.true)

pub returns-clause-inside : goal.returns-clause-inside
returns-clause-inside c =
    quote_taken (left_of c.args.line.now) c.pass_indent.new.self c.next.new.self c.skip.new.self
    (sym c.is_quoted.ensures ∙ c.if-not-is_quoted.false) c.pass_indent.ensures.line c.next.ensures.place c.skip.ensures.line
