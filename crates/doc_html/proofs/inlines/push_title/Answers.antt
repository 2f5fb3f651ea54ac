use Rattle.std.proofs.Common.{subst, chars}
use Rattle.doc_rules.specs.Html.{characters}
use Rattle.doc_rules.specs.Escaping.{html_escape}
use Rattle.doc_html.specs.ProgressSteps.{Writes}
use Rattle.doc_html.proofs.WriterSteps.{no_title, some_title}
use Rattle.doc_html.proofs.inlines.push_title.Goals as goal

pub returns-in_default : goal.returns-in_default
returns-in_default g c = no_title g.W.Writer.holds c.args.writer.now c.args.title.now c.in_default.is

pub returns : goal.returns
returns g c =
    let value : Writes g.W.Writer.holds c.markup.new.writer c.escaped.new.self (characters (html_escape (chars c.in-Some.title)))
    = subst (λ t. Writes g.W.Writer.holds c.markup.new.writer c.escaped.new.self (characters (html_escape (chars t)))) c.get.ensures
    c.in_ok-escaped.ensures in
    some_title g.W.Writer.holds c.args.writer.now c.markup.new.writer c.escaped.new.self c.markup-2.new.writer c.args.title.now _
    c.in-Some.is c.in_ok-markup.ensures value
    c.in_ok-markup-2.ensures
