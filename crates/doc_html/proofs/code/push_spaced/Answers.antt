use Rattle.std.proofs.Common.{rules, ◌≡◌, [], ◌∷◌, ◌++◌, ◌∙◌, ap, sym, subst, refl, chars, append_assoc}
use Rattle.doc_rules.specs.Characters.{Text}
use Rattle.doc_rules.specs.CodeSpans.{spaced}
use Rattle.doc_rules.specs.Escaping.{html_escape}
use Rattle.doc_rules.specs.Html.{characters}
use Rattle.doc_html.specs.ProgressSteps.{Writes}
use Rattle.doc_html.proofs.WriterSteps.{no_escapes, escapes}
use Rattle.doc_html.proofs.code.push_spaced.Goals as goal

pub lines-init : goal.lines-init
lines-init g c = record { is_text = search rules; done = []; split = refl; written = no_escapes g.W.Writer.holds c.args.writer.now }

pub lines-preserved : goal.lines-preserved
lines-preserved g c =
    let i = c.lines.invariant in
    let line : Text = chars c.in-Some.line.now in
    record {
      is_text = search rules;
      done = (i.done ++ line) ++ 32 ∷ [];
      split = append_assoc (i.done ++ line) (32 ∷ []) (spaced (chars c.in-Some.behind.now))
          ∙ (append_assoc i.done line (32 ∷ spaced (chars c.in-Some.behind.now))
          ∙ (ap (λ t. i.done ++ t) (sym c.in-Some.ensures.line) ∙ i.split));
      written = escapes g.W.Writer.holds c.args.writer.now c.escaped.new.self c.push_space.new.writer (i.done ++ line) (32 ∷ [])
          (escapes g.W.Writer.holds c.args.writer.now c.lines.writer c.escaped.new.self i.done line i.written c.in_ok-escaped.ensures)
          c.in_ok-push_space.ensures;
    }

pub returns : goal.returns
returns g c =
    let i = c.lines.invariant in
    let all : i.done ++ chars c.lines.rest.now ≡ spaced (chars c.args.text.now) = ap (λ t. i.done ++ t) (sym c.in_default.ensures.none)
    ∙ i.split in
    subst (λ t. Writes g.W.Writer.holds c.args.writer.now c.escaped-2.new.self (characters (html_escape t))) all
    (escapes g.W.Writer.holds c.args.writer.now c.lines.writer c.escaped-2.new.self i.done (chars c.lines.rest.now) i.written
    c.in_ok-escaped-2.ensures)
