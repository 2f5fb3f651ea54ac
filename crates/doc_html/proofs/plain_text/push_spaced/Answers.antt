use Rattle.std.proofs.Common.{rules, refl, chars, string_bytes}
use Rattle.doc_html.proofs.PlainTextSteps.{line_pushed, rest_pushed}
use Rattle.doc_html.proofs.plain_text.push_spaced.Goals as goal

pub lines-init : goal.lines-init
lines-init c = record { is_text = search rules; same = refl }

pub lines-preserved : goal.lines-preserved
lines-preserved c = record {
  is_text = search rules;
  same = line_pushed (string_bytes c.args.out.now) (string_bytes c.lines.out) _ _ (chars c.args.text.now) (chars c.lines.rest.now)
      (chars c.in-Some.line.now) (chars c.in-Some.behind.now)
      c.lines.invariant.same c.in-Some.ensures.line c.in_ok-push_str.ensures c.in_ok-push_space.ensures;
}

pub returns : goal.returns
returns c =
    rest_pushed (string_bytes c.args.out.now) (string_bytes c.lines.out) _ (chars c.args.text.now) (chars c.lines.rest.now)
    c.lines.invariant.same c.in_default.ensures.none c.in_ok-push_str-2.ensures
