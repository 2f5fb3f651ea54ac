use Rattle.std.proofs.Common.{◌≡◌, ◌++◌, chars, length}
use denote.Text.{Utf8}
use denote.Shadow.{shadow}
use Rattle.doc_rules.specs.Characters.{Text}
use Rattle.doc_rules.specs.CodeSpans.{spaced}
use Rattle.doc_rules.specs.Escaping.{html_escape}
use Rattle.doc_rules.specs.Html.{characters}
use Rattle.doc_html.specs.ProgressSteps.{Writes}
use Rattle.doc_html.proofs.code.push_spaced.Given as goal

abbrev pub invariant-lines : goal.invariant-lines
invariant-lines g l = record {
  is_text : shadow (Utf8 l.rest);
  done : Text;
  split : done ++ spaced (chars l.rest) ≡ spaced (chars l.text);
  written : Writes g.W.Writer.holds l.fn.writer l.writer (characters (html_escape done));
}

abbrev pub decreases-lines : goal.decreases-lines
decreases-lines g l = length (spaced (chars l.rest))
