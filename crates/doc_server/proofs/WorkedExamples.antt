-- A published text, its examples, and what the command `examples` prints for it.
use Rattle.std.proofs.Common.{◌≡◌, ℕ, List, [], ◌∷◌, ◌++◌, refl}
use Rattle.std.specs.Prelude.{codes, encode_utf8_all}
use Rattle.std.specs.Str.{chars}
use Rattle.std.specs.Char.{encode_utf8}
use Rattle.std.specs.Fmt.{digits}
use Rattle.doc_rules.proofs.Computing.{html_words}
use Rattle.doc_server.specs.Rendering.{rendered}
use Rattle.doc_server.specs.Examples.{begins_example, ends_input, ends_output, meant, examples_from, examples_of, count_from, lines_from}
use Rattle.doc_server.specs.Examples.{report, count_of, status_of, fence}

-- three examples, of which the second is shown otherwise and the last doesn't end; `→` stands for a tab
abbrev text : List ℕ
text =
    encode_utf8_all
    (codes "Tabs\n" ++ fence ++ codes " example\n→a\n.\n<pre><code>a\n</code></pre>\n" ++ fence ++ codes "\n" ++ fence
    ++ codes " example\r\nb\n.\n<p>→</p>\n" ++ fence ++ codes "\r\n.\n" ++ fence
    ++ codes " example\nc\n.\n")

its_examples :
    examples_of text
    ≡ record { input = codes "\ta\n"; output = codes "<pre><code>a\n</code></pre>\n" }
    ∷ record { input = codes "b\n"; output = codes "<p>\t</p>\n" }
    ∷ []
unfolding begins_example ends_input ends_output meant examples_from examples_of chars encode_utf8
its_examples = refl

its_report : report text ≡ codes "example 2 differs\n1 passed, 1 failed\n"
unfolding begins_example ends_input ends_output meant examples_from examples_of count_from lines_from rendered chars encode_utf8 digits
    html_words
its_report = refl

its_status : status_of (count_of text) ≡ 1
unfolding begins_example ends_input ends_output meant examples_from examples_of count_from rendered chars encode_utf8 html_words
its_status = refl
