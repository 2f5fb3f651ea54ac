use Rattle.std.proofs.Common.{codes}
use Rattle.doc_people_lines.proofs.WriteSteps.{twofold}
use Rattle.doc_people_lists.proofs.broken.push_head.Goals as goal

pub returns : goal.returns
returns c =
    twofold (codes "<table class=\"broken\">\n<thead>\n<tr><th scope=\"col\">Link</th><th scope=\"col\">Leads to</th>")
    (codes "<th scope=\"col\">What is wrong</th></tr>\n</thead>\n") _ _ _ c.in_ok-push_str.ensures.bytes c.in_ok-push_str-2.ensures.bytes
