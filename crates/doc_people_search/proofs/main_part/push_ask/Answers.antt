use Rattle.std.proofs.Common.{codes, string_bytes}
use Rattle.doc_page_parts.specs.Escaping.{escaped}
use Rattle.doc_people_search.proofs.AskSteps.{ask_written}
use Rattle.doc_people_search.proofs.main_part.push_ask.Goals as goal

pub returns : goal.returns
returns c =
    ask_written (codes "<form class=\"ask\" role=\"search\" action=\"/search\" aria-label=\"Search all pages\">\n")
    (codes "<input type=\"search\" name=\"q\" value=\"") (escaped c.args.query.now) (codes "\" aria-label=\"Words\">\n")
    (codes "<button>Search</button>\n</form>\n") (string_bytes c.args.out.now) _ _ _ _ _ c.in_ok-push_str.ensures.bytes
    c.in_ok-push_str-2.ensures.bytes c.in_ok-push_escaped.ensures.ok c.in_ok-push_str-3.ensures.bytes c.in_ok-push_str-4.ensures.bytes
