use Rattle.std.proofs.Common.{chars, string_bytes}
use Rattle.doc_people.specs.Snippets.{written_part}
use Rattle.doc_people_search.proofs.PartSteps.{written_all}
use Rattle.doc_people_search.proofs.snippets.push_parts.Goals as goal

pub returns : goal.returns
returns c =
    written_all (written_part c.args.terms.now) (string_bytes c.loop-part.out) _ (chars c.loop-part.rest.now) c.loop-part.invariant.same
    c.in_default.ensures.none
