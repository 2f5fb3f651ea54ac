use Rattle.std.proofs.Common.{◌≡◌, ◌++◌, ap, sym, ◌∙◌}
use Rattle.std.specs.Prelude.{option_copied}
use Rattle.doc_people.specs.Lists.{pager}
use Rattle.doc_people.specs.Pages.{backlinks_href}
use Rattle.doc_people_lines.proofs.WriteSteps.{as_told}
use Rattle.doc_people_lists.proofs.backlinks.push_backlinks_pager.Goals as goal

pub returns : goal.returns
returns c =
    let address : c.as_str.result.now ≡ backlinks_href c.args.path.now =
    c.as_str.ensures.value ∙ c.in_ok-push_backlinks_href.ensures
    ∙ ap (λ t. t ++ backlinks_href c.args.path.now) c.new-address.ensures.bytes in
    as_told c.push_pager.result _ _ _ _ (ap (λ a. pager a c.args.from.now (option_copied c.args.next)) (sym address)) c.push_pager.ensures
