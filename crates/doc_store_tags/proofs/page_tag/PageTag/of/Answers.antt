use Rattle.doc_store_tags.proofs.QuoteSteps.{ascii_tag, tag_is}
use Rattle.doc_store_tags.proofs.page_tag.PageTag.of.Goals as goal

pub invariant_of-result : goal.invariant_of-result
invariant_of-result c = ascii_tag c.quoted.result c.digest_of.result c.quoted.ensures

pub returns : goal.returns
returns c =
    tag_is c.quoted.result c.digest_of.result (record { groups = c.args.groups.now; text = c.args.text.now }) c.quoted.ensures
    c.digest_of.ensures
