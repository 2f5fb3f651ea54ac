use Rattle.doc_page_encoding.specs.Encoding.{encoded_path}
use Rattle.doc_listings.proofs.WriteSteps.{begun}
use Rattle.doc_listings.proofs.contents.set_address.Goals as goal

pub returns : goal.returns
returns c =
    begun c.push_encoded_path.result _ _ _ _ _ c.args.path.now encoded_path c.clear.ensures.bytes c.in_ok-push_str.ensures.bytes
    c.text.ensures c.push_encoded_path.ensures.ok
