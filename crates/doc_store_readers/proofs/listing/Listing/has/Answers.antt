use Rattle.std.proofs.Common.{◌≡◌, ◌∙◌, ap, sym, is_some}
use Rattle.std.specs.FinMap as map
use Rattle.doc_store_readers.specs.Readers.{comes_again, find_in}
use Rattle.doc_store_readers.proofs.ReaderSteps.{digest_listed, first_holds, is_some-copied, second_decides, token_listed}
use Rattle.doc_store_readers.proofs.listing.Listing.has.Goals as goal

pub returns-in-Token : goal.returns-in-Token
returns-in-Token c before is =
    let listing = c.args.self.now in
    c.is_some.ensures ∙ sym (is_some-copied c.find.result) ∙ ap is_some c.find.ensures
    ∙ ap (λ token. is_some (find_in listing.readers token)) c.get.ensures
    ∙ token_listed before listing c.in-Token.token is ∙ ap (comes_again before) (sym c.in-Token.is)

pub returns-then-is_some : goal.returns-then-is_some
returns-then-is_some c before is =
    let listing = c.args.self.now in
    let digest = c.in-Digest.digest in
    let found : c.is_some-in-Digest.result ≡ is_some (map.get listing.readers.by_digest digest) =
    c.is_some-in-Digest.ensures ∙ sym (is_some-copied c.with_digest.result) ∙ ap is_some c.with_digest.ensures in
    found ∙ first_holds (is_some (map.get listing.readers.by_digest digest)) (map.contains_key listing.of_tokens digest) (sym found
    ∙ c.if-is_some.true)
    ∙ digest_listed before listing digest is ∙ ap (comes_again before) (sym c.in-Digest.is)

pub returns-else-is_some : goal.returns-else-is_some
returns-else-is_some c before is =
    let listing = c.args.self.now in
    let digest = c.in-Digest.digest in
    let found : c.is_some-in-Digest.result ≡ is_some (map.get listing.readers.by_digest digest) =
    c.is_some-in-Digest.ensures ∙ sym (is_some-copied c.with_digest.result) ∙ ap is_some c.with_digest.ensures in
    c.contains.ensures ∙ second_decides (is_some (map.get listing.readers.by_digest digest)) (map.contains_key listing.of_tokens digest)
    (sym found ∙ c.if-is_some.false)
    ∙ digest_listed before listing digest is ∙ ap (comes_again before) (sym c.in-Digest.is)
