use Rattle.std.proofs.Common.{refl}
use Rattle.std.proofs.lemmas.Result.{on_ok_weaker}
use Rattle.doc_store_readers.specs.declared.listing.Listing.{Listing}
use Rattle.doc_store_readers.proofs.ReaderSteps.{digest_added, token_added}
use Rattle.doc_store_readers.proofs.listing.Listing.add.Goals as goal

pub returns-in-Token : goal.returns-in-Token
returns-in-Token c before is =
    rw c.in-Token.is (λ fresh. on_ok_weaker c.add_token.result
    (token_added before c.args.self.now c.add_token.new.self c.in-Token.token c.args.reader is fresh) c.add_token.ensures.ok)

pub returns-in-Digest : goal.returns-in-Digest
returns-in-Digest c before is =
    let new : Listing = record { readers = c.insert_digest.new.self; of_tokens = c.args.self.now.of_tokens } in
    rw c.in-Digest.is (λ fresh. on_ok_weaker c.insert_digest.result
    (λ e. digest_added before c.args.self.now new c.in-Digest.digest c.args.reader is fresh e refl) c.insert_digest.ensures.ok)
