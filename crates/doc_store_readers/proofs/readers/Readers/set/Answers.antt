use Rattle.std.proofs.Common.{◌≡◌, ◌∙◌, true, false, ap, sym, is_some}
use Rattle.doc_page_parts.specs.Tokens.{is_token}
use Rattle.doc_store_readers.proofs.ReaderSteps.{is_some-copied, was_set}
use Rattle.doc_store_readers.proofs.readers.Readers.set.Goals as goal

pub returns-then-stands : goal.returns-then-stands
returns-then-stands c =
    let good : is_token c.args.token.now ≡ true = ap is_token (sym c.as_bytes.ensures.value) ∙ sym c.is_token.ensures
    ∙ c.if-not-is_token.false in
    was_set c.args.self.now c.insert.new.self c.remove_digest.new.self c.args.token.now c.in_ok-key.key c.digest_of.result c.args.reader.now
    c.in_ok-reader.reader true good
    (sym c.if-stands.true ∙ c.is_some-stands.ensures ∙ sym (is_some-copied c.find.result) ∙ ap is_some c.find.ensures)
    c.in_ok-key.ensures c.in_ok-reader.ensures c.in_ok-insert.ensures.ok c.digest_of.ensures c.remove_digest.ensures

pub returns-else-stands : goal.returns-else-stands
returns-else-stands c =
    let good : is_token c.args.token.now ≡ true = ap is_token (sym c.as_bytes.ensures.value) ∙ sym c.is_token.ensures
    ∙ c.if-not-is_token.false in
    was_set c.args.self.now c.insert.new.self c.remove_digest.new.self c.args.token.now c.in_ok-key.key c.digest_of.result c.args.reader.now
    c.in_ok-reader.reader false good
    (sym c.if-stands.false ∙ c.is_some-stands.ensures ∙ sym (is_some-copied c.find.result) ∙ ap is_some c.find.ensures)
    c.in_ok-key.ensures c.in_ok-reader.ensures c.in_ok-insert.ensures.ok c.digest_of.ensures c.remove_digest.ensures
