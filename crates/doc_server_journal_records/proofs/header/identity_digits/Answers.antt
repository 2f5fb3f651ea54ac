use Rattle.std.proofs.Common.{sym, subst, arith}
use Rattle.hex.specs.Hex.{IsBytes, lower_digits}
use Rattle.hex.proofs.HexLemmas.{length-encode_with}
use Rattle.doc_server_journal_records.specs.Records.{IsIdentity}
use Rattle.doc_server_journal_records.proofs.Digits.{are_digits}
use Rattle.doc_server_journal_records.proofs.header.identity_digits.Goals as goal

pub returns-clause-identity : goal.returns-clause-identity
returns-clause-identity c =
    let small : IsBytes c.args.random.now = λ i. let f = c.type_inv.random i in omega arith in
    subst IsIdentity (sym c.write_digits.ensures)
    (omega (arith, length-encode_with lower_digits c.args.random.now, c.requires), are_digits c.args.random.now small)
