use Rattle.std.proofs.Common.{rules, ◌≡◌, nat_le, length, chars, ap}
use Rattle.std.proofs.lemmas.Str.{chars_from_encodes}
use Rattle.doc_refs_parts.proofs.scan.label.is_short.Goals as goal

pub returns : goal.returns
returns c =
    let counted : c.count.result ≡ length (chars c.args.text.now) = search (rules, chars_from_encodes) in
    ap (λ n. nat_le n 999) counted
