use Rattle.std.proofs.Common.{subst, sym}
use Rattle.std.specs.Prelude.{IsUtf8}
use Rattle.doc_server_status.proofs.Digits.{identity_is_text}
use Rattle.doc_server_status.proofs.identity.Identity.get.Goals as goal

pub unreachable-requires : goal.unreachable-requires
unreachable-requires c =
    let text = identity_is_text c.args.self.now.digits c.args.self.now.hexadecimal in
    c.in_default.ensures.cases.0 (subst IsUtf8 (sym c.as_slice.ensures) text)
