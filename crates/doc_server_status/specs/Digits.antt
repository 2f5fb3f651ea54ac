-- The digits of an identity.
use Rattle.std.specs.Prelude.{ℕ, List}
use Rattle.doc_server_status.specs.declared.identity.Identity.{Identity}

abbrev pub digits_of : Identity → List ℕ
digits_of identity = identity.digits
