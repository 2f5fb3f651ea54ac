use Rattle.std.proofs.Common.{◌≡◌, ◌≤◌, take}
use Rattle.std.specs.Str.Parse.{digits_value}
use Rattle.doc_http_bodies.proofs.digits.length_of_digits.Given as goal

-- the number of the digits so far, which is allowed
abbrev pub invariant-loop-digit : goal.invariant-loop-digit
invariant-loop-digit l = (l.length ≡ digits_value 10 (take l.digit-index l.digits)) × (l.length ≤ 1048576)
