use Rattle.std.proofs.Common.{◌≡◌, ◌^◌, ◌<◌, ◌≤◌, take, length}
use Rattle.std.specs.Str.Parse.{digits_value}
use Rattle.doc_http_bodies.proofs.digits.hexadecimal.Given as goal

-- the number of the digits so far, which is less than their number of digits allows
abbrev pub invariant-loop-digit : goal.invariant-loop-digit
invariant-loop-digit l = (l.number ≡ digits_value 16 (take l.digit-index l.digits)) × (l.number < 16 ^ l.digit-index)
    × (length l.digits ≤ 8)
