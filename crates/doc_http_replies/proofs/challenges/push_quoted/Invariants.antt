use Rattle.std.proofs.Common.{◌≡◌, ◌++◌, flat_map, string_bytes}
use Rattle.doc_http_replies.specs.Challenges.{quoted_char}
use Rattle.doc_http_replies.proofs.challenges.push_quoted.Given as goal

-- the characters so far are written
abbrev pub invariant-characters : goal.invariant-characters
invariant-characters l = string_bytes l.out ≡ string_bytes l.fn.out ++ flat_map quoted_char l.yielded
