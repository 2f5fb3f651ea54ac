use Rattle.std.proofs.Common.{arith, sym}
use Rattle.doc_http_replies.proofs.StatusLemmas.{five_digits, four_digits, one_digit, three_digits, two_digits}
use Rattle.doc_http_replies.proofs.lines.digits_len.Goals as goal

pub returns-in-0-to-9-clause-len : goal.returns-in-0-to-9-clause-len
returns-in-0-to-9-clause-len c = sym (one_digit c.args.code (omega arith))

pub returns-in-10-to-99-clause-len : goal.returns-in-10-to-99-clause-len
returns-in-10-to-99-clause-len c = sym (two_digits c.args.code (omega arith) (omega arith))

pub returns-in-100-to-999-clause-len : goal.returns-in-100-to-999-clause-len
returns-in-100-to-999-clause-len c = sym (three_digits c.args.code (omega arith) (omega arith))

pub returns-in-1000-to-9999-clause-len : goal.returns-in-1000-to-9999-clause-len
returns-in-1000-to-9999-clause-len c = sym (four_digits c.args.code (omega arith) (omega arith))

pub returns-in_default-clause-len : goal.returns-in_default-clause-len
returns-in_default-clause-len c = sym (five_digits c.args.code (omega arith) (omega arith))
