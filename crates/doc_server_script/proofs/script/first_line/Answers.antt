use Rattle.std.proofs.Common.{◌<◌, length, arith}
use Rattle.std.proofs.lemmas.Bool.Decides.{nat_tests}
use Rattle.doc_server_script.proofs.ScriptSteps.{cut_line, last_line}
use Rattle.doc_server_script.proofs.script.first_line.Goals as goal

pub returns-in-Some : goal.returns-in-Some
returns-in-Some c =
    let some : 0 < length c.args.script.now = grind (arith, nat_tests, c.is_empty.ensures, c.if-is_empty.false) in
    cut_line c.args.script.now c.in-Some.cut.0.now c.in-Some.cut.1.now some c.in-Some.ensures

pub returns-in-None : goal.returns-in-None
returns-in-None c =
    let some : 0 < length c.args.script.now = grind (arith, nat_tests, c.is_empty.ensures, c.if-is_empty.false) in
    last_line c.args.script.now some c.in-None.ensures
