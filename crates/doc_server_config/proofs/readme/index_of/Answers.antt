use Rattle.std.proofs.Common.{◌≡◌, arith, IfOk, option_map, string_bytes, subst}
use Rattle.doc_media.proofs.SplitSteps.{cut_at_last}
use Rattle.doc_server_config.proofs.ReadmeSteps.{index_found, index_found_alone}
use Rattle.doc_server_config.proofs.readme.index_of.Goals as goal

pub returns-in-Some : goal.returns-in-Some
returns-in-Some c =
    let split = cut_at_last 47 c.args.path.now c.rsplit_once.result c.rsplit_once.ensures.cases (omega arith) in
    subst (λ wanted. IfOk c.index_in.result (λ index. option_map string_bytes index ≡ wanted))
    (index_found c.args.path.now c.rsplit_once.result split c.in-Some.folder c.in-Some.name c.in-Some.is) c.index_in.ensures

pub returns-in-None : goal.returns-in-None
returns-in-None c =
    let split = cut_at_last 47 c.args.path.now c.rsplit_once.result c.rsplit_once.ensures.cases (omega arith) in
    subst (λ wanted. IfOk c.index_alone.result (λ index. option_map string_bytes index ≡ wanted))
    (index_found_alone c.args.path.now c.rsplit_once.result split c.in-None.is) c.index_alone.ensures
