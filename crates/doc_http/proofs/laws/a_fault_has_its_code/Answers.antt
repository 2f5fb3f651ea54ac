use Rattle.doc_http.proofs.FaultLemmas.{faults_have_codes}
use Rattle.doc_http.proofs.laws.a_fault_has_its_code.Goals as goal

pub returns : goal.returns
returns c = faults_have_codes
