-- Who asks, as the code has it.
use Rattle.doc_hub_asking.specs.Asking.{Asking}
use Rattle.doc_hub_asking.specs.Asking as asked
use Rattle.doc_hub_asking.specs.declared.asking.Asking as code
use Rattle.doc_hub_asking.specs.declared.asking.Asking.TheVariants as askings

-- the same as it is defined
abbrev pub asking_shown : code.Asking → Asking
asking_shown askings.Nobody = asked.Nobody
asking_shown (askings.Guest row) = asked.Guest row
asking_shown (askings.Known row) = asked.Known row.now
