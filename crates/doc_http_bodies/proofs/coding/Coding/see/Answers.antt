use Rattle.std.proofs.Common.{sym, ap, ◌∙◌, codes}
use Rattle.doc_http_bodies.specs.Framings.{coding_of}
use Rattle.doc_http_bodies.proofs.FieldLemmas.{other_name}
use Rattle.doc_http_bodies.proofs.coding.Coding.see.Goals as goal

pub returns-else-is_named : goal.returns-else-is_named
returns-else-is_named c = λ fields is. is
    ∙ ap coding_of (sym (other_name (codes "transfer-encoding") c.args.name.now c.args.value.now fields (sym c.if-is_named.ensures)))
