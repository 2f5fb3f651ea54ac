use Rattle.std.proofs.Common.{sym, ap, ◌∙◌, codes}
use Rattle.doc_http_bodies.specs.Framings.{length_of}
use Rattle.doc_http_bodies.proofs.FieldLemmas.{other_name}
use Rattle.doc_http_bodies.proofs.length.Length.see.Goals as goal

pub returns-else-is_named : goal.returns-else-is_named
returns-else-is_named c = λ fields is. is
    ∙ ap length_of (sym (other_name (codes "content-length") c.args.name.now c.args.value.now fields (sym c.if-is_named.ensures)))
