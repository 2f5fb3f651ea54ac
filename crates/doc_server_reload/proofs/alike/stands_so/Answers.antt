use Rattle.std.proofs.Common.{ap, ◌∙◌}
use Rattle.std.specs.FinMap as map
use Rattle.doc_store.specs.Names.{aliases_of}
use Rattle.doc_store_readers.specs.Groups.{texts_of}
use Rattle.doc_server_reload.proofs.AlikeSteps.{names_stand}
use Rattle.doc_server_reload.proofs.alike.stands_so.Goals as goal

pub returns : goal.returns
returns c =
    let old = c.args.old.now.site in
    let new = c.args.new.now.site in
    let path = c.args.path.now in
    c.have_same_names.ensures
    ∙ names_stand (map.contains_key old.pages path) (map.contains_key new.pages path) path (aliases_of old.aliases path)
    (aliases_of new.aliases path) c.as_slice.result.now c.as_slice-2.result.now
    (ap texts_of c.as_slice.ensures.value ∙ c.in_ok-names.ensures) (ap texts_of c.as_slice-2.ensures.value ∙ c.in_ok-others.ensures)
