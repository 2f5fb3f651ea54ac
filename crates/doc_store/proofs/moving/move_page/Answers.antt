use Rattle.std.proofs.Common.{refl, ap, ◌∙◌}
use Rattle.std.specs.FinMap as map
use Rattle.doc_store.proofs.PageSteps.{paths_differ, renamed_in_room, room_is_there, room_undone, stands_beside}
use Rattle.doc_store_readers.specs.Pages.{empty_page}
use Rattle.doc_store.proofs.moving.move_page.Goals as goal

pub follow-requires-clause-apart : goal.follow-requires-clause-apart
follow-requires-clause-apart c =
    paths_differ c.args.pages.now c.args.from.now c.args.to.now c.requires.stands c.requires.free

pub returns-in-Err-clause-same_pages : goal.returns-in-Err-clause-same_pages
returns-in-Err-clause-same_pages c =
    c.take.ensures.rest ∙ ap (λ m. map.remove m c.args.to.now) c.in_ok-make_room.ensures.ok
    ∙ room_undone c.args.pages.now c.args.to.now empty_page c.requires.free

pub rename-requires-clause-stands : goal.rename-requires-clause-stands
rename-requires-clause-stands c =
    stands_beside c.args.pages.now c.args.from.now c.args.to.now c.args.stamp c.requires.stands c.requires.free c.args.to.now empty_page
    refl
    c.make_room.new.self (map.remove c.make_room.new.self c.args.from.now) c.in_ok-make_room.ensures.ok refl

pub rename-requires-clause-room : goal.rename-requires-clause-room
rename-requires-clause-room c =
    room_is_there c.args.pages.now c.args.from.now c.args.to.now c.args.stamp c.requires.stands c.requires.free c.args.to.now empty_page
    refl
    c.make_room.new.self (map.remove c.make_room.new.self c.args.from.now) c.in_ok-make_room.ensures.ok refl

pub returns-clause-pages : goal.returns-clause-pages
returns-clause-pages c =
    renamed_in_room c.args.pages.now c.args.from.now c.args.to.now c.args.stamp c.requires.stands c.requires.free c.args.to.now
    empty_page refl
    c.make_room.new.self (map.remove c.make_room.new.self c.args.from.now) c.in_ok-make_room.ensures.ok refl c.rename.new.self
    c.rename.ensures
