use Rattle.std.proofs.Common.{IsTrue, ap, sym, subst, ◌∙◌}
use Rattle.std.specs.FinMap as map
use Rattle.doc_store.proofs.PageCounts.{goes_by, keeps_by, numbered_renamed, room_numbered, room_stands}
use Rattle.doc_store.proofs.counted_pages.CountedPages.rename.Goals as goal

pub returns-in_default : goal.returns-in_default
returns-in_default c =
    absurd (room_stands c.args.self.now c.args.from.now c.args.to.now
    (c.in_default.ensures ∙ ap (λ m. map.get m c.args.to.now) c.self.view_is) c.requires.room)

pub rename-requires-2 : goal.rename-requires-2
rename-requires-2 c =
    subst IsTrue
    (ap (λ m. map.contains_key (map.remove m c.args.from.now) c.args.to.now) (sym c.self.view_is)
    ∙ sym (room_numbered c.self.inside.pages c.self.inside.numbers c.self.inside.sets c.self.invariant c.args.from.now c.args.to.now))
    c.requires.room

pub invariant_of-self : goal.invariant_of-self
invariant_of-self c =
    let sets = c.self.inside.sets in
    rw (c.rename.ensures, c.rename-2.ensures)
    (numbered_renamed c.self.inside.pages c.self.inside.numbers sets c.self.invariant c.args.from.now c.args.to.now c.args.stamp
    c.in-Some.room.now c.in-Some.ensures
    (subst (λ m. IsTrue (map.contains_key m c.args.from.now)) (sym c.self.view_is) c.requires.stands)
    (subst (λ m. IsTrue (map.contains_key (map.remove m c.args.from.now) c.args.to.now)) (sym c.self.view_is) c.requires.room)
    c.remove.new.self
    (goes_by sets c.remove.new.self _ _ c.groups.ensures c.remove.ensures.counts)
    (keeps_by sets c.remove.new.self _ _ c.groups.ensures c.remove.ensures.kept))
