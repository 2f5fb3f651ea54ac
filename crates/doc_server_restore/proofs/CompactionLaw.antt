-- The records of a compaction, restored.
use Rattle.std.proofs.Common.{◌≡◌, ℕ, ◌+◌, List, [], ◌∷◌, ◌++◌, Bool, true, false, refl, ap, sym, subst, ◌∙◌}
use Rattle.std.specs.Prelude.{map as mapped, Option, Some, None, option_map, Ok, if◌then◌else◌}
use Rattle.std.specs.FinMap as map
use Rattle.doc_store.specs.Store.{remove_page, StoreState, effect_of, without_page}
use Rattle.doc_store.specs.declared.site_edit.SiteEdit.{SiteEdit}
use Rattle.doc_store.specs.declared.site_edit.SiteEdit.TheVariants as site_edits
use Rattle.doc_server_script.proofs.ReplayLaw.{replay_gives_the_site}
use Rattle.doc_server_script.specs.Compactions.{compacted}
use Rattle.doc_server_script.specs.PageLines.{lines_of}
use Rattle.doc_server_script.specs.Replays.{edited, replayed}
use Rattle.doc_server_restore.specs.Written.{joined}
use Rattle.doc_server_restore.specs.Laws.{AreEdits, CompactionIsRestored}
use Rattle.doc_server_restore.specs.Restores.{all_made, made, restored, restored_from, unstamped}
use Rattle.doc_server_restore.proofs.Effects.{no_some, same_some}
use Rattle.doc_server_restore.proofs.LineLaws.{lines_are_read}
use Rattle.doc_server_restore.proofs.MadeSteps.{move_alone, store_put, store_moved, store_removed}
use Rattle.doc_server_restore.proofs.RecordSteps.{as_onto, record_restored}

-- ---- stamps decide nothing

made_unstamped : (store : StoreState) (edit : SiteEdit) → made None (unstamped store) edit ≡ made None store edit
made_unstamped store (site_edits.Put path groups text) = store_put store path (record { groups = groups; text = text })
made_unstamped store (site_edits.Remove path) = store_removed store (without_page store path) path refl
made_unstamped store (site_edits.Move from to) = store_moved store from to ∙ sym (move_alone store from to)

-- ---- edits one after the other

abbrev behind : List SiteEdit → Option StoreState → Option StoreState
behind edits None = None
behind edits (Some next) = all_made None next edits

as_behind : (edits : List SiteEdit) (mid : Option StoreState)
    → ◌≡◌ {A = Option StoreState} (elim mid [ None ↦ None | Some next ↦ all_made None next edits ]) (behind edits mid)
as_behind edits None = refl
as_behind edits (Some next) = refl

none_replayed : (edits : List SiteEdit) → replayed None edits ≡ None
none_replayed [] = refl
none_replayed (edit ∷ edits) = refl

-- what is accepted is made
accepted_is_made : (store next : StoreState) (edit : SiteEdit) → edited store edit ≡ Some next → made None store edit ≡ Some (unstamped next)
accepted_is_made store next (site_edits.Put path groups text) is = ap (option_map unstamped) is
accepted_is_made store next (site_edits.Remove path) is = by (map.contains_key store.site.pages path) is
  where
    by : (b : Bool) → (if b then Some (if b then (record {
      site = effect_of store.site (remove_page path);
      stamps = map.remove store.stamps path;
      puts = store.puts;
    }) else store) else None) ≡ Some next → Some (unstamped (if b then (record {
      site = effect_of store.site (remove_page path);
      stamps = map.remove store.stamps path;
      puts = store.puts;
    }) else store)) ≡ Some (unstamped next)
    by true is = ap (option_map unstamped) is
    by false is = absurd (no_some next is)
accepted_is_made store next (site_edits.Move from to) is = move_alone store from to ∙ ap (option_map unstamped) is

all_replayed : (edits : List SiteEdit) (store after : StoreState) → replayed (Some store) edits ≡ Some after
    → all_made None (unstamped store) edits ≡ Some (unstamped after)
all_replayed [] store after is = ap (option_map unstamped) is
all_replayed (edit ∷ edits) store after is = by (edited store edit) refl (λ next. all_replayed edits next after) is
  where
    by : (mid : Option StoreState) → edited store edit ≡ mid
        → ((next : StoreState) → replayed (Some next) edits ≡ Some after → all_made None (unstamped next) edits ≡ Some (unstamped after))
        → replayed mid edits ≡ Some after → all_made None (unstamped store) (edit ∷ edits) ≡ Some (unstamped after)
    by None one each more = absurd (no_some after (sym (none_replayed edits) ∙ more))
    by (Some next) one each more =
        as_behind edits (made None (unstamped store) edit)
        ∙ (ap (behind edits) (made_unstamped store edit ∙ accepted_is_made store next edit one) ∙ each next more)

all_joined : (edits more : List SiteEdit) (store : StoreState) → all_made None store (edits ++ more) ≡ behind more (all_made None store edits)
all_joined [] more store = refl
all_joined (edit ∷ edits) more store = by (made None store edit) (λ next. all_joined edits more next)
  where
    by : (mid : Option StoreState) → ((next : StoreState) → all_made None next (edits ++ more) ≡ behind more (all_made None next edits))
        → ◌≡◌ {A = Option StoreState} (elim mid [ None ↦ None | Some next ↦ all_made None next (edits ++ more) ])
        (behind more (elim mid [ None ↦ None | Some next ↦ all_made None next edits ]))
    by None each = refl
    by (Some next) each = each next

edits_apart : (edits more : List SiteEdit) → AreEdits (edits ++ more) → AreEdits edits × AreEdits more
edits_apart [] more are = (tt, are)
edits_apart (edit ∷ edits) more are =
    let rest = edits_apart edits more are.1 in
    ((are.0, rest.0), rest.1)

-- ---- records of whole lines

parts_restored : (parts : List (List SiteEdit)) (n : ℕ) (store last : StoreState) → AreEdits (joined parts)
    → all_made None store (joined parts) ≡ Some last
    → restored_from None n store (mapped lines_of parts) ≡ Ok last
parts_restored [] n store last are is = ap Ok (same_some store last is)
parts_restored (part ∷ parts) n store last are is =
    by (all_made None store part) (λ next. parts_restored parts (n + 1) next last (edits_apart part (joined parts) are).1) refl
    (sym (all_joined part (joined parts) store) ∙ is)
  where
    by : (mid : Option StoreState)
        → ((next : StoreState) → all_made None next (joined parts) ≡ Some last → restored_from None (n + 1) next (mapped lines_of parts) ≡ Ok last)
        → all_made None store part ≡ mid → behind (joined parts) mid ≡ Some last
        → restored_from None n store (lines_of part ∷ mapped lines_of parts) ≡ Ok last
    by None each first rest = absurd (no_some last rest)
    by (Some next) each first rest =
        as_onto None n store (lines_of part) (mapped lines_of parts) (Ok next)
        (record_restored None store next n (lines_of part) part (lines_are_read part (edits_apart part (joined parts) are).0) first)
        ∙ each next rest

pub compaction_is_restored : CompactionIsRestored
compaction_is_restored store site records is_config is_site room are lines =
    by (replayed (Some store) edits) refl (replay_gives_the_site store site is_config is_site room)
  where
    edits : List SiteEdit
    edits = compacted store.site site

    by : (mid : Option StoreState) → replayed (Some store) edits ≡ mid → option_map (λ after. after.site) mid ≡ Some site
        → (after : StoreState) × (restored None (unstamped store) records ≡ Ok after) × (after.site ≡ site)
    by None all is = absurd (no_some site is)
    by (Some after) all is = (
      unstamped after,
      ap (restored None (unstamped store)) lines.are
          ∙ parts_restored lines.parts 1 (unstamped store) (unstamped after) (subst AreEdits (sym lines.all) are)
          (ap (all_made None (unstamped store)) lines.all ∙ all_replayed edits store after all),
      same_some after.site site is,
    )
