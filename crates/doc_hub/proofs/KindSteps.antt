-- What events leave of a world, by their kinds: an event that is of no connection leaves the connections, and one that is no edit of
-- the site besides leaves the site.
use Rattle.std.proofs.Common.{◌≡◌, refl, ap, sym, subst}
use Rattle.std.specs.Prelude.{⊤, Bool, true, false, if◌then◌else◌, Result, Ok, Err}
use Rattle.doc_page_parts.specs.Refusals.{Gives}
use Rattle.doc_store.specs.declared.moving.MoveError.TheVariants as move_errors
use Rattle.doc_store.specs.declared.site_edit.SiteEdit.{SiteEdit}
use Rattle.doc_store.specs.declared.site_edit.SiteEdit.TheVariants as site_edits
use Rattle.doc_store.specs.declared.store.EditError.TheVariants as edit_errors
use Rattle.doc_store_readers.specs.declared.readers.ReaderError.TheVariants as reader_errors
use Rattle.doc_media.specs.Media.{Media}
use Rattle.doc_hub_replies.specs.Replies.{Renders}
use Rattle.doc_hub_events.specs.Events.{Said, SaidReader, SaidSite}
use Rattle.doc_hub.specs.Runs.{Happens, HappensReader, HappensSite}
use Rattle.doc_hub.specs.Worlds.{World, are_apart, world_media_set, world_moved, world_put, world_reader_removed, world_reader_set}
use Rattle.doc_hub.specs.Worlds.{with_media, world_readers_set, world_removed}
use Rattle.doc_hub_events.specs.declared.event.Event.{Event}
use Rattle.doc_hub_events.specs.declared.event.Event.TheVariants as events
use Rattle.doc_hub_events.specs.declared.event.ReaderEdit.{ReaderEdit}
use Rattle.doc_hub_events.specs.declared.event.ReaderEdit.TheVariants as reader_edits
use Rattle.doc_hub_events.specs.declared.refusal.MediaSetError.{MediaSetError}
use Rattle.doc_hub_events.specs.declared.refusal.MediaSetError.TheVariants as media_errors

-- what holds of the world that a call gives, and of the one that it met, holds of the one that it leaves
pub by_gives : {X E : Type 0} (P : World → Type 0) (memory : E) (given : World × Result X E) (w v : World) (r : Result X E) → P w
    → P given.0 → Gives memory given w v r → P v
by_gives {X = X} {E = E} P memory given w v (Ok x) before after gives = subst (λ (q : World × Result X E). P q.0) gives after
by_gives P memory given w v (Err e) before after gives = subst P (sym gives.1) before

pub by_equation : {S : Type 0} (P : World → Type 0) (given : World × S) (v : World) (said : S) → P given.0
    → ◌≡◌ {A = World × S} given (v, said) → P v
by_equation {S = S} P given v said after is = subst (λ (q : World × S). P q.0) is after

-- ---- edits of the site

-- all but the site and the number of puts is as before
abbrev pub HasSiteOf : World → World → Type 0
HasSiteOf w v = v ≡ record w { site = v.site; puts = v.puts }

pub leaves_all_but_site : (w v : World) (edit : SiteEdit) (said : SaidSite edit) → HappensSite w edit v said → HasSiteOf w v
leaves_all_but_site w v (site_edits.Put path groups text) said h =
    by_gives (HasSiteOf w) edit_errors.Memory (world_put w path groups text) w v said refl refl h
leaves_all_but_site w v (site_edits.Remove path) said h = by_equation (HasSiteOf w) (world_removed w path) v said refl h
leaves_all_but_site w v (site_edits.Move from to) said h =
    by_gives (HasSiteOf w) move_errors.Memory (world_moved w from to) w v said refl refl h

-- ---- events beside the site and the connections

-- the site, the number of puts, the connections and how many numbers are given are as before
pub record StandBeside (w v : World) : Type 0 where
  pub site : v.site ≡ w.site
  pub puts : v.puts ≡ w.puts
  pub given : v.given ≡ w.given
  pub connections : v.connections ≡ w.connections

-- an event that is of no connection, and no edit of the site
abbrev pub IsBeside : Event → Type 0
IsBeside events.Connect = ⊥
IsBeside (events.On id call) = ⊥
IsBeside (events.Site edit) = ⊥
IsBeside event = ⊤

-- all but the readers is as before
abbrev pub HasReadersOf : World → World → Type 0
HasReadersOf w v = v ≡ record w { readers = v.readers }

pub leaves_all_but_readers : (w v : World) (edit : ReaderEdit) (said : SaidReader edit) → HappensReader w edit v said → HasReadersOf w v
leaves_all_but_readers w v (reader_edits.Set token reader) said h =
    by_gives (HasReadersOf w) reader_errors.Memory (world_reader_set w token reader) w v said refl refl h
leaves_all_but_readers w v (reader_edits.Remove token) said h =
    by_equation (HasReadersOf w) (world_reader_removed w token) v said refl h
leaves_all_but_readers w v (reader_edits.All readers) said h =
    by_gives (HasReadersOf w) reader_errors.Memory (world_readers_set w readers) w v said refl refl h

-- all but the media is as before
abbrev pub HasMediaOf : World → World → Type 0
HasMediaOf w v = v ≡ record w { media = v.media }

-- the media are set or not
abbrev pub media_set_if : World → Media → Bool → World × Result (Unit {0}) MediaSetError
media_set_if w media apart = if apart then (with_media w media, Ok tt) else (w, Err media_errors.Taken)

set_leaves : (w : World) (media : Media) (apart : Bool) → HasMediaOf w (media_set_if w media apart).0
set_leaves w media true = refl
set_leaves w media false = refl

pub leaves_all_but_media : (w v : World) (media : Media) (said : Result (Unit {0}) MediaSetError)
    → Gives media_errors.Memory (world_media_set w media) w v said → HasMediaOf w v
leaves_all_but_media w v media said h =
    by_gives (HasMediaOf w) media_errors.Memory (world_media_set w media) w v said refl (set_leaves w media (are_apart w.site media)) h

pub stand_beside : (render : Renders) (w v : World) (event : Event) (said : Said event) → IsBeside event → Happens render w event v said
    → StandBeside w v
stand_beside render w v events.Connect said is h = absurd is
stand_beside render w v (events.On id call) said is h = absurd is
stand_beside render w v (events.Site edit) said is h = absurd is
stand_beside render w v (events.Reader edit) said is h =
    let same = leaves_all_but_readers w v edit said h in
    record {
      site = ap (λ (x : World). x.site) same;
      puts = ap (λ (x : World). x.puts) same;
      given = ap (λ (x : World). x.given) same;
      connections = ap (λ (x : World). x.connections) same;
    }
stand_beside render w v (events.TakePuts takes) said is h = record {
  site = ap (λ (x : World). x.site) h;
  puts = ap (λ (x : World). x.puts) h;
  given = ap (λ (x : World). x.given) h;
  connections = ap (λ (x : World). x.connections) h;
}
stand_beside render w v (events.SetMedia media) said is h =
    let same = leaves_all_but_media w v media said h in
    record {
      site = ap (λ (x : World). x.site) same;
      puts = ap (λ (x : World). x.puts) same;
      given = ap (λ (x : World). x.given) same;
      connections = ap (λ (x : World). x.connections) same;
    }

-- ---- events of no connection

abbrev pub IsOfNone : Event → Type 0
IsOfNone events.Connect = ⊥
IsOfNone (events.On id call) = ⊥
IsOfNone event = ⊤

-- how many numbers are given, and the connections, are as before
pub connections_stand : (render : Renders) (w v : World) (event : Event) (said : Said event) → IsOfNone event
    → Happens render w event v said → (v.given ≡ w.given) × (v.connections ≡ w.connections)
connections_stand render w v events.Connect said is h = absurd is
connections_stand render w v (events.On id call) said is h = absurd is
connections_stand render w v (events.Site edit) said is h =
    let same = leaves_all_but_site w v edit said h in (ap (λ (x : World). x.given) same, ap (λ (x : World). x.connections) same)
connections_stand render w v event said is h = let beside = stand_beside render w v event said tt h in (beside.given, beside.connections)
