-- Events that leave the site, its media and its puts.
use Rattle.std.proofs.Common.{◌≡◌, ℕ, ◌+◌, List, [], ◌∷◌, Bool, true, false, ap, cond, refl, sym, subst}
use Rattle.std.specs.Prelude.{Result, Ok, Err, nat_lt, if◌then◌else◌}
use Rattle.std.specs.FinMap as map
use Rattle.doc_page_parts.specs.Refusals.{Gives, IsAnswer}
use Rattle.doc_hub.specs.Replies.{Renders}
use Rattle.doc_hub_events.specs.Events.{disconnect_on, push_on, setting_media}
use Rattle.doc_hub_events.specs.declared.event.ConnId.{ConnId}
use Rattle.doc_hub_events.specs.declared.event.Event.TheVariants as events
use Rattle.doc_hub_events.specs.declared.refusal.ConnectError.{ConnectError}
use Rattle.doc_hub_events.specs.declared.refusal.ConnectError.TheVariants as connect_errors
use Rattle.doc_hub_events.specs.declared.refusal.MediaSetError.{MediaSetError}
use Rattle.doc_hub_events.specs.declared.refusal.MediaSetError.TheVariants as media_errors
use Rattle.doc_hub_events.specs.declared.refusal.PushError.{PushError}
use Rattle.doc_hub_events.specs.declared.refusal.PushError.TheVariants as push_errors
use Rattle.doc_hub_events.specs.declared.event.ReaderEdit.TheVariants as reader_edits
use Rattle.doc_hub.specs.Connections.{new_connection}
use Rattle.doc_hub.specs.Runs.{Happened, Happens, first, nothing}
use Rattle.doc_hub.specs.Worlds.{IsApart, World, are_apart, connected, last_id, with_media, world_pushed}
use Rattle.doc_hub.proofs.MediaLaws.{media_stand_apart}
use Rattle.doc_media.specs.Media.{Media}
use Rattle.doc_store_readers.specs.Readers.{ReaderTable}
use Rattle.doc_store_readers.specs.declared.readers.ReaderError.{ReaderError}
use Rattle.doc_server_listen.specs.Sites.{IsSameSite}

pub record IsSameStore (w v : World) : Type 0 where
  pub site : v.site ≡ w.site
  pub media : v.media ≡ w.media
  pub puts : v.puts ≡ w.puts

-- the same, and whether puts are taken
pub record IsQuiet (w v : World) : Type 0 where
  pub same : IsSameStore w v
  pub taking : v.takes_puts ≡ w.takes_puts

-- a connection's event leaves the readers, too
pub record IsAside (w v : World) : Type 0 where
  pub same : IsSameSite w v
  pub taking : v.takes_puts ≡ w.takes_puts

as_before : (w : World) → IsAside w w
as_before w = record { same = record { site = refl; media = refl; puts = refl; readers = refl }; taking = refl }

of_given : {X E : Type 0} (memory : E) (given : World × Result X E) (w v : World) (said : Result X E) → Gives memory given w v said
    → IsAside w given.0 → IsAside w v
of_given memory given w v (Ok x) gives same = subst (λ g. IsAside w g.0) gives same
of_given memory given w v (Err e) gives same = subst (IsAside w) (sym gives.1) (as_before w)

quiet : (w v : World) → IsAside w v → IsQuiet w v
quiet w v is =
    record { same = record { site = is.same.site; media = is.same.media; puts = is.same.puts }; taking = is.taking }

abbrev numbered : World → World × Result ConnId ConnectError
numbered w = (
  record w { given = w.given + 1; connections = map.insert w.connections (w.given + 1) new_connection },
  Ok (record { 0 = w.given + 1 }),
)

connected_same : (w : World) → IsAside w (connected w).0
connected_same w = by (nat_lt w.given last_id)
  where
    by : (t : Bool) → IsAside w (cond t (numbered w) (w, Err connect_errors.NoIds)).0
    by true = record { same = record { site = refl; media = refl; puts = refl; readers = refl }; taking = refl }
    by false = as_before w

abbrev media_set_if : World → Media → Bool → World × Result (Unit {0}) MediaSetError
media_set_if w media apart = if apart then (with_media w media, Ok tt) else (w, Err media_errors.Taken)

module _ (render : Renders) (w v : World) where
  connects_aside : (said : Result ConnId ConnectError) → Happens render w events.Connect v said → IsAside w v
  connects_aside said happens = of_given connect_errors.Memory (connected w) w v said happens (connected_same w)

  pushes_aside : (id : ConnId) (bytes : List ℕ) (said : Result (Unit {0}) PushError) → Happens render w (push_on id bytes) v said
      → IsAside w v
  pushes_aside id bytes said happens =
      of_given push_errors.Memory (world_pushed w id.0 bytes) w v said happens
      (record { same = record { site = refl; media = refl; puts = refl; readers = refl }; taking = refl })

  disconnects_aside : (id : ConnId) (said : Bool) → Happens render w (disconnect_on id) v said → IsAside w v
  disconnects_aside id said happens =
      subst (λ (g : World × Bool). IsAside w g.0) happens
      (record { same = record { site = refl; media = refl; puts = refl; readers = refl }; taking = refl })

  pub connects : (said : Result ConnId ConnectError) → Happens render w events.Connect v said → IsQuiet w v
  connects said happens = quiet w v (connects_aside said happens)

  pub connects_same : (said : Result ConnId ConnectError) → Happens render w events.Connect v said → IsSameSite w v
  connects_same said happens = (connects_aside said happens).same

  pub pushes : (id : ConnId) (bytes : List ℕ) (said : Result (Unit {0}) PushError) → Happens render w (push_on id bytes) v said
      → IsQuiet w v
  pushes id bytes said happens = quiet w v (pushes_aside id bytes said happens)

  pub pushes_same : (id : ConnId) (bytes : List ℕ) (said : Result (Unit {0}) PushError) → Happens render w (push_on id bytes) v said
      → IsSameSite w v
  pushes_same id bytes said happens = (pushes_aside id bytes said happens).same

  pub disconnects : (id : ConnId) (said : Bool) → Happens render w (disconnect_on id) v said → IsQuiet w v
  disconnects id said happens = quiet w v (disconnects_aside id said happens)

  pub disconnects_same : (id : ConnId) (said : Bool) → Happens render w (disconnect_on id) v said → IsSameSite w v
  disconnects_same id said happens = (disconnects_aside id said happens).same

  pub sets_readers : (readers : ReaderTable) → Happens render w (events.Reader (reader_edits.All readers)) v (Ok tt) → IsQuiet w v
  sets_readers readers happens =
      subst (λ (g : World × Result (Unit {0}) ReaderError). IsQuiet w g.0) happens
      (record { same = record { site = refl; media = refl; puts = refl }; taking = refl })

  pub readers_give : (readers : ReaderTable) → Happens render w (events.Reader (reader_edits.All readers)) v (Ok tt) → v.given ≡ w.given
  readers_give readers happens = subst (λ (g : World × Result (Unit {0}) ReaderError). g.0.given ≡ w.given) happens refl

  -- the media are set, or nothing happens
  sets_or_not : (media : Media) (said : Result (Unit {0}) MediaSetError) → Happens render w (events.SetMedia media) v said
      → v ≡ record w { media = v.media }
  sets_or_not media (Ok fine) happens =
      subst (λ (p : World × Result (Unit {0}) MediaSetError). p.0 ≡ record w { media = p.0.media }) happens (by (are_apart w.site media))
    where
      by : (t : Bool) → (media_set_if w media t).0 ≡ record w { media = (media_set_if w media t).0.media }
      by true = refl
      by false = refl
  sets_or_not media (Err e) happens = subst (λ (x : World). x ≡ record w { media = x.media }) (sym happens.1) refl

  pub media_give : (media : Media) (said : Result (Unit {0}) MediaSetError) → Happens render w (events.SetMedia media) v said
      → v.given ≡ w.given
  media_give media said happens = ap (λ (x : World). x.given) (sets_or_not media said happens)

  pub sets_media : (media : Media) → Happens render w (events.SetMedia media) v (Ok tt) → v ≡ with_media w media
  sets_media media happens = by (are_apart w.site media) happens
    where
      by : (t : Bool) → ◌≡◌ {A = World × Result (Unit {0}) MediaSetError} (media_set_if w media t) (v, Ok tt) → v ≡ with_media w media
      by true is = sym (ap (λ (p : World × Result (Unit {0}) MediaSetError). p.0) is)
      by false is = absurd (no_ok (ap (λ (p : World × Result (Unit {0}) MediaSetError). p.1) is))
        where
          no_ok : ◌≡◌ {A = Result (Unit {0}) MediaSetError} (Err media_errors.Taken) (Ok tt) → ⊥
          no_ok e = cc

  -- then they are apart from the site, where the media of before were
  pub sets_apart : (media : Media) → Happens render w (events.SetMedia media) v (Ok tt) → IsApart w.site w.media → IsApart w.site media
  sets_apart media happens apart =
      let h : Happened = record { world = w; event = events.SetMedia media; outcome = setting_media (Ok tt) } in
      let runs = first w v v (events.SetMedia media) (setting_media (Ok tt)) [] (Ok tt, happens, refl) (nothing v) in
      subst (λ (x : World). IsApart x.site x.media) (sets_media media happens) (media_stand_apart.apart render w v (h ∷ []) apart runs)

  pub taken_media : (media : Media) → Happens render w (events.SetMedia media) v (Err media_errors.Taken) → are_apart w.site media ≡ false
  taken_media media happens = by (are_apart w.site media) happens.0
    where
      by : (t : Bool) → IsAnswer media_errors.Memory (media_set_if w media t).1 (Err media_errors.Taken) → t ≡ false
      by true is = absurd (unlike is)
        where
          unlike : media_errors.Taken ≡ media_errors.Memory → ⊥
          unlike e = cc
      by false is = refl

  pub refuses_media : (media : Media) (e : MediaSetError) → Happens render w (events.SetMedia media) v (Err e) → IsQuiet w v
  refuses_media media e happens = quiet w v (subst (IsAside w) (sym happens.1) (as_before w))

  pub takes : (takes : Bool) → Happens render w (events.TakePuts takes) v tt → IsSameStore w v
  takes puts happens = subst (IsSameStore w) (sym happens) (record { site = refl; media = refl; puts = refl })
