-- The world that a hub stands for, and one function of it for each call.
use Rattle.std.specs.Prelude.{◌≡◌, ℕ, List, ◌+◌, ◌^◌, ◌-◌, Bool, true, nat_lt, nat_le, not, ◌&&◌, ◌||◌, false, MatchBool, Option, Some, None}
use Rattle.std.specs.Prelude.{is_some, option_map, Result, Ok, Err, if◌then◌else◌, refl}
use Rattle.std.specs.Coded.{Coded, code_by, coded×, coded_bool, coded_list, coded_option, coded_ℕ}
use Rattle.std.specs.FinMap as map
use Rattle.std.specs.List.{list_all}
use Rattle.doc_store_readers.specs.declared.reader.Reader.{Reader}
use Rattle.doc_store_readers.specs.Pages.{page_code}
use Rattle.doc_store_readers.specs.Sites.{Site, empty_site, site_code, view_of}
use Rattle.doc_media.specs.Media.{Media, beside_of}
use Rattle.doc_store_readers.specs.Readers.{ReaderTable, find_in, set_reader, without_reader}
use Rattle.doc_store.specs.Names.{is_name}
use Rattle.doc_store.specs.Store.{StoreState, aliases_after, fits_in, move_fits, moved_by, put_by, without_page}
use Rattle.doc_store.specs.declared.moving.MoveError.{MoveError}
use Rattle.doc_store_readers.specs.declared.readers.ReaderError.{ReaderError}
use Rattle.doc_store_readers.specs.declared.readers.Set.{Set}
use Rattle.doc_store.specs.declared.store.EditError.{EditError}
use Rattle.doc_store.specs.declared.store.EditError.TheVariants as edit_errors
use Rattle.doc_store.specs.declared.store.Put.{Put}
use Rattle.doc_http.specs.Passwords.{token_in}
use Rattle.doc_shelf_pages.specs.Views.{report_body}
use Rattle.doc_http.specs.Requests.{IsNext}
use Rattle.doc_http.specs.declared.request.Request.{Request}
use Rattle.doc_http.specs.declared.request.Next.{Next}
use Rattle.doc_http.specs.declared.request.Next.TheVariants as nexts
use Rattle.doc_hub.specs.Connections.{Connections, new_connection, pushed, finished}
use Rattle.doc_hub_replies.specs.Edits.{puts_taken, store_after}
use Rattle.doc_hub_replies.specs.Replies.{Renders, fault_bytes}
use Rattle.doc_hub_asking.specs.Asking.{Asking, login_of, reader_asking, row_of}
use Rattle.doc_hub_replies.specs.TakingEdits.{answer_given}
use Rattle.doc_people.specs.declared.settings.Settings.{Settings}
use Rattle.doc_hub_replies.specs.Answer.{Answer}
use Rattle.doc_hub.specs.declared.connection.Connection.{Connection}
use Rattle.doc_hub_events.specs.declared.event.ConnId.{ConnId}
use Rattle.doc_hub_events.specs.declared.event.Step.{Step}
use Rattle.doc_hub_events.specs.declared.event.Step.TheVariants as steps
use Rattle.doc_hub_events.specs.declared.refusal.HubError.{HubError}
use Rattle.doc_hub_events.specs.declared.refusal.HubError.TheVariants as hub_errors
use Rattle.doc_hub_events.specs.declared.refusal.ConnectError.{ConnectError}
use Rattle.doc_hub_events.specs.declared.refusal.ConnectError.TheVariants as connect_errors
use Rattle.doc_hub_events.specs.declared.refusal.MediaSetError.{MediaSetError}
use Rattle.doc_hub_events.specs.declared.refusal.MediaSetError.TheVariants as media_errors
use Rattle.doc_hub_events.specs.declared.refusal.PushError.{PushError}
use Rattle.doc_hub_events.specs.declared.refusal.StepError.{StepError}
use Rattle.doc_hub_events.specs.declared.refusal.StepError.TheVariants as step_errors

-- the site, its media, how many puts and moves were accepted, whether puts are taken, the readers, the settings, the number of connections
-- given, and the connections by number; no reply knows the stamp of a page
pub record World : Type 0 where
  pub site : Site
  pub media : Media
  pub puts : ℕ
  pub takes_puts : Bool
  pub readers : ReaderTable
  pub settings : Settings
  pub given : ℕ
  pub connections : Connections

abbrev pub media_code : Coded Media
media_code = coded_option (map.code (coded_list coded_ℕ) page_code)

-- a world as its parts, which tell worlds apart
abbrev pub world_code : Coded ReaderTable → Coded Settings → Coded Connection → Coded World
world_code readers settings one =
    code_by (Site × (Media × (ℕ × (Bool × (ReaderTable × (Settings × (ℕ × Connections)))))))
    (coded× site_code (coded× media_code (coded× coded_ℕ (coded× coded_bool (coded× readers (coded× settings (coded× coded_ℕ (map.code
    coded_ℕ one))))))))
    (λ w. (w.site, (w.media, (w.puts, (w.takes_puts, (w.readers, (w.settings, (w.given, w.connections))))))))
    (λ p. record {
      site = p.0;
      media = p.1.0;
      puts = p.1.1.0;
      takes_puts = p.1.1.1.0;
      readers = p.1.1.1.1.0;
      settings = p.1.1.1.1.1.0;
      given = p.1.1.1.1.1.1.0;
      connections = p.1.1.1.1.1.1.1;
    }) (λ _. refl)

-- a server without pages and connections, which takes puts
abbrev pub new_world : ReaderTable → Settings → Media → World
new_world readers settings media = record {
  site = empty_site;
  media = media;
  puts = 0;
  takes_puts = true;
  readers = readers;
  settings = settings;
  given = 0;
  connections = map.empty;
}

-- the settings of a server without pages for people, which takes edits
abbrev pub plain_settings : Bool → Settings
plain_settings keep_alive = record { keep_alive = keep_alive; takes_edits = true; browse = None }

-- the capacities that a cache may have; this project's choice
abbrev pub is_capacity : ℕ → Bool
is_capacity n = nat_le 1 n && nat_le n 4096

-- the renderer and the world of a new hub
abbrev pub hub_made : {R : Type 0} → R → ReaderTable → Settings → Media → ℕ → Result (R × World) HubError
hub_made renderer readers settings media capacity =
    if is_capacity capacity then Ok (renderer, new_world readers settings media) else Err hub_errors.BadCapacity

unfoldable pub last_id : ℕ
last_id = 2 ^ 64 - 1

-- one more connection
abbrev pub connected : World → World × Result ConnId ConnectError
connected w =
    if nat_lt w.given last_id
    then (
      record w { given = w.given + 1; connections = map.insert w.connections (w.given + 1) new_connection },
      Ok
          (record { 0 = w.given + 1 }),
    )
    else (w, Err connect_errors.NoIds)

-- more unread bytes on a connection
abbrev pub world_pushed : World → ℕ → List ℕ → World × Result (Unit {0}) PushError
world_pushed w id bytes = let r = pushed w.connections id bytes in (record w { connections = r.0 }, r.1)

-- a connection is dropped, and whether there was one; its number stays given
abbrev pub disconnected : World → ℕ → World × Bool
disconnected w id = (record w { connections = map.remove w.connections id }, map.contains_key w.connections id)

-- who asks
abbrev pub asking_of : World → Request → Asking
asking_of w request = reader_asking w.settings.browse w.readers request

-- the token that a request has
abbrev pub token_of : World → Request → Option (List ℕ)
token_of w request = token_in (login_of w.settings.browse) request.authorization

-- the reader of a request: the entry of who asks
abbrev pub reader_of : World → Request → Option Reader
reader_of w request = row_of (asking_of w request)

-- the answer to a request, from what its reader may see of the site and of its media
abbrev pub answer_in : Renders → World → Request → Answer
answer_in render w request =
    answer_given w.settings render (view_of w.site (reader_of w request)) (beside_of w.media (reader_of w request)) (asking_of w request)
    (puts_taken w.takes_puts w.puts) request

-- the world's site and puts as a store's, whose edits are the world's: which stamps its pages have changes nothing else, so they have none
abbrev pub store_of : World → StoreState
store_of w = record { site = w.site; stamps = map.empty; puts = w.puts }

abbrev pub with_store : World → StoreState → World
with_store w store = record w { site = store.site; puts = store.puts }

-- the world after the edit of a request
abbrev pub world_after : World → Request → Answer → World
world_after w request a = with_store w (store_after (store_of w) request.body a.edit)

abbrev pub step_said : Bool → List ℕ → Step
step_said closes bytes = if closes then steps.Last bytes else steps.Sent bytes

abbrev pub with_finished : World → ℕ → Connection → ℕ → Bool → World
with_finished w id c used closes = record w { connections = map.insert w.connections id (finished c used closes) }

-- a step of an open connection, by what its unread bytes begin with
abbrev pub stepped_by : Renders → World → ℕ → Connection → Next → World × Result Step StepError
stepped_by render w id c nexts.More = (w, Ok steps.More)
stepped_by render w id c (nexts.Fault code bare) = (with_finished w id c 0 true, Ok (steps.Last (fault_bytes code bare)))
stepped_by render w id c (nexts.Request used request) =
    let a = answer_in render w request in (with_finished (world_after w request a) id c used a.closes, Ok (step_said a.closes a.bytes))

-- the answer is this one, and nothing changes
abbrev pub Stays : World → Result Step StepError → World → Result Step StepError → Type 0
Stays old said new result = (new ≡ old) × (result ≡ said)

-- A step of an open connection is by the one thing that its unread bytes begin with. Where that is a
-- request or a fault memory may run out, and then nothing changes.
abbrev pub Answers : Renders → World → ℕ → World → Result Step StepError → Connection → Type 0
Answers render old id new (Err step_errors.Memory) c =
    (new ≡ old) × ((next : Next) × IsNext c.unread next × ¬ (next ≡ nexts.More))
Answers render old id new result c =
    (next : Next) × IsNext c.unread next × ◌≡◌ {A = World × Result Step StepError} (stepped_by render old id c next) (new, result)

-- A step: of a number that has no connection, of a closed connection, or of an open one.
abbrev pub StepsAt : Renders → World → ℕ → World → Result Step StepError → Option Connection → Type 0
StepsAt render old id new result None = Stays old (Err step_errors.NoConnection) new result
StepsAt render old id new result (Some c) =
    MatchBool c.closed (Stays old (Ok steps.Closed) new result) (Answers render old id new result c)

abbrev pub Steps : Renders → World → ℕ → World → Result Step StepError → Type 0
Steps render old id new result = StepsAt render old id new result (map.get old.connections id)

-- ---- media

-- whether a medium stands under a path, seen or not
abbrev pub has_medium : Media → List ℕ → Bool
has_medium None path = false
has_medium (Some held) path = map.contains_key held path

-- whether of some paths none is a page's, and none is an alias
abbrev pub are_no_names : Site → List (List ℕ) → Bool
are_no_names site paths = list_all (λ path. not (is_name site path)) paths

-- whether no path of a medium is a page's or an alias
abbrev pub are_apart : Site → Media → Bool
are_apart site None = true
are_apart site (Some held) = are_no_names site (map.keys held)

-- No path is both a medium's and a page's, nor a medium's and an alias.
pub record IsApart (site : Site) (media : Media) : Type 0 where
  pub pages : (path : List ℕ) → has_medium media path ≡ true → map.contains_key site.pages path ≡ false
  pub aliases : (path : List ℕ) → has_medium media path ≡ true → map.contains_key site.aliases path ≡ false

-- ---- edits of the site and of the readers, as the store makes them: whether puts are taken, requests alone ask

-- whether a put of a text under a path is refused: first where a medium stands there
abbrev pub may_put : Media → StoreState → List ℕ → List ℕ → Result (Unit {0}) EditError
may_put media store path text = if has_medium media path then Err edit_errors.Taken else fits_in store path text

-- the store after a put of a page beside media, and the answer
abbrev pub put_beside : Media → StoreState → List ℕ → List (List ℕ) → List ℕ → StoreState × Result Put EditError
put_beside media store path groups text =
    put_by store path (record { groups = groups; text = text }) (map.contains_key store.site.pages path) (may_put media store path text)

-- whether a move from one path to another is refused: the new path is taken where a page or a medium stands there
abbrev pub may_move_beside : Media → StoreState → List ℕ → List ℕ → Result (Unit {0}) MoveError
may_move_beside media store from to =
    move_fits (map.contains_key store.site.pages from) (map.contains_key store.site.pages to || has_medium media to)
    (map.len (aliases_after store.site.aliases from to)) store.puts

-- the store after a move beside media, and the answer
abbrev pub moved_beside : Media → StoreState → List ℕ → List ℕ → StoreState × Result (Unit {0}) MoveError
moved_beside media store from to = moved_by store from to (may_move_beside media store from to)

-- a put of a page with these groups and this text under a path
abbrev pub world_put : World → List ℕ → List (List ℕ) → List ℕ → World × Result Put EditError
world_put w path groups text = let r = put_beside w.media (store_of w) path groups text in (with_store w r.0, r.1)

-- the page of a path is removed, and whether one stood there
abbrev pub world_removed : World → List ℕ → World × Bool
world_removed w path = (with_store w (without_page (store_of w) path), map.contains_key w.site.pages path)

-- a move of the page of one path to another
abbrev pub world_moved : World → List ℕ → List ℕ → World × Result (Unit {0}) MoveError
world_moved w from to = let r = moved_beside w.media (store_of w) from to in (with_store w r.0, r.1)

-- the reader of a token is set
abbrev pub world_reader_set : World → List ℕ → Reader → World × Result Set ReaderError
world_reader_set w token reader = let r = set_reader w.readers token reader in (record w { readers = r.0 }, r.1)

-- the reader of a token is removed, and whether there was one
abbrev pub world_reader_removed : World → List ℕ → World × Bool
world_reader_removed w token = (record w { readers = without_reader w.readers token }, is_some (find_in w.readers token))

-- the readers are these, and no others
abbrev pub world_readers_set : World → ReaderTable → World × Result (Unit {0}) ReaderError
world_readers_set w readers = (record w { readers = readers }, Ok tt)

-- the same beside these media
abbrev pub with_media : World → Media → World
with_media w media = record w { media = media }

-- the media are these, unless one of them has a path of the site's
abbrev pub world_media_set : World → Media → World × Result (Unit {0}) MediaSetError
world_media_set w media = if are_apart w.site media then (with_media w media, Ok tt) else (w, Err media_errors.Taken)

-- from here on owners' puts are taken, or none is
abbrev pub world_taking : World → Bool → World
world_taking w takes = record w { takes_puts = takes }

-- ---- what owners and editors ask for without a request

-- the broken links of what the reader of a token sees, where there is such a reader: as lines of text
abbrev pub report_in : Renders → World → List ℕ → Option (List ℕ)
report_in render w token =
    option_map (λ reader. report_body render (view_of w.site (Some reader)) (beside_of w.media (Some reader))) (find_in w.readers token)
