-- The entries of the navigation, one by one and as a list.
use Rattle.std.proofs.Common.{◌≡◌, ℕ, List, [], ◌∷◌, ◌++◌, Bool, true, false, refl, ap, ◌∙◌}
use Rattle.std.specs.Prelude.{bytes_eq, filter, not, Option, if◌then◌else◌}
use Rattle.std.specs.List.{flat_map}
use Rattle.doc_store_readers.specs.Sites.{View}
use Rattle.doc_people.specs.Folders.{folder_href, folder_label, index_of, is_folder, keys, label, page_href}
use Rattle.doc_people.specs.Lines.{folder_item, item, link, link_or_current, listed}
use Rattle.doc_people.specs.Navigation.{all_line, folder_at, is_at, is_cut, tree_item, tree_items, tree_keys, window}
use Rattle.doc_people.specs.Views.{Renders}
use Rattle.doc_people_shell.specs.Items.{all_line_if, listed_if, shown_item}

-- where it is left out, and where it stands
one_more : {X : Type 0} (f : X → List ℕ) (key : X) (rest : List X) (t : Bool)
    → (if t then [] else f key) ++ flat_map f rest ≡ flat_map f (if not t then key ∷ rest else rest)
one_more f key rest true = refl
one_more f key rest false = refl

-- those that are left are written
left_out : (f : List ℕ → List ℕ) (index : List ℕ) (keys : List (List ℕ))
    → flat_map (λ key. if bytes_eq key index then [] else f key) keys ≡ flat_map f (filter (λ key. not (bytes_eq key index)) keys)
left_out f index [] = refl
left_out f index (key ∷ keys) =
    ap (λ l. (if bytes_eq key index then [] else f key) ++ l) (left_out f index keys)
    ∙ one_more f key (filter (λ k. not (bytes_eq k index)) keys) (bytes_eq key index)

-- an entry isn't empty
begun : (t : Bool) (a b rest : List ℕ)
    → listed_if ((if t then folder_item a else item b) ++ rest) ≡ listed ((if t then folder_item a else item b) ++ rest)
begun true a b rest = refl
begun false a b rest = refl

listed_items : (render : Renders) (view : View) (at : Option (List ℕ)) (keys : List (List ℕ))
    → listed_if (flat_map (tree_item render view at) keys) ≡ tree_items render view at keys
listed_items render view at [] = refl
listed_items render view at (key ∷ keys) =
    begun (is_folder key) (link (folder_href view key) (folder_label render view key))
    (link_or_current (page_href key) (is_at at key) (label render view key)) (flat_map (tree_item render view at) keys)

pub items_are : (render : Renders) (view : View) (at : Option (List ℕ)) (shown : List (List ℕ))
    → shown ≡ window at (keys view (folder_at at))
    → listed_if (flat_map (shown_item render view at (index_of (folder_at at))) shown) ≡ tree_items render view at (tree_keys view at)
items_are render view at shown is =
    ap (λ l. listed_if (flat_map (shown_item render view at (index_of (folder_at at))) l)) is
    ∙ ap listed_if (left_out (tree_item render view at) (index_of (folder_at at)) (window at (keys view (folder_at at))))
    ∙ listed_items render view at (tree_keys view at)

-- what stands in the folder, and the link to all of it
pub keys_written : (render : Renders) (view : View) (at : Option (List ℕ)) (old mid new : List ℕ) (shown : List (List ℕ)) (cut : Bool)
    (folder : List ℕ)
    → mid ≡ old ++ listed_if (flat_map (shown_item render view at (index_of (folder_at at))) shown) → new ≡ mid ++ all_line_if cut folder
    → shown ≡ window at (keys view (folder_at at)) → cut ≡ is_cut at (keys view (folder_at at)) → folder ≡ folder_at at
    → new ≡ old ++ tree_items render view at (tree_keys view at) ++ all_line at (folder_at at) (keys view (folder_at at))
keys_written render view at old mid new shown cut folder items all is more same =
    all ∙ ap (λ l. l ++ all_line_if cut folder) (items ∙ ap (λ l. old ++ l) (items_are render view at shown is))
    ∙ ap (λ t. (old ++ tree_items render view at (tree_keys view at)) ++ all_line_if t folder) more
    ∙ ap (λ f. (old ++ tree_items render view at (tree_keys view at)) ++ all_line_if (is_cut at (keys view (folder_at at))) f) same
