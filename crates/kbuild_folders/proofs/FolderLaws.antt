-- The folders that texts name, text by text.
use Rattle.std.proofs.Common.{◌≡◌, ◌∙◌, ◌||◌, ◌<◌, ◌+◌, ℕ, Bool, true, false, if◌then◌else◌, refl, sym, ap, List, [], ◌∷◌, ◌++◌, map, length, drop, get_or, Vec, append_assoc, append-nil}
use Rattle.std.specs.List.{flat_map, list_any}
use Rattle.ut_base.proofs.ReadingLaws.{first_left}
use Rattle.kbuild_text.specs.declared.goals.Goal.{Goal}
use Rattle.kbuild_text.specs.declared.listings.Listing.{Listing}
use Rattle.std.specs.declared.alloc.Global.{Global}
use Rattle.ut_text.specs.Bytes.{Bytes}
use Rattle.ut_text.specs.Text.{text_eq}
use Rattle.kbuild_folders.specs.Folders.{folders_in, folders_listed, folders_of, mentioned, with_name, with_names}
use Rattle.kbuild_folders.specs.declared.texts.TextRead.{TextRead}

-- names, and then more names
pub with_names-append : (names xs ys : List Bytes) → with_names names (xs ++ ys) ≡ with_names (with_names names xs) ys
with_names-append names [] ys = refl
with_names-append names (x ∷ xs) ys = with_names-append (with_name names x) xs ys

flat_map-push : (f : TextRead → List Bytes) (ts : List TextRead) (t : TextRead) → flat_map f (ts ++ t ∷ []) ≡ flat_map f ts ++ f t
flat_map-push f [] t = append-nil (f t)
flat_map-push f (x ∷ ts) t = ap (λ l. f x ++ l) (flat_map-push f ts t) ∙ sym (append_assoc (f x) (flat_map f ts) (f t))

-- one more text
pub folders_of-push : (base : Bytes) (ts : List TextRead) (t : TextRead) → folders_of base (ts ++ t ∷ []) ≡ with_names (folders_of base ts) (mentioned base t)
folders_of-push base ts t = ap (with_names ([] ∷ [])) (flat_map-push (mentioned base) ts t) ∙ with_names-append ([] ∷ []) (flat_map (mentioned base) ts) (mentioned base t)

-- the folders of one more listing
pub mention_more : (base folder : Bytes) (before now : List Bytes) (listings : List Listing) (i : ℕ) (l : Listing) (goals : List Goal) (whole : List Bytes) → i < length listings
    → l ≡ get_or listings i l → goals ≡ l.goals → now ≡ with_names before (folders_in base folder goals) → with_names before (folders_listed base folder (drop i listings)) ≡ whole
    → with_names now (folders_listed base folder (drop (i + 1) listings)) ≡ whole
mention_more base folder before now listings i l goals whole lt at same is all =
    ap (λ n. with_names n (folders_listed base folder (drop (i + 1) listings))) (is ∙ ap (λ gs. with_names before (folders_in base folder gs)) same)
    ∙ (sym (with_names-append before (folders_in base folder l.goals) (folders_listed base folder (drop (i + 1) listings)))
    ∙ (ap (λ ls. with_names before (folders_listed base folder ls)) (sym (first_left listings i l lt at)) ∙ all))

-- ---- names as the code keeps them

abbrev pub items_of : List (Vec ℕ Global) → List Bytes
items_of keys = map (λ name. name.items) keys

any-items : (t : Bytes → Bool) (keys : List (Vec ℕ Global)) → list_any t (items_of keys) ≡ list_any (λ k. t k.items) keys
any-items t [] = refl
any-items t (k ∷ ks) = ap (λ b. t k.items || b) (any-items t ks)

push-items : (keys : List (Vec ℕ Global)) (v : Vec ℕ Global) → items_of (keys ++ v ∷ []) ≡ items_of keys ++ v.items ∷ []
push-items [] v = refl
push-items (k ∷ ks) v = ap (λ l. k.items ∷ l) (push-items ks v)

-- one more name
pub added : (keys new : List (Vec ℕ Global)) (v : Vec ℕ Global) → new ≡ (if list_any (λ k. text_eq v.items k.items) keys then keys else keys ++ v ∷ [])
    → items_of new ≡ with_name (items_of keys) v.items
added keys new v is =
    ap items_of is ∙ (by (list_any (λ k. text_eq v.items k.items) keys)
    ∙ ap (λ b. if b then items_of keys else items_of keys ++ v.items ∷ []) (sym (any-items (text_eq v.items) keys)))
  where
    by : (b : Bool) → items_of (if b then keys else keys ++ v ∷ []) ≡ (if b then items_of keys else items_of keys ++ v.items ∷ [])
    by true = refl
    by false = push-items keys v
