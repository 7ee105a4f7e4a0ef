-- The texts of all folders, one after another.
use Rattle.std.proofs.Common.{◌≡◌, ◌∙◌, ◌≤◌, ◌+◌, ◌-◌, ◌^◌, ℕ, zero, suc, refl, sym, ap, subst, List, [], ◌∷◌, ◌++◌, length, map, Option, None, Some, Result, Ok, Err, Vec, arith}
use Rattle.std.specs.Prelude.{slice_get}
use Rattle.std.specs.Option.{option_map}
use Rattle.std.proofs.lemmas.List.{length_push}
use Rattle.std.specs.declared.alloc.Global.{Global}
use Rattle.ut_text.specs.Bytes.{Bytes}
use Rattle.ut_base.specs.Plans.{Plan, Gives, ◌then◌, plan}
use Rattle.ut_base.specs.Reading.{LeadsTo, Reads, Stand, Step}
use Rattle.ut_base.proofs.PlanLaws.{plan_on}
use Rattle.ut_base.proofs.ReadingLaws.{leads_end, reads_ok}
use Rattle.kbuild_folders.specs.Errors.{kbuild_errors}
use Rattle.kbuild_folders.specs.Folders.{after_next, folders_of, mentioned, most_folders, rest_plan, with_names}
use Rattle.kbuild_folders.specs.Texts.{folder_plan}
use Rattle.kbuild_folders.specs.declared.bad.KbuildBad.{KbuildBad}
use Rattle.kbuild_folders.specs.declared.bad.KbuildBad.TheVariants.{Oom}
use Rattle.kbuild_folders.specs.declared.texts.TextRead.{TextRead}
use Rattle.kbuild_folders.proofs.FolderLaws.{folders_of-push, items_of}
use Rattle.kbuild_folders.proofs.TextLaws.{lacking}

pub most_is : most_folders ≡ 2 ^ 64
unfolding most_folders
most_is = refl

-- the name at a place, as the code keeps it
pub get-items : (keys : List (Vec ℕ Global)) (i : ℕ) → slice_get (items_of keys) i ≡ option_map (λ name. name.items) (slice_get keys i)
get-items [] i = refl
get-items (k ∷ ks) zero = refl
get-items (k ∷ ks) (suc i) = get-items ks i

-- the folders after one more text
pub folders_more : (base : Bytes) (reads new : List TextRead) (text : TextRead) (folders now : List Bytes) → folders ≡ folders_of base reads → new ≡ reads ++ text ∷ []
    → now ≡ with_names folders (mentioned base text) → now ≡ folders_of base new
folders_more base reads new text folders now same more is =
    is ∙ (ap (λ f. with_names f (mentioned base text)) same ∙ (sym (folders_of-push base reads text) ∙ ap (folders_of base) (sym more)))

-- the plan of the texts that are left after these
abbrev pub left_after : Bytes → List TextRead → Plan (List TextRead) KbuildBad
left_after base reads = rest_plan base (most_folders + 1 - length reads) reads

-- the plan after the next folder
abbrev pub after_folder : Bytes → List TextRead → TextRead → Plan (List TextRead) KbuildBad
after_folder base reads text = rest_plan base (most_folders - length reads) (reads ++ text ∷ [])

pub first_left : (base : Bytes) (reads : List TextRead) (text : TextRead) → reads ≡ text ∷ [] → rest_plan base most_folders (text ∷ []) ≡ left_after base reads
first_left base reads text is =
    let one : length (text ∷ []) ≡ 1 = refl in
    let same : most_folders ≡ most_folders + 1 - length reads = omega (arith, ap length is, one) in
    ap (λ n. rest_plan base n (text ∷ [])) same ∙ ap (rest_plan base (most_folders + 1 - length reads)) (sym is)

pub more_left : (base : Bytes) (reads new : List TextRead) (text : TextRead) → new ≡ reads ++ text ∷ [] → after_folder base reads text ≡ left_after base new
more_left base reads new text is =
    let same : most_folders - length reads ≡ most_folders + 1 - length new = omega (arith, length_push reads text, ap length is) in
    ap (λ n. rest_plan base n (reads ++ text ∷ [])) same ∙ ap (rest_plan base (most_folders + 1 - length new)) (sym is)

at_suc : (base : Bytes) (reads : List TextRead) → length reads ≤ most_folders → left_after base reads ≡ rest_plan base (suc (most_folders - length reads)) reads
at_suc base reads le =
    let same : most_folders + 1 - length reads ≡ suc (most_folders - length reads) = omega (arith, le) in
    ap (λ n. rest_plan base n reads) same

-- the next folder, or none
at_next : (base : Bytes) (reads : List TextRead) (folders : List Bytes) (next : Option Bytes) → folders ≡ folders_of base reads → slice_get folders (length reads) ≡ next
    → length reads ≤ most_folders → left_after base reads ≡ after_next reads next (λ folder. folder_plan base folder then after_folder base reads)
at_next base reads folders next same is le =
    at_suc base reads le ∙ ap (λ o. after_next reads o (λ folder. folder_plan base folder then after_folder base reads)) (ap (λ f. slice_get f (length reads)) (sym same) ∙ is)

pub next_left : (base : Bytes) (reads : List TextRead) (folders : List Bytes) (folder : Bytes) → folders ≡ folders_of base reads → slice_get folders (length reads) ≡ Some folder
    → length reads ≤ most_folders → left_after base reads ≡ (folder_plan base folder then after_folder base reads)
next_left base reads folders folder same is le = at_next base reads folders (Some folder) same is le

pub none_left : (base : Bytes) (reads : List TextRead) (folders : List Bytes) → folders ≡ folders_of base reads → slice_get folders (length reads) ≡ None
    → length reads ≤ most_folders → left_after base reads ≡ Gives reads
none_left base reads folders same is le = at_next base reads folders None same is le

-- a plan that is another one
pub as_plan : {whole : Step (List TextRead) KbuildBad} {start here : Stand} {before u : ℕ} (p q : Plan (List TextRead) KbuildBad) → p ≡ q
    → LeadsTo whole start before (plan kbuild_errors p) here u → LeadsTo whole start before (plan kbuild_errors q) here u
as_plan {whole = whole} {start = start} {here = here} {before = before} {u = u} p q is led = subst (λ r. LeadsTo whole start before (plan kbuild_errors r) here u) is led

-- memory is wanting
pub lacks_out : {whole : Step (List TextRead) KbuildBad} {start here : Stand} {before u : ℕ} {r : Result (List TextRead) KbuildBad} (p : Plan (List TextRead) KbuildBad) → r ≡ Err Oom
    → LeadsTo whole start before (plan kbuild_errors p) here u → Reads whole start here before u r
lacks_out p is led = leads_end led (lacking p is)

-- no folder is left
pub all_read : {whole : Step (List TextRead) KbuildBad} {start here : Stand} {before u : ℕ} (reads : List TextRead)
    → LeadsTo whole start before (plan kbuild_errors (Gives reads)) here u → Reads whole start here before u (Ok reads)
all_read reads led = leads_end led (reads_ok refl)
