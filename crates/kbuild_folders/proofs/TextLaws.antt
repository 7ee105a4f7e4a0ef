-- What the text of a folder comes to: a value, or a refusal for what the text says.
use Rattle.std.proofs.Common.{◌≡◌, ◌⊎◌, ℕ, Result, Ok, Err, Option, None, Some, List, subst}
use Rattle.ut_text.specs.Bytes.{Bytes}
use Rattle.ut_base.specs.Plans.{Plan, plan}
use Rattle.ut_base.specs.Reading.{IsOwnOrOk, Reads, Stand}
use Rattle.ut_base.proofs.PlanLaws.{lacks_plan, reads_result}
use Rattle.ut_base.proofs.ReadingLaws.{reads_memory}
use Rattle.kbuild_text.specs.Listings.{listings_in}
use Rattle.kbuild_text.specs.declared.listings.Listing.{Listing}
use Rattle.kbuild_folders.specs.Errors.{kbuild_errors}
use Rattle.kbuild_folders.specs.Texts.{asked, kbuild_or_plan, named_plan, read_as, taken, text_read, unread}
use Rattle.kbuild_folders.specs.declared.bad.KbuildBad.{KbuildBad}
use Rattle.kbuild_folders.specs.declared.bad.KbuildBad.TheVariants.{Oom}
use Rattle.kbuild_folders.specs.declared.texts.TextRead.{TextRead}

own_as : (folder file : Bytes) (r : Result (List Listing) ℕ) → IsOwnOrOk kbuild_errors (read_as folder file r)
own_as folder file (Ok listings) = tt
own_as folder file (Err line) = tt

pub text_read_own : (folder file bytes : Bytes) → IsOwnOrOk kbuild_errors (text_read folder file bytes)
text_read_own folder file bytes = own_as folder file (listings_in bytes)

-- want of memory before the first read
pub lacking : {A : Type 0} {a : Stand} {u : ℕ} {r : Result A KbuildBad} (p : Plan A KbuildBad) → r ≡ Err Oom → Reads (plan kbuild_errors p) a a u u r
lacking p is = rw is (reads_memory (lacks_plan p))

module _ {a b : Stand} {u n : ℕ} {r : Result TextRead KbuildBad} where
  -- a `Makefile` with a name is taken
  pub taken_named : (folder : Bytes) (found : Option Bytes) (name : Bytes) → Some name ≡ found → Reads (plan kbuild_errors (named_plan folder name)) a b u n r
      → Reads (plan kbuild_errors (taken folder found)) a b u n r
  taken_named folder found name is h = subst (λ f. Reads (plan kbuild_errors (taken folder f)) a b u n r) is h

  -- a `Kbuild` with a name is asked for
  pub asked_named : (base folder : Bytes) (found : Option Bytes) (name : Bytes) → Some name ≡ found → Reads (plan kbuild_errors (kbuild_or_plan base folder name)) a b u n r
      → Reads (plan kbuild_errors (asked base folder found)) a b u n r
  asked_named base folder found name is h = subst (λ f. Reads (plan kbuild_errors (asked base folder f)) a b u n r) is h

module _ {a : Stand} {u : ℕ} {r : Result TextRead KbuildBad} where
  -- without a name nothing is read
  pub taken_unnamed : (folder : Bytes) (found : Option Bytes) → None ≡ found → (r ≡ unread folder) ⊎ (r ≡ Err Oom) → Reads (plan kbuild_errors (taken folder found)) a a u u r
  taken_unnamed folder found is h = subst (λ f. Reads (plan kbuild_errors (taken folder f)) a a u u r) is (reads_result kbuild_errors (unread folder) tt h)

  pub asked_unnamed : (base folder : Bytes) (found : Option Bytes) → None ≡ found → (r ≡ unread folder) ⊎ (r ≡ Err Oom)
      → Reads (plan kbuild_errors (asked base folder found)) a a u u r
  asked_unnamed base folder found is h = subst (λ f. Reads (plan kbuild_errors (asked base folder f)) a a u u r) is (reads_result kbuild_errors (unread folder) tt h)
