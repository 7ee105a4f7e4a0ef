-- Answers of the tests, and the names of files that options give.
use Rattle.std.proofs.Common.{◌≡◌, ◌∙◌, ap, sym, subst, refl, codes, List, [], ◌∷◌, ◌++◌, Option, Some, None, Result, Ok, Err, Bool, true, false, ◌&&◌, if◌then◌else◌}
use Rattle.std.specs.Prelude.{IsErrAnd}
use Rattle.std.specs.Option.{option_map_or}
use Rattle.ut_base.specs.Names.{is_name}
use Rattle.ut_text.specs.Bytes.{Bytes}
use Rattle.ut_words.specs.declared.bad.WordsBad.{WordsBad}
use Rattle.ut_words.specs.declared.bad.WordsBad.TheVariants as bad
use Rattle.ut_words.specs.declared.order.UsageKind.{UsageKind}
use Rattle.ut_words.specs.declared.order.UsageKind.TheVariants as usage
use Rattle.ut_words.specs.Options.{a_file, options}
use Rattle.ut_words.specs.Reading.{Fails, Tests, names_of}
use Rattle.ut_words.specs.Said.{Said, given}
use Rattle.ut_words.specs.Words.{are_right, fits_if_given}

-- memory may always run out
pub exit_memory : {A : Type 0} (kind : UsageKind) (right : Bool) (value : A) (r : Result A WordsBad) → IsErrAnd r (λ e. e ≡ bad.Oom) → Tests kind right value r
exit_memory kind right value (Ok x) is = absurd is
exit_memory kind right value (Err e) is = subst (Fails kind right) (sym is) tt

-- where a part fails, so does the whole
pub exit_fails : {A : Type 0} (kind : UsageKind) (part right : Bool) (value : A) (r : Result A WordsBad) (e : WordsBad)
    → (part ≡ false → right ≡ false) → IsErrAnd r (λ x. x ≡ e) → Fails kind part e → Tests kind right value r
exit_fails kind part right value (Ok x) e whole is fails = absurd is
exit_fails kind part right value (Err x) e whole is fails = subst (Fails kind right) (sym is) (by e fails)
  where
    by : (b : WordsBad) → Fails kind part b → Fails kind right b
    by bad.Oom f = tt
    by (bad.Usage other) f = (f.0, whole f.1)

-- the options that name files, in the table's order
abbrev pub file_options : List Bytes
file_options =
    codes "-m" ∷ codes "--kconfig" ∷ codes "--rsf" ∷ codes "--kbuild" ∷ codes "--report" ∷ codes "--trace" ∷ codes "--white" ∷ codes "--black" ∷ []

abbrev pub all_fit : Said → List Bytes → Bool
all_fit said [] = true
all_fit said (name ∷ names) = fits_if_given a_file name said && all_fit said names

pub fails_among : (said : Said) (before after : List Bytes) (name : Bytes) → fits_if_given a_file name said ≡ false → all_fit said (before ++ name ∷ after) ≡ false
fails_among said [] after name fails = ap (λ b. b && all_fit said after) fails
fails_among said (other ∷ before) after name fails = by (fits_if_given a_file other said) (fails_among said before after name fails)
  where
    by : (b : Bool) → all_fit said (before ++ name ∷ after) ≡ false → (b && all_fit said (before ++ name ∷ after)) ≡ false
    by true h = h
    by false h = refl

-- one name
pub no_name_given : (said : Said) (option : Bytes) → None ≡ given option said → Tests usage.File (fits_if_given a_file option said) (given option said) (Ok None)
no_name_given said option none = (ap (λ o. option_map_or is_name o true) (sym none), none)

pub name_given : (said : Said) (option text : Bytes) (name : Bytes) → Some text ≡ given option said → Some name ≡ (if is_name text then Some text else None)
    → Tests usage.File (fits_if_given a_file option said) (given option said) (Ok (Some name))
name_given said option text name is named = by (is_name text) refl named
  where
    by : (b : Bool) → is_name text ≡ b → Some name ≡ (if b then Some text else None) → Tests usage.File (fits_if_given a_file option said) (given option said) (Ok (Some name))
    by true right e = (ap (λ o. option_map_or is_name o true) (sym is) ∙ right, e ∙ is)
    by false wrong e = absurd cc

pub no_name : (said : Said) (option text : Bytes) → Some text ≡ given option said → None ≡ (if is_name text then Some text else None)
    → Tests usage.File (fits_if_given a_file option said) (given option said) (Err (bad.Usage usage.File))
no_name said option text is named = by (is_name text) refl named
  where
    by : (b : Bool) → is_name text ≡ b → None ≡ (if b then Some text else None) → Tests usage.File (fits_if_given a_file option said) (given option said) (Err (bad.Usage usage.File))
    by true right e = absurd cc
    by false wrong e = (refl, ap (λ o. option_map_or is_name o true) (sym is) ∙ wrong)

-- all eight
pub all_named : (said : Said) (model kconfig rsf kbuild report trace white black : Option Bytes)
    → (fits_if_given a_file (codes "-m") said ≡ true) × (model ≡ given (codes "-m") said)
    → (fits_if_given a_file (codes "--kconfig") said ≡ true) × (kconfig ≡ given (codes "--kconfig") said)
    → (fits_if_given a_file (codes "--rsf") said ≡ true) × (rsf ≡ given (codes "--rsf") said)
    → (fits_if_given a_file (codes "--kbuild") said ≡ true) × (kbuild ≡ given (codes "--kbuild") said)
    → (fits_if_given a_file (codes "--report") said ≡ true) × (report ≡ given (codes "--report") said)
    → (fits_if_given a_file (codes "--trace") said ≡ true) × (trace ≡ given (codes "--trace") said)
    → (fits_if_given a_file (codes "--white") said ≡ true) × (white ≡ given (codes "--white") said)
    → (fits_if_given a_file (codes "--black") said ≡ true) × (black ≡ given (codes "--black") said)
    → Tests usage.File (are_right usage.File options said) (names_of said) (Ok (record { model = model; kconfig = kconfig; rsf = rsf; kbuild = kbuild; report = report; trace = trace; white = white; black = black }))
all_named said model kconfig rsf kbuild report trace white black m k r b p t w l = (
  rw (m.0, k.0, r.0, b.0, p.0, t.0, w.0, l.0) refl,
  rw (m.1, k.1, r.1, b.1, p.1, t.1, w.1, l.1) refl,
)
