-- The order of words from what they say, test by test.
use Rattle.std.proofs.Common.{◌≡◌, ◌∙◌, ap, sym, subst, refl, codes, List, [], ◌∷◌, Option, Some, None, Result, Ok, Err, IfOk, Bool, true, false, ◌&&◌, Bor, option_map, unwrap_or}
use Rattle.std.specs.Prelude.{IsErrAnd}
use Rattle.std.specs.Option.{IsSomeAnd}
use Rattle.clap.specs.declared.parser.matches.ArgMatches.{ArgMatches}
use Rattle.ut_text.specs.Bytes.{Bytes}
use Rattle.ut_words.specs.declared.bad.WordsBad.{WordsBad}
use Rattle.ut_words.specs.declared.bad.WordsBad.TheVariants as bad
use Rattle.ut_words.specs.declared.order.Job.{Job}
use Rattle.ut_words.specs.declared.order.Job.TheVariants as job
use Rattle.ut_words.specs.declared.order.Order.{Order}
use Rattle.ut_words.specs.declared.order.UsageKind.{UsageKind}
use Rattle.ut_words.specs.declared.order.UsageKind.TheVariants as usage
use Rattle.kconf_entries.specs.declared.entries.Var.{Var}
use Rattle.std.specs.Option.{option_map_or}
use Rattle.ut_words.specs.declared.names.Names.{Names}
use Rattle.ut_words.specs.declared.numbers.Numbers.{Numbers}
use Rattle.ut_words.specs.declared.order.Style.{Style}
use Rattle.ut_words.specs.declared.order.Style.TheVariants as style_kind
use Rattle.ut_words.specs.Jobs.{job_named, jobs, row_of}
use Rattle.ut_words.specs.Options.{options}
use Rattle.ut_words.specs.Reading.{Answers, Fails, Reads, names_of, numbers_of}
use Rattle.ut_words.specs.Said.{Said, given, is_given, said_by}
use Rattle.ut_words.specs.Values.{vars_of}
use Rattle.ut_words.specs.Words.{are_right, are_sources, first_failed, order, order_for, order_of, order_said, order_unless, style_of}

-- the order, by the five tests in order
abbrev pub answered : Bool → Bool → Bool → Bool → Bool → Order → Result Order UsageKind
answered number style var needs file o =
    order_unless (first_failed ((usage.Number, number) ∷ (usage.Style, style) ∷ (usage.Var, var) ∷ (usage.Needs, needs) ∷ (usage.File, file) ∷ [])) o

-- the name of the job
job_name : (said : Said) (found : Option (Bor Bytes)) (dead name : Bor Bytes) → name ≡ unwrap_or found dead → option_map (λ v. v.now) found ≡ given (codes "-j") said → dead.now ≡ codes "dead"
    → name.now ≡ unwrap_or (given (codes "-j") said) (codes "dead")
job_name said (Some v) dead name is same dead_is = ap (λ (b : Bor Bytes). b.now) is ∙ ap (λ g. unwrap_or g (codes "dead")) same
job_name said None dead name is same dead_is = ap (λ (b : Bor Bytes). b.now) is ∙ dead_is ∙ ap (λ g. unwrap_or g (codes "dead")) same

-- what is answered for a job that is built
pub order_is : (said : Said) (found : Option (Bor Bytes)) (dead name : Bor Bytes) (j : Job) → name ≡ unwrap_or found dead → option_map (λ v. v.now) found ≡ given (codes "-j") said → dead.now ≡ codes "dead"
    → job_named jobs name.now ≡ Some (row_of j)
    → order_said options jobs (Some said)
    ≡ answered (are_right usage.Number options said) (are_right usage.Style options said) (are_right usage.Var options said) ((row_of j).needs said)
    (are_right usage.File options said && are_sources said.files) (order (row_of j).job said)
order_is said found dead name j is same dead_is named =
    ap (λ n. order_for options said (job_named jobs n)) (sym (job_name said found dead name is same dead_is)) ∙ ap (order_for options said) named

pub at_number : (a b c d e : Bool) (o : Order) → a ≡ false → answered a b c d e o ≡ Err usage.Number
at_number a b c d e o p = rw p refl

pub at_style : (a b c d e : Bool) (o : Order) → a ≡ true → b ≡ false → answered a b c d e o ≡ Err usage.Style
at_style a b c d e o p q = rw (p, q) refl

pub at_var : (a b c d e : Bool) (o : Order) → a ≡ true → b ≡ true → c ≡ false → answered a b c d e o ≡ Err usage.Var
at_var a b c d e o p q r = rw (p, q, r) refl

pub at_needs : (a b c d e : Bool) (o : Order) → a ≡ true → b ≡ true → c ≡ true → d ≡ false → answered a b c d e o ≡ Err usage.Needs
at_needs a b c d e o p q r s = rw (p, q, r, s) refl

pub at_names : (a b c d e f : Bool) (o : Order) → a ≡ true → b ≡ true → c ≡ true → d ≡ true → e ≡ false → answered a b c d (e && f) o ≡ Err usage.File
at_names a b c d e f o p q r s t = rw (p, q, r, s, t) refl

pub at_files : (a b c d e f : Bool) (o : Order) → a ≡ true → b ≡ true → c ≡ true → d ≡ true → e ≡ true → f ≡ false → answered a b c d (e && f) o ≡ Err usage.File
at_files a b c d e f o p q r s t u = rw (p, q, r, s, t, u) refl

pub at_order : (a b c d e f : Bool) (o : Order) → a ≡ true → b ≡ true → c ≡ true → d ≡ true → e ≡ true → f ≡ true → answered a b c d (e && f) o ≡ Ok o
at_order a b c d e f o p q r s t u = rw (p, q, r, s, t, u) refl

-- the row of a job is that of this job
pub job_back : (j : Job) → (row_of j).job ≡ j
job_back job.Dead = refl
job_back job.Coverage = refl
job_back job.Check = refl
job_back job.Tailor = refl
job_back job.Dumpconf = refl
job_back job.Model = refl
job_back job.Golem = refl
job_back job.Generate = refl

-- a test that fails is answered by its kind
pub fails_by : (kind : UsageKind) (right : Bool) (X : Result Order UsageKind) (r : Result Order WordsBad) (e : WordsBad) → IsErrAnd r (λ x. x ≡ e) → Fails kind right e
    → (right ≡ false → X ≡ Err kind) → Answers r X
fails_by kind right X (Ok o) e is fails then = absurd is
fails_by kind right X (Err x) e is fails then = subst (λ b. Answers (Err b) X) (sym is) (by e fails)
  where
    by : (b : WordsBad) → Fails kind right b → Answers (Err b) X
    by bad.Oom f = tt
    by (bad.Usage other) f = then f.1 ∙ ap (λ (k : UsageKind). Err k) (sym f.0)

-- the answer for what the words say is the answer for the words
pub answers_words : (words texts : List Bytes) (r : Result Order WordsBad) (m : ArgMatches) → texts ≡ words → IsSomeAnd (said_by options texts) (λ s. Reads s m)
    → ((said : Said) → Reads said m → Answers r (order_said options jobs (Some said))) → Answers r (order_of words)
answers_words words texts r m same says answers = subst (λ ws. Answers r (order_said options jobs (said_by options ws))) same (by (said_by options texts) says)
  where
    by : (o : Option Said) → IsSomeAnd o (λ s. Reads s m) → Answers r (order_said options jobs o)
    by (Some s) h = answers s h
    by None h = absurd h

pub ok_of : (r : Result Order WordsBad) (X : Result Order UsageKind) → Answers r X → IfOk r (λ o. X ≡ Ok o)
ok_of (Ok o) X h = h
ok_of (Err e) X h = tt

pub usage_of : (r : Result Order WordsBad) (X : Result Order UsageKind) → Answers r X → (kind : UsageKind) → r ≡ Err (bad.Usage kind) → X ≡ Err kind
usage_of r X h kind e = subst (λ x. Answers x X) e h

-- the order that is made is the one that is said
pub same_order : (said : Said) (j : Job) (numbers : Numbers) (names : Names) (style : Style) (vars : List Var) (files : List Bytes) (evidence : Bool)
    → numbers ≡ numbers_of said → names ≡ names_of said → style ≡ option_map_or style_of (given (codes "--style") said) style_kind.Simple
    → vars ≡ option_map_or vars_of (given (codes "--var") said) [] → files ≡ said.files → evidence ≡ is_given said (codes "--evidence")
    → order (row_of j).job said
    ≡ record {
      job = j;
      model = names.model;
      workers = numbers.workers;
      kconfig = names.kconfig;
      rsf = names.rsf;
      kbuild = names.kbuild;
      vars = vars;
      steps = numbers.steps;
      evidence = evidence;
      report = names.report;
      trace = names.trace;
      white = names.white;
      black = names.black;
      style = style;
      size = numbers.size;
      files = files;
    }
same_order said j numbers names style vars files evidence n m s v f e = rw (n, m, s, v, f, e, job_back j) refl
