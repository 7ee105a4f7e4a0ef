-- The command as clap's definitions read it: one rule for each option that is built, and one for FILE.
use Rattle.std.specs.Prelude.{◌≡◌, ℕ, Some, true, false, codes}
use Rattle.clap.specs.Words.{App, Rule, new_app, new_rule, rule_of, with_rule}
use Rattle.clap.specs.declared.builder.action.ArgAction.TheVariants.{Set, Append, SetTrue}
use Rattle.clap.specs.declared.builder.arg.Arg.{Arg}
use Rattle.ut_text.specs.Bytes.{Bytes}

-- `-L VALUE`
abbrev pub short_rule : Bytes → ℕ → Rule
short_rule id letter = record (new_rule id) { short = Some letter; action = Some Set }

-- `--NAME VALUE`
abbrev pub long_rule : Bytes → Bytes → Rule
long_rule id name = record (new_rule id) { long = Some name; action = Some Set }

-- `--NAME`
abbrev pub flag_rule : Bytes → Bytes → Rule
flag_rule id name = record (new_rule id) { long = Some name; action = Some SetTrue }

-- any number of FILEs
abbrev pub file_rule : Rule
file_rule = record (new_rule (codes "FILE")) { action = Some Append }

-- the argument has this rule, at the command's own level alone
pub record IsOption (rule : Rule) (a : Arg) : Type 0 where
  pub rule_is : rule_of a ≡ rule
  pub own : a.global ≡ false

-- the command before its options
abbrev pub bare_app : App
bare_app = record (new_app (codes "undertaker")) {
  top = record (new_app (codes "undertaker")).top {
    no_binary_name = true;
    disable_help_flag = true;
    disable_version_flag = true;
  };
}

abbrev pub with_run : App → App
with_run a = with_rule (with_rule a (short_rule (codes "-j") 106)) (short_rule (codes "-t") 116)

abbrev pub with_kconfig : App → App
with_kconfig a = with_rule a (long_rule (codes "--kconfig") (codes "kconfig"))

abbrev pub with_kbuild : App → App
with_kbuild a = with_rule (with_rule a (long_rule (codes "--kbuild") (codes "kbuild"))) (long_rule (codes "--var") (codes "var"))

abbrev pub with_steps : App → App
with_steps a = with_rule a (long_rule (codes "--steps") (codes "steps"))

abbrev pub with_evidence : App → App
with_evidence a = with_rule a (flag_rule (codes "--evidence") (codes "evidence"))

abbrev pub with_settings : App → App
with_settings a = with_evidence (with_steps (with_kbuild (with_kconfig a)))

abbrev pub with_reports : App → App
with_reports a = with_rule (with_rule a (long_rule (codes "--report") (codes "report"))) (long_rule (codes "--trace") (codes "trace"))

abbrev pub with_lists : App → App
with_lists a = with_rule (with_rule a (long_rule (codes "--white") (codes "white"))) (long_rule (codes "--black") (codes "black"))

abbrev pub with_shape : App → App
with_shape a = with_rule (with_rule a (long_rule (codes "--style") (codes "style"))) (long_rule (codes "--size") (codes "size"))

-- the command
abbrev pub the_app : App
the_app = with_rule (with_shape (with_lists (with_reports (with_settings (with_run bare_app))))) file_rule
