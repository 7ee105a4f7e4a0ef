-- What an attribute does where its entry is taken out first and put back afterwards.
use Rattle.std.proofs.Common.{◌≡◌, ◌∙◌, refl, sym, ap, Option, Some, None}
use Rattle.ut_text.specs.Bytes.{Bytes}
use Rattle.kconf_entries.specs.declared.entries.Kind.{Kind}
use Rattle.kconf_statements.specs.declared.lines.ConfigLine.{ConfigLine}
use Rattle.kconf_statements.specs.declared.lines.ChoiceLine.{ChoiceLine}
use Rattle.kconf_progress.specs.declared.open_entries.ConfigLines.{ConfigLines}
use Rattle.kconf_progress.specs.declared.open_entries.ChoiceLines.{ChoiceLines}
use Rattle.kconf_progress.specs.declared.open_entries.OpenEntry.{OpenEntry}
use Rattle.kconf_progress.specs.declared.open_entries.OpenEntry.TheVariants as open_entry
use Rattle.kconf_progress.specs.OpenEntries.{config_with, type_in}
use Rattle.kconf_progress.specs.Kept.{Kept, noted, of_config, of_choice, config_line, choice_line, config_in, choice_in, without_config, without_choice}

noted_apart : (p : Kept) (e x : OpenEntry) (name : Bytes) (k : Option Kind) → record (noted (record p { entry = e }) name k) { entry = x } ≡ record (noted p name k) { entry = x }
noted_apart p e x name None = refl
noted_apart p e x name (Some k) = refl

config_apart : (p : Kept) (e : OpenEntry) (c : ConfigLines) (a : ConfigLine) → of_config (record p { entry = e }) c a ≡ of_config p c a
config_apart p e c a = noted_apart p e (open_entry.Config (config_with c a)) c.name (type_in a)

choice_apart : (p : Kept) (e : OpenEntry) (c : ChoiceLines) (a : ChoiceLine) → of_choice (record p { entry = e }) c a ≡ of_choice p c a
choice_apart p e c a = refl

-- the entry that was taken out is put back
pub put_back : (p : Kept) (e : OpenEntry) → p.entry ≡ e → record p { entry = e } ≡ p
put_back p e h = ap (λ x. record p { entry = x }) (sym h)

-- an attribute of the config that was taken out, or of none
pub config_taken : (p : Kept) (a : ConfigLine) (c : ConfigLines) (e : OpenEntry) → config_in e ≡ Some c → of_config (without_config p e) c a ≡ config_line p a e
config_taken p a c open_entry.Nothing h = cc
config_taken p a c (open_entry.Config d) h = let same : c ≡ d = cc in config_apart p open_entry.Nothing c a ∙ ap (λ x. of_config p x a) same
config_taken p a c (open_entry.Choice d) h = cc
config_taken p a c open_entry.Menu h = cc
config_taken p a c open_entry.Comment h = cc

pub no_config : (p : Kept) (a : ConfigLine) (e : OpenEntry) → config_in e ≡ None → without_config p e ≡ config_line p a e
no_config p a open_entry.Nothing h = refl
no_config p a (open_entry.Config d) h = cc
no_config p a (open_entry.Choice d) h = refl
no_config p a open_entry.Menu h = refl
no_config p a open_entry.Comment h = refl

-- the same for a choice
pub choice_taken : (p : Kept) (a : ChoiceLine) (c : ChoiceLines) (e : OpenEntry) → choice_in e ≡ Some c → of_choice (without_choice p e) c a ≡ choice_line p a e
choice_taken p a c open_entry.Nothing h = cc
choice_taken p a c (open_entry.Config d) h = cc
choice_taken p a c (open_entry.Choice d) h = let same : c ≡ d = cc in choice_apart p open_entry.Nothing c a ∙ ap (λ x. of_choice p x a) same
choice_taken p a c open_entry.Menu h = cc
choice_taken p a c open_entry.Comment h = cc

pub no_choice : (p : Kept) (a : ChoiceLine) (e : OpenEntry) → choice_in e ≡ None → without_choice p e ≡ choice_line p a e
no_choice p a open_entry.Nothing h = refl
no_choice p a (open_entry.Config d) h = refl
no_choice p a (open_entry.Choice d) h = cc
no_choice p a open_entry.Menu h = refl
no_choice p a open_entry.Comment h = refl
