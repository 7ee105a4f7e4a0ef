use Rattle.std.proofs.Common.{◌≡◌, ◌∙◌, List, ℕ, sym, subst}
use Rattle.std.specs.Prelude.{MatchResult}
use Rattle.undertaker.specs.FirstSource.Form.{first_directives_of}
use Rattle.kconf_tree.specs.Gathered.{gathered}
use Rattle.undertaker.specs.Written.{AreLinesOn}
use Rattle.undertaker.specs.declared.bad.Bad.TheVariants as bad
use Rattle.undertaker.proofs.ReportLemmas.{gathers}
use Rattle.undertaker.proofs.gather.gather.Goals as goal

pub returns-clause-told : goal.returns-clause-told
returns-clause-told g c =
    let at : List ℕ → Type 0 = λ bytes. MatchResult c.lines_or_end.result
    (λ lines. AreLinesOn (gathered c.in_ok-entries.entries) c.in-Ok-Some.names.1 (first_directives_of bytes) lines.items) (λ e. e ≡ bad.Oom) in
    gathers c.args.words.now c.in-Ok-Some.names (sym c.in-Ok-Some.ensures ∙ c.in-Ok-Some.field-0-is) c.in_ok-entries.entries c.in_ok-bytes.bytes.items
    c.lines_or_end.result (subst at c.as_slice.ensures.value c.lines_or_end.ensures) (g.F.Files.held c.args.files.now) (g.F.Files.held c.read_entries.new.files)
    c.read_entries.ensures.same c.in_ok-entries.ensures.told c.in_ok-bytes.ensures.told
