-- What is left decides.
use Rattle.std.proofs.Common.{◌≡◌, drop}
use Rattle.std.specs.List.{list_all}
use Rattle.undertaker.specs.FirstKconfig.Form.{is_earlier}
use Rattle.undertaker.proofs.first_kconfig.form.FirstReader.are_earlier.Given as goal

abbrev pub invariant-loop-name : goal.invariant-loop-name
invariant-loop-name l = list_all (is_earlier l.self.declared l.own) (drop l.name-index l.names) ≡ list_all (is_earlier l.self.declared l.own) l.names
