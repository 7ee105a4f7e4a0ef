use Rattle.worked_rows.proofs.Undeclared.{free_in_code, read_in_kconfig, undefined_in_whole}
use Rattle.worked_rows.proofs.laws.undeclared_macro.Goals as goal

pub returns-clause-code : goal.returns-clause-code
returns-clause-code c = free_in_code

pub returns-clause-kconfig : goal.returns-clause-kconfig
returns-clause-kconfig c = read_in_kconfig

pub returns-clause-whole : goal.returns-clause-whole
returns-clause-whole c = undefined_in_whole
