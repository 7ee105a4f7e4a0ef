-- What the readers of conditions promise each other: full conditions by the members of a place's conditions.
use Rattle.std.specs.Prelude.{List, ◌++◌}
use Rattle.kconf_entries.specs.declared.entries.DefaultOf.{DefaultOf}
use Rattle.kconf_entries.specs.declared.entries.SelectOf.{SelectOf}
use Rattle.kconf_entries.specs.declared.expr.Expr.{Expr}
use Rattle.kconf_entries.specs.Joined.{joined, members_of}

abbrev pub full_of : List Expr → Expr → Expr
full_of members own = joined (members_of own ++ members)

abbrev pub full_default_of : List Expr → DefaultOf → DefaultOf
full_default_of members d = record d { cond = full_of members d.cond }

abbrev pub full_select_of : List Expr → SelectOf → SelectOf
full_select_of members s = record s { cond = full_of members s.cond }
